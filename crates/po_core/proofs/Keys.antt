-- A call is found by its number, through the key that its ticket got.
use Rattle.std.proofs.Common.{◌∙◌, ◌≡◌, ℕ, List, Option, Some, None, Bool, true, false, if◌then◌else◌, refl, sym, ap, subst}
use Rattle.std.specs.List.{find}
use Rattle.po_calls.specs.declared.call.Call.{Call}
use Rattle.po_calls.specs.declared.ticket.Ticket.{Ticket}
use Rattle.po_engine.specs.WaitingCalls.{has_number}
use Rattle.po_engine.specs.Tickets.{is_live, is_number, number_at, waiting_among}
use Rattle.po_engine.specs.Calls.{HasTicket, key_of}
use Rattle.std.proofs.lemmas.Bool.{eq-eqb}

either_same : {X : Type 0} (b : Bool) (o : Option X) → (if b then o else o) ≡ o
either_same true o = refl
either_same false o = refl

-- A ticket with the key of its number is live if a waiting call has the number.
live_by_key : (first : ℕ) (keys : List ℕ) (tickets : List (Option ℕ)) (ticket : Ticket) → key_of first keys ticket.number ≡ Some ticket.key
    → HasTicket first keys tickets ticket.number → is_live tickets ticket ≡ true
live_by_key first keys tickets ticket led has =
    let same : has.key ≡ ticket.key = same_key has.key ticket.key (sym has.indexed ∙ led) in
    ap (is_number ticket.number) (subst (λ k. number_at tickets k ≡ Some ticket.number) same has.ticket) ∙ eq-eqb ticket.number ticket.number refl
  where
    same_key : (a b : ℕ) → Some a ≡ Some b → a ≡ b
    same_key a b e = cc

module _ {V : Type 0} where
  by_key : (first : ℕ) (keys : List ℕ) (tickets : List (Option ℕ)) (ticket : Ticket) (o : Option (Call V)) → key_of first keys ticket.number ≡ Some ticket.key
      → ((x : Call V) → o ≡ Some x → HasTicket first keys tickets ticket.number) → (if is_live tickets ticket then o else None) ≡ o
  by_key first keys tickets ticket None led has = either_same (is_live tickets ticket) None
  by_key first keys tickets ticket (Some x) led has = simp (live_by_key first keys tickets ticket led (has x refl)) refl

  -- The waiting call of a ticket with the key of its number is the one with that number.
  pub waiting_by_key : (first : ℕ) (keys : List ℕ) (tickets : List (Option ℕ)) (waiting : List (Call V)) (ticket : Ticket) → key_of first keys ticket.number ≡ Some ticket.key
      → ((n : ℕ) (x : Call V) → find (has_number n) waiting ≡ Some x → HasTicket first keys tickets n)
      → waiting_among waiting tickets ticket ≡ find (has_number ticket.number) waiting
  waiting_by_key first keys tickets waiting ticket led has = by_key first keys tickets ticket (find (has_number ticket.number) waiting) led (has ticket.number)

  none_by : (first : ℕ) (keys : List ℕ) (tickets : List (Option ℕ)) (n : ℕ) (o : Option (Call V)) → key_of first keys n ≡ None
      → ((x : Call V) → o ≡ Some x → HasTicket first keys tickets n) → o ≡ None
  none_by first keys tickets n None none has = refl
  none_by first keys tickets n (Some x) none has = let bad : None ≡ Some (has x refl).key = sym none ∙ (has x refl).indexed in absurd (cc)

  -- If a number has no key, no waiting call has it.
  pub none_without_key : (first : ℕ) (keys : List ℕ) (tickets : List (Option ℕ)) (waiting : List (Call V)) (n : ℕ) → key_of first keys n ≡ None
      → ((n : ℕ) (x : Call V) → find (has_number n) waiting ≡ Some x → HasTicket first keys tickets n) → find (has_number n) waiting ≡ None
  none_without_key first keys tickets waiting n none has = none_by first keys tickets n (find (has_number n) waiting) none (has n)
