-- Live tickets: what is kept at their keys, and how their numbers lead there.
use Rattle.std.proofs.Common.{◌≡◌, ℕ, true, false, eqb, List, [], ◌∷◌, Option, Some, None, option_map, refl, sym, ap, ◌∙◌, subst, inl, inr}
use Rattle.std.specs.List.{find}
use Rattle.std.proofs.lemmas.Bool.{cases_Bool, eq-eqb, eqb-true}
use Rattle.slab.specs.Slab.{Slab, get}
use Rattle.po_queues.specs.QueuedKeys.{occurs}
use Rattle.po_queues.specs.Arrived.{Arrived, EntryQueuesView, AreInOrder, arrived_keys}
use Rattle.po_calls.specs.Calls.{CallTable, waiting_call, with_number, kept, numbers_of}
use Rattle.po_calls.specs.declared.call.Call.{Call}
use Rattle.po_calls.specs.declared.kept.Kept.{Kept}
use Rattle.po_calls.specs.declared.ticket.Ticket.{Ticket}
use Rattle.po_engine.specs.declared.ended.Ended.{Ended}
use Rattle.po_engine.specs.Finding.{IsFound}
use Rattle.po_engine.specs.WaitingCalls.{has_number}
use Rattle.po_engine.specs.Tickets.{is_live, is_number, waiting_among}
use Rattle.po_engine.specs.Calls.{IsQueued, IsQueuedAs, AllQueued, IsKeptWell, IsKeyOf, HasTicket, waiting_in, of_key, call_at, key_of}
use Rattle.po_engine.proofs.ServiceSteps.{IsAbsent, none_serving, no_number, number_taken}
use Rattle.po_engine.proofs.KeptSteps.{waiting_kept, number_kept}

module _ {V : Type 0} where
  open_number : (n : ℕ) (o : Option (Kept V)) → is_number n (option_map (λ x. x.call.number) o) ≡ true → with_number n o ≡ o
  open_number n None live = refl
  open_number n (Some c) live = simp live refl

  -- A live ticket belongs to what is kept at its key.
  pub live_kept : (table : CallTable V) (ticket : Ticket) → is_live (numbers_of table) ticket ≡ true → kept table ticket ≡ get table.calls ticket.key
  live_kept table ticket live = open_number ticket.number (get table.calls ticket.key) (subst (λ o. is_number ticket.number o ≡ true) (number_kept table ticket.key) live)

  live_led : (calls : Slab (Kept V)) (index : ℕ → Option ℕ) (ended : List (Ended V)) (key n : ℕ) (o : Option (Kept V)) → get calls key ≡ o
      → is_number n (option_map (λ x. x.call.number) o) ≡ true → IsKeptWell calls index ended → index n ≡ Some key
  live_led calls index ended key n None here live w = let bad : false ≡ true = live in absurd (cc)
  live_led calls index ended key n (Some c) here live w = ap index (sym (eqb-true c.call.number n live)) ∙ w.indexed key c here

  -- The number of a live ticket leads to its key.
  pub live_indexed : (table : CallTable V) (index : ℕ → Option ℕ) (ended : List (Ended V)) (ticket : Ticket) → is_live (numbers_of table) ticket ≡ true
      → IsKeptWell table.calls index ended → index ticket.number ≡ Some ticket.key
  live_indexed table index ended ticket live w = live_led table.calls index ended ticket.key ticket.number (get table.calls ticket.key) refl (subst (λ o. is_number ticket.number o ≡ true) (number_kept table ticket.key) live) w

  numbered : (c : Kept V) (n : ℕ) (x : Call V) → eqb c.call.number n ≡ true → waiting_call (Some c) ≡ Some x → x.number ≡ n
  numbered c n x live here =
      let e = waiting_kept (Some c) x here in
      let q : c ≡ record { call = x; end = None } = some_kept c (record { call = x; end = None }) e in
      sym (ap (λ (k : Kept V). k.call.number) q) ∙ eqb-true c.call.number n live
    where
      some_kept : (a b : Kept V) → Some a ≡ Some b → a ≡ b
      some_kept a b e = cc

  live_number : (n : ℕ) (x : Call V) (o : Option (Kept V)) → is_number n (option_map (λ y. y.call.number) o) ≡ true → waiting_call o ≡ Some x → x.number ≡ n
  live_number n x None live here = let bad : false ≡ true = live in absurd (cc)
  live_number n x (Some c) live here = numbered c n x live here

  -- The waiting call of a live ticket is queued under the ticket's key.
  pub ticket_queued : (table : CallTable V) (index : ℕ → Option ℕ) (queues : EntryQueuesView) (ended : List (Ended V)) (ticket : Ticket) (x : Call V)
      → is_live (numbers_of table) ticket ≡ true → waiting_call (kept table ticket) ≡ Some x
      → IsQueued (call_at table.calls) index queues None → IsKeptWell table.calls index ended
      → IsKeyOf (call_at table.calls) index queues.items ticket.number ticket.key
  ticket_queued table index queues ended ticket x live here q w =
      let at : call_at table.calls ticket.key ≡ Some x = ap waiting_call (sym (live_kept table ticket live)) ∙ here in
      record {
        indexed = live_indexed table index ended ticket live w;
        is_queued = elim (cases_Bool (occurs ticket.key (arrived_keys queues.items))) [
          | inl there ↦ there
          | inr gone ↦ let bad : None ≡ Some ticket.key = q.only ticket.key x at gone in absurd (cc)
        ];
        its = subst (IsFound (λ y. y.number ≡ ticket.number)) (sym at) (live_number ticket.number x (get table.calls ticket.key) (subst (λ o. is_number ticket.number o ≡ true) (number_kept table ticket.key) live) at);
      }

  no_found : (o : Option (Call V)) (n : ℕ) → o ≡ None → IsFound (λ y. y.number ≡ n) o → ⊥
  no_found None n e h = h
  no_found (Some x) n e h = let bad : None ≡ Some x = sym e in absurd (cc)

  -- If the call of a live ticket doesn't wait, no queued call has its number.
  pub ticket_absent : (table : CallTable V) (index : ℕ → Option ℕ) (queues : EntryQueuesView) (ended : List (Ended V)) (ticket : Ticket)
      → is_live (numbers_of table) ticket ≡ true → waiting_call (kept table ticket) ≡ None → IsKeptWell table.calls index ended
      → IsAbsent (call_at table.calls) index queues.items ticket.number
  ticket_absent table index queues ended ticket live none w k there =
      let led = live_indexed table index ended ticket live w in
      let same : k ≡ ticket.key = same_key k ticket.key (sym there.indexed ∙ led) in
      let at : call_at table.calls k ≡ None = ap (call_at table.calls) same ∙ ap waiting_call (sym (live_kept table ticket live)) ∙ none in
      no_found (call_at table.calls k) ticket.number at there.its
    where
      same_key : (a b : ℕ) → Some a ≡ Some b → a ≡ b
      same_key a b e = cc

  -- The waiting call of a live ticket is the one with its number.
  pub ticket_found : (table : CallTable V) (index : ℕ → Option ℕ) (queues : EntryQueuesView) (serving : Option ℕ) (ended : List (Ended V)) (ticket : Ticket) (o : Option (Call V))
      → is_live (numbers_of table) ticket ≡ true → waiting_call (kept table ticket) ≡ o → AreInOrder queues → serving ≡ None
      → IsQueued (call_at table.calls) index queues serving → IsKeptWell table.calls index ended
      → waiting_call (kept table ticket) ≡ find (has_number ticket.number) (waiting_in (call_at table.calls) queues.items)
  ticket_found table index queues serving ended ticket None live here order none q w =
      here ∙ sym (no_number (call_at table.calls) index queues serving ticket.number q (ticket_absent table index queues ended ticket live here w)).found
  ticket_found table index queues serving ended ticket (Some x) live here order none q w =
      let there = ticket_queued table index queues ended ticket x live here (subst (IsQueued (call_at table.calls) index queues) none q) w in
      ap waiting_call (live_kept table ticket live) ∙ (number_taken (call_at table.calls) index queues serving ticket.number ticket.key order q there).found

  dead_kept : (n : ℕ) (o : Option (Kept V)) → is_number n (option_map (λ x. x.call.number) o) ≡ false → with_number n o ≡ None
  dead_kept n None dead = refl
  dead_kept n (Some c) dead = simp dead refl

  -- Nothing is kept for a ticket that isn't live.
  dead : (table : CallTable V) (ticket : Ticket) → is_live (numbers_of table) ticket ≡ false → kept table ticket ≡ None
  dead table ticket is = dead_kept ticket.number (get table.calls ticket.key) (subst (λ o. is_number ticket.number o ≡ false) (number_kept table ticket.key) is)

  -- What the table keeps for a ticket is its waiting call.
  pub ticket_among : (table : CallTable V) (index : ℕ → Option ℕ) (queues : EntryQueuesView) (serving : Option ℕ) (ended : List (Ended V)) (ticket : Ticket)
      → of_key (call_at table.calls) serving ≡ None → AreInOrder queues → IsQueued (call_at table.calls) index queues serving → IsKeptWell table.calls index ended
      → waiting_call (kept table ticket) ≡ waiting_among (waiting_in (call_at table.calls) queues.items) (numbers_of table) ticket
  ticket_among table index queues serving ended ticket free order q w = elim (cases_Bool (is_live (numbers_of table) ticket)) [
    | inl live ↦ rw live (ticket_found table index queues serving ended ticket (waiting_call (kept table ticket)) live refl order (none_serving (call_at table.calls) index queues serving q free) q w)
    | inr gone ↦ rw gone (ap waiting_call (dead table ticket gone))
  ]

  -- The call at a key has the number that is found there.
  pub its_number : (call : ℕ → Option (Call V)) (n k : ℕ) (x : Call V) → call k ≡ Some x → IsFound (λ y. y.number ≡ n) (call k) → x.number ≡ n
  its_number call n k x at its = subst (IsFound (λ y. y.number ≡ n)) at its

  -- The ticket of a waiting call is live.
  pub live_at : (table : CallTable V) (k : ℕ) (x : Call V) → call_at table.calls k ≡ Some x → is_live (numbers_of table) (record { key = k; number = x.number }) ≡ true
  live_at table k x at = ap (is_number x.number) (number_kept table k ∙ ap (option_map (λ (y : Kept V). y.call.number)) (waiting_kept (get table.calls k) x at)) ∙ eq-eqb x.number x.number refl

  ticket_step : (table : CallTable V) (first : ℕ) (keys : List ℕ) (i : Arrived) (is : List Arrived) (o : Option (Call V)) → call_at table.calls i.key ≡ o
      → IsFound (IsQueuedAs (key_of first keys) i) o → (n : ℕ) (x : Call V)
      → (find (has_number n) (waiting_in (call_at table.calls) is) ≡ Some x → HasTicket first keys (numbers_of table) n)
      → find (has_number n) (waiting_in (call_at table.calls) (i ∷ is)) ≡ Some x → HasTicket first keys (numbers_of table) n
  ticket_step table first keys i is None e q n x rest found = absurd q
  ticket_step table first keys i is (Some y) e q n x rest found =
      let here = rw e at found in
      elim (cases_Bool (eqb y.number n)) [
        | inl equal ↦
            let its = eqb-true y.number n equal in
            record {
              key = i.key;
              indexed = ap (key_of first keys) (sym its) ∙ q.indexed;
              ticket = number_kept table i.key ∙ ap (option_map (λ (k : Kept V). k.call.number)) (waiting_kept (get table.calls i.key) y e) ∙ ap (λ (m : ℕ). Some m) its;
            }
        | inr differ ↦ rest (simp differ at here)
      ]

  -- The number of each waiting call leads to its ticket.
  pub waiting_ticket : (table : CallTable V) (first : ℕ) (keys : List ℕ) (items : List Arrived) → AllQueued (call_at table.calls) (key_of first keys) items
      → (n : ℕ) (x : Call V) → find (has_number n) (waiting_in (call_at table.calls) items) ≡ Some x → HasTicket first keys (numbers_of table) n
  waiting_ticket table first keys [] all n x found = let bad : None ≡ Some x = found in absurd (cc)
  waiting_ticket table first keys (i ∷ is) all n x found =
      ticket_step table first keys i is (call_at table.calls i.key) refl all.0 n x (waiting_ticket table first keys is all.1 n x) found
