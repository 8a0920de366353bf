-- Which calls have tickets, as calls come and go.
use Rattle.std.proofs.Common.{◌≡◌, ℕ, ◌+◌, List, [], ◌∷◌, ◌++◌, length, length-append, map, count_by, not, ◌&&◌, Bool, true, false, cond, ◌==◌, if◌then◌else◌, Option, Some, None, ap, refl, sym, subst, ◌∙◌, arith, inl, inr}
use Rattle.std.specs.Prelude.{IsSome, OnSome}
use Rattle.std.specs.List.{find}
use Rattle.std.proofs.lemmas.Bool.{cases_Bool, eqb-true}
use Rattle.std.proofs.lemmas.List.{length-map}
use Rattle.po_calls.specs.declared.call.Call.{Call}
use Rattle.po_unit.specs.declared.outcome.Outcome.TheVariants.{Requeue}
use Rattle.po_calls.specs.declared.end.End.{End}
use Rattle.po_calls.specs.declared.end.End.TheVariants.{Cancelled, ProgramError}
use Rattle.po_calls.specs.declared.ticket.Ticket.{Ticket}
use Rattle.po_engine.specs.declared.ended.Ended.{Ended}
use Rattle.po_engine.specs.Ending.{ended_as, has_ended}
use Rattle.po_engine.specs.Finding.{without_first}
use Rattle.po_calls.specs.declared.end.CallStatus.TheVariants.{Unknown}
use Rattle.po_engine.specs.WaitingCalls.{has_number, is_on, mark}
use Rattle.po_engine.specs.Tickets.{is_live, is_number, number_at, status_among, status_by, end_at, SetsTicket, uncollected}
use Rattle.po_engine.proofs.Lists.{without_none}
use Rattle.po_engine.proofs.TicketCounts.{one-less}
use Rattle.po_engine.specs.ObjectState.{ObjectState}
use Rattle.po_engine.specs.Step.{attempt_cancel, cancel, end_call, enter, is_full, conclude, queue}
use Rattle.po_engine.proofs.Absent.{eq_self}
use Rattle.po_driven.specs.OnePlace.{calls_in_service}
use Rattle.po_driven.proofs.Numbers.{found_number}

module _ (test : Call ℕ → Bool) where
  taken_len : (b : Bool) (x y : Call ℕ) (xs : List (Call ℕ)) → cond b (Some x) (find test xs) ≡ Some y → (find test xs ≡ Some y → length (without_first test xs) + 1 ≡ length xs) → length (cond b xs (x ∷ without_first test xs)) + 1 ≡ length (x ∷ xs)
  taken_len true x y xs h k = omega arith
  taken_len false x y xs h k = omega (arith, k h)

  found_len : (xs : List (Call ℕ)) (y : Call ℕ) → find test xs ≡ Some y → length (without_first test xs) + 1 ≡ length xs
  found_len [] y h = cc
  found_len (x ∷ xs) y h = taken_len (test x) x y xs h (found_len xs y)

  -- if a call is taken, one less is queued
  pub length_taken : (xs : List (Call ℕ)) (o : Option (Call ℕ)) → find test xs ≡ o → length (without_first test xs) + calls_in_service o ≡ length xs
  length_taken xs None h = omega (arith, ap (λ (l : List (Call ℕ)). length l) (without_none test xs h))
  length_taken xs (Some y) h = found_len xs y h

-- the ticket that was set is live
pub live_set : (old new : List (Option ℕ)) (ticket : Ticket) → SetsTicket old new ticket.key (Some ticket.number) → is_live new ticket ≡ true
live_set old new ticket sets = ap (is_number ticket.number) sets.changed ∙ eq_self ticket.number

number_of : (n : ℕ) (o : Option ℕ) → is_number n o ≡ true → o ≡ Some n
number_of n None h = let bad : false ≡ true = h in absurd (cc)
number_of n (Some k) h = ap (λ j. Some j) (eqb-true k n h)

ended_end : (o : Option (Ended ℕ)) (p : Option (Call ℕ)) (live : Bool) → live ≡ true → IsSome o → IsSome (end_at (if live then status_by o p else Unknown))
ended_end None p live is some = absurd (cc)
ended_end (Some x) p live is some = rw is refl

some_end : (r : Option (End ℕ)) (old new : List (Option ℕ)) (key n : ℕ) → IsSome r → OnSome r (SetsTicket old new key None) → number_at old key ≡ Some n → uncollected new + 1 ≡ uncollected old
some_end None old new key n some sets there = absurd (cc)
some_end (Some e) old new key n some sets there = one-less old new key n there sets

-- a collected call no longer has a ticket
pub collected : (waiting : List (Call ℕ)) (ended : List (Ended ℕ)) (old new : List (Option ℕ)) (ticket : Ticket) (r : Option (End ℕ)) → is_live old ticket ≡ true → IsSome (find (has_ended ticket.number) ended)
    → r ≡ end_at (status_among waiting ended old ticket) → OnSome r (SetsTicket old new ticket.key None) → uncollected new + 1 ≡ uncollected old
collected waiting ended old new ticket r live over is sets =
    some_end r old new ticket.key ticket.number (subst (λ o. IsSome o) (sym is) (ended_end (find (has_ended ticket.number) ended) (find (has_number ticket.number) waiting) (is_live old ticket) live over)) sets (number_of ticket.number (number_at old ticket.key) live)

-- a call whose ticket is given up no longer has one
pub given_up : (old new : List (Option ℕ)) (ticket : Ticket) → is_live old ticket ≡ true → SetsTicket old new ticket.key None → uncollected new + 1 ≡ uncollected old
given_up old new ticket live sets = one-less old new ticket.key ticket.number (number_of ticket.number (number_at old ticket.key) live) sets

-- the call that has just ended is found among the ended ones
pub ended_last : (n : ℕ) (xs : List (Ended ℕ)) (x : Call ℕ) (end : End ℕ) → x.number ≡ n → IsSome (find (has_ended n) (xs ++ ended_as end x ∷ []))
ended_last n [] x end is = rw (subst (λ k. (x.number == k) ≡ true) is (eq_self x.number)) refl
ended_last n (y ∷ xs) x end is = elim (cases_Bool (has_ended n y)) [ inl here ↦ rw here refl | inr there ↦ rw there (ended_last n xs x end is) ]

-- the call that is cancelled is among the ended ones, and one less is queued
pub cancelled_ended : (s : ObjectState ℕ ℕ) (n : ℕ) (o : Option (Call ℕ)) → find (has_number n) s.waiting ≡ o → IsSome o → IsSome (find (has_ended n) (cancel s n o).ended)
cancelled_ended s n None found some = absurd (cc)
cancelled_ended s n (Some x) found some = ended_last n s.ended x Cancelled (found_number n s.waiting x found)

pub cancelled_len : (s : ObjectState ℕ ℕ) (n : ℕ) (o : Option (Call ℕ)) → find (has_number n) s.waiting ≡ o → IsSome o → length (cancel s n o).waiting + 1 ≡ length s.waiting
cancelled_len s n None found some = absurd (cc)
cancelled_len s n (Some x) found some = found_len (has_number n) s.waiting x found

-- a call that arrives is queued, or is among the ended ones if the queue is full
pub entered_len : (limit : Option ℕ) (s : ObjectState ℕ ℕ) (x : Call ℕ) → is_full limit (count_by (is_on x.entry) s.waiting) ≡ false → length (enter limit s x).waiting ≡ length s.waiting + 1
entered_len limit s x room = rw room (length-append s.waiting (x ∷ []))

pub full_len : (limit : Option ℕ) (s : ObjectState ℕ ℕ) (x : Call ℕ) → is_full limit (count_by (is_on x.entry) s.waiting) ≡ true → length (enter limit s x).waiting ≡ length s.waiting
full_len limit s x full = rw full refl

pub full_ended : (limit : Option ℕ) (s : ObjectState ℕ ℕ) (x : Call ℕ) (n : ℕ) → x.number ≡ n → is_full limit (count_by (is_on x.entry) s.waiting) ≡ true → IsSome (find (has_ended n) (enter limit s x).ended)
full_ended limit s x n is full = rw full (ended_last n s.ended x ProgramError is)

concluded_if : (b : Bool) (p q : ObjectState ℕ ℕ) → b ≡ false → (if b then p else q) ≡ q
concluded_if true p q off = absurd (cc)
concluded_if false p q off = refl

-- a requeue that isn't cancelled is an arrival
pub concluded_is : (limit : Option ℕ) (s : ObjectState ℕ ℕ) (x : Call ℕ) (target : ℕ) (with_abort : Bool) → ((with_abort ≡ true) → (x.aborted ≡ false))
    → conclude limit s x (Requeue target with_abort x.value) ≡ enter limit s (record x { entry = target; without_abort = not with_abort })
concluded_is limit s x target true kept = concluded_if (true && x.aborted) (end_call s x Cancelled) (enter limit s (record x { entry = target; without_abort = not true })) (kept refl)
concluded_is limit s x target false kept = refl

-- a mark leaves as many queued calls as there were, and the number of entries
pub attempted_unit : (s : ObjectState ℕ ℕ) (n : ℕ) (o : Option (Call ℕ)) → (attempt_cancel s n o).unit ≡ s.unit
attempted_unit s n None = refl
attempted_unit s n (Some x) = unit_if x.without_abort
  where
    unit_if : (b : Bool) → (if b then record s { waiting = map (mark n) s.waiting } else cancel s n (Some x)).unit ≡ s.unit
    unit_if true = refl
    unit_if false = refl

pub length_marked : (s : ObjectState ℕ ℕ) (n : ℕ) (x : Call ℕ) → find (has_number n) s.waiting ≡ Some x → x.without_abort ≡ true
    → length (attempt_cancel s n (find (has_number n) s.waiting)).waiting ≡ length s.waiting
length_marked s n x found kept = rw (found, kept) (length-map s.waiting (mark n))

-- the number of entries stays when a call arrives on a queue
pub entered_unit : (limit : Option ℕ) (s : ObjectState ℕ ℕ) (x : Call ℕ) → (enter limit s x).unit ≡ s.unit
entered_unit limit s x = unit_if (is_full limit (count_by (is_on x.entry) s.waiting))
  where
    unit_if : (b : Bool) → (if b then end_call s x ProgramError else queue s x).unit ≡ s.unit
    unit_if true = refl
    unit_if false = refl
