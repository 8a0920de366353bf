-- Live tickets stay so until their calls have left.
use Rattle.std.proofs.Common.{ℕ, zero, suc, ◌≡◌, ◌∙◌, List, [], ◌∷◌, ◌++◌, Bool, true, false, cond, Option, None, Some, ap, sym, subst, arith, inl, inr}
use Rattle.std.specs.Prelude.{IfNone, OnSome, IsSome, if◌then◌else◌}
use Rattle.std.specs.List.{count_by, find}
use Rattle.std.proofs.lemmas.Bool.{cases_Bool, cases_eq, eqb-true}
use Rattle.po_calls.specs.declared.call.Call.{Call}
use Rattle.po_calls.specs.declared.end.End.{End}
use Rattle.po_calls.specs.declared.end.End.TheVariants.{Cancelled, ProgramError}
use Rattle.po_calls.specs.declared.ticket.Ticket.{Ticket}
use Rattle.po_engine.specs.declared.ended.Ended.{Ended}
use Rattle.po_engine.specs.Ending.{ended_as, has_ended}
use Rattle.po_engine.specs.StateView.{StateView}
use Rattle.po_engine.specs.Step.{cancel, end_call, enter, is_full, queue}
use Rattle.po_engine.specs.WaitingCalls.{is_on}
use Rattle.po_engine.specs.Tickets.{is_live, is_number, number_at, SetsTicket}
use Rattle.po_engine.proofs.Absent.{eq_self}
use Rattle.po_engine.proofs.Sums.{sum_by-cons, sum_by-push}
use Rattle.po_driven.specs.DrivenCallsView.{KeepsTickets}

-- one step after the other
pub kept_then : (a b c : StateView ℕ ℕ) → KeepsTickets a b → KeepsTickets b c → KeepsTickets a c
kept_then a b c ab bc = record {
  live = λ ticket live left. bc.live ticket (ab.live ticket live (bc.left ticket.number left)) left;
  left = λ n left. ab.left n (bc.left n left);
}

-- if neither tickets nor ended calls change
pub same_tickets : (a b : StateView ℕ ℕ) → b.tickets ≡ a.tickets → b.state.ended ≡ a.state.ended → KeepsTickets a b
same_tickets a b tickets ended = record {
  live = λ ticket live left. subst (λ l. is_live l ticket ≡ true) (sym tickets) live;
  left = λ n left. sym (ap (λ (l : List (Ended ℕ)). count_by (has_ended n) l) ended) ∙ left;
}

-- if one more call ends
pub one_ended : (a b : StateView ℕ ℕ) (x : Ended ℕ) → b.tickets ≡ a.tickets → b.state.ended ≡ a.state.ended ++ x ∷ [] → KeepsTickets a b
one_ended a b x tickets ended = record {
  live = λ ticket live left. subst (λ l. is_live l ticket ≡ true) (sym tickets) live;
  left = λ n left. omega (arith, left, ap (λ (l : List (Ended ℕ)). count_by (has_ended n) l) ended, sum_by-push (λ y. cond (has_ended n y) 1 0) a.state.ended x);
}

-- if a new ticket is given
pub one_given : (a b : StateView ℕ ℕ) (key : ℕ) (number : Option ℕ) → number_at a.tickets key ≡ None → SetsTicket a.tickets b.tickets key number → b.state.ended ≡ a.state.ended → KeepsTickets a b
one_given a b key number free sets ended = record {
  live = λ ticket live left. elim (cases_eq ticket.key key) [
    | inl same ↦ let none : is_live a.tickets ticket ≡ false = ap (λ k. is_number ticket.number (number_at a.tickets k)) same ∙ ap (is_number ticket.number) free in absurd (cc)
    | inr other ↦ ap (is_number ticket.number) (sets.others ticket.key other) ∙ live
  ];
  left = λ n left. sym (ap (λ (l : List (Ended ℕ)). count_by (has_ended n) l) ended) ∙ left;
}

found_some : (n : ℕ) (xs : List (Ended ℕ)) → IsSome (find (has_ended n) xs) → count_by (has_ended n) xs ≡ 0 → ⊥
found_some n [] some none = absurd (cc)
found_some n (x ∷ xs) some none = elim (cases_Bool (has_ended n x)) [
  | inl is ↦ absurd (omega (arith, none, sum_by-cons (λ y. cond (has_ended n y) 1 0) x xs, ap {B = ℕ} (λ b. cond b 1 0) is))
  | inr is ↦
      let later : IsSome (find (has_ended n) xs) = rw is at some in
      found_some n xs later (omega (arith, none, sum_by-cons (λ y. cond (has_ended n y) 1 0) x xs, ap {B = ℕ} (λ b. cond b 1 0) is))
]

number_in : (n : ℕ) (o : Option ℕ) → is_number n o ≡ true → o ≡ Some n
number_in n None h = let bad : false ≡ true = h in absurd (cc)
number_in n (Some k) h = ap (λ j. Some j) (eqb-true k n h)

one_number : (n k : ℕ) → Some n ≡ Some k → n ≡ k
one_number n k e = cc

-- if the ticket of an ended call is given up
pub one_collected : (a b : StateView ℕ ℕ) (ticket : Ticket) (r : Option (End ℕ)) → is_live a.tickets ticket ≡ true → IsSome (find (has_ended ticket.number) a.state.ended)
    → OnSome r (SetsTicket a.tickets b.tickets ticket.key None) → IfNone r (b ≡ a) → b.state.ended ≡ a.state.ended → KeepsTickets a b
one_collected a b ticket None live over sets none ended = same_tickets a b (ap (λ v. v.tickets) none) ended
one_collected a b ticket (Some end) live over sets none ended = record {
  live = λ t its left. elim (cases_eq t.key ticket.key) [
    | inl same ↦
        let mine = number_in t.number (number_at a.tickets t.key) its in
        let that = number_in ticket.number (number_at a.tickets ticket.key) live in
        let number = one_number t.number ticket.number (sym mine ∙ ap (number_at a.tickets) same ∙ that) in
        absurd (found_some ticket.number a.state.ended over (subst (λ k. count_by (has_ended k) a.state.ended ≡ 0) number (sym (ap (λ (l : List (Ended ℕ)). count_by (has_ended t.number) l) ended) ∙ left)))
    | inr other ↦ ap (is_number t.number) (sets.others t.key other) ∙ its
  ];
  left = λ n left. sym (ap (λ (l : List (Ended ℕ)). count_by (has_ended n) l) ended) ∙ left;
}

-- if a call arrives on a queue, or ends because that is full
pub one_entered : (a b : StateView ℕ ℕ) (limit : Option ℕ) (x : Call ℕ) → b.tickets ≡ a.tickets → b.state ≡ enter limit a.state x → KeepsTickets a b
one_entered a b limit x tickets is = entered_if (is_full limit (count_by (is_on x.entry) a.state.waiting)) is
  where
    entered_if : (full : Bool) → b.state ≡ (if full then end_call a.state x ProgramError else queue a.state x) → KeepsTickets a b
    entered_if true is = one_ended a b (ended_as ProgramError x) tickets (ap (λ s. s.ended) is)
    entered_if false is = same_tickets a b tickets (ap (λ s. s.ended) is)

-- if a queued call is cancelled
pub one_cancelled : (a b : StateView ℕ ℕ) (n : ℕ) (o : Option (Call ℕ)) → b.tickets ≡ a.tickets → b.state ≡ cancel a.state n o → KeepsTickets a b
one_cancelled a b n None tickets is = same_tickets a b tickets (ap (λ s. s.ended) is)
one_cancelled a b n (Some x) tickets is = one_ended a b (ended_as Cancelled x) tickets (ap (λ s. s.ended) is)

number_more : (tickets : List (Option ℕ)) (o : Option ℕ) (key n : ℕ) → number_at tickets key ≡ Some n → number_at (tickets ++ o ∷ []) key ≡ Some n
number_more [] o key n is = let bad : None ≡ Some n = is in absurd (cc)
number_more (x ∷ tickets) o zero n is = is
number_more (x ∷ tickets) o (suc k) n is = number_more tickets o k n is

number_fewer : (tickets : List (Option ℕ)) (n key k : ℕ) → number_at (tickets ++ Some n ∷ []) key ≡ Some k → (k ≡ n → ⊥) → number_at tickets key ≡ Some k
number_fewer [] n zero k is other = absurd (other (sym (one_number n k is)))
number_fewer [] n (suc key) k is other = let bad : None ≡ Some k = is in absurd (cc)
number_fewer (x ∷ tickets) n zero k is other = is
number_fewer (x ∷ tickets) n (suc key) k is other = number_fewer tickets n key k is other

live_of : (tickets : List (Option ℕ)) (ticket : Ticket) → number_at tickets ticket.key ≡ Some ticket.number → is_live tickets ticket ≡ true
live_of tickets ticket is = ap (is_number ticket.number) is ∙ eq_self ticket.number

-- if a ticket is given at the end of the list
pub one_issued : (a b : StateView ℕ ℕ) (n : ℕ) → b.tickets ≡ a.tickets ++ Some n ∷ [] → b.state.ended ≡ a.state.ended → KeepsTickets a b
one_issued a b n tickets ended = record {
  live = λ ticket live left. live_of b.tickets ticket (subst (λ l. number_at l ticket.key ≡ Some ticket.number) (sym tickets) (number_more a.tickets (Some n) ticket.key ticket.number (number_in ticket.number (number_at a.tickets ticket.key) live)));
  left = λ k left. sym (ap (λ (l : List (Ended ℕ)). count_by (has_ended k) l) ended) ∙ left;
}

-- if the call of that ticket ends and the ticket is given up
pub one_passed : (a b : StateView ℕ ℕ) (tickets : List (Option ℕ)) (x : Ended ℕ) → a.tickets ≡ tickets ++ Some x.number ∷ [] → b.tickets ≡ tickets → b.state.ended ≡ a.state.ended ++ x ∷ [] → KeepsTickets a b
one_passed a b tickets x was now ended = record {
  live = λ ticket live left.
      let here = number_in ticket.number (number_at a.tickets ticket.key) live in
      let other : ticket.number ≡ x.number → ⊥ = λ same. absurd (omega (arith, left, ap (λ (l : List (Ended ℕ)). count_by (has_ended ticket.number) l) ended, sum_by-push (λ y. cond (has_ended ticket.number y) 1 0) a.state.ended x, ap {B = ℕ} (λ b. cond b 1 0) (ap (λ k. has_ended k x) same ∙ eq_self x.number))) in
      live_of b.tickets ticket (subst (λ l. number_at l ticket.key ≡ Some ticket.number) (sym now) (number_fewer tickets x.number ticket.key ticket.number (subst (λ l. number_at l ticket.key ≡ Some ticket.number) was here) other));
  left = λ n left. omega (arith, left, ap (λ (l : List (Ended ℕ)). count_by (has_ended n) l) ended, sum_by-push (λ y. cond (has_ended n y) 1 0) a.state.ended x);
}

-- what is kept from calls with the same tickets, of which the same have ended
pub kept_from : (a b c : StateView ℕ ℕ) → b.tickets ≡ a.tickets → b.state.ended ≡ a.state.ended → KeepsTickets b c → KeepsTickets a c
kept_from a b c tickets ended bc = kept_then a b c (same_tickets a b tickets ended) bc
