-- The call that is found by its number.
use Rattle.std.proofs.Common.{◌≡◌, ◌∙◌, ℕ, ◌≤◌, List, Bool, true, false, Option, Some, None, ap, refl, sym, subst, arith, nat_le, nat_lt, ◌&&◌, if◌then◌else◌}
use Rattle.std.specs.List.{count_by, find}
use Rattle.std.specs.Option.{option_map}
use Rattle.std.proofs.lemmas.Bool.{eqb-true}
use Rattle.po_calls.specs.declared.call.Call.{Call}
use Rattle.po_calls.specs.declared.ticket.Ticket.{Ticket}
use Rattle.po_engine.specs.WaitingCalls.{has_number, is_due}
use Rattle.po_engine.specs.Tickets.{is_live, waiting_among}
use Rattle.po_engine.specs.StateView.{StateView}
use Rattle.po_engine.proofs.Lists.{found_passes}
use Rattle.po_engine.proofs.Absent.{eq_self}
use Rattle.po_engine.proofs.Alone.{found_alone}
use Rattle.po_driven.specs.OnePlace.{IsThereOnce, times_in}

at_most : (b : Bool) (n : ℕ) → n ≡ (if b then 1 else 0) → n ≤ 1
at_most true n h = omega arith
at_most false n h = omega arith

-- a number is at most once among the queued calls
pub once : (o : StateView ℕ ℕ) (n : ℕ) → IsThereOnce o → count_by (has_number n) o.state.waiting ≤ 1
once o n placed = omega (arith, at_most (nat_le 1 n && nat_lt n o.state.next) (times_in n o.state o.serving) (placed.each n))

one_number : (x y : Call ℕ) → Some x.number ≡ Some y.number → x.number ≡ y.number
one_number x y e = cc

due_by : (t n : ℕ) (xs : List (Call ℕ)) (o : Option (Call ℕ)) → find (is_due t) xs ≡ o → Some n ≡ option_map (λ x. x.number) o → count_by (has_number n) xs ≤ 1 → find (has_number n) xs ≡ o
due_by t n xs None found number le = let bad : Some n ≡ None = number in absurd (cc)
due_by t n xs (Some x) found number le =
    let same : n ≡ x.number = cc in
    found_alone (is_due t) (has_number n) xs x found (subst (λ k. has_number k x ≡ true) (sym same) (eq_self x.number)) le

-- the queued call of the ticket of the first due call is the first due call
pub due_call : (o : StateView ℕ ℕ) (ticket : Ticket) (t : Option Ticket) → t ≡ Some ticket → IsThereOnce o
    → option_map (λ k. k.number) t ≡ option_map (λ x. x.number) (find (is_due o.state.clock) o.state.waiting) → is_live o.tickets ticket ≡ true
    → waiting_among o.state.waiting o.tickets ticket ≡ find (is_due o.state.clock) o.state.waiting
due_call o ticket t is placed found live =
    let number = sym (ap (option_map (λ k. k.number)) is) ∙ found in
    rw live (due_by o.state.clock ticket.number o.state.waiting (find (is_due o.state.clock) o.state.waiting) refl number (once o ticket.number placed))

-- a call that is found by its number has it
pub found_number : (n : ℕ) (xs : List (Call ℕ)) (x : Call ℕ) → find (has_number n) xs ≡ Some x → x.number ≡ n
found_number n xs x found = eqb-true x.number n (found_passes (has_number n) xs x found)

-- the queued call of a live ticket is the one with its number
pub live_found : (xs : List (Call ℕ)) (tickets : List (Option ℕ)) (ticket : Ticket) → is_live tickets ticket ≡ true → waiting_among xs tickets ticket ≡ find (has_number ticket.number) xs
live_found xs tickets ticket live = rw live refl
