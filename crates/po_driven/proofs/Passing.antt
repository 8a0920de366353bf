-- A call that is accepted and ends at once: what its two parts of a step do, one after the other.
use Rattle.std.proofs.Common.{ℕ, ◌≡◌, ◌∙◌, ◌+◌, ◌<◌, List, [], ◌∷◌, ◌++◌, length, Bool, true, false, not, Option, None, Some, ap, refl, sym, subst, arith, append_assoc, length-append, cond, count_by, is_some}
use Rattle.std.specs.List.{All, find}
use Rattle.std.proofs.lemmas.List.Elements.{All-push}
use Rattle.po_unit.specs.declared.outcome.Outcome.{Outcome}
use Rattle.po_unit.specs.declared.outcome.Outcome.TheVariants.{Requeue as RequeueTo}
use Rattle.po_calls.specs.declared.call.Call.{Call}
use Rattle.po_calls.specs.declared.end.End.{End}
use Rattle.po_calls.specs.declared.end.End.TheVariants.{Cancelled as IsCancelled, Completed}
use Rattle.po_engine.specs.declared.arriving.Arriving.{Arriving}
use Rattle.po_engine.specs.Driving.{counted, new_call}
use Rattle.po_engine.specs.Step.{cancel, conclude, end_call, enter, is_full, queue, take_out}
use Rattle.po_engine.specs.Finding.{without_first}
use Rattle.po_engine.specs.ObjectState.{ObjectState}
use Rattle.po_engine.specs.WaitingCalls.{has_number, is_on}
use Rattle.po_engine.proofs.Absent.{eq_self}
use Rattle.po_engine.proofs.PlaceSteps.{increases_push}
use Rattle.po_engine.specs.Tickets.{uncollected}
use Rattle.po_engine.proofs.Sums.{sum_by-push}
use Rattle.po_driven.specs.DrivenCallsView.{DrivenCallsView, IsTraced, passed, passed_twice}
use Rattle.po_driven.specs.OnePlace.{calls_in_service}
use Rattle.po_driven.specs.declared.happening.Happening.TheVariants.{Arrived, Cancelled, Ended, Requeued, RequeuedElsewhere, Selected, Served}
use Rattle.po_driven.proofs.Held.{concluded_is}
use Rattle.po_driven.proofs.Leads.{arrived, cancelled, ended, gone_elsewhere, requeued, selected, served}
use Rattle.po_driven.proofs.Spots.{begun, cancelled as cancelled_once, joined, over, rejoined, took}
use Rattle.po_driven.proofs.Traces.{below_more, traced_on}

-- the calls while the body of this call runs
abbrev pub in_body : DrivenCallsView → Arriving ℕ → DrivenCallsView
in_body t a = record {
  object = record t.object {
    state = counted t.object.state;
    serving = Some (new_call t.object.state.next a);
    tickets = t.object.tickets ++ Some t.object.state.next ∷ [];
    keys = t.object.keys ++ length t.object.tickets ∷ [];
  };
  place = t.place + 1;
  happened = t.happened ++ Served a ∷ [];
}

one_more : (tickets : List (Option ℕ)) (n : ℕ) → uncollected (tickets ++ Some n ∷ []) ≡ uncollected tickets + 1
one_more tickets n = sum_by-push (λ o. cond (is_some o) 1 0) tickets (Some n)

-- what holds of them
pub body_traced : (t : DrivenCallsView) (a : Arriving ℕ) → IsTraced t → t.object.serving ≡ None → IsTraced (in_body t a)
body_traced t a is idle =
    let m = in_body t a in
    traced_on t m (Served a) is refl refl refl (served t.object m.object a refl refl)
    (λ p. begun t.object m.object (new_call t.object.state.next a) idle refl refl refl p)
    (omega (arith, is.tickets, one_more t.object.tickets t.object.state.next, ap calls_in_service idle))
    (λ r. r) (below_more t.place t.object.places is.later)

-- the tickets of the calls that have passed
left_tickets : (t : DrivenCallsView) → IsTraced t → t.object.serving ≡ None → uncollected t.object.tickets ≡ length t.object.state.waiting + 0
left_tickets t is idle = omega (arith, is.tickets, ap calls_in_service idle)

pub served_traced : (t : DrivenCallsView) (a : Arriving ℕ) (end : End ℕ) → IsTraced t → t.object.serving ≡ None → IsTraced (passed t a end (Served a ∷ Ended end ∷ []))
served_traced t a end is idle =
    let m = in_body t a in let new = passed t a end (Served a ∷ Ended end ∷ []) in let x = new_call t.object.state.next a in
    traced_on m new (Ended end) (body_traced t a is idle) refl (sym (append_assoc t.happened (Served a ∷ []) (Ended end ∷ []))) (omega arith)
    (ended m.object new.object x end refl refl idle)
    (λ p. over m.object new.object x end refl refl idle p)
    (omega (arith, left_tickets t is idle, ap calls_in_service idle))
    (λ r. r) (below_more t.place t.object.places is.later)

pub left_traced : (t : DrivenCallsView) (a : Arriving ℕ) → IsTraced t → t.object.serving ≡ None → IsTraced (passed t a (Completed a.value) (Served a ∷ RequeuedElsewhere ∷ []))
left_traced t a is idle =
    let m = in_body t a in let new = passed t a (Completed a.value) (Served a ∷ RequeuedElsewhere ∷ []) in let x = new_call t.object.state.next a in
    traced_on m new RequeuedElsewhere (body_traced t a is idle) refl (sym (append_assoc t.happened (Served a ∷ []) (RequeuedElsewhere ∷ []))) (omega arith)
    (gone_elsewhere m.object new.object x refl refl idle)
    (λ p. over m.object new.object x (Completed x.value) refl refl idle p)
    (omega (arith, left_tickets t is idle, ap calls_in_service idle))
    (λ r. r) (below_more t.place t.object.places is.later)

-- the calls while this one is queued, alone
abbrev pub in_queue : DrivenCallsView → Arriving ℕ → Option ℕ → DrivenCallsView
in_queue t a limit = record {
  object = record t.object {
    state = queue (counted t.object.state) (new_call t.object.state.next a);
    places = t.object.places ++ t.place ∷ [];
    tickets = t.object.tickets ++ Some t.object.state.next ∷ [];
    keys = t.object.keys ++ length t.object.tickets ∷ [];
  };
  place = t.place + 1;
  happened = t.happened ++ Arrived a limit ∷ [];
}

-- a call is queued if none is and the queue isn't full at once
queued_alone : (limit : Option ℕ) (s : ObjectState ℕ ℕ) (x : Call ℕ) → s.waiting ≡ [] → is_full limit 0 ≡ false → queue s x ≡ enter limit s x
queued_alone limit s x none room =
    let full : is_full limit (count_by (is_on x.entry) s.waiting) ≡ false = ap (λ xs. is_full limit (count_by (is_on x.entry) xs)) none ∙ room in
    rw full refl

-- what holds of them
pub queue_traced : (t : DrivenCallsView) (a : Arriving ℕ) (limit : Option ℕ) → IsTraced t → t.object.serving ≡ None → t.object.state.waiting ≡ [] → is_full limit 0 ≡ false
    → IsTraced (in_queue t a limit)
queue_traced t a limit is idle none room =
    let m = in_queue t a limit in let x = new_call t.object.state.next a in
    traced_on t m (Arrived a limit) is refl refl refl
    (arrived t.object m.object a limit (queued_alone limit (counted t.object.state) x none room) idle)
    (λ p. joined t.object m.object x idle refl refl idle p)
    (omega (arith, is.tickets, one_more t.object.tickets t.object.state.next, ap calls_in_service idle, length-append t.object.state.waiting (x ∷ [])))
    (λ r. increases_push t.object.places t.place is.later r) (All-push (λ k. k < t.place + 1) t.object.places t.place (below_more t.place t.object.places is.later) (omega arith))

-- a call that is queued alone is cancelled
alone_cancelled : (s : ObjectState ℕ ℕ) (x : Call ℕ) → s.waiting ≡ [] → end_call s x IsCancelled ≡ cancel (queue s x) x.number (find (has_number x.number) (queue s x).waiting)
alone_cancelled s x none =
    let empty : ObjectState ℕ ℕ = record s { waiting = [] } in
    let same : s ≡ empty = ap (λ xs. record s { waiting = xs }) none in
    let found : find (has_number x.number) (x ∷ []) ≡ Some x = rw (eq_self x.number) refl in
    let left : without_first (has_number x.number) (x ∷ []) ≡ [] = rw (eq_self x.number) refl in
    subst (λ v. end_call v x IsCancelled ≡ cancel (queue v x) x.number (find (has_number x.number) (queue v x).waiting)) (sym same)
    (sym (ap (cancel (queue empty x) x.number) found ∙ ap (λ xs. end_call (record empty { waiting = xs }) x IsCancelled) left))

pub cancelled_traced : (t : DrivenCallsView) (a : Arriving ℕ) (limit : Option ℕ) → IsTraced t → t.object.serving ≡ None → t.object.state.waiting ≡ [] → is_full limit 0 ≡ false
    → IsTraced (passed t a IsCancelled (Arrived a limit ∷ Cancelled t.object.state.next ∷ []))
cancelled_traced t a limit is idle none room =
    let n = t.object.state.next in
    let m = in_queue t a limit in let new = passed t a IsCancelled (Arrived a limit ∷ Cancelled n ∷ []) in let x = new_call n a in
    let after = alone_cancelled (counted t.object.state) x none in
    traced_on m new (Cancelled n) (queue_traced t a limit is idle none room) refl (sym (append_assoc t.happened (Arrived a limit ∷ []) (Cancelled n ∷ []))) (omega arith)
    (cancelled m.object new.object n after idle)
    (λ p. cancelled_once m.object new.object n idle after idle p)
    (omega (arith, left_tickets t is idle, ap calls_in_service idle))
    (λ r. is.rises) (below_more t.place t.object.places is.later)

-- a call that its body requeues, with its number
abbrev pub moved_call : DrivenCallsView → Arriving ℕ → ℕ → Bool → Call ℕ
moved_call t a target with_abort = record (new_call t.object.state.next a) { entry = target; without_abort = not with_abort }

abbrev pub requeue_to : Arriving ℕ → ℕ → Bool → Outcome ℕ
requeue_to a target with_abort = RequeueTo target with_abort a.value

-- the calls while the call is queued on the entry to which its body has requeued it
abbrev pub in_second_queue : DrivenCallsView → Arriving ℕ → ℕ → Bool → Option ℕ → DrivenCallsView
in_second_queue t a target with_abort limit = record {
  object = record t.object {
    state = queue (counted t.object.state) (moved_call t a target with_abort);
    places = t.object.places ++ (t.place + 1) ∷ [];
    tickets = t.object.tickets ++ Some t.object.state.next ∷ [];
    keys = t.object.keys ++ length t.object.tickets ∷ [];
  };
  place = t.place + 1 + 1;
  happened = (t.happened ++ Served a ∷ []) ++ Requeued (requeue_to a target with_abort) limit ∷ [];
}

-- the calls while its second body runs
abbrev pub in_second_body : DrivenCallsView → Arriving ℕ → ℕ → Bool → Option ℕ → DrivenCallsView
in_second_body t a target with_abort limit = record {
  object = record t.object {
    state = counted t.object.state;
    serving = Some (moved_call t a target with_abort);
    tickets = t.object.tickets ++ Some t.object.state.next ∷ [];
    keys = t.object.keys ++ length t.object.tickets ∷ [];
  };
  place = t.place + 1 + 1;
  happened = ((t.happened ++ Served a ∷ []) ++ Requeued (requeue_to a target with_abort) limit ∷ []) ++ Selected target ∷ [];
}

module _ (t : DrivenCallsView) (a : Arriving ℕ) (target : ℕ) (with_abort : Bool) (limit : Option ℕ) (is : IsTraced t) (idle : t.object.serving ≡ None)
    (none : t.object.state.waiting ≡ []) (room : is_full limit 0 ≡ false) (kept : (with_abort ≡ true) → (a.aborted ≡ false)) where
  abbrev first : Call ℕ
  first = new_call t.object.state.next a

  abbrev second : Call ℕ
  second = moved_call t a target with_abort

  concluded_alone : queue (counted t.object.state) second ≡ conclude limit (counted t.object.state) first (requeue_to a target with_abort)
  concluded_alone = queued_alone limit (counted t.object.state) second none room ∙ sym (concluded_is limit (counted t.object.state) first target with_abort kept)

  pub second_queue_traced : IsTraced (in_second_queue t a target with_abort limit)
  second_queue_traced =
      let m = in_body t a in let n = in_second_queue t a target with_abort limit in
      traced_on m n (Requeued (requeue_to a target with_abort) limit) (body_traced t a is idle) refl refl refl
      (requeued m.object n.object first (requeue_to a target with_abort) limit refl concluded_alone idle)
      (λ p. rejoined m.object n.object first second refl refl refl idle p)
      (omega (arith, is.tickets, one_more t.object.tickets t.object.state.next, ap calls_in_service idle, length-append t.object.state.waiting (second ∷ [])))
      (λ r. increases_push t.object.places (t.place + 1) (below_more t.place t.object.places is.later) r)
      (All-push (λ k. k < t.place + 1 + 1) t.object.places (t.place + 1) (below_more (t.place + 1) t.object.places (below_more t.place t.object.places is.later)) (omega arith))

  -- the state with no queued call is that with the only one taken out
  taken_alone : counted t.object.state ≡ take_out (queue (counted t.object.state) second) (is_on target)
  taken_alone =
      let s = counted t.object.state in
      let left : without_first (is_on target) (second ∷ []) ≡ [] = rw (eq_self target) refl in
      let empty : s ≡ record s { waiting = [] } = ap (λ xs. record s { waiting = xs }) none in
      empty ∙ ap (λ xs. record s { waiting = xs }) (sym left) ∙ ap (λ xs. record s { waiting = without_first (is_on target) (xs ++ second ∷ []) }) (sym none)

  found_alone : Some second ≡ find (is_on target) (t.object.state.waiting ++ second ∷ [])
  found_alone =
      let found : find (is_on target) (second ∷ []) ≡ Some second = rw (eq_self target) refl in
      sym found ∙ ap (λ xs. find (is_on target) (xs ++ second ∷ [])) (sym none)

  pub second_body_traced : IsTraced (in_second_body t a target with_abort limit)
  second_body_traced =
      let m = in_second_queue t a target with_abort limit in let n = in_second_body t a target with_abort limit in
      traced_on m n (Selected target) second_queue_traced refl refl (omega arith)
      (selected m.object n.object target taken_alone found_alone)
      (λ p. took m.object n.object (is_on target) (Some second) idle (sym found_alone) taken_alone refl p)
      (omega (arith, is.tickets, one_more t.object.tickets t.object.state.next, ap calls_in_service idle))
      (λ r. is.rises) (below_more (t.place + 1) t.object.places (below_more t.place t.object.places is.later))

  -- what has happened, one thing after the other
  pub noted_twice : (((t.happened ++ Served a ∷ []) ++ Requeued (requeue_to a target with_abort) limit ∷ []) ++ Selected target ∷ []) ++ Ended (Completed a.value) ∷ []
      ≡ t.happened ++ Served a ∷ Requeued (requeue_to a target with_abort) limit ∷ Selected target ∷ Ended (Completed a.value) ∷ []
  noted_twice =
      ap (λ l. (l ++ Selected target ∷ []) ++ Ended (Completed a.value) ∷ []) (append_assoc t.happened (Served a ∷ []) (Requeued (requeue_to a target with_abort) limit ∷ []))
      ∙ ap (λ l. l ++ Ended (Completed a.value) ∷ []) (append_assoc t.happened (Served a ∷ Requeued (requeue_to a target with_abort) limit ∷ []) (Selected target ∷ []))
      ∙ append_assoc t.happened (Served a ∷ Requeued (requeue_to a target with_abort) limit ∷ Selected target ∷ []) (Ended (Completed a.value) ∷ [])

  pub twice_traced : IsTraced (passed_twice t a (Completed a.value) (Served a ∷ Requeued (requeue_to a target with_abort) limit ∷ Selected target ∷ Ended (Completed a.value) ∷ []))
  twice_traced =
      let m = in_second_body t a target with_abort limit in
      let new = passed_twice t a (Completed a.value) (Served a ∷ Requeued (requeue_to a target with_abort) limit ∷ Selected target ∷ Ended (Completed a.value) ∷ []) in
      traced_on m new (Ended (Completed a.value)) second_body_traced refl (sym noted_twice) (omega arith)
      (ended m.object new.object second (Completed a.value) refl refl idle)
      (λ p. over m.object new.object second (Completed a.value) refl refl idle p)
      (omega (arith, left_tickets t is idle, ap calls_in_service idle))
      (λ r. r) (subst (λ k. All (λ j. j < k) t.object.places) (omega arith) (below_more (t.place + 1) t.object.places (below_more t.place t.object.places is.later)))
