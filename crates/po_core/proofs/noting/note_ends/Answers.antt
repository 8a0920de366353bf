use Rattle.std.proofs.Common.{◌≡◌, ◌+◌, ◌∷◌, ◌++◌, [], None, take, arith, refl, sym, ap, subst, ◌∙◌, append_assoc}
use Rattle.std.specs.List.{find}
use Rattle.std.proofs.lemmas.List.{take_more}
use Rattle.po_engine.specs.Ending.{has_ended}
use Rattle.po_core.specs.Outcomes.{AreOutcomes, IsCallOf}
use Rattle.po_core.proofs.Noted.{not_before, later_holds, outcomes_push}
use Rattle.po_core.proofs.noting.note_ends.Goals as goal

pub set_outcome-requires-clause-issued : goal.set_outcome-requires-clause-issued
set_outcome-requires-clause-issued g c =
    let x = c.call-item.result in
    let old = c.args.ended.now.items in
    let now = c.args.now.now in
    let i = c.loop-call.call-index in
    let its = later_holds (λ y. IsCallOf c.args.history.now y.number) old now i x c.loop-call-test.true c.call-item.is c.requires.calls in
    omega (arith, its.0, ap (λ h. h.first_number) c.loop-call.invariant.rest)

pub set_outcome-requires-clause-reserved : goal.set_outcome-requires-clause-reserved
set_outcome-requires-clause-reserved g c =
    let x = c.call-item.result in
    let old = c.args.ended.now.items in
    let now = c.args.now.now in
    let i = c.loop-call.call-index in
    let its = later_holds (λ y. IsCallOf c.args.history.now y.number) old now i x c.loop-call-test.true c.call-item.is c.requires.calls in
    omega (arith, its.1, ap (λ h. h.first_number) c.loop-call.invariant.rest, c.loop-call.invariant.len)

pub set_outcome-requires-clause-unset : goal.set_outcome-requires-clause-unset
set_outcome-requires-clause-unset g c =
    let x = c.call-item.result in
    let old = c.args.ended.now.items in
    let now = c.args.now.now in
    let i = c.loop-call.call-index in
    let none = not_before old now i x c.loop-call-test.true c.call-item.is (c.requires.once x.number) in
    c.loop-call.invariant.outcomes x.number ∙ rw (c.loop-call.invariant.ended, none) refl

pub loop-call-preserved : goal.loop-call-preserved
loop-call-preserved g c =
    let x = c.call-item.result in
    let old = c.args.ended.now.items in
    let now = c.args.now.now in
    let i = c.loop-call.call-index in
    let k = c.loop-call.invariant in
    let none : find (has_ended x.number) c.loop-call.ended.items ≡ None = ap (find (has_ended x.number)) k.ended ∙ not_before old now i x c.loop-call-test.true c.call-item.is (c.requires.once x.number) in
    let more : take (i + 1) now ≡ take i now ++ x ∷ [] = take_more now i x c.loop-call-test.true ∙ ap (λ y. take i now ++ y ∷ []) (sym c.call-item.is) in
    record {
      rest = rw c.set_outcome.ensures.rest (rw k.rest refl);
      len = c.set_outcome.ensures.len ∙ k.len;
      ended = c.push_reserved.ensures.items ∙ ap (λ l. l ++ x ∷ []) k.ended ∙ append_assoc old (take i now) (x ∷ []) ∙ ap (λ l. old ++ l) (sym more);
      grows = omega (arith, k.grows, c.push_reserved.ensures.len);
      capacity = c.push_reserved.ensures.capacity ∙ k.capacity;
      outcomes = subst (AreOutcomes c.set_outcome.new.self) (sym c.push_reserved.ensures.items) (outcomes_push c.loop-call.history c.set_outcome.new.self c.loop-call.ended.items x none k.outcomes c.set_outcome.ensures.outcome c.set_outcome.ensures.others);
    }
