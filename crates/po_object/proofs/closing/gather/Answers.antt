use Rattle.std.proofs.Common.{arith, ◌≡◌, subst, sym, ◌+◌, ◌≤◌, ◌∙◌, rules, length}
use Rattle.std.proofs.lemmas.Grind.{common_steps}
use Rattle.std.specs.List.{All}
use Rattle.po_receipts.specs.Answers.{AskedBySeats}
use Rattle.po_receipts.specs.OneHistory.{IsWholeLog}
use Rattle.po_receipts.specs.Told.{IsToldOf}
use Rattle.po_object.proofs.Totals.{closing-totals, is-closed}
use Rattle.po_object.proofs.Seating.{one_each-length, placed-by_seat}
use Rattle.po_object.proofs.closing.gather.Goals as goal

pub returns-clause-length : goal.returns-clause-length
returns-clause-length g c =
    let k = c.collect-spent.ensures in
    let w : g.C.Ledger.parts ≡ c.args.calls.now.seats + 1 = c.args.calls.now.whole in
    let w2 : g.P.Ledger.parts ≡ c.args.procedures.now.seats + 1 = c.args.procedures.now.whole in
    let eq = c.requires.seats in
    let low = one_each-length c.args.calls.now.seats c.args.passes.items c.requires.one_each in
    let p0 = k.parts.0 in let p1 = k.parts.1 in let bound = k.bound in
    let some : length c.args.passes.items ≡ c.args.calls.now.seats = omega (arith, low, bound, p0, w) in
    some

pub returns-clause-by_seat : goal.returns-clause-by_seat
returns-clause-by_seat g c =
    let k = c.collect-spent.ensures in
    let w : g.C.Ledger.parts ≡ c.args.calls.now.seats + 1 = c.args.calls.now.whole in
    let w2 : g.P.Ledger.parts ≡ c.args.procedures.now.seats + 1 = c.args.procedures.now.whole in
    let eq = c.requires.seats in
    let low = one_each-length c.args.calls.now.seats c.args.passes.items c.requires.one_each in
    let p0 = k.parts.0 in let p1 = k.parts.1 in let bound = k.bound in
    let some : length c.args.passes.items ≡ c.args.calls.now.seats = omega (arith, low, bound, p0, w) in
    let len : length c.collect-spent.result.items ≡ c.args.calls.now.seats = search (rules, common_steps) in
    placed-by_seat c.args.calls.now.seats c.args.passes.items c.collect-spent.result.items len c.requires.one_each k.placed

pub returns-clause-totals : goal.returns-clause-totals
returns-clause-totals g c =
    let k = c.collect-spent.ensures in
    let w : g.C.Ledger.parts ≡ c.args.calls.now.seats + 1 = c.args.calls.now.whole in
    let w2 : g.P.Ledger.parts ≡ c.args.procedures.now.seats + 1 = c.args.procedures.now.whole in
    let eq = c.requires.seats in
    let low = one_each-length c.args.calls.now.seats c.args.passes.items c.requires.one_each in
    let p0 = k.parts.0 in let p1 = k.parts.1 in let bound = k.bound in
    let some : length c.args.passes.items ≡ c.args.calls.now.seats = omega (arith, low, bound, p0, w) in
    let len : length c.collect-spent.result.items ≡ c.args.calls.now.seats = search (rules, common_steps) in
    let made = sym (c.audit.ensures.whole (omega (arith, some, p0, w))) ∙ k.calls in
    let ran = sym (c.audit-2.ensures.whole (omega (arith, some, p1, w2, eq))) ∙ k.procedures in
    let totals = closing-totals c.take_apart-core.result.0 c.args.calls.now.seats _ _ c.args.passes.items c.collect-spent.result.items some len c.requires.one_each k.placed c.take_apart-core.ensures.totals made ran in
    totals

pub returns-clause-seen : goal.returns-clause-seen
returns-clause-seen g c = rw (c.into_seen.ensures, c.recall.ensures.same) c.recall.ensures.beginning

pub invariant_of-result : goal.invariant_of-result
invariant_of-result g c =
    let k = c.collect-spent.ensures in
    let w : g.C.Ledger.parts ≡ c.args.calls.now.seats + 1 = c.args.calls.now.whole in
    let w2 : g.P.Ledger.parts ≡ c.args.procedures.now.seats + 1 = c.args.procedures.now.whole in
    let eq = c.requires.seats in
    let low = one_each-length c.args.calls.now.seats c.args.passes.items c.requires.one_each in
    let p0 = k.parts.0 in let p1 = k.parts.1 in let bound = k.bound in
    let some : length c.args.passes.items ≡ c.args.calls.now.seats = omega (arith, low, bound, p0, w) in
    let len : length c.collect-spent.result.items ≡ c.args.calls.now.seats = search (rules, common_steps) in
    let made = sym (c.audit.ensures.whole (omega (arith, some, p0, w))) ∙ k.calls in
    let ran = sym (c.audit-2.ensures.whole (omega (arith, some, p1, w2, eq))) ∙ k.procedures in
    let totals = closing-totals c.take_apart-core.result.0 c.args.calls.now.seats _ _ c.args.passes.items c.collect-spent.result.items some len c.requires.one_each k.placed c.take_apart-core.ensures.totals made ran in
    let most : c.args.calls.now.seats ≤ 65_535 = search (rules, common_steps) in
    let t = c.take_apart-core.ensures in
    let same = c.recall.ensures.same ∙ k.same_log in
    let whole = subst (IsWholeLog g.U.Unit.meaning c.take_apart-core.result.0.object) (sym same) t.log in
    let asked = subst (AskedBySeats c.args.calls.now.seats) (sym same) (t.asked c.args.calls.now.seats w) in
    let told = subst (λ log. All (IsToldOf g.C.CallLedger.end_of log) c.args.passes.items) (sym same) k.told in
    rw c.into_seen.ensures (is-closed g.U.Unit.meaning c.take_apart-core.result.0 c.args.calls.now.seats g.C.CallLedger.end_of _ c.args.passes.items c.collect-spent.result.items most len c.requires.one_each k.placed totals whole asked c.headline.ensures.headline t.ends told)
