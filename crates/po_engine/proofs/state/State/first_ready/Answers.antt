-- The event of what is serviced next is that of the next turn.
use Rattle.std.proofs.Common.{◌≡◌, Some, None, ap, sym, subst, ◌∙◌}
use Rattle.po_history.specs.declared.event.Event.TheVariants.{Serve, Break}
use Rattle.po_engine.specs.StateView.{state_with_calls}
use Rattle.po_engine.specs.Pick.{event_of, next_turn}
use Rattle.po_engine.proofs.Looks.{next_same}
use Rattle.po_engine.proofs.state.State.first_ready.Goals as goal

pub returns-in-Ready : goal.returns-in-Ready
returns-in-Ready g c =
    let i = c.self.inside in
    let m = g.U.Unit.meaning in
    let same = next_same m (state_with_calls i.unit i.calls i.finalized) c.by_entry.result.now (c.by_entry.ensures.total ∙ c.self.invariant.total) c.by_entry.ensures.entries c.args.order c.args.last in
    subst (λ v. Some (Serve c.in-Ready.e) ≡ event_of (next_turn m c.args.order c.args.last v.state)) c.self.view_is (ap event_of (sym c.in-Ready.is ∙ c.examine.ensures.next ∙ same))

pub returns-in-Broken : goal.returns-in-Broken
returns-in-Broken g c =
    let i = c.self.inside in
    let m = g.U.Unit.meaning in
    let same = next_same m (state_with_calls i.unit i.calls i.finalized) c.by_entry.result.now (c.by_entry.ensures.total ∙ c.self.invariant.total) c.by_entry.ensures.entries c.args.order c.args.last in
    subst (λ v. Some (Break c.in-Broken.e) ≡ event_of (next_turn m c.args.order c.args.last v.state)) c.self.view_is (ap event_of (sym c.in-Broken.is ∙ c.examine.ensures.next ∙ same))

pub returns-in-Quiet : goal.returns-in-Quiet
returns-in-Quiet g c =
    let i = c.self.inside in
    let m = g.U.Unit.meaning in
    let same = next_same m (state_with_calls i.unit i.calls i.finalized) c.by_entry.result.now (c.by_entry.ensures.total ∙ c.self.invariant.total) c.by_entry.ensures.entries c.args.order c.args.last in
    subst (λ v. None ≡ event_of (next_turn m c.args.order c.args.last v.state)) c.self.view_is (ap event_of (sym c.in-Quiet.is ∙ c.examine.ensures.next ∙ same))
