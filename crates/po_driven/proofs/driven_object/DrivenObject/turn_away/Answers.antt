use Rattle.std.proofs.Common.{◌∙◌, ◌∷◌, [], ap, sym, refl}
use Rattle.po_calls.specs.declared.end.End.TheVariants.{Cancelled as IsCancelled}
use Rattle.po_engine.specs.Driving.{new_call}
use Rattle.po_engine.specs.Ending.{ended_as}
use Rattle.po_driven.proofs.Tickets.{one_ended}
use Rattle.po_driven.specs.DrivenCallsView.{passed}
use Rattle.po_driven.specs.declared.happening.Happening.TheVariants.{Arrived, Cancelled}
use Rattle.po_driven.proofs.Alone.{turned_between}
use Rattle.po_driven.proofs.driven_object.DrivenObject.turn_away.Goals as goal

pub returns : goal.returns
returns c =
    let d = c.args.self.now in let a = c.args.arriving in let i = c.self.inside in
    let alone = c.arrives_alone.ensures.yes c.if-not-arrives_alone.false in
    let due = sym c.is_due.ensures ∙ c.if-not-is_due.false in
    let calls = c.accept_cancelled.ensures
    ∙ ap (λ v. passed v.calls a IsCancelled (Arrived a c.longest-longest.result ∷ Cancelled v.calls.object.state.next ∷ [])) c.self.view_is
    ∙ ap (λ l. passed d.calls a IsCancelled (Arrived a l ∷ Cancelled d.calls.object.state.next ∷ [])) c.longest-longest.ensures in
    let limits = ap (λ v. v.limits) c.self.view_is in
    let resting = ap (λ v. v.phase) c.self.view_is ∙ alone.may.accepts.resting in
    record {
      kept = λ no. absurd (cc);
      setup = record {
        entries = ap (λ t. t.object.state.unit) calls;
        limits = limits;
        room = record { fixed = ap (λ t. t.object.is_fixed) calls; capacity = λ fixed. ap (λ t. t.object.capacity) calls };
        tickets = one_ended d.calls.object _ (ended_as IsCancelled (new_call d.calls.object.state.next a)) (ap (λ t. t.object.tickets) calls) (ap (λ t. t.object.state.ended) calls);
      };
      accepted = λ arrives it. refl;
      alone = λ yes. alone;
      due = λ yes. due;
      through = λ yes. turned_between d _ a alone due c.recall_invariant.ensures calls limits resting c.new-self-inside.ensures;
    }
