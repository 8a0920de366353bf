use Rattle.std.proofs.Common.{ℕ, ◌∙◌, ◌∷◌, [], Option, ap, refl}
use Rattle.po_unit.specs.declared.outcome.Outcome.TheVariants.{Requeue as RequeueTo}
use Rattle.po_calls.specs.declared.end.End.TheVariants.{Completed}
use Rattle.po_engine.specs.Driving.{new_call}
use Rattle.po_engine.specs.Ending.{ended_as}
use Rattle.po_driven.proofs.Tickets.{one_ended}
use Rattle.po_driven.specs.DrivenCallsView.{DrivenCallsView, passed_twice}
use Rattle.po_driven.specs.declared.happening.Happening.TheVariants.{Ended, Requeued, Selected, Served}
use Rattle.po_driven.proofs.Twice.{twice_between}
use Rattle.po_driven.proofs.driven_object.DrivenObject.served_twice.Goals as goal

pub returns : goal.returns
returns c =
    let d = c.args.self.now in let a = c.args.arriving in let r = c.args.requeue in
    let may = c.moves_alone.ensures.yes c.if-not-moves_alone.false (c.accepts_served.ensures.yes c.if-not-accepts_served.false) in
    let told : DrivenCallsView → Option ℕ → DrivenCallsView = λ t l. passed_twice t a (Completed a.value) (Served a ∷ Requeued (RequeueTo r.target r.with_abort a.value) l ∷ Selected r.target ∷ Ended (Completed a.value) ∷ []) in
    let calls = c.accept_served_twice.ensures ∙ ap (λ v. told v.calls c.longest-longest.result) c.self.view_is ∙ ap (told d.calls) c.longest-longest.ensures in
    let limits = ap (λ v. v.limits) c.self.view_is in
    let resting = ap (λ v. v.phase) c.self.view_is ∙ may.served.may.accepts.resting in
    record {
      kept = λ no. absurd (cc);
      setup = record {
        entries = ap (λ t. t.object.state.unit) calls;
        limits = limits;
        room = record { fixed = ap (λ t. t.object.is_fixed) calls; capacity = λ fixed. ap (λ t. t.object.capacity) calls };
        tickets = one_ended d.calls.object _ (ended_as (Completed a.value) (new_call d.calls.object.state.next a)) (ap (λ t. t.object.tickets) calls) (ap (λ t. t.object.state.ended) calls);
      };
      accepted = λ is. refl;
      may = λ yes. may;
      through = λ yes. twice_between d _ a r may c.recall_invariant.ensures calls limits resting c.new-self-inside.ensures;
    }
