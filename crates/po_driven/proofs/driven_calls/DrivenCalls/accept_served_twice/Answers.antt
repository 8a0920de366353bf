use Rattle.std.proofs.Common.{◌≡◌, ◌∙◌, ◌+◌, ◌++◌, ◌∷◌, [], None, append_assoc, ap, sym, subst}
use Rattle.po_calls.specs.declared.end.End.TheVariants.{Completed}
use Rattle.po_unit.specs.declared.outcome.Outcome.TheVariants.{Requeue as RequeueTo}
use Rattle.po_driven.specs.DrivenCallsView.{DrivenCallsView, IsTraced, passed_twice}
use Rattle.po_driven.specs.declared.happening.Happening.TheVariants.{Ended, Requeued, Selected, Served}
use Rattle.po_driven.proofs.Passing.{twice_traced}
use Rattle.po_driven.proofs.driven_calls.DrivenCalls.accept_served_twice.Goals as goal

pub invariant_of-self : goal.invariant_of-self
invariant_of-self c =
    let i = c.self.inside in let a = c.args.arriving in let target = c.args.target in let with_abort = c.args.with_abort in
    let old : DrivenCallsView = record { object = i.state; place = i.place; happened = i.happened.items } in
    let idle = subst (λ v. v.object.serving ≡ None) (sym c.self.view_is) c.requires.may.idle in
    let alone = subst (λ v. v.object.state.waiting ≡ []) (sym c.self.view_is) c.requires.alone in
    let requeued = Requeued (RequeueTo target with_abort a.value) c.args.longest in
    let hs = Served a ∷ requeued ∷ Selected target ∷ Ended (Completed a.value) ∷ [] in
    let noted = c.then-self-inside.ensures ∙ ap (λ l. l ++ Ended (Completed a.value) ∷ []) (c.then-3.ensures ∙ ap (λ l. l ++ Selected target ∷ []) (c.then-2.ensures ∙ ap (λ l. l ++ requeued ∷ []) c.then.ensures))
    ∙ ap (λ l. (l ++ Selected target ∷ []) ++ Ended (Completed a.value) ∷ []) (append_assoc i.happened.items (Served a ∷ []) (requeued ∷ []))
    ∙ ap (λ l. l ++ Ended (Completed a.value) ∷ []) (append_assoc i.happened.items (Served a ∷ requeued ∷ []) (Selected target ∷ []))
    ∙ append_assoc i.happened.items (Served a ∷ requeued ∷ Selected target ∷ []) (Ended (Completed a.value) ∷ []) in
    subst (λ o. IsTraced (record { object = o; place = i.place + 2; happened = c.then-self-inside.result.items })) (sym c.end_at_once.ensures)
    (subst (λ l. IsTraced (record { object = (passed_twice old a (Completed a.value) hs).object; place = i.place + 2; happened = l })) (sym noted)
    (twice_traced old a target with_abort c.args.longest c.self.invariant idle alone c.requires.open c.requires.kept))
