use Rattle.std.proofs.Common.{◌≡◌, ◌∙◌, ◌+◌, ◌++◌, ◌∷◌, [], None, append_assoc, ap, sym, subst}
use Rattle.po_driven.specs.DrivenCallsView.{DrivenCallsView, IsTraced, passed}
use Rattle.po_driven.specs.declared.happening.Happening.TheVariants.{Ended, Served}
use Rattle.po_driven.proofs.Passing.{served_traced}
use Rattle.po_driven.proofs.driven_calls.DrivenCalls.accept_served.Goals as goal

pub invariant_of-self : goal.invariant_of-self
invariant_of-self c =
    let i = c.self.inside in
    let old : DrivenCallsView = record { object = i.state; place = i.place; happened = i.happened.items } in
    let idle = subst (λ v. v.object.serving ≡ None) (sym c.self.view_is) c.requires.idle in
    let hs = Served c.args.arriving ∷ Ended c.args.end ∷ [] in
    let noted = c.then-self-inside.ensures ∙ ap (λ l. l ++ Ended c.args.end ∷ []) c.then.ensures ∙ append_assoc i.happened.items (Served c.args.arriving ∷ []) (Ended c.args.end ∷ []) in
    subst (λ o. IsTraced (record { object = o; place = i.place + 1; happened = c.then-self-inside.result.items })) (sym c.end_at_once.ensures)
    (subst (λ l. IsTraced (record { object = (passed old c.args.arriving c.args.end hs).object; place = i.place + 1; happened = l })) (sym noted)
    (served_traced old c.args.arriving c.args.end c.self.invariant idle))
