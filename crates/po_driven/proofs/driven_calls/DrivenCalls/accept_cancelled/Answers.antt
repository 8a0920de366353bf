use Rattle.std.proofs.Common.{◌≡◌, ◌∙◌, ◌+◌, ◌++◌, ◌∷◌, [], None, append_assoc, ap, sym, subst}
use Rattle.po_calls.specs.declared.end.End.TheVariants.{Cancelled as IsCancelled}
use Rattle.po_driven.specs.DrivenCallsView.{DrivenCallsView, IsTraced, passed}
use Rattle.po_driven.specs.declared.happening.Happening.TheVariants.{Arrived, Cancelled}
use Rattle.po_driven.proofs.Passing.{cancelled_traced}
use Rattle.po_driven.proofs.driven_calls.DrivenCalls.accept_cancelled.Goals as goal

pub invariant_of-self : goal.invariant_of-self
invariant_of-self c =
    let i = c.self.inside in
    let a = c.args.arriving in
    let old : DrivenCallsView = record { object = i.state; place = i.place; happened = i.happened.items } in
    let idle = subst (λ v. v.object.serving ≡ None) (sym c.self.view_is) c.requires.may.idle in
    let alone = subst (λ v. v.object.state.waiting ≡ []) (sym c.self.view_is) c.requires.alone in
    let hs = Arrived a c.args.longest ∷ Cancelled i.state.state.next ∷ [] in
    let last = ap (λ n. Cancelled n ∷ []) c.next_number-number.ensures in
    let noted = c.then-self-inside.ensures ∙ ap (λ l. l ++ Cancelled c.next_number-number.result ∷ []) c.then.ensures ∙ append_assoc i.happened.items (Arrived a c.args.longest ∷ []) (Cancelled c.next_number-number.result ∷ []) ∙ ap (λ l. i.happened.items ++ Arrived a c.args.longest ∷ l) last in
    subst (λ o. IsTraced (record { object = o; place = i.place + 1; happened = c.then-self-inside.result.items })) (sym c.end_at_once.ensures)
    (subst (λ l. IsTraced (record { object = (passed old a IsCancelled hs).object; place = i.place + 1; happened = l })) (sym noted)
    (cancelled_traced old a c.args.longest c.self.invariant idle alone c.requires.open))
