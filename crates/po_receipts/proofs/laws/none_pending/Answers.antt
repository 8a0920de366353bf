use Rattle.std.proofs.Common.{◌≡◌, ◌∙◌, sym, ap, subst, refl, None, Some, Option, false}
use Rattle.std.specs.Option.{is_some}
use Rattle.std.proofs.lemmas.List.{take_all}
use Rattle.std.proofs.lemmas.List.Elements.{All-more}
use Rattle.po_receipts.specs.Answers.{NonePending}
use Rattle.po_receipts.proofs.laws.none_pending.Goals as goal

pub loop-pass-preserved : goal.loop-pass-preserved
loop-pass-preserved g c =
    All-more (λ pass. pass.pending ≡ None) c.args.passes.now c.loop-pass.pass-index c.pass-item.result c.loop-pass-test.true c.loop-pass.invariant
    (none_at _ (sym (ap is_some (c.pending.ensures ∙ ap (λ pass. pass.pending) c.pass-item.is)) ∙ (sym c.is_some.ensures ∙ c.if-is_some.false)))
  where
    none_at : {X : Type 0} (o : Option X) → is_some o ≡ false → o ≡ None
    none_at None h = refl
    none_at (Some x) h = cc

pub returns : goal.returns
returns g c = (λ yes. subst NonePending (take_all c.loop-pass.pass-index c.args.passes.now c.loop-pass-test.false) c.loop-pass.invariant, λ none. refl)
