use Rattle.std.proofs.Common.{◌≡◌, ◌∙◌, true, false, not, refl, sym, ap, subst, Bool}
use Rattle.po_unit.specs.Numbering.{is_public}
use Rattle.po_unit.proofs.NumberingLemmas.{is_public-yes}
use Rattle.po_core.proofs.object_core.Core.entry_from_outside.Goals as goal

pub returns-clause-public : goal.returns-clause-public
returns-clause-public g c =
    let is = c.shape-shape.ensures ∙ (ap (λ made. made.shape) c.setup.ensures ∙ ap (λ core. core.object.setup.shape) c.self.view_is) in
    let public = is_public-yes c.shape-shape.result.now c.args.entry c.in-Some.decl c.in_ok-number.number ((c.in_ok-number.ensures.bijection c.in_ok-number.number).0 refl) (sym c.in-Some.ensures) (public_now c.in-Some.decl.public c.if-not-decl.false) in
    subst (λ shape. is_public shape c.in_ok-number.number ≡ true) is public
  where
    public_now : (b : Bool) → not b ≡ false → b ≡ true
    public_now true h = refl
    public_now false h = cc
