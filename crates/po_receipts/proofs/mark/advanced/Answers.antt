use Rattle.std.proofs.Common.{◌≡◌, ℕ, List, map, sym, ap, subst, ◌∙◌, Some, [], ◌∷◌}
use Rattle.std.specs.List.{slice_get}
use Rattle.std.proofs.lemmas.Bool.{false≢true}
use Rattle.po_receipts.specs.declared.mark.Mark.{Mark}
use Rattle.po_receipts.specs.declared.mark.Mark.TheVariants.{Follows, Differs}
use Rattle.po_receipts.specs.Marks.{IsMark}
use Rattle.po_receipts.proofs.Marking.{follows_on, differs_here, differs_still}
use Rattle.po_receipts.proofs.mark.advanced.Goals as goal

-- what holds of a mark holds of an equal one
at_mark : {X : Type 0} (filed due : List X) (mark other : Mark) → mark ≡ other → IsMark filed due mark → IsMark filed due other
at_mark filed due mark other is holds = subst (IsMark filed due) is holds

-- a mark follows to only one place
one_place : (mark : Mark) (a b : ℕ) → mark ≡ Follows a → mark ≡ Follows b → a ≡ b
one_place mark a b is_a is_b = cc

pub returns-in-Differs : goal.returns-in-Differs
returns-in-Differs g c before mark =
    differs_still (map Some c.args.receipts.now) before (c.args.due ∷ []) c.in-Differs.place
    (at_mark (map Some c.args.receipts.now) before c.args.mark (Differs c.in-Differs.place) c.in-Differs.is mark)

pub returns-in-Follows : goal.returns-in-Follows
returns-in-Follows g c before mark =
    follows_on (map Some c.args.receipts.now) before c.in-Follows.place c.args.due
    (at_mark (map Some c.args.receipts.now) before c.args.mark (Follows c.in-Follows.place) c.in-Follows.is mark)
    (c.is_next.ensures.0 c.if-is_next.true)

pub returns-in-Follows-2 : goal.returns-in-Follows-2
returns-in-Follows-2 g c before mark =
    let same = one_place c.args.mark c.in-Follows-2.place c.in-Follows.place c.in-Follows-2.is c.in-Follows.is in
    differs_here (map Some c.args.receipts.now) before c.in-Follows-2.place c.args.due
    (at_mark (map Some c.args.receipts.now) before c.args.mark (Follows c.in-Follows-2.place) c.in-Follows-2.is mark)
    (λ here. false≢true (sym c.if-is_next.false ∙ c.is_next.ensures.1 (ap (slice_get (map Some c.args.receipts.now)) (sym same) ∙ here)))
