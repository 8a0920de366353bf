use Rattle.std.proofs.Common.{sym, subst, List, IfSome}
use Rattle.std.proofs.lemmas.List.Elements.{All-push}
use Rattle.po_explore.specs.declared.finding.Found.{Found}
use Rattle.po_explore.specs.Scenes.{stage_of}
use Rattle.po_explore.specs.Findings.{line_of, Shows, AllShown}
use Rattle.po_explore.proofs.news.push_kind.Goals as goal

pub returns-in_ok-push-in-Some : goal.returns-in_ok-push-in-Some
returns-in_ok-push-in-Some c = λ told all shown.
    let scene = c.args.scene.now in
    let stage = stage_of c.args.stage.now in
    let line = line_of scene stage c.args.caller in
    subst (λ (l : List Found). AllShown scene stage told l) (sym c.in_ok-push-in-Some.ensures.items)
    (All-push (Shows scene stage told) c.args.list.now.items _ all
    (subst (λ l. Shows scene stage told (record { kind = c.in-Some.kind; line = l })) (sym c.line_of-line.ensures)
    (subst (λ k. IfSome k (λ k. Shows scene stage told (record { kind = k; line = line }))) c.in-Some.is shown)))
