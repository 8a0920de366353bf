use Rattle.std.proofs.Common.{sym, subst, List}
use Rattle.std.proofs.lemmas.List.Elements.{All-push}
use Rattle.po_explore.specs.declared.finding.Found.{Found}
use Rattle.po_explore.specs.Scenes.{stage_of}
use Rattle.po_explore.specs.Findings.{Shows, AllShown}
use Rattle.po_explore.proofs.invariants.push_broken.Goals as goal

pub returns-in_ok-push-in-Some : goal.returns-in_ok-push-in-Some
returns-in_ok-push-in-Some c = λ told all.
    subst (λ (l : List Found). AllShown c.args.scene.now (stage_of c.args.stage.now) told l) (sym c.in_ok-push-in-Some.ensures.items)
    (All-push (Shows c.args.scene.now (stage_of c.args.stage.now) told) c.args.list.now.items _ all c.in-Some.ensures)
