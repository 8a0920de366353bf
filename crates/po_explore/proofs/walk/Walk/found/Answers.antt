use Rattle.std.proofs.Common.{subst}
use Rattle.po_explore.specs.Scenes.{stage_of}
use Rattle.po_explore.specs.Findings.{AllShown}
use Rattle.po_explore.proofs.walk.Walk.found.Goals as goal

pub returns : goal.returns
returns c =
    c.in_ok-broken_invariants.ensures c.args.self.now.news.items
    (subst (λ told. AllShown c.args.scene.now (stage_of c.args.self.now.stage) told c.found_in.new.list.items) c.as_slice.ensures.value c.in_ok-found_in.ensures)
