use Rattle.po_explore.specs.Scenes.{stage_of}
use Rattle.po_explore.specs.Findings.{AllShown}
use Rattle.po_explore.proofs.news.answers_in.Given as goal

-- what was added is so
abbrev pub invariant-loop-position : goal.invariant-loop-position
invariant-loop-position l = AllShown l.scene (stage_of l.stage) l.news l.list.items
