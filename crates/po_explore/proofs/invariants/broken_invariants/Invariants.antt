use Rattle.std.proofs.Common.{List}
use Rattle.po_explore.specs.declared.news.News.{News}
use Rattle.po_explore.specs.Scenes.{stage_of}
use Rattle.po_explore.specs.Findings.{AllShown}
use Rattle.po_explore.proofs.invariants.broken_invariants.Given as goal

-- what was added is so
abbrev pub invariant-loop-object : goal.invariant-loop-object
invariant-loop-object l = (told : List News) → AllShown l.scene (stage_of l.stage) told l.fn.list.items → AllShown l.scene (stage_of l.stage) told l.list.items
