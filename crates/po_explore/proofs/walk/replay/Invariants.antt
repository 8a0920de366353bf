use Rattle.std.proofs.Common.{◌≡◌, [], drop}
use Rattle.po_explore.specs.Scenes.{StageView, stage_of, after_order, IsBeginning}
use Rattle.po_explore.specs.News.{order_news}
use Rattle.po_explore.proofs.walk.replay.Given as goal

-- what is left of the order leads to the same stage as the whole order, and its last command brings about the same
abbrev pub invariant-loop-caller : goal.invariant-loop-caller
invariant-loop-caller l =
    (first : StageView) × IsBeginning l.scene first
    × (after_order l.scene (stage_of l.walk.stage) (drop l.caller-index l.order) ≡ after_order l.scene first l.order)
    × (order_news l.scene (stage_of l.walk.stage) l.walk.news.items (drop l.caller-index l.order) ≡ order_news l.scene first [] l.order)
