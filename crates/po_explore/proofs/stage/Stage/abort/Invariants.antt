use Rattle.std.proofs.Common.{◌≡◌, ◌++◌, map, take, drop}
use Rattle.std.specs.Prelude.{flat_map}
use Rattle.po_ada_unit.specs.Object.{ada_meaning}
use Rattle.po_explore.specs.Commands.{after_abort}
use Rattle.po_explore.specs.News.{abort_news}
use Rattle.po_explore.specs.Scenes.{views_of}
use Rattle.po_explore.proofs.stage.Stage.abort.Given as goal

-- the objects before the position are changed, and the others are as they were; what was told of the former is added
abbrev pub invariant-loop-position : goal.invariant-loop-position
invariant-loop-position l =
    record {
      views : views_of l.self ≡ map (λ view. after_abort ada_meaning view l.caller) (take l.position (views_of l.fn.self)) ++ drop l.position (views_of l.fn.self);
      told : l.news.items ≡ l.fn.news.items ++ flat_map (abort_news l.caller) (take l.position (views_of l.fn.self));
      made : l.self.made ≡ l.fn.self.made;
    }
