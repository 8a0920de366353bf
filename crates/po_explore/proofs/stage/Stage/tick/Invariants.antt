use Rattle.std.proofs.Common.{◌≡◌, ◌++◌, map, take, drop}
use Rattle.std.specs.Prelude.{flat_map}
use Rattle.po_ada_unit.specs.Object.{ada_meaning}
use Rattle.po_ada_language.specs.declared.operation.Operation.TheVariants.{Tick}
use Rattle.po_explore.specs.Commands.{after_operation}
use Rattle.po_explore.specs.News.{tick_news}
use Rattle.po_explore.specs.Scenes.{views_of}
use Rattle.po_explore.proofs.stage.Stage.tick.Given as goal

-- the objects before the position are changed, and the others are as they were; what was told of the former is added
abbrev pub invariant-loop-position : goal.invariant-loop-position
invariant-loop-position l =
    record {
      views : views_of l.self ≡ map (λ view. after_operation ada_meaning view 0 (Tick l.time)) (take l.position (views_of l.fn.self)) ++ drop l.position (views_of l.fn.self);
      told : l.news.items ≡ l.fn.news.items ++ flat_map (tick_news l.time) (take l.position (views_of l.fn.self));
      made : l.self.made ≡ l.fn.self.made;
    }
