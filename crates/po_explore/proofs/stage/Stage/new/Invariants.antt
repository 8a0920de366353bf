use Rattle.std.proofs.Common.{map, take}
use Rattle.po_explore.specs.Scenes.{AreOpening}
use Rattle.po_explore.proofs.stage.Stage.new.Given as goal

-- each object so far was just made of its part of the scene
abbrev pub invariant-loop-named : goal.invariant-loop-named
invariant-loop-named l = AreOpening (take l.named-index l.scene.objects.items) (map (λ o. o.core.object) l.objects.items)
