use Rattle.std.proofs.Common.{◌≡◌, map, drop}
use Rattle.po_explore.specs.Scenes.{number_in}
use Rattle.po_explore.proofs.stage.Stage.waiting_number.Given as goal

-- none of the objects before the index has a call of the caller
abbrev pub invariant-loop-object : goal.invariant-loop-object
invariant-loop-object l =
    number_in (map (λ o. o.core.object) l.self.objects.items) l.caller
    ≡ number_in (map (λ o. o.core.object) (drop l.object-index l.self.objects.items)) l.caller
