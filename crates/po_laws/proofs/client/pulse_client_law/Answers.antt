use Rattle.std.proofs.Common.{ℕ, ◌==◌, Bool, true, false, refl, if◌then◌else◌}
use Rattle.std.specs.List.{slice_index}
use Rattle.po_unit.specs.declared.outcome.Outcome.{Outcome}
use Rattle.po_unit.specs.declared.outcome.Outcome.TheVariants.{Complete, Requeue}
use Rattle.po_classic_units.specs.Pulse.{PulseState}
use Rattle.po_laws.specs.Client.{KeepsValue}
use Rattle.po_laws.proofs.client.pulse_client_law.Goals as goal

-- a pulse requeues a call as it is
keeps : (waits signals none : Bool) (p : PulseState) (v : ℕ)
    → KeepsValue v (if◌then◌else◌ {A = PulseState × Outcome ℕ} waits (p, Complete v) (if signals then (if none then (p, Complete v) else (record { occurred = true }, Requeue 2 false v)) else (record { occurred = false }, Complete v))).1
keeps true signals none p v = tt
keeps false true true p v = tt
keeps false true false p v = refl
keeps false false none p v = tt

pub client_law-requires : goal.client_law-requires
client_law-requires c = λ p e v counts. keeps (e == 0) (e == 1) (slice_index counts 0 == 0) p v
