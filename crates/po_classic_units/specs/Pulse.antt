-- SPDX-License-Identifier: MIT
-- What a pulse means: a call on the entry Signal releases all calls that wait on the entry Wait.
use Rattle.std.specs.Prelude.{ℕ, ◌≡◌, List, [], ◌∷◌, slice_index, ◌==◌, Bool, true, false, Ok, refl, codes, if◌then◌else◌}
use Rattle.std.proofs.Common.{arith}
use Rattle.po_unit.specs.declared.decl.Decl.{Decl}
use Rattle.po_unit.specs.Meaning.{Meaning, IsLawful, LowersRank}
use Rattle.po_unit.specs.declared.outcome.Outcome.{Outcome}
use Rattle.po_unit.specs.declared.outcome.Outcome.TheVariants.{Complete, Requeue}
use Rattle.po_classic_units.specs.Declarations.{public_entry, private_entry}
use Rattle.po_classic_units.specs.ScriptUnit.{KnownUnit}

-- whether a pulse has occurred and some of its calls haven't gone yet
pub record PulseState : Type 0 where
  pub occurred : Bool

-- the pulse as it is made
abbrev pub new_pulse : PulseState
new_pulse = record { occurred = false }

-- A pulse as it is made.
pub record IsNewPulse (p : PulseState) : Type 0 where
  pub none_occurred : p.occurred ≡ false

-- Wait, the entry 0, is open once the pulse has occurred; Signal, the entry 1, always; and Reset, the entry 2, when no call
-- is queued on Wait (9.9)
abbrev pub pulse_barrier : PulseState → ℕ → ℕ → Bool
pulse_barrier p e waiting = if e == 0 then p.occurred else (if e == 1 then true else waiting == 0)

-- if calls wait, the pulse occurs, and the Signal is requeued on Reset without abort (9.5.4); otherwise it completes
abbrev pub signal : PulseState → ℕ → ℕ → PulseState × Outcome ℕ
signal p v waiting = if waiting == 0 then (p, Complete v) else (record { occurred = true }, Requeue 2 false v)

-- Wait completes, and so does Reset, after which the pulse is over
abbrev pub pulse_body : PulseState → ℕ → ℕ → ℕ → PulseState × Outcome ℕ
pulse_body p e v waiting =
    if e == 0 then (p, Complete v)
    else (if e == 1 then signal p v waiting else (record { occurred = false }, Complete v))

-- how many requeues may follow
abbrev pub pulse_rank : ℕ → ℕ
pulse_rank e = if e == 1 then 1 else 0

abbrev pub pulse_meaning : Meaning PulseState ℕ
pulse_meaning = record {
  entries = λ p. 3;
  procedures = λ p. 0;
  functions = λ p. 1;
  barrier = λ p e c. Ok (pulse_barrier p e (slice_index c 0));
  body = λ p e v c. pulse_body p e v (slice_index c 0);
  procedure = λ p op v c. (p, Ok v);
  function = λ p op v c. Ok (if p.occurred then 1 else 0);
  rank = λ e v. pulse_rank e;
}

-- the declarations of a pulse's entries, in the order of their numbers (9.5.2)
abbrev pub pulse_declarations : List Decl
pulse_declarations = public_entry ∷ public_entry ∷ private_entry ∷ []

-- what scripts know of a pulse
abbrev pub pulse_unit : KnownUnit PulseState
pulse_unit = record {
  names = record {
    unit = codes "pulse";
    is_sized = false;
    entries = codes "Wait" ∷ codes "Signal" ∷ codes "Reset" ∷ [];
    procedures = [];
    functions = codes "State" ∷ [];
  };
  opening = λ size. new_pulse;
  declarations = λ p. pulse_declarations;
}

-- the requeue on Reset lowers the rank
lowers : (wait signals none : Bool) (p : PulseState) (e v : ℕ) → (e == 1) ≡ signals → LowersRank pulse_meaning p e v (if◌then◌else◌ {A = PulseState × Outcome ℕ} wait (p, Complete v) (if signals then (if none then (p, Complete v) else (record { occurred = true }, Requeue 2 false v)) else (record { occurred = false }, Complete v))).1
lowers true signals none p e v is = tt
lowers false true true p e v is = tt
lowers false true false p e v is = rw is (omega arith, omega arith)
lowers false false none p e v is = tt

pub pulse_lawful : IsLawful pulse_meaning
pulse_lawful = record {
  body_numbers = λ p e v c. record { entries = refl; procedures = refl; functions = refl };
  procedure_numbers = λ p op v c. record { entries = refl; procedures = refl; functions = refl };
  requeues = λ p e v c. lowers (e == 0) (e == 1) (slice_index c 0 == 0) p e v refl;
}
