-- SPDX-License-Identifier: MIT
-- The meaning of a unit whose calls are requeued from entry to entry, up to the last.
use Rattle.std.specs.Prelude.{◌≡◌, ℕ, ◌+◌, ◌-◌, ◌<◌, nat_lt, nat_le, ◌==◌, Bool, true, false, Ok, refl, if◌then◌else◌}
use Rattle.std.proofs.Common.{arith}
use Rattle.std.proofs.lemmas.Bool.Decides.{nat_tests}
use Rattle.po_unit.specs.Meaning.{Meaning, IsLawful, LowersRank}
use Rattle.po_unit.specs.declared.outcome.Outcome.{Outcome}
use Rattle.po_unit.specs.declared.outcome.Outcome.TheVariants.{Complete, Requeue}

-- a level
pub record LadderState : Type 0 where
  pub level : ℕ

-- each entry except the last requeues on the next one; only the third does so with abort
abbrev pub ladder_outcome : ℕ → ℕ → Outcome ℕ
ladder_outcome e v = if nat_lt e 3 then Requeue (e + 1) (e == 2) v else Complete v

-- an entry is open if the level is at least its number, and the procedure sets the level
abbrev pub ladder_meaning : Meaning LadderState ℕ
ladder_meaning = record {
  entries = λ s. 4;
  procedures = λ s. 1;
  functions = λ s. 1;
  barrier = λ s e c. Ok (nat_le e s.level);
  body = λ s e v c. (s, ladder_outcome e v);
  procedure = λ s op v c. (record { level = v }, Ok v);
  function = λ s op v c. Ok s.level;
  rank = λ e v. 3 - e;
}

-- each requeue lowers the rank
lowers : (b : Bool) (s : LadderState) (e v : ℕ) → nat_lt e 3 ≡ b → LowersRank ladder_meaning s e v (if b then Requeue (e + 1) (e == 2) v else Complete v)
lowers true s e v is_below = let below : e < 3 = grind (arith, nat_tests) in (omega arith, omega arith)
lowers false s e v is_last = tt

pub ladder_lawful : IsLawful ladder_meaning
ladder_lawful = record {
  body_numbers = λ s e v c. record { entries = refl; procedures = refl; functions = refl };
  procedure_numbers = λ s op v c. record { entries = refl; procedures = refl; functions = refl };
  requeues = λ s e v c. lowers (nat_lt e 3) s e v refl;
}
