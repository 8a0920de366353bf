-- SPDX-License-Identifier: MIT
-- What a unit means, and the laws that its meaning meets.
use Rattle.std.specs.Prelude.{ℕ, ◌≡◌, ◌<◌, List, Bool, Result}
use Rattle.po_unit.specs.declared.outcome.Outcome.{Outcome}
use Rattle.po_unit.specs.declared.outcome.Outcome.TheVariants.{Complete, Raise, Requeue}

-- The operations of a unit as functions. S are the states of its data, and V the values of a call's parameter. Each list of
-- numbers is the counts: for each entry, how many calls are queued on it (9.9).
pub record Meaning (S V : Type 0) : Type 0 where
  -- how many entries, procedures and functions there are (9.4)
  pub entries : S → ℕ
  pub procedures : S → ℕ
  pub functions : S → ℕ
  -- whether the entry is open, or the number of the exception that its barrier propagates (9.5.2, 9.5.3)
  pub barrier : S → ℕ → List ℕ → Result Bool ℕ
  -- the state that the entry's body leaves, and how it ends (9.5.2)
  pub body : S → ℕ → V → List ℕ → S × Outcome V
  -- the state that the procedure leaves, and its reply (9.5.1)
  pub procedure : S → ℕ → V → List ℕ → S × Result V ℕ
  -- the reply of the function, which leaves the state as it is (9.5.1)
  pub function : S → ℕ → V → List ℕ → Result V ℕ
  -- how often a call with this value on this entry may be requeued at most (this project's own)
  pub rank : ℕ → V → ℕ

-- The two states have the same numbers of entries, procedures and functions.
pub record SameNumbers {S V : Type 0} (m : Meaning S V) (old new : S) : Type 0 where
  pub entries : m.entries new ≡ m.entries old
  pub procedures : m.procedures new ≡ m.procedures old
  pub functions : m.functions new ≡ m.functions old

-- A requeue names an entry and lowers the rank (9.5.4; the rank is this project's own).
abbrev pub LowersRank : {S V : Type 0} → Meaning S V → S → ℕ → V → Outcome V → Type 0
LowersRank m u e v (Complete w) = Unit {0}
LowersRank m u e v (Raise k) = Unit {0}
LowersRank m u e v (Requeue target with_abort w) = (target < m.entries u) × (m.rank target w < m.rank e v)

-- The laws of a unit.
pub record IsLawful {S V : Type 0} (m : Meaning S V) : Type 0 where
  pub body_numbers : (u : S) (e : ℕ) (v : V) (c : List ℕ) → SameNumbers m u (m.body u e v c).0
  pub procedure_numbers : (u : S) (op : ℕ) (v : V) (c : List ℕ) → SameNumbers m u (m.procedure u op v c).0
  pub requeues : (u : S) (e : ℕ) (v : V) (c : List ℕ) → LowersRank m u e v (m.body u e v c).1
