-- SPDX-License-Identifier: MIT
-- The passes of an object's seats (this project's own).
use Rattle.std.specs.Prelude.{ℕ, ◌≡◌, ◌≢◌, ◌<◌, ◌==◌, Bool, List, [], ◌∷◌, length, slice_get, slice_index, count_by, filter, find, Some}
use Rattle.po_receipts.specs.Passes.{PassView, fresh}

module _ {V : Type 0} where
  -- whether the pass is of this seat
  abbrev pub is_at : ℕ → PassView V → Bool
  is_at seat pass = pass.seat == seat

  -- One fresh pass for each seat, from 0 on, in order.
  abbrev pub AreFresh : ℕ → List (PassView V) → Type 0
  AreFresh seats passes = (length passes ≡ seats) × ((s : ℕ) → s < seats → slice_get passes s ≡ Some (fresh s))

  -- Each seat has exactly one of the passes.
  abbrev pub OneEach : ℕ → List (PassView V) → Type 0
  OneEach seats passes = (s : ℕ) → s < seats → count_by (is_at s) passes ≡ 1

  -- This is the lowest seat that doesn't have exactly one of the passes.
  pub record IsMissing (seats : ℕ) (passes : List (PassView V)) (s : ℕ) : Type 0 where
    pub seat : s < seats
    pub missing : count_by (is_at s) passes ≢ 1
    pub lowest : OneEach s passes

  -- These are the passes by rising seat: at each seat's place its own pass, unchanged.
  abbrev pub AreBySeat : ℕ → List (PassView V) → List (PassView V) → Type 0
  AreBySeat seats passes sorted = (length sorted ≡ seats) × ((s : ℕ) → s < seats → slice_get sorted s ≡ find (is_at s) passes)

  -- Each count is how many of the passes are of its seat.
  abbrev pub AreCounts : ℕ → List (PassView V) → List ℕ → Type 0
  AreCounts seats passes counts = (length counts ≡ seats) × ((s : ℕ) → s < seats → slice_index counts s ≡ count_by (is_at s) passes)

  -- If exactly one of the passes is of a seat, it is at that seat's place.
  abbrev pub ArePlaced : ℕ → List (PassView V) → List (PassView V) → Type 0
  ArePlaced seats passes sorted =
      (s : ℕ) (pass : PassView V) → s < seats → filter (is_at s) passes ≡ pass ∷ [] → slice_get sorted s ≡ Some pass
