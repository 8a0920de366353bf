-- SPDX-License-Identifier: MIT
-- How often a source was read.
use Rattle.std.specs.Prelude.{ℕ, ◌+◌, ◌^◌, ◌≡◌, ◌≤◌, ⊤, Option, Some, None}

-- This many more reads gave bytes, if the source says how many did. It says so as long as a u64 holds the number; once it
-- doesn't, it never does again.
abbrev pub CountsMore : Option ℕ → Option ℕ → ℕ → Type 0
CountsMore None None more = ⊤
CountsMore None (Some new) more = ⊥
CountsMore (Some old) None more = 2 ^ 64 ≤ old + more
CountsMore (Some old) (Some new) more = new ≡ old + more
