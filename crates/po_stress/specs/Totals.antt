-- SPDX-License-Identifier: MIT
-- The numbers of calls of a run, and their line (this project's own).
use Rattle.std.specs.Prelude.{codes, ℕ, ◌+◌, ◌==◌, ◌∷◌, List, [], Bool, flat_map, if◌then◌else◌}
use Rattle.std.specs.Fmt.{decimal}
use Rattle.po_stress.specs.declared.totals.Totals.{Totals}

-- the line of these numbers, followed by these words
abbrev pub line_with : List ℕ → Totals → List ℕ
line_with words t =
    flat_map (λ part. part) (codes "issued " ∷ decimal t.issued
    ∷ codes " completed " ∷ decimal t.completed
    ∷ codes " cancelled " ∷ decimal t.cancelled
    ∷ codes " program_error " ∷ decimal t.program_error
    ∷ words ∷ [])

-- whether as many calls ended as were issued
abbrev pub agree : Totals → Bool
agree t = t.issued == t.completed + t.cancelled + t.program_error

-- the words after the numbers, by whether they agree
abbrev pub last_words : Totals → List ℕ
last_words t = if agree t then codes " agreed\n" else codes " differ\n"

-- the line of the totals
abbrev pub totals_line : Totals → List ℕ
totals_line t = line_with (last_words t) t

-- the exit status of the totals: 0 if they agree, otherwise 3
abbrev pub totals_status : Totals → ℕ
totals_status t = if agree t then 0 else 3
