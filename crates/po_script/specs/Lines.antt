-- SPDX-License-Identifier: MIT
-- The lines that answer commands. Each ends with the byte 10, and numbers are decimal without leading zeros.
use Rattle.std.specs.Prelude.{codes, ℕ, ℤ, List, [], ◌∷◌, ◌++◌, flat_map, unwrap_or, slice_get, Result, Ok, Err, Option, Some, None}
use Rattle.std.specs.Fmt.{decimal, signed_decimal}
use Rattle.po_unit.specs.declared.decl.EntryRef.{EntryRef}
use Rattle.po_engine.specs.declared.ended.Ended.{Ended}
use Rattle.po_calls.specs.declared.end.End.{End}
use Rattle.po_calls.specs.declared.end.End.TheVariants.{Completed, Raised, Cancelled, ProgramError}
use Rattle.po_core.specs.declared.refusal.Refusal.{Refusal}
use Rattle.po_core.specs.declared.attempt.Attempt.{Attempt}
use Rattle.po_core.specs.declared.attempt.Attempt.TheVariants.{Kept, Cancelled as CallCancelled}
use Rattle.po_core.specs.RefusalNumbers.{refusal_number}

-- the line of call n, which ended in this way
abbrev pub end_line : ℕ → End ℕ → List ℕ
end_line n (Completed v) = decimal n ++ codes " done " ++ decimal v ++ 10 ∷ []
end_line n (Raised k) = decimal n ++ codes " raised " ++ decimal k ++ 10 ∷ []
end_line n Cancelled = decimal n ++ codes " cancelled" ++ 10 ∷ []
end_line n ProgramError = decimal n ++ codes " program_error" ++ 10 ∷ []

-- the line of a call that has ended
abbrev pub ended_line : Ended ℕ → List ℕ
ended_line x = end_line x.number x.end

-- a line for each of the calls
abbrev pub ended_lines : List (Ended ℕ) → List ℕ
ended_lines xs = flat_map ended_line xs

-- the line of a call that was accepted
abbrev pub ticket_line : ℕ → List ℕ
ticket_line n = codes "#" ++ decimal n ++ 10 ∷ []

-- the line of a command that was refused
abbrev pub refused_line : Refusal → List ℕ
refused_line r = codes "refused " ++ decimal (refusal_number r) ++ 10 ∷ []

-- the line of an exception that a procedure or a function propagates
abbrev pub raised_line : ℕ → List ℕ
raised_line k = codes "raised " ++ decimal k ++ 10 ∷ []

-- the line of a procedure's reply
abbrev pub reply_line : Result ℕ ℕ → List ℕ
reply_line (Ok v) = codes "done " ++ decimal v ++ 10 ∷ []
reply_line (Err k) = raised_line k

-- the line of a function's reply
abbrev pub value_line : Result ℕ ℕ → List ℕ
value_line (Ok v) = codes "value " ++ decimal v ++ 10 ∷ []
value_line (Err k) = raised_line k

-- the line of an attempt to cancel a call: none if the call was cancelled, since it has a line as a call that ended
abbrev pub attempt_line : Attempt → List ℕ
attempt_line Kept = codes "kept" ++ 10 ∷ []
attempt_line CallCancelled = []

-- the line of the clock
abbrev pub clock_line : ℕ → List ℕ
clock_line clock = codes "clock " ++ decimal clock ++ 10 ∷ []

-- the line of the number that the next call gets
abbrev pub next_line : ℕ → List ℕ
next_line next = codes "next " ++ decimal next ++ 10 ∷ []

-- the line of a finalization
abbrev pub final_line : List ℕ
final_line = codes "final" ++ 10 ∷ []

-- the index of a family's member, in parentheses
abbrev pub index_text : Option ℤ → List ℕ
index_text None = []
index_text (Some index) = codes "(" ++ signed_decimal index ++ codes ")"

-- the name of the declaration with this number
abbrev pub name_at : List (List ℕ) → ℕ → List ℕ
name_at names number = unwrap_or (slice_get names number) []

-- the line of an entry with `count` queued calls (9.9)
abbrev pub count_line : List (List ℕ) → EntryRef → ℕ → List ℕ
count_line names reference count =
    name_at names reference.declaration ++ index_text reference.index ++ codes " " ++ decimal count ++ 10 ∷ []
