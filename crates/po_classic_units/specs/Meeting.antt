-- SPDX-License-Identifier: MIT
-- What a meeting means: calls on the entry Wait go together, as many as its size.
use Rattle.std.specs.Prelude.{ℕ, ◌≡◌, List, [], ◌∷◌, slice_index, nat_lt, ◌==◌, ◌||◌, Bool, false, Ok, refl, codes, true}
use Rattle.po_unit.specs.declared.decl.Decl.{Decl}
use Rattle.po_unit.specs.Meaning.{Meaning, IsLawful}
use Rattle.po_unit.specs.declared.outcome.Outcome.TheVariants.{Complete}
use Rattle.po_classic_units.specs.Declarations.{public_entry}
use Rattle.po_classic_units.specs.ScriptUnit.{KnownUnit}
use Rattle.po_classic_units.specs.Sizes.{IsSize}

-- how many calls meet, and whether calls are leaving the meeting
pub record MeetingState : Type 0 where
  pub size : ℕ
  pub leaving : Bool

-- the meeting of this size as it is made
abbrev pub new_meeting : ℕ → MeetingState
new_meeting size = record { size = size; leaving = false }

-- A meeting as it is made, of any size that it may have.
pub record IsNewMeeting (s : MeetingState) : Type 0 where
  pub none_leaving : s.leaving ≡ false
  pub sized : IsSize s.size

-- Wait, the only entry, is open while calls are leaving, and when as many calls are queued on it as the meeting's size (9.9)
abbrev pub meeting_barrier : MeetingState → ℕ → Bool
meeting_barrier s queued = s.leaving || (queued == s.size)

-- The body of Wait lets the others leave too.
abbrev pub meeting_meaning : Meaning MeetingState ℕ
meeting_meaning = record {
  entries = λ s. 1;
  procedures = λ s. 0;
  functions = λ s. 1;
  barrier = λ s e c. Ok (meeting_barrier s (slice_index c 0));
  body = λ s e v c. (record s { leaving = nat_lt 0 (slice_index c 0) }, Complete v);
  procedure = λ s op v c. (s, Ok v);
  function = λ s op v c. Ok (slice_index c 0);
  rank = λ e v. 0;
}

-- the declarations of a meeting's entries, in the order of their numbers (9.5.2)
abbrev pub meeting_declarations : List Decl
meeting_declarations = public_entry ∷ []

-- what scripts know of a meeting
abbrev pub meeting_unit : KnownUnit MeetingState
meeting_unit = record {
  names = record {
    unit = codes "meeting";
    is_sized = true;
    entries = codes "Wait" ∷ [];
    procedures = [];
    functions = codes "State" ∷ [];
  };
  opening = new_meeting;
  declarations = λ s. meeting_declarations;
}

pub meeting_lawful : IsLawful meeting_meaning
meeting_lawful = record {
  body_numbers = λ s e v c. record { entries = refl; procedures = refl; functions = refl };
  procedure_numbers = λ s op v c. record { entries = refl; procedures = refl; functions = refl };
  requeues = λ s e v c. tt;
}
