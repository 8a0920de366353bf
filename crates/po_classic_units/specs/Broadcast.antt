-- SPDX-License-Identifier: MIT
-- What a broadcast means: the procedure Send gives a message to each call that waits on the entry Receive.
use Rattle.std.specs.Prelude.{ℕ, List, [], ◌∷◌, slice_index, nat_lt, ◌==◌, Bool, true, false, Ok, refl, codes, if◌then◌else◌}
use Rattle.po_unit.specs.declared.decl.Decl.{Decl}
use Rattle.po_unit.specs.Meaning.{Meaning, IsLawful}
use Rattle.po_unit.specs.declared.outcome.Outcome.{Outcome}
use Rattle.po_unit.specs.declared.outcome.Outcome.TheVariants.{Complete}
use Rattle.po_classic_units.specs.Declarations.{public_entry}
use Rattle.po_classic_units.specs.ScriptUnit.{KnownUnit}

-- whether a message is being given to the calls that waited for it, and the last message
pub record BroadcastState : Type 0 where
  pub arrived : Bool
  pub message : ℕ

-- the broadcast as it is made
abbrev pub new_broadcast : BroadcastState
new_broadcast = record { arrived = false; message = 0 }

-- Receive, the only entry, completes with the message; the last call that waits for it closes the entry (9.9)
abbrev pub receive : BroadcastState → ℕ → BroadcastState × Outcome ℕ
receive b queued = (if queued == 0 then record b { arrived = false } else b, Complete b.message)

-- Send replaces the message, and opens Receive if a call waits there (9.9)
abbrev pub send : BroadcastState → ℕ → ℕ → BroadcastState
send b v queued =
    if nat_lt 0 queued
    then record { arrived = true; message = v }
    else record b { message = v }

abbrev pub broadcast_meaning : Meaning BroadcastState ℕ
broadcast_meaning = record {
  entries = λ b. 1;
  procedures = λ b. 1;
  functions = λ b. 1;
  barrier = λ b e c. Ok b.arrived;
  body = λ b e v c. receive b (slice_index c 0);
  procedure = λ b op v c. (send b v (slice_index c 0), Ok v);
  function = λ b op v c. Ok b.message;
  rank = λ e v. 0;
}

-- the declarations of a broadcast's entries, in the order of their numbers (9.5.2)
abbrev pub broadcast_declarations : List Decl
broadcast_declarations = public_entry ∷ []

-- what scripts know of a broadcast
abbrev pub broadcast_unit : KnownUnit BroadcastState
broadcast_unit = record {
  names = record {
    unit = codes "broadcast";
    is_sized = false;
    entries = codes "Receive" ∷ [];
    procedures = codes "Send" ∷ [];
    functions = codes "State" ∷ [];
  };
  opening = λ size. new_broadcast;
  declarations = λ b. broadcast_declarations;
}

pub broadcast_lawful : IsLawful broadcast_meaning
broadcast_lawful = record {
  body_numbers = λ b e v c. record { entries = refl; procedures = refl; functions = refl };
  procedure_numbers = λ b op v c. record { entries = refl; procedures = refl; functions = refl };
  requeues = λ b e v c. tt;
}
