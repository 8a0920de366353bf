-- SPDX-License-Identifier: MIT
-- What a line says: a command, nothing, or what is wrong with it.
use Rattle.std.specs.Prelude.{codes, ℕ, ℤ, Bool, true, false, ◌&&◌, nat_le, ◌==◌, List, [], ◌∷◌, Option, Some, None, Result, Ok, Err, if◌then◌else◌}
use Rattle.std.specs.Option.{option_map, option_and_then}
use Rattle.std.specs.Str.{bytes_eq}
use Rattle.po_language.specs.Words.{words, number_of, is_name, entry_parts}
use Rattle.po_classic_units.specs.Names.{number_of_name}
use Rattle.po_classic_units.specs.ScriptUnit.{KnownNames}
use Rattle.po_classic_units.specs.Sizes.{IsSizeWhere}
use Rattle.po_language.specs.Units.{UnitList, unit_number, names_at}
use Rattle.po_unit.specs.declared.decl.EntryRef.{EntryRef}
use Rattle.po_calls.specs.declared.call.Deadline.{Deadline}
use Rattle.po_calls.specs.declared.call.Deadline.TheVariants.{Never, At}
use Rattle.po_queues.specs.declared.order.Order.{Order}
use Rattle.po_queues.specs.declared.order.Order.TheVariants.{Textual, Oldest, Rotating}
use Rattle.po_language.specs.declared.command.UnitChoice.{UnitChoice}
use Rattle.po_language.specs.declared.command.Beginning.{Beginning}
use Rattle.po_language.specs.declared.command.Command.{Command}
use Rattle.po_language.specs.declared.command.Command.TheVariants.{Begin, Operate}
use Rattle.po_language.specs.declared.command.Operation.{Operation}
use Rattle.po_language.specs.declared.command.Operation.TheVariants.{Call as CallOperation, Procedure, Function, Cancel as CancelOperation, Tick as TickOperation, Finalize, Show as ShowOperation}
use Rattle.po_language.specs.declared.command.FaultKind.{FaultKind}
use Rattle.po_language.specs.declared.command.FaultKind.TheVariants.{UnknownCommand, NoUnit, SecondUnit, BadUnit, BadArgument}
use Rattle.po_language.specs.declared.parse.Verb.{Verb}
use Rattle.po_language.specs.declared.parse.Verb.TheVariants.{Begin as BeginVerb, Call, Cond, Timed, Proc, Func, Cancel, Tick, Final, Show}

-- whether the word begins with `#`
abbrev pub is_comment : List ℕ → Bool
is_comment [] = false
is_comment (b ∷ bs) = b == 35

-- what the first word of a line asks for
abbrev pub verb_of : List ℕ → Option Verb
verb_of word =
    if bytes_eq word (codes "unit") then Some BeginVerb
    else if bytes_eq word (codes "call") then Some Call
    else if bytes_eq word (codes "cond") then Some Cond
    else if bytes_eq word (codes "timed") then Some Timed
    else if bytes_eq word (codes "proc") then Some Proc
    else if bytes_eq word (codes "func") then Some Func
    else if bytes_eq word (codes "cancel") then Some Cancel
    else if bytes_eq word (codes "tick") then Some Tick
    else if bytes_eq word (codes "final") then Some Final
    else if bytes_eq word (codes "show") then Some Show
    else None

-- ---- the words after `unit`

-- The unit's size is one that it may have, if it has one.
abbrev pub HasSize : UnitList → UnitChoice → Type 0
HasSize units unit = IsSizeWhere (names_at units unit.number).is_sized unit.size

-- If the command begins a unit, its size is one that it may have.
abbrev pub CanBegin : UnitList → Command → Type 0
CanBegin units (Begin beginning) = HasSize units beginning.unit
CanBegin units (Operate operation) = Unit {0}

-- The command begins no unit.
abbrev pub IsOperation : Command → Type 0
IsOperation (Begin beginning) = ⊥
IsOperation (Operate operation) = Unit {0}

-- the number, if it is a size
abbrev pub size_within : Option ℕ → Option ℕ
size_within None = None
size_within (Some n) = if nat_le 1 n && nat_le n 1024 then Some n else None

abbrev pub size_of : List ℕ → Option ℕ
size_of word = size_within (number_of word)

-- the unit of this number and the words after it; if it has a size, the first word is the size
abbrev pub unit_with : ℕ → Bool → List (List ℕ) → Option (UnitChoice × List (List ℕ))
unit_with number false ws = Some (record { number = number; size = 0 }, ws)
unit_with number true [] = None
unit_with number true (w ∷ ws) = option_map (λ size. (record { number = number; size = size }, ws)) (size_of w)

abbrev pub unit_by : UnitList → Option ℕ → List (List ℕ) → Option (UnitChoice × List (List ℕ))
unit_by units None ws = None
unit_by units (Some number) ws = unit_with number (names_at units number).is_sized ws

-- the unit that the words begin with, and the words after it
abbrev pub unit_of : UnitList → List (List ℕ) → Option (UnitChoice × List (List ℕ))
unit_of units [] = None
unit_of units (name ∷ ws) = unit_by units (unit_number units name) ws

-- the service order of this name
abbrev pub order_of : List ℕ → Option Order
order_of word =
    if bytes_eq word (codes "textual") then Some Textual
    else if bytes_eq word (codes "oldest") then Some Oldest
    else if bytes_eq word (codes "rotating") then Some Rotating
    else None

-- the order, or the textual one before a word that names none
abbrev pub order_by : Option Order → List ℕ → List (List ℕ) → Order × List (List ℕ)
order_by (Some order) w ws = (order, ws)
order_by None w ws = (Textual, w ∷ ws)

-- the service order, textual if none is named, and the words after it
abbrev pub with_order : List (List ℕ) → Order × List (List ℕ)
with_order [] = (Textual, [])
with_order (w ∷ ws) = order_by (order_of w) w ws

-- the greatest queue length that the words state, or none if there are no words
abbrev pub limit_of : List (List ℕ) → Option (Option ℕ)
limit_of [] = Some None
limit_of (w ∷ []) = None
limit_of (w ∷ most ∷ []) = if bytes_eq w (codes "max") then option_map (λ n. Some n) (number_of most) else None
limit_of (w ∷ most ∷ x ∷ xs) = None

-- what begins, given the service order and the words after it
abbrev pub beginning_with : UnitChoice → Order × List (List ℕ) → Option Beginning
beginning_with unit ordered =
    option_map (λ limit. record { unit = unit; order = ordered.0; max_queue = limit }) (limit_of ordered.1)

abbrev pub beginning_by : Option (UnitChoice × List (List ℕ)) → Option Beginning
beginning_by None = None
beginning_by (Some chosen) = beginning_with chosen.0 (with_order chosen.1)

-- what begins: a unit, with its size if it has one; perhaps a service order; perhaps `max` and a number; and nothing else
abbrev pub beginning_of : UnitList → List (List ℕ) → Option Beginning
beginning_of units ws = beginning_by (unit_of units ws)

-- ---- the words after the other commands

-- the unit's entry of that name
abbrev pub entry_at : KnownNames → List ℕ × Option ℤ → EntryRef
entry_at names parts = record { declaration = number_of_name names.entries parts.0; index = parts.1 }

-- the unit's entry that the word names
abbrev pub entry_of : KnownNames → List ℕ → Option EntryRef
entry_of names word = option_map (entry_at names) (entry_parts word)

-- the word, if it is the only one
abbrev pub only_of : List (List ℕ) → Option (List ℕ)
only_of (w ∷ []) = Some w
only_of other = None

-- the two words, if there are just two
abbrev pub pair_of : List (List ℕ) → Option (List ℕ × List ℕ)
pair_of (first ∷ second ∷ []) = Some (first, second)
pair_of other = None

abbrev pub call_with : Deadline → Option EntryRef → Option ℕ → Option Operation
call_with deadline (Some entry) (Some value) = Some (CallOperation entry value deadline)
call_with deadline (Some entry) None = None
call_with deadline None value = None

abbrev pub call_by : KnownNames → Deadline → Option (List ℕ × List ℕ) → Option Operation
call_by names deadline None = None
call_by names deadline (Some p) = call_with deadline (entry_of names p.0) (number_of p.1)

-- a call: an entry and a value, and nothing else
abbrev pub call_of : KnownNames → Deadline → List (List ℕ) → Option Operation
call_of names deadline ws = call_by names deadline (pair_of ws)

abbrev pub timed_with : KnownNames → Option ℕ → List (List ℕ) → Option Operation
timed_with names None ws = None
timed_with names (Some time) ws = call_of names (At time) ws

-- a timed call: a deadline, an entry and a value, and nothing else
abbrev pub timed_of : KnownNames → List (List ℕ) → Option Operation
timed_of names [] = None
timed_of names (time ∷ ws) = timed_with names (number_of time) ws

-- a number, and nothing else
abbrev pub number_alone : List (List ℕ) → Option ℕ
number_alone ws = option_and_then number_of (only_of ws)

-- a name and a number, and nothing else
abbrev pub name_and_value : List (List ℕ) → Option (List ℕ × ℕ)
name_and_value [] = None
name_and_value (name ∷ ws) = if is_name name then option_map (λ value. (name, value)) (number_alone ws) else None

-- a procedure and a value, and nothing else; an unknown procedure has the number after the last
abbrev pub procedure_of : KnownNames → List (List ℕ) → Option Operation
procedure_of names ws = option_map (λ p. Procedure (number_of_name names.procedures p.0) p.1) (name_and_value ws)

-- a function and a value, and nothing else; an unknown function has the number after the last
abbrev pub function_of : KnownNames → List (List ℕ) → Option Operation
function_of names ws = option_map (λ p. Function (number_of_name names.functions p.0) p.1) (name_and_value ws)

-- the operation, if no words follow
abbrev pub alone : Operation → List (List ℕ) → Option Operation
alone operation [] = Some operation
alone operation (w ∷ ws) = None

-- the operation that the words ask for, if the first word of the line isn't `unit`
abbrev pub operation_of : KnownNames → Verb → List (List ℕ) → Option Operation
operation_of names BeginVerb ws = None
operation_of names Call ws = call_of names Never ws
operation_of names Cond ws = call_of names (At 0) ws
operation_of names Timed ws = timed_of names ws
operation_of names Proc ws = procedure_of names ws
operation_of names Func ws = function_of names ws
operation_of names Cancel ws = option_map (λ n. CancelOperation n) (number_alone ws)
operation_of names Tick ws = option_map (λ time. TickOperation time) (number_alone ws)
operation_of names Final ws = alone Finalize ws
operation_of names Show ws = alone ShowOperation ws

-- ---- the command of a line

abbrev pub begin_with : Option Beginning → Result Command FaultKind
begin_with (Some beginning) = Ok (Begin beginning)
begin_with None = Err BadUnit

abbrev pub operate_with : Option Operation → Result Command FaultKind
operate_with (Some operation) = Ok (Operate operation)
operate_with None = Err BadArgument

-- a line's command before a unit is begun
abbrev pub first_command : UnitList → Verb → List (List ℕ) → Result Command FaultKind
first_command units BeginVerb ws = begin_with (beginning_of units ws)
first_command units other ws = Err NoUnit

-- a line's command once the unit is begun
abbrev pub later_command : KnownNames → Verb → List (List ℕ) → Result Command FaultKind
later_command names BeginVerb ws = Err SecondUnit
later_command names verb ws = operate_with (operation_of names verb ws)

abbrev pub some_command : Result Command FaultKind → Result (Option Command) FaultKind
some_command (Ok c) = Ok (Some c)
some_command (Err kind) = Err kind

-- the command of a first word, if it is known, and of the words after it
abbrev pub command_by : UnitList → Option UnitChoice → Option Verb → List (List ℕ) → Result (Option Command) FaultKind
command_by units begun None ws = Err UnknownCommand
command_by units None (Some verb) ws = some_command (first_command units verb ws)
command_by units (Some unit) (Some verb) ws = some_command (later_command (names_at units unit.number) verb ws)

-- the same; a line without words, or whose first word begins with `#`, is skipped
abbrev pub command_with : UnitList → Option UnitChoice → List (List ℕ) → Result (Option Command) FaultKind
command_with units begun [] = Ok None
command_with units begun (w ∷ ws) = if is_comment w then Ok None else command_by units begun (verb_of w) ws

-- the line's command, if it has one; `begun` is the unit that an earlier line began
abbrev pub command_of : UnitList → Option UnitChoice → List ℕ → Result (Option Command) FaultKind
command_of units begun line = command_with units begun (words line)

-- names of no entry, procedure or function
abbrev pub no_names : KnownNames
no_names = record { unit = []; is_sized = false; entries = []; procedures = []; functions = [] }

-- a line's command by its form alone
abbrev pub form_command : UnitList → Verb → List (List ℕ) → Result Command FaultKind
form_command units BeginVerb ws = first_command units BeginVerb ws
form_command units verb ws = later_command no_names verb ws

abbrev pub form_by : UnitList → Option Verb → List (List ℕ) → Result (Option Command) FaultKind
form_by units None ws = Err UnknownCommand
form_by units (Some verb) ws = some_command (form_command units verb ws)

abbrev pub form_with : UnitList → List (List ℕ) → Result (Option Command) FaultKind
form_with units [] = Ok None
form_with units (w ∷ ws) = if is_comment w then Ok None else form_by units (verb_of w) ws

-- the line's command by its form alone, if it has one: it isn't known which unit was begun, nor any name of its entries,
-- procedures and functions
abbrev pub form_of : UnitList → List ℕ → Result (Option Command) FaultKind
form_of units line = form_with units (words line)
