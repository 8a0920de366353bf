-- SPDX-License-Identifier: MIT
-- What an order of the callers' commands does to the objects of a scene.
use Rattle.std.specs.Prelude.{ℕ, zero, suc, ◌≡◌, ◌≢◌, ◌⊎◌, ◌<◌, List, [], ◌∷◌, map, length, replicate, Option, Some, None, Bool, true, false, ◌||◌, is_some, option_map, string_bytes, vec_len, find, slice_get, slice_index, slice_set, if◌then◌else◌}
use Rattle.po_engine.specs.Finding.{IsFound}
use Rattle.po_engine.specs.WaitingCalls.{is_of}
use Rattle.po_core.specs.View.{View, opening_view}
use Rattle.po_ada_unit.specs.Object.{Object as AdaObject, ada_meaning}
use Rattle.po_ada_unit.specs.declared.values.Values.{Values}
use Rattle.po_ada_language.specs.declared.operation.Operation.{Operation}
use Rattle.po_ada_language.specs.declared.operation.Operation.TheVariants.{Tick as TickOperation}
use Rattle.po_ada_script.specs.Preconditions.{least}
use Rattle.po_ada_script.specs.Shapes.{declaration}
use Rattle.po_unit.specs.Numbering.{HasTooMany, entry_count}
use Rattle.po_ada_names.specs.declared.names.Operation.{Operation as NamedOperation}
use Rattle.po_scene.specs.declared.scene.Scene.{Scene}
use Rattle.po_scene.specs.declared.scene.SceneObject.{SceneObject}
use Rattle.po_scene.specs.declared.scene.Caller.{Caller}
use Rattle.po_scene.specs.declared.scene.Command.{Command}
use Rattle.po_scene.specs.declared.scene.Action.{Action}
use Rattle.po_scene.specs.declared.scene.Action.TheVariants.{Operate, Abort, Tick}
use Rattle.po_explore.specs.declared.invariants.TheConstants.{INVARIANT}
use Rattle.po_explore.specs.declared.stage.Stage.{Stage}
use Rattle.po_explore.specs.Commands.{value_cells, no_values, after_operation, after_asking, after_abort, function_holds}

-- an object of a scene, in the core's words
abbrev pub ObjectView : Type 0
ObjectView = View AdaObject Values

-- how far a scene is: its objects, and how many commands each caller has made
pub record StageView : Type 0 where
  pub views : List ObjectView
  pub made : List ℕ

-- the objects of a stage, in the core's words
abbrev pub views_of : Stage → List ObjectView
views_of stage = map (λ o. o.core.object) stage.objects.items

-- how far a stage is
abbrev pub stage_of : Stage → StageView
stage_of stage = record { views = views_of stage; made = stage.made.items }

-- The object was just made: it has the data with which the text begins, the text's entries, no call, and the service order and the
-- limit of queues that the scene and the text say.
abbrev pub IsOpening : SceneObject → ObjectView → Type 0
IsOpening named view = view ≡ opening_view (record {
  opening = named.unit;
  shape = map declaration named.names.entries.items;
  order = named.order;
  max_queue = least named.names.max_queue named.max_queue;
  first_number = 1;
  first_place = 0;
})

-- The object can't be made: its text has too many entries, or its program has others than its names.
abbrev pub CantBeMade : SceneObject → Type 0
CantBeMade named =
    HasTooMany (map declaration named.names.entries.items)
    ⊎ (ada_meaning.entries named.unit ≢ entry_count (map declaration named.names.entries.items))

-- An object of the scene can't be made.
abbrev pub CantBegin : Scene → Type 0
CantBegin scene = (position : ℕ) × IsFound CantBeMade (slice_get scene.objects.items position)

-- Each object was just made.
abbrev pub AreOpening : List SceneObject → List ObjectView → Type 0
AreOpening [] [] = Unit
AreOpening [] (view ∷ views) = ⊥
AreOpening (named ∷ rest) [] = ⊥
AreOpening (named ∷ rest) (view ∷ views) = IsOpening named view × AreOpening rest views

-- The objects were just made, and no caller has made a command.
abbrev pub IsBeginning : Scene → StageView → Type 0
IsBeginning scene stage =
    AreOpening scene.objects.items stage.views × (stage.made ≡ replicate (length scene.callers.items) 0)

-- whether a call of this caller waits on one of the objects
abbrev pub waits : List ObjectView → ℕ → Bool
waits [] caller = false
waits (view ∷ views) caller = is_some (find (is_of caller) view.state.waiting) || waits views caller

-- the first number of two, if there is one
abbrev pub first_of : Option ℕ → Option ℕ → Option ℕ
first_of None other = other
first_of (Some number) other = Some number

-- the number of the waiting call of this caller, if one waits
abbrev pub number_in : List ObjectView → ℕ → Option ℕ
number_in [] caller = None
number_in (view ∷ views) caller =
    first_of (option_map (λ x. x.number) (find (is_of caller) view.state.waiting)) (number_in views caller)

-- the command of a caller, if there is the caller, with this position
abbrev pub command_of : Option Caller → ℕ → Option Command
command_of None position = None
command_of (Some caller) position = slice_get caller.commands.items position

-- the command with this position among those of the caller with this one
abbrev pub command_at : Scene → ℕ → ℕ → Option Command
command_at scene caller position = command_of (slice_get scene.callers.items caller) position

-- the latest command of a caller that has made this many
abbrev pub latest_at : Scene → ℕ → ℕ → Option Command
latest_at scene caller zero = None
latest_at scene caller (suc position) = command_at scene caller position

-- the next command of a caller: none while its call waits
abbrev pub next_of : Scene → StageView → ℕ → Option Command
next_of scene stage caller =
    if waits stage.views caller then None else command_at scene caller (slice_index stage.made caller)

-- a list with this element, if there is one, changed at this position
abbrev pub changed_by : Option ObjectView → (ObjectView → ObjectView) → ℕ → List ObjectView → List ObjectView
changed_by None f position views = views
changed_by (Some view) f position views = slice_set views position (f view)

-- a list of objects of which the one at this position, if there is one, is changed
abbrev pub changed : (ObjectView → ObjectView) → ℕ → List ObjectView → List ObjectView
changed f position views = changed_by (slice_get views position) f position views

-- the objects after an operation on one of them, if the scene has that one
abbrev pub operated : Option SceneObject → List ObjectView → ℕ → ℕ → Operation Values → List ObjectView
operated None views object caller operation = views
operated (Some named) views object caller operation =
    changed (λ view. after_asking ada_meaning value_cells named.names.entries.items view caller operation) object views

-- the objects after what a caller asks for
abbrev pub acted : List SceneObject → List ObjectView → ℕ → Action → List ObjectView
acted objects views caller (Operate object operation) = operated (slice_get objects object) views object caller operation
acted objects views caller (Abort other) = map (λ view. after_abort ada_meaning view other) views
acted objects views caller (Tick time) = map (λ view. after_operation ada_meaning view caller (TickOperation time)) views

-- how far the scene is after this command of a caller, if there is one
abbrev pub stepped : Scene → StageView → ℕ → Option Command → StageView
stepped scene stage caller None = stage
stepped scene stage caller (Some command) = record {
  views = acted scene.objects.items stage.views caller command.action;
  made = slice_set stage.made caller (suc (slice_index stage.made caller));
}

-- how far it is after the next command of a caller
abbrev pub after_command : Scene → StageView → ℕ → StageView
after_command scene stage caller = stepped scene stage caller (next_of scene stage caller)

-- how far it is after the next commands of these callers, in order
abbrev pub after_order : Scene → StageView → List ℕ → StageView
after_order scene stage [] = stage
after_order scene stage (caller ∷ rest) = after_order scene (after_command scene stage caller) rest

-- No caller can make a command.
abbrev pub IsOver : Scene → StageView → Type 0
IsOver scene stage = (caller : ℕ) → caller < length scene.callers.items → next_of scene stage caller ≡ None

-- A call of some caller waits.
abbrev pub SomeWaits : Scene → StageView → Type 0
SomeWaits scene stage = (caller : ℕ) × (caller < length scene.callers.items) × (waits stage.views caller ≡ true)

-- No caller can make a command, and some wait.
abbrev pub IsStuck : Scene → StageView → Type 0
IsStuck scene stage = IsOver scene stage × SomeWaits scene stage

-- The function is an invariant: its name is Invariant, and it has no parameters.
abbrev pub IsInvariant : Option NamedOperation → Type 0
IsInvariant None = ⊥
IsInvariant (Some named) = (string_bytes named.name ≡ INVARIANT.now) × (vec_len named.parameters ≡ 0)

-- There are these names and this object, and the function with this number is its invariant, which is False or raises an exception.
abbrev pub IsBrokenAt : Option SceneObject → Option ObjectView → ℕ → Type 0
IsBrokenAt (Some named) (Some view) function =
    IsInvariant (slice_get named.names.functions.items function)
    × (function_holds ada_meaning value_cells view function no_values ≡ false)
IsBrokenAt (Some named) None function = ⊥
IsBrokenAt None view function = ⊥

-- The object with this position has this function as its invariant, and that is False or raises an exception.
abbrev pub IsBroken : Scene → List ObjectView → ℕ → ℕ → Type 0
IsBroken scene views object function =
    IsBrokenAt (slice_get scene.objects.items object) (slice_get views object) function
