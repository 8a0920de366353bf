-- SPDX-License-Identifier: MIT
-- What a command brings about for callers, in the core's words.
use Rattle.std.specs.Prelude.{ℕ, List, [], ◌∷◌, map, flat_map, drop, length, slice_get, Option, Some, None, Ok, Err}
use Rattle.po_calls.specs.declared.end.End.TheVariants.{Completed as CompletedEnd, Raised as RaisedEnd, Cancelled as CancelledEnd, ProgramError as ProgramErrorEnd}
use Rattle.po_engine.specs.declared.ended.Ended.{Ended}
use Rattle.po_engine.specs.ObjectState.{counts_in}
use Rattle.po_core.specs.declared.refusal.Refusal.{Refusal}
use Rattle.po_core.specs.declared.refusal.Refusal.TheVariants.{Finalized}
use Rattle.po_core.specs.Commands.{reply_of}
use Rattle.po_ada_unit.specs.Object.{ada_meaning}
use Rattle.po_ada_unit.specs.declared.values.Values.{Values}
use Rattle.po_ada_names.specs.declared.names.Entry.{Entry}
use Rattle.po_ada_language.specs.declared.operation.Operation.{Operation}
use Rattle.po_ada_language.specs.declared.operation.Operation.TheVariants.{Procedure, Function, Cancel, Tick as TickOperation, Show}
use Rattle.po_ada_script.specs.Operations.{refusal_of}
use Rattle.po_ada_script.specs.Preconditions.{failed_precondition}
use Rattle.po_scene.specs.declared.scene.Scene.{Scene}
use Rattle.po_scene.specs.declared.scene.SceneObject.{SceneObject}
use Rattle.po_scene.specs.declared.scene.Command.{Command}
use Rattle.po_scene.specs.declared.scene.Action.{Action}
use Rattle.po_scene.specs.declared.scene.Action.TheVariants.{Operate, Abort, Tick}
use Rattle.po_explore.specs.declared.news.News.{News}
use Rattle.po_explore.specs.declared.news.Event.{Event}
use Rattle.po_explore.specs.declared.news.Event.TheVariants.{Ended as EndedEvent, Replied, Failed, Refused}
use Rattle.po_explore.specs.declared.finding.Kind.{Kind}
use Rattle.po_explore.specs.declared.finding.Kind.TheVariants.{Raised, ProgramError, Refused as RefusedKind, Completed, Cancelled}
use Rattle.po_explore.specs.Commands.{value_cells, done, after_operation, after_asking, after_abort}
use Rattle.po_explore.specs.Scenes.{ObjectView, StageView, next_of, after_command}

-- what a caller is told
abbrev pub news : ℕ → Event → News
news caller event = record { caller = caller; event = event }

-- what the caller of a call that has ended is told
abbrev pub end_news : Ended Values → News
end_news ended = news ended.owner (EndedEvent ended.end)

-- what callers are told of the calls that have ended from the old object to the new one, in the order in which they ended
abbrev pub ends : ObjectView → ObjectView → List News
ends old new = map end_news (drop (length old.state.ended) new.state.ended)

-- what an operation brings about that isn't refused: its caller is told first what a procedure or a function replies (9.5.1)
abbrev pub done_news : ObjectView → ℕ → Operation Values → List News
done_news view caller (Procedure op value) =
    news caller (Replied (reply_of ada_meaning view op value)) ∷ ends view (done ada_meaning view caller (Procedure op value))
done_news view caller (Function op value) =
    news caller (Replied (ada_meaning.function view.state.unit op value (counts_in ada_meaning view.state))) ∷ []
done_news view caller operation = ends view (done ada_meaning view caller operation)

-- what is told if there is a refusal, which only the caller is told, and if there is none
abbrev pub unless_refused : Option Refusal → ℕ → List News → List News
unless_refused None caller told = told
unless_refused (Some why) caller told = news caller (Refused why) ∷ []

-- what is told if a precondition fails, which only the caller is told, and if none does
abbrev pub unless_failed : Option ℕ → ℕ → List News → List News
unless_failed None caller told = told
unless_failed (Some exception) caller told = news caller (Failed exception) ∷ []

-- what an operation of this caller brings about: nothing if callers have no such operation
abbrev pub operation_news : ObjectView → ℕ → Operation Values → List News
operation_news view caller (Cancel n) = []
operation_news view caller Show = []
operation_news view caller operation = unless_refused (refusal_of ada_meaning view operation) caller (done_news view caller operation)

-- what an operation of this caller brings about whose precondition is asked first
abbrev pub asking_news : List Entry → ObjectView → ℕ → Operation Values → List News
asking_news entries view caller operation =
    unless_failed (failed_precondition ada_meaning value_cells entries view operation) caller (operation_news view caller operation)

-- what an attempt to cancel the earliest waiting call of this caller brings about (9.5.3)
abbrev pub abort_news : ℕ → ObjectView → List News
abort_news caller view = ends view (after_abort ada_meaning view caller)

-- what a tick brings about: nothing is told if the object is finalized
abbrev pub tick_news : ℕ → ObjectView → List News
tick_news time view = ends view (after_operation ada_meaning view 0 (TickOperation time))

-- what is told of the object, if there is one
abbrev pub told_at : (ObjectView → List News) → Option ObjectView → List News
told_at told None = []
told_at told (Some view) = told view

-- what an operation on one of the objects brings about, if the scene has that one
abbrev pub operated_news : Option SceneObject → List ObjectView → ℕ → ℕ → Operation Values → List News
operated_news None views object caller operation = []
operated_news (Some named) views object caller operation =
    told_at (λ view. asking_news named.names.entries.items view caller operation) (slice_get views object)

-- what that brings about which a caller asks for
abbrev pub action_news : List SceneObject → List ObjectView → ℕ → Action → List News
action_news objects views caller (Operate object operation) = operated_news (slice_get objects object) views object caller operation
action_news objects views caller (Abort other) = flat_map (abort_news other) views
action_news objects views caller (Tick time) = flat_map (tick_news time) views

-- what this command of a caller brings about, if there is one
abbrev pub command_news : Scene → List ObjectView → ℕ → Option Command → List News
command_news scene views caller None = []
command_news scene views caller (Some command) = action_news scene.objects.items views caller command.action

-- what the next command of a caller brings about
abbrev pub step_news : Scene → StageView → ℕ → List News
step_news scene stage caller = command_news scene stage.views caller (next_of scene stage caller)

-- what the last of these callers' next commands, made in order, brings about: these news if there is none
abbrev pub order_news : Scene → StageView → List News → List ℕ → List News
order_news scene stage told [] = told
order_news scene stage told (caller ∷ rest) = order_news scene (after_command scene stage caller) (step_news scene stage caller) rest

-- what is found if a caller is told this: an exception, Program_Error or another refusal
abbrev pub kind_of : Event → Option Kind
kind_of (EndedEvent (CompletedEnd values)) = None
kind_of (EndedEvent (RaisedEnd exception)) = Some (Raised exception)
kind_of (EndedEvent CancelledEnd) = None
kind_of (EndedEvent ProgramErrorEnd) = Some ProgramError
kind_of (Replied (Ok values)) = None
kind_of (Replied (Err exception)) = Some (Raised exception)
kind_of (Failed exception) = Some (Raised exception)
kind_of (Refused Finalized) = Some ProgramError
kind_of (Refused why) = Some (RefusedKind why)

-- the values of an answer, without how often its call could still be requeued
abbrev pub answered : Values → Values
answered values = record { cells = values.cells; requeues = 255 }

-- the answer to the caller's command with this number, if nothing is wrong with it
abbrev pub answer_of : Event → ℕ → Option Kind
answer_of (EndedEvent (CompletedEnd values)) number = Some (Completed number (answered values))
answer_of (EndedEvent (RaisedEnd exception)) number = None
answer_of (EndedEvent CancelledEnd) number = Some (Cancelled number)
answer_of (EndedEvent ProgramErrorEnd) number = None
answer_of (Replied (Ok values)) number = Some (Completed number (answered values))
answer_of (Replied (Err exception)) number = None
answer_of (Failed exception) number = None
answer_of (Refused why) number = None
