-- An expiration that is picked is that of the first call that is due.
use Rattle.std.proofs.Common.{◌≡◌, ℕ, Option, Some, None, option_map}
use Rattle.std.specs.List.{find}
use Rattle.std.specs.Option.{option_or}
use Rattle.po_unit.specs.Meaning.{Meaning}
use Rattle.po_queues.specs.declared.selection.Selection.{Selection}
use Rattle.po_queues.specs.declared.selection.Selection.TheVariants.{Quiet, Ready, Broken}
use Rattle.po_queues.specs.declared.order.Order.{Order}
use Rattle.po_calls.specs.declared.call.Call.{Call}
use Rattle.po_history.specs.declared.event.Event.{Event}
use Rattle.po_history.specs.declared.event.Event.TheVariants.{Issue, Procedure, Cancel, Tick, Finalize, Serve, Break, Expire}
use Rattle.po_engine.specs.WaitingCalls.{is_due}
use Rattle.po_engine.specs.ObjectState.{ObjectState}
use Rattle.po_engine.specs.Pick.{event_of, next_turn, pick}
use Rattle.po_engine.specs.StateView.{IsFirstDue}

not_turn : {V : Type 0} (l : Selection) (o : Option (Event V)) (n : ℕ) → option_or (event_of l) o ≡ Some (Expire n) → o ≡ Some (Expire n)
not_turn Quiet o n h = h
not_turn (Ready e) o n h = cc
not_turn (Broken e) o n h = cc

due_first : {V : Type 0} (o : Option (Call V)) (n : ℕ) → option_map {U = Event V} (λ x. Expire x.number) o ≡ Some (Expire n) → option_map (λ x. x.number) o ≡ Some n
due_first None n h = cc
due_first (Some x) n h = cc

-- the expiration that is picked is that of the first call that is due
pub first_from_pick : {S V : Type 0} (m : Meaning S V) (order : Order) (last : Option ℕ) (s : ObjectState S V) (e : Event V) → pick m order last s ≡ Some e → IsFirstDue s e
first_from_pick m order last s (Expire n) h = due_first (find (is_due s.clock) s.waiting) n (not_turn (next_turn m order last s) (option_map (λ x. Expire x.number) (find (is_due s.clock) s.waiting)) n h)
first_from_pick m order last s (Serve e) h = tt
first_from_pick m order last s (Break e) h = tt
first_from_pick m order last s (Issue n owner e v d) h = tt
first_from_pick m order last s (Procedure owner op v reply) h = tt
first_from_pick m order last s (Cancel n) h = tt
first_from_pick m order last s (Tick t) h = tt
first_from_pick m order last s Finalize h = tt
