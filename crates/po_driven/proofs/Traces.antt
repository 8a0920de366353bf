-- What happens is added to what has happened.
use Rattle.std.proofs.Common.{ℕ, ◌+◌, ◌<◌, ◌≤◌, ◌≡◌, ◌∙◌, List, [], ◌∷◌, ◌++◌, Bool, true, false, not, ◌&&◌, if◌then◌else◌, Option, IsSome, count_by, nat_le, nat_lt, inl, inr, ap, ap₂, refl, sym, subst, arith}
use Rattle.std.specs.List.{All, find}
use Rattle.std.proofs.lemmas.Bool.{cases_Bool}
use Rattle.std.proofs.lemmas.List.Elements.{All-weaker}
use Rattle.po_unit.specs.declared.outcome.Outcome.TheVariants.{Requeue}
use Rattle.po_calls.specs.declared.call.Call.{Call}
use Rattle.po_engine.specs.Ending.{has_ended}
use Rattle.po_engine.specs.WaitingCalls.{has_number, is_on}
use Rattle.po_engine.specs.Arrival.{Increases}
use Rattle.po_engine.specs.ObjectState.{ObjectState}
use Rattle.po_engine.specs.StateView.{StateView}
use Rattle.po_engine.specs.Step.{enter, is_full, is_queued_again, conclude}
use Rattle.po_engine.proofs.Sums.{sum_by-push}
use Rattle.po_driven.specs.Happening.{Driving, arrives, happen, opening, replay}
use Rattle.po_driven.specs.OnePlace.{HasTickets, IsInOnePlace, IsLedTo, IsThereOnce, times_in_service, places_with, times_in}
use Rattle.po_driven.specs.DrivenCallsView.{DrivenCallsView, IsTraced, led_by}
use Rattle.po_driven.specs.declared.happening.Happening.{Happening}
use Rattle.po_driven.proofs.Held.{concluded_is}

replay_on : (d : Driving) (hs : List Happening) (h : Happening) → replay d (hs ++ h ∷ []) ≡ happen h (replay d hs)
replay_on d [] h = refl
replay_on d (g ∷ hs) h = replay_on (happen g d) hs h

-- each call is there once if it is in one place by what has happened, and the other way round
pub there : (d : Driving) (o : StateView ℕ ℕ) → IsLedTo d o → IsInOnePlace d → IsThereOnce o
there d o l p =
    let waiting = ap (λ s. s.waiting) l.state in let next = ap (λ s. s.next) l.state in record {
      low = subst (λ k. 1 ≤ k) (sym next) p.low;
      each = λ n. subst (λ k. times_in n o.state o.serving ≡ (if nat_le 1 n && nat_lt n k then 1 else 0)) (sym next)
          (omega (arith, ap (λ (xs : List (Call ℕ)). count_by (has_number n) xs) waiting, ap (times_in_service n) l.serving, l.left (has_ended n), p.each n));
    }

in_place : (d : Driving) (o : StateView ℕ ℕ) → IsLedTo d o → IsThereOnce o → IsInOnePlace d
in_place d o l p =
    let waiting = ap (λ s. s.waiting) l.state in let next = ap (λ s. s.next) l.state in record {
      low = subst (λ k. 1 ≤ k) next p.low;
      each = λ n. subst (λ k. places_with n d ≡ (if nat_le 1 n && nat_lt n k then 1 else 0)) next
          (omega (arith, ap (λ (xs : List (Call ℕ)). count_by (has_number n) xs) waiting, ap (times_in_service n) l.serving, l.left (has_ended n), p.each n));
    }

leads_on : (old new : DrivenCallsView) (h : Happening) → new.object.state.unit ≡ old.object.state.unit → new.happened ≡ old.happened ++ h ∷ [] → led_by new ≡ happen h (led_by old)
leads_on old new h unit noted = ap₂ (λ n hs. replay (opening n) hs) unit noted ∙ replay_on (opening old.object.state.unit) old.happened h

-- what holds after one more thing has happened
pub traced_on : (old new : DrivenCallsView) (h : Happening) → IsTraced old → new.object.state.unit ≡ old.object.state.unit → new.happened ≡ old.happened ++ h ∷ [] → new.place ≡ old.place + (if arrives h then 1 else 0)
    → ((d : Driving) → IsLedTo d old.object → IsLedTo (happen h d) new.object) → (IsThereOnce old.object → IsThereOnce new.object)
    → HasTickets new.object → (Increases old.object.places → Increases new.object.places) → All (λ k. k < new.place) new.object.places → IsTraced new
traced_on old new h t unit noted at goes once tickets rises later =
    let leads = subst (λ d. IsLedTo d new.object) (sym (leads_on old new h unit noted)) (goes (led_by old) t.leads) in record {
      leads = leads;
      placed = in_place (led_by new) new.object leads (once (there (led_by old) old.object t.leads t.placed));
      tickets = tickets;
      rises = rises t.rises;
      later = later;
      place = at ∙ omega (arith, t.place, sum_by-push (λ g. if arrives g then 1 else 0) old.happened h) ∙ ap (count_by arrives) (sym noted);
    }

-- places that are below this one are below the next one
pub below_more : (k : ℕ) (places : List ℕ) → All (λ j. j < k) places → All (λ j. j < k + 1) places
below_more k places h = All-weaker (λ j. j < k) (λ j. j < k + 1) (λ j lt. omega (arith, lt)) places h

-- places that are at most this one are below the next one
pub below_next : (k : ℕ) (places : List ℕ) → All (λ j. j ≤ k) places → All (λ j. j < k + 1) places
below_next k places h = All-weaker (λ j. j ≤ k) (λ j. j < k + 1) (λ j le. omega (arith, le)) places h

pub found_last : (p : Call ℕ → Bool) (xs : List (Call ℕ)) (x : Call ℕ) → p x ≡ true → IsSome (find p (xs ++ x ∷ []))
found_last p [] x is = rw is refl
found_last p (y ∷ xs) x is = elim (cases_Bool (p y)) [ inl here ↦ rw here refl | inr there ↦ rw there (found_last p xs x is) ]

-- a call that finds a queue which isn't full is found there, by any test that it passes
pub queued_on : (p : Call ℕ → Bool) (limit : Option ℕ) (s : ObjectState ℕ ℕ) (x : Call ℕ) → p x ≡ true → is_full limit (count_by (is_on x.entry) s.waiting) ≡ false → IsSome (find p (enter limit s x).waiting)
queued_on p limit s x is room = rw room (found_last p s.waiting x is)

-- so is one that is requeued, unless it is cancelled
pub moved_on : (p : Call ℕ → Bool) (limit : Option ℕ) (s : ObjectState ℕ ℕ) (x : Call ℕ) (target : ℕ) (with_abort : Bool) → p (record x { entry = target; without_abort = not with_abort }) ≡ true
    → is_full limit (count_by (is_on target) s.waiting) ≡ false → ((with_abort ≡ true) → (x.aborted ≡ false)) → IsSome (find p (conclude limit s x (Requeue target with_abort x.value)).waiting)
moved_on p limit s x target with_abort is room kept =
    subst (λ (t : ObjectState ℕ ℕ). IsSome (find p t.waiting)) (sym (concluded_is limit s x target with_abort kept))
    (queued_on p limit s (record x { entry = target; without_abort = not with_abort }) is room)

-- a call that isn't queued has found a full queue, and one that is queued hasn't
pub full_of : (queued full : Bool) → queued ≡ not full → queued ≡ false → full ≡ true
full_of queued true is off = refl
full_of queued false is off = absurd (cc)

pub room_of : (queued full : Bool) → queued ≡ not full → queued ≡ true → full ≡ false
room_of queued true is on = absurd (cc)
room_of queued false is on = refl

-- a requeue that isn't cancelled is queued unless the queue is full
pub again_if : (limit : Option ℕ) (s : ObjectState ℕ ℕ) (x : Call ℕ) (target : ℕ) (with_abort : Bool) → ((with_abort ≡ true) → (x.aborted ≡ false))
    → is_queued_again limit s x (Requeue target with_abort x.value) ≡ not (is_full limit (count_by (is_on target) s.waiting))
again_if limit s x target true kept = rw (kept refl) refl
again_if limit s x target false kept = refl
