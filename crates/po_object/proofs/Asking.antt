-- Who asked for the calls and procedures of a history: only seats, after each command.
use Rattle.std.proofs.Common.{◌≡◌, ◌⊎◌, inl, inr, ℕ, ◌+◌, ◌<◌, List, [], ◌∷◌, ◌++◌, refl, subst, sym, arith, Bool, true, false, Option, Some, None}
use Rattle.std.specs.List.{All}
use Rattle.std.specs.Option.{IfSome}
use Rattle.std.proofs.lemmas.List.Elements.{All-cons, All-tail, All-append, All-weaker}
use Rattle.po_unit.specs.Meaning.{Meaning}
use Rattle.po_calls.specs.declared.call.Call.{Call}
use Rattle.po_history.specs.declared.event.Event.{Event}
use Rattle.po_history.specs.declared.event.Event.TheVariants.{Issue, Procedure, Cancel, Tick, Finalize, Serve, Break, Expire}
use Rattle.po_history.specs.Histories.{VolumeView, joined}
use Rattle.po_engine.specs.Finding.{IsFound}
use Rattle.po_engine.specs.Step.{step}
use Rattle.po_engine.specs.Pick.{last_from}
use Rattle.po_core.specs.View.{View}
use Rattle.po_core.specs.Tickets.{CoreView}
use Rattle.po_core.specs.ProtectedAction.{IsProtectedAction, IsAttemptOnCall}
use Rattle.po_core.proofs.Counting.{is_neither, picks-neither}
use Rattle.po_receipts.specs.Passes.{PassView}
use Rattle.po_receipts.specs.Agreement.{history_of}
use Rattle.po_receipts.specs.OneHistory.{IsWholeLog}
use Rattle.po_receipts.specs.Answers.{asker_of, AskedBySeats, HasNoOthers, NonePending}

All-right : {X : Type 0} (P : X → Type 0) (xs ys : List X) → All P (xs ++ ys) → All P ys
All-right P [] ys h = h
All-right P (x ∷ xs) ys h = All-right P xs ys (All-tail P x (xs ++ ys) h)

module _ {V : Type 0} (seats : ℕ) where
  -- a seat asked for the event, if anyone did
  abbrev pub BySeat : Event V → Type 0
  BySeat event = IfSome (asker_of event) (λ seat. seat < seats)

  neither_asked : (event : Event V) → is_neither event ≡ true → BySeat event
  neither_asked (Issue n owner e v d) h = absurd (let r : ⊥ = cc in r)
  neither_asked (Procedure owner op v reply) h = absurd (let r : ⊥ = cc in r)
  neither_asked (Cancel n) h = tt
  neither_asked (Tick t) h = tt
  neither_asked Finalize h = tt
  neither_asked (Serve e) h = tt
  neither_asked (Break e) h = tt
  neither_asked (Expire n) h = tt

module _ {S V : Type 0} (m : Meaning S V) (seats : ℕ) where
  -- only seats ask in a protected action, if a seat asked for its own event
  pub asked-action : (old new : View S V) (own : Event V) → IsProtectedAction m old new own → BySeat seats own → AskedBySeats seats old.events → AskedBySeats seats new.events
  asked-action old new own a by h =
      let limit = old.setup.max_queue in
      let neither = picks-neither m limit old.setup.order (last_from old.base.last (old.events ++ own ∷ [])) (step m limit old.state own) a.inner a.picks in
      let inner = All-weaker (λ e. is_neither e ≡ true) (BySeat seats) (neither_asked seats) a.inner neither in
      subst (AskedBySeats seats) (sym a.events) (All-append (BySeat seats) old.events (own ∷ a.inner) h (All-cons (BySeat seats) own a.inner by inner))

  asked-mark : (old new : View S V) (n : ℕ) (x : Call V) (without_abort aborted : Bool) → x.without_abort ≡ without_abort → x.aborted ≡ aborted → IsAttemptOnCall m old new n x → AskedBySeats seats old.events → AskedBySeats seats new.events
  asked-mark old new n x false aborted s t a h = asked-action old new (Cancel n) (a.cancelled s) tt h
  asked-mark old new n x true false s t a h = asked-action old new (Cancel n) (a.marked s t).0 tt h
  asked-mark old new n x true true s t a h = subst (λ (view : View S V). AskedBySeats seats view.events) (sym (a.kept s t)) h

  -- nobody asks in an attempt to cancel a call
  pub asked-attempt_of : (old new : View S V) (n : ℕ) (o : Option (Call V)) → IsFound (IsAttemptOnCall m old new n) o → AskedBySeats seats old.events → AskedBySeats seats new.events
  asked-attempt_of old new n None a h = absurd a
  asked-attempt_of old new n (Some x) a h = asked-mark old new n x x.without_abort x.aborted refl refl a h

  -- if only seats asked in the whole history, only seats asked since the last cut
  pub asked-since : (view : View S V) (log : List (Event V)) → IsWholeLog m view log → AskedBySeats seats log → AskedBySeats seats view.events
  asked-since view log w h = All-right (BySeat seats) (joined w.0) view.events (subst (AskedBySeats seats) w.2 h)

  -- if a command keeps that since the last cut, it keeps it in the whole history
  pub asked-on : (old new : View S V) (log more after : List (Event V)) → IsWholeLog m old log → (AskedBySeats seats old.events → AskedBySeats seats new.events) → old.events ++ more ≡ new.events → after ≡ log ++ more → AskedBySeats seats log → AskedBySeats seats after
  asked-on old new log more after w ask goes all h =
      let now = subst (AskedBySeats seats) (sym goes) (ask (asked-since old log w h)) in
      subst (AskedBySeats seats) (sym all) (All-append (BySeat seats) log more h (All-right (BySeat seats) old.events more now))

-- the number of seats, by the ledger's parts
pub asked-of : {V : Type 0} (parts seats more : ℕ) (events : List (Event V)) → seats + 1 ≡ parts → parts ≡ more + 1 → AskedBySeats seats events → AskedBySeats more events
asked-of parts seats more events is same h = subst (λ n. AskedBySeats n events) (let e : seats ≡ more = omega arith in e) h

module _ {S V : Type 0} (core : CoreView S V) (passes : List (PassView V)) where
  -- without volumes nobody else asked; with volumes, no pass has a call pending
  pub alone : {A : Type 0} (volumes : List (VolumeView V)) → (volumes ≡ []) ⊎ (A × NonePending passes) → HasNoOthers core.object.events passes → NonePending passes ⊎ HasNoOthers (history_of core volumes) passes
  alone volumes (inl none) h = inr (subst (λ l. HasNoOthers (history_of core l) passes) (sym none) h)
  alone volumes (inr cut) h = inl cut.1

-- the first of the two conditions on volumes
pub first_of : {A B C : Type 0} → A ⊎ (B × C) → A ⊎ B
first_of (inl a) = inl a
first_of (inr both) = inr both.0
