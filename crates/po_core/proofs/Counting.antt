-- How many calls are issued and how many procedures run, by an event, by a history, and by a protected action.
use Rattle.std.proofs.Common.{◌≡◌, ℕ, zero, ◌+◌, ◌≤◌, length, List, [], ◌∷◌, ◌++◌, refl, ap, sym, ◌∙◌, arith, Bool, true, false, cond, not, ◌&&◌, Option, Some, None, Result, Ok, Err, if◌then◌else◌, map}
use Rattle.std.specs.List.{All, count_by, find}
use Rattle.std.specs.Option.{option_map, option_or}
use Rattle.std.proofs.lemmas.List.Elements.{All-nil, All-cons}
use Rattle.std.proofs.lemmas.List.Sums.{sum_by-append, sum_by-cons}
use Rattle.po_unit.specs.Meaning.{Meaning}
use Rattle.po_unit.specs.declared.outcome.Outcome.{Outcome}
use Rattle.po_unit.specs.declared.outcome.Outcome.TheVariants.{Complete, Raise, Requeue}
use Rattle.po_calls.specs.declared.call.Call.{Call}
use Rattle.po_calls.specs.declared.end.End.TheVariants.{Cancelled, ProgramError}
use Rattle.po_queues.specs.declared.selection.Selection.{Selection}
use Rattle.po_queues.specs.declared.selection.Selection.TheVariants.{Quiet, Ready, Broken}
use Rattle.po_queues.specs.declared.order.Order.{Order}
use Rattle.po_history.specs.declared.event.Event.{Event}
use Rattle.po_history.specs.declared.event.Event.TheVariants.{Issue, Procedure, Cancel, Tick, Finalize, Serve, Break, Expire}
use Rattle.po_engine.specs.WaitingCalls.{is_on, has_number, is_due, mark}
use Rattle.po_engine.specs.ObjectState.{ObjectState, counts_in, barrier_in}
use Rattle.po_engine.specs.Step.{step, replay, enter, end_call, queue, conclude, run_body, arrive, serve, cancel, attempt_cancel, take_out, is_full}
use Rattle.po_core.specs.Base.{is_issue, is_ran}
use Rattle.po_engine.specs.Pick.{event_of, next_turn, ArePicks, served_last, last_from}
use Rattle.po_core.specs.View.{View}
use Rattle.po_core.specs.ProtectedAction.{IsProtectedAction}
use Rattle.po_core.specs.Cutting.{procedures_run}

-- if two flags are both false, both counts are zero
none_of_both : (i r : Bool) → (not i && not r) ≡ true → (cond i 1 0 ≡ zero) × (cond r 1 0 ≡ zero)
none_of_both true r h = cc
none_of_both false true h = cc
none_of_both false false h = (refl, refl)

module _ {V : Type 0} where
  -- one for an event that issues a call, else none
  abbrev pub issues : Event V → ℕ
  issues e = cond (is_issue e) 1 0

  -- one for an event by which a procedure ran, else none
  abbrev pub runs : Event V → ℕ
  runs e = cond (is_ran e) 1 0

  -- whether the event neither issues a call nor is by a procedure
  abbrev pub is_neither : Event V → Bool
  is_neither e = not (is_issue e) && not (is_ran e)

  abbrev is_neither_if : Option (Event V) → Bool
  is_neither_if None = true
  is_neither_if (Some e) = is_neither e

  event_is_neither : (look : Selection) (o : Option (Call V)) (e : Event V) → option_or (event_of look) (option_map (λ x. Expire x.number) o) ≡ Some e → is_neither e ≡ true
  event_is_neither Quiet None e h = ap is_neither_if (sym h)
  event_is_neither Quiet (Some x) e h = ap is_neither_if (sym h)
  event_is_neither (Ready k) o e h = ap is_neither_if (sym h)
  event_is_neither (Broken k) o e h = ap is_neither_if (sym h)

  one_at_most : (e : Event V) → issues e + runs e ≤ 1
  one_at_most (Issue n owner e v d) = omega arith
  one_at_most (Procedure owner op v reply) = omega arith
  one_at_most (Cancel n) = omega arith
  one_at_most (Tick t) = omega arith
  one_at_most Finalize = omega arith
  one_at_most (Serve e) = omega arith
  one_at_most (Break e) = omega arith
  one_at_most (Expire n) = omega arith

  -- an event issues a call, or is by a procedure, or neither
  pub counted-apart : (events : List (Event V)) → count_by is_issue events + count_by is_ran events ≤ length events
  counted-apart [] = omega arith
  counted-apart (e ∷ es) = omega (arith, one_at_most e, counted-apart es, sum_by-cons issues e es, sum_by-cons runs e es)

module _ {S V : Type 0} (m : Meaning S V) (limit : Option ℕ) where
  next-if : (b : Bool) (p q r : ObjectState S V) → q.next ≡ p.next → r.next ≡ p.next → (if b then q else r).next ≡ p.next
  next-if true p q r h k = h
  next-if false p q r h k = k

  next-enter : (p : ObjectState S V) (x : Call V) → (enter limit p x).next ≡ p.next
  next-enter p x = next-if (is_full limit (count_by (is_on x.entry) p.waiting)) p (end_call p x ProgramError) (queue p x) refl refl

  next-conclude : (p : ObjectState S V) (x : Call V) (o : Outcome V) → (conclude limit p x o).next ≡ p.next
  next-conclude p x (Complete v) = refl
  next-conclude p x (Raise k) = refl
  next-conclude p x (Requeue t a v) = next-if (a && x.aborted) p (end_call p x Cancelled) (enter limit p (record x { entry = t; value = v; without_abort = not a })) refl (next-enter p (record x { entry = t; value = v; without_abort = not a }))

  next-run_body : (p : ObjectState S V) (x : Call V) → (run_body m limit p x).next ≡ p.next
  next-run_body p x = let r = m.body p.unit x.entry x.value (counts_in m p) in next-conclude (record p { unit = r.0 }) x r.1

  -- a call that arrives, is served or is cancelled takes no new number
  pub next-arrive : (p : ObjectState S V) (x : Call V) (r : Result Bool ℕ) → (arrive m limit p x r).next ≡ p.next
  next-arrive p x (Ok true) = next-run_body p x
  next-arrive p x (Ok false) = next-enter p x
  next-arrive p x (Err k) = refl

  pub next-serve : (p : ObjectState S V) (e : ℕ) (o : Option (Call V)) → (serve m limit p e o).next ≡ p.next
  next-serve p e None = refl
  next-serve p e (Some x) = next-run_body (take_out p (is_on e)) x

  pub next-cancel : (p : ObjectState S V) (n : ℕ) (o : Option (Call V)) → (cancel p n o).next ≡ p.next
  next-cancel p n None = refl
  next-cancel p n (Some x) = refl

  pub next-attempt : (p : ObjectState S V) (n : ℕ) (o : Option (Call V)) → (attempt_cancel p n o).next ≡ p.next
  next-attempt p n None = refl
  next-attempt p n (Some x) = next-if x.without_abort p (record p { waiting = map (mark n) p.waiting }) (cancel p n (Some x)) refl refl

  -- an event takes a number exactly if it issues a call
  pub step-next : (p : ObjectState S V) (e : Event V) → (step m limit p e).next ≡ p.next + issues e
  step-next p (Issue n owner e v d) = next-arrive (record p { next = p.next + 1 }) (record { number = n; owner = owner; entry = e; value = v; without_abort = false; aborted = false; deadline = d }) (barrier_in m p e)
  step-next p (Procedure owner op v reply) = omega arith
  step-next p (Cancel n) = omega (arith, next-attempt p n (find (has_number n) p.waiting))
  step-next p (Tick t) = omega arith
  step-next p Finalize = omega arith
  step-next p (Serve e) = omega (arith, next-serve p e (find (is_on e) p.waiting))
  step-next p (Break e) = omega arith
  step-next p (Expire n) = omega (arith, next-cancel p n (find (has_number n) p.waiting))

  -- events take as many numbers as they issue calls
  pub replay-next : (p : ObjectState S V) (events : List (Event V)) → (replay m limit p events).next ≡ p.next + count_by is_issue events
  replay-next p [] = omega arith
  replay-next p (e ∷ es) = omega (arith, step-next p e, replay-next (step m limit p e) es, sum_by-cons issues e es)

  picks-none : (order : Order) (last : Option ℕ) (p : ObjectState S V) (events : List (Event V)) → ArePicks m limit order last p events → (count_by is_issue events ≡ 0) × (count_by is_ran events ≡ 0)
  picks-none order last p [] h = (refl, refl)
  picks-none order last p (e ∷ es) h =
      let one = none_of_both (is_issue e) (is_ran e) (event_is_neither (next_turn m order last p) (find (is_due p.clock) p.waiting) e h.0) in
      let rest = picks-none order (served_last last e) (step m limit p e) es h.1 in
      (omega (arith, sum_by-cons issues e es, one.0, rest.0), omega (arith, sum_by-cons runs e es, one.1, rest.1))

  -- an inner event neither issues a call nor is by a procedure
  pub picks-neither : (order : Order) (last : Option ℕ) (p : ObjectState S V) (events : List (Event V)) → ArePicks m limit order last p events → All (λ e. is_neither e ≡ true) events
  picks-neither order last p [] h = All-nil (λ e. is_neither e ≡ true)
  picks-neither order last p (e ∷ es) h =
      let one = event_is_neither (next_turn m order last p) (find (is_due p.clock) p.waiting) e h.0 in
      All-cons (λ x. is_neither x ≡ true) e es one (picks-neither order (served_last last e) (step m limit p e) es h.1)

module _ {S V : Type 0} (m : Meaning S V) (old new : View S V) (own : Event V) (a : IsProtectedAction m old new own) where
  -- a protected action takes as many numbers as its own event: one for a call, else none
  pub action-next : new.state.next ≡ old.state.next + issues own
  action-next =
      let limit = old.setup.max_queue in
      let begun = step m limit old.state own in
      let none = picks-none m limit old.setup.order (last_from old.base.last (old.events ++ own ∷ [])) begun a.inner a.picks in
      ap (λ s. s.next) a.state ∙ omega (arith, replay-next m limit begun a.inner, step-next m limit old.state own, none.0)

  -- a protected action runs as many procedures as its own event: one for a procedure, else none
  pub action-ran : procedures_run new ≡ procedures_run old + runs own
  action-ran =
      let limit = old.setup.max_queue in
      let none = picks-none m limit old.setup.order (last_from old.base.last (old.events ++ own ∷ [])) (step m limit old.state own) a.inner a.picks in
      let all = sum_by-append runs old.events (own ∷ a.inner) in
      let first = sum_by-cons runs own a.inner in
      ap (λ b. b.ran + count_by is_ran new.events) a.base ∙ (ap (λ es. old.base.ran + count_by is_ran es) a.events ∙ omega (arith, none.1, all, first))
