-- What the laws of the units share: how a history reads from the opening, and what one event does to the unit, to the calls
-- that complete and to the calls that wait.
use Rattle.std.proofs.Common.{◌≡◌, ℕ, ◌+◌, List, [], ◌∷◌, ◌++◌, map, drop, length, refl, ap, sym, subst, ◌∙◌, append-nil, append_assoc, Bool, true, false, not, ◌&&◌, cond, Option, Some, None, IsSome, Result, Ok, Err, if◌then◌else◌}
use Rattle.std.specs.List.{find, count_by, All}
use Rattle.std.proofs.Math.Seq.{drop-append_seam}
use Rattle.std.proofs.lemmas.List.{map-append}
use Rattle.std.proofs.lemmas.List.Elements.{All-nil, All-cons, All-head, All-tail, All-push, All-map, All-weaker}
use Rattle.po_unit.specs.declared.decl.Decl.{Decl}
use Rattle.po_unit.specs.Meaning.{Meaning}
use Rattle.po_unit.specs.declared.outcome.Outcome.{Outcome}
use Rattle.po_unit.specs.declared.outcome.Outcome.TheVariants.{Complete, Raise, Requeue}
use Rattle.po_calls.specs.declared.call.Call.{Call}
use Rattle.po_calls.specs.declared.end.End.TheVariants.{Completed, Raised, Cancelled, ProgramError}
use Rattle.po_engine.specs.declared.ended.Ended.{Ended}
use Rattle.po_history.specs.declared.event.Event.{Event}
use Rattle.po_history.specs.declared.event.Event.TheVariants.{Issue, Procedure, Cancel, Tick, Finalize, Serve, Break, Expire}
use Rattle.po_engine.specs.WaitingCalls.{is_on, has_number, mark}
use Rattle.po_core.specs.Headline.{Headline}
use Rattle.po_engine.specs.ObjectState.{ObjectState, counts_in, barrier_in, IsAtRest}
use Rattle.po_engine.specs.Ending.{ended_as}
use Rattle.po_engine.specs.Step.{is_full, end_call, queue, enter, conclude, run_body, arrive, take_out, serve, cancel, attempt_cancel, step, Needs, replay, IsLegal}
use Rattle.po_core.specs.Public.{NamesPublic, AllPublic}
use Rattle.po_core.specs.View.{View}
use Rattle.po_core.specs.Cutting.{AreVolumes}
use Rattle.po_history.specs.Histories.{VolumeView, joined}
use Rattle.po_engine.proofs.Lists.{found_on}
use Rattle.po_core.proofs.Runs.{replay-append, legal-append}
use Rattle.po_engine.proofs.Absent.{All-without}
use Rattle.po_receipts.proofs.OneHistory.{whole-history}
use Rattle.po_laws.specs.Completed.{values_of, opening}
use Rattle.po_laws.specs.Gathered.{issued}

module _ {S V : Type 0} (m : Meaning S V) where
  -- the whole history: the volumes that were cut off, and the present events
  abbrev pub whole : View S V → List (VolumeView V) → List (Event V)
  whole view volumes = joined volumes ++ view.events

  -- it is legal from the opening on
  pub whole_legal : (view : View S V) (volumes : List (VolumeView V)) → AreVolumes m view volumes → Headline m view
      → IsLegal m view.setup.max_queue (opening view.setup) (whole view volumes)
  whole_legal view volumes are headline = (whole-history m view (whole view volumes) headline (volumes, are, refl)).legal

  -- and ends at rest
  pub whole_rests : (view : View S V) (volumes : List (VolumeView V)) → AreVolumes m view volumes → Headline m view
      → IsAtRest m (replay m view.setup.max_queue (opening view.setup) (whole view volumes))
  whole_rests view volumes are headline = (whole-history m view (whole view volumes) headline (volumes, are, refl)).rest

  -- the first events of a legal history are a legal history
  pub legal_front : (limit : Option ℕ) (s : ObjectState S V) (early late : List (Event V))
      → IsLegal m limit s (early ++ late)
      → IsLegal m limit s early
  legal_front limit s [] late legal = tt
  legal_front limit s (event ∷ early) late legal =
      (legal.0, legal_front limit (step m limit s event) early late legal.1)

-- and if all events of a history name public entries, so do the first ones
pub public_front : {V : Type 0} (shape : List Decl) (early late : List (Event V)) → AllPublic shape (early ++ late)
    → AllPublic shape early
public_front {V} shape [] late all = All-nil (NamesPublic {V = V} shape)
public_front shape (event ∷ early) late all =
    All-cons (NamesPublic shape) event early (All-head (NamesPublic shape) event (early ++ late) all)
    (public_front shape early late (All-tail (NamesPublic shape) event (early ++ late) all))

-- what holds of all items holds of the found one
module _ {X : Type 0} (P : X → Type 0) (test : X → Bool) where
  found_here : (b : Bool) (x y : X) (xs : List X) → P x → cond b (Some x) (find test xs) ≡ Some y
      → (find test xs ≡ Some y → P y)
      → P y
  found_here true x y xs holds is later = let same : x ≡ y = cc in subst P same holds
  found_here false x y xs holds is later = later is

  pub found_holds : (xs : List X) (y : X) → All P xs → find test xs ≡ Some y → P y
  found_holds [] y all is = cc
  found_holds (x ∷ xs) y all is =
      found_here (test x) x y xs (All-head P x xs all) is (found_holds xs y (All-tail P x xs all))

-- the value with which a body completes its call, if it does
abbrev pub value_from : {V : Type 0} → Outcome V → List V
value_from (Complete v) = v ∷ []
value_from other = []

-- calls that end by Program_Error complete with no value
none_complete : {V : Type 0} (calls : List (Call V)) → values_of (map (ended_as ProgramError) calls) ≡ []
none_complete [] = refl
none_complete (x ∷ calls) = none_complete calls

module _ {S V : Type 0} where
  -- the values of the calls that complete between two states
  abbrev pub values_between : ObjectState S V → ObjectState S V → List V
  values_between s t = values_of (drop (length s.ended) t.ended)

  values_more : (s t : ObjectState S V) (more : List (Ended V)) → t.ended ≡ s.ended ++ more
      → values_between s t ≡ values_of more
  values_more s t more is =
      ap (λ ended. values_of (drop (length s.ended) ended)) is ∙ ap values_of (drop-append_seam s.ended more)

  pub values_same : (s t : ObjectState S V) → t.ended ≡ s.ended → values_between s t ≡ []
  values_same s t is = values_more s t [] (is ∙ sym (append-nil s.ended))

  -- The unit stays as it is, and no call completes.
  pub record Idles (s t : ObjectState S V) : Type 0 where
    pub unit : t.unit ≡ s.unit
    pub values : values_between s t ≡ []

  -- The body of the entry runs with this value: the unit becomes what it leaves, and no call but its own completes.
  pub record Runs (m : Meaning S V) (s t : ObjectState S V) (e : ℕ) (v : V) : Type 0 where
    pub counts : List ℕ
    pub unit : t.unit ≡ (m.body s.unit e v counts).0
    pub values : values_between s t ≡ value_from (m.body s.unit e v counts).1

  -- what a call does when it is concluded, after its body has left the state
  record Concludes (s t : ObjectState S V) (outcome : Outcome V) : Type 0 where
    unit : t.unit ≡ s.unit
    values : values_between s t ≡ value_from outcome

  idles_if : (b : Bool) (s t u : ObjectState S V) → Idles s t → Idles s u → Idles s (if b then t else u)
  idles_if true s t u first other = first
  idles_if false s t u first other = other

  -- an end of a call that doesn't complete
  idles_one : (s t : ObjectState S V) (x : Ended V) → t.unit ≡ s.unit → t.ended ≡ s.ended ++ x ∷ []
      → values_of (x ∷ []) ≡ []
      → Idles s t
  idles_one s t x unit more none = record { unit = unit; values = values_more s t (x ∷ []) more ∙ none }

  idles_same : (s t : ObjectState S V) → t.unit ≡ s.unit → t.ended ≡ s.ended → Idles s t
  idles_same s t unit ended = record { unit = unit; values = values_same s t ended }

  -- calls end by Program_Error
  idles_all : (s t : ObjectState S V) (calls : List (Call V)) → t.unit ≡ s.unit
      → t.ended ≡ s.ended ++ map (ended_as ProgramError) calls
      → Idles s t
  idles_all s t calls unit more = record {
    unit = unit;
    values = values_more s t (map (ended_as ProgramError) calls) more ∙ none_complete calls;
  }

  enter_idles : (limit : Option ℕ) (s : ObjectState S V) (x : Call V) → Idles s (enter limit s x)
  enter_idles limit s x =
      idles_if (is_full limit (count_by (is_on x.entry) s.waiting)) s (end_call s x ProgramError) (queue s x)
      (idles_one s (end_call s x ProgramError) (ended_as ProgramError x) refl refl refl)
      (idles_same s (queue s x) refl refl)

  requeue_idles : (limit : Option ℕ) (s : ObjectState S V) (x : Call V) (b : Bool) (y : Call V)
      → Idles s (if b then end_call s x Cancelled else enter limit s y)
  requeue_idles limit s x b y =
      idles_if b s (end_call s x Cancelled) (enter limit s y)
      (idles_one s (end_call s x Cancelled) (ended_as Cancelled x) refl refl refl)
      (enter_idles limit s y)

  concludes : (limit : Option ℕ) (s : ObjectState S V) (x : Call V) (outcome : Outcome V)
      → Concludes s (conclude limit s x outcome) outcome
  concludes limit s x (Complete v) = record {
    unit = refl;
    values = values_more s (end_call s x (Completed v)) (ended_as (Completed v) x ∷ []) refl;
  }
  concludes limit s x (Raise k) =
      let idles = idles_one s (end_call s x (Raised k)) (ended_as (Raised k) x) refl refl refl in
      record { unit = idles.unit; values = idles.values }
  concludes limit s x (Requeue target with_abort v) =
      let y : Call V = record x { entry = target; value = v; without_abort = not with_abort } in
      let idles = requeue_idles limit s x (with_abort && x.aborted) y in
      record { unit = idles.unit; values = idles.values }

  cancel_idles : (s : ObjectState S V) (n : ℕ) (o : Option (Call V)) → Idles s (cancel s n o)
  cancel_idles s n None = idles_same s s refl refl
  cancel_idles s n (Some x) = idles_one s (cancel s n (Some x)) (ended_as Cancelled x) refl refl refl

  attempt_idles : (s : ObjectState S V) (n : ℕ) (o : Option (Call V)) → Idles s (attempt_cancel s n o)
  attempt_idles s n None = idles_same s s refl refl
  attempt_idles s n (Some x) =
      let marked : ObjectState S V = record s { waiting = map (mark n) s.waiting } in
      idles_if x.without_abort s marked (cancel s n (Some x)) (idles_same s marked refl refl) (cancel_idles s n (Some x))

  module _ (m : Meaning S V) where
    -- what an issued call does, by what the barrier of its entry says
    abbrev pub DoesAtBarrier : ObjectState S V → ObjectState S V → ℕ → V → Result Bool ℕ → Type 0
    DoesAtBarrier s t e v (Ok true) = Runs m s t e v
    DoesAtBarrier s t e v (Ok false) = Idles s t
    DoesAtBarrier s t e v (Err k) = Idles s t

    -- What an event that leads from one state to the other does: it runs a body or a procedure, or nothing.
    abbrev pub Does : ObjectState S V → ObjectState S V → Event V → Type 0
    Does s t (Issue n owner e v d) = DoesAtBarrier s t e v (barrier_in m s e)
    Does s t (Procedure owner op v reply) = values_between s t ≡ []
    Does s t (Serve e) = (x : Call V) × (find (is_on e) s.waiting ≡ Some x) × Runs m s t e x.value
    Does s t (Cancel n) = Idles s t
    Does s t (Tick time) = Idles s t
    Does s t Finalize = Idles s t
    Does s t (Break e) = Idles s t
    Does s t (Expire n) = Idles s t

    body_runs : (limit : Option ℕ) (s : ObjectState S V) (x : Call V) → Runs m s (run_body m limit s x) x.entry x.value
    body_runs limit s x =
        let counts = counts_in m s in
        let r = m.body s.unit x.entry x.value counts in
        let concluded = concludes limit (record s { unit = r.0 }) x r.1 in
        record { counts = counts; unit = concluded.unit; values = concluded.values }

    arrives : (limit : Option ℕ) (s : ObjectState S V) (x : Call V) (r : Result Bool ℕ)
        → DoesAtBarrier s (arrive m limit (record s { next = s.next + 1 }) x r) x.entry x.value r
    arrives limit s x (Ok true) =
        let runs = body_runs limit (record s { next = s.next + 1 }) x in
        record { counts = runs.counts; unit = runs.unit; values = runs.values }
    arrives limit s x (Ok false) =
        let idles = enter_idles limit (record s { next = s.next + 1 }) x in
        record { unit = idles.unit; values = idles.values }
    arrives limit s x (Err k) =
        let p : ObjectState S V = record s { next = s.next + 1 } in
        let ends = ended_as ProgramError in
        let more = append_assoc s.ended (map ends s.waiting) (ends x ∷ [])
        ∙ ap (λ l. s.ended ++ l) (sym (map-append ends s.waiting (x ∷ []))) in
        idles_all s (arrive m limit p x (Err k)) (s.waiting ++ x ∷ []) refl more

    serves : (limit : Option ℕ) (s : ObjectState S V) (e : ℕ) (o : Option (Call V)) → find (is_on e) s.waiting ≡ o
        → IsSome o
        → (x : Call V) × (o ≡ Some x) × Runs m s (serve m limit s e o) e x.value
    serves limit s e None is some = cc
    serves limit s e (Some x) is some =
        let runs = body_runs limit (take_out s (is_on e)) x in
        let t = serve m limit s e (Some x) in (
          x,
          refl,
          subst (λ k. Runs m s t k x.value) (found_on e s.waiting x is)
              (record { counts = runs.counts; unit = runs.unit; values = runs.values }),
        )

    pub does : (limit : Option ℕ) (s : ObjectState S V) (event : Event V) → Needs m s event
        → Does s (step m limit s event) event
    does limit s (Issue n owner e v d) needs =
        arrives limit s (issued n owner e v d) (barrier_in m s e)
    does limit s (Procedure owner op v reply) needs = values_same s (step m limit s (Procedure owner op v reply)) refl
    does limit s (Serve e) needs = serves limit s e (find (is_on e) s.waiting) refl needs.0
    does limit s (Cancel n) needs = attempt_idles s n (find (has_number n) s.waiting)
    does limit s (Tick time) needs = idles_same s (step m limit s (Tick time)) refl refl
    does limit s Finalize needs = idles_all s (step m limit s Finalize) s.waiting refl refl
    does limit s (Break e) needs = idles_all s (step m limit s (Break e)) s.waiting refl refl
    does limit s (Expire n) needs = cancel_idles s n (find (has_number n) s.waiting)

-- A condition on calls.
module _ {V : Type 0} (P : Call V → Type 0) where
  -- The condition holds of the call that the outcome requeues, if it does.
  abbrev pub HoldsRequeued : Call V → Outcome V → Type 0
  HoldsRequeued x (Complete v) = Unit {0}
  HoldsRequeued x (Raise k) = Unit {0}
  HoldsRequeued x (Requeue target with_abort v) =
      P (record x { entry = target; value = v; without_abort = not with_abort })

  -- The condition holds of a new call, if what the barrier says queues it.
  abbrev pub HoldsAtBarrier : Call V → Result Bool ℕ → Type 0
  HoldsAtBarrier x (Ok true) = Unit {0}
  HoldsAtBarrier x (Ok false) = P x
  HoldsAtBarrier x (Err k) = Unit {0}

module _ {S V : Type 0} (P : Call V → Type 0) where
  -- The condition holds of the call that the event issues, if it is queued.
  abbrev pub HoldsIssued : Meaning S V → ObjectState S V → Event V → Type 0
  HoldsIssued m s (Issue n owner e v d) = HoldsAtBarrier P (issued n owner e v d) (barrier_in m s e)
  HoldsIssued m s (Procedure owner op v reply) = Unit {0}
  HoldsIssued m s (Cancel n) = Unit {0}
  HoldsIssued m s (Tick time) = Unit {0}
  HoldsIssued m s Finalize = Unit {0}
  HoldsIssued m s (Serve e) = Unit {0}
  HoldsIssued m s (Break e) = Unit {0}
  HoldsIssued m s (Expire n) = Unit {0}

  -- A condition that is kept when a call is marked, and that each requeue meets, holds of all calls that wait.
  module _
      (m : Meaning S V)
      (limit : Option ℕ)
      (marked : (x : Call V) → P x → P (record x { aborted = true }))
      (requeued : (u : S) (x : Call V) (c : List ℕ) → HoldsRequeued P x (m.body u x.entry x.value c).1) where
    all_if : (b : Bool) (s t : ObjectState S V) → All P s.waiting → All P t.waiting
        → All P (if b then s else t).waiting
    all_if true s t first other = first
    all_if false s t first other = other

    all_enter : (s : ObjectState S V) (x : Call V) → P x → All P s.waiting → All P (enter limit s x).waiting
    all_enter s x holds all =
        all_if (is_full limit (count_by (is_on x.entry) s.waiting)) (end_call s x ProgramError) (queue s x)
        all (All-push P s.waiting x all holds)

    all_conclude : (s : ObjectState S V) (x : Call V) (outcome : Outcome V) → HoldsRequeued P x outcome → All P s.waiting
        → All P (conclude limit s x outcome).waiting
    all_conclude s x (Complete v) holds all = all
    all_conclude s x (Raise k) holds all = all
    all_conclude s x (Requeue target with_abort v) holds all =
        let y : Call V = record x { entry = target; value = v; without_abort = not with_abort } in
        all_if (with_abort && x.aborted) (end_call s x Cancelled) (enter limit s y) all (all_enter s y holds all)

    all_body : (s : ObjectState S V) (x : Call V) → All P s.waiting → All P (run_body m limit s x).waiting
    all_body s x all =
        let r = m.body s.unit x.entry x.value (counts_in m s) in
        all_conclude (record s { unit = r.0 }) x r.1 (requeued s.unit x (counts_in m s)) all

    all_arrive : (s : ObjectState S V) (x : Call V) (r : Result Bool ℕ) → HoldsAtBarrier P x r → All P s.waiting
        → All P (arrive m limit s x r).waiting
    all_arrive s x (Ok true) holds all = all_body s x all
    all_arrive s x (Ok false) holds all = all_enter s x holds all
    all_arrive s x (Err k) holds all = All-nil P

    all_serve : (s : ObjectState S V) (e : ℕ) (o : Option (Call V)) → All P s.waiting
        → All P (serve m limit s e o).waiting
    all_serve s e None all = all
    all_serve s e (Some x) all = all_body (take_out s (is_on e)) x (All-without P (is_on e) s.waiting all)

    all_cancel : (s : ObjectState S V) (n : ℕ) (o : Option (Call V)) → All P s.waiting → All P (cancel s n o).waiting
    all_cancel s n None all = all
    all_cancel s n (Some x) all = All-without P (has_number n) s.waiting all

    mark_holds : (b : Bool) (x : Call V) → P x → P (if b then record x { aborted = true } else x)
    mark_holds true x holds = marked x holds
    mark_holds false x holds = holds

    all_mark : (n : ℕ) (calls : List (Call V)) → All P calls → All P (map (mark n) calls)
    all_mark n calls all =
        All-map P (mark n) calls
        (All-weaker P (λ x. P (mark n x)) (λ x holds. mark_holds (has_number n x) x holds) calls all)

    all_attempt : (s : ObjectState S V) (n : ℕ) (o : Option (Call V)) → All P s.waiting → All P (attempt_cancel s n o).waiting
    all_attempt s n None all = all
    all_attempt s n (Some x) all =
        all_if x.without_abort (record s { waiting = map (mark n) s.waiting }) (cancel s n (Some x))
        (all_mark n s.waiting all) (all_cancel s n (Some x) all)

    pub all_wait : (s : ObjectState S V) (event : Event V) → HoldsIssued m s event → All P s.waiting
        → All P (step m limit s event).waiting
    all_wait s (Issue n owner e v d) holds all =
        all_arrive (record s { next = s.next + 1 }) (issued n owner e v d) (barrier_in m s e) holds all
    all_wait s (Procedure owner op v reply) holds all = all
    all_wait s (Cancel n) holds all = all_attempt s n (find (has_number n) s.waiting) all
    all_wait s (Tick time) holds all = all
    all_wait s Finalize holds all = All-nil P
    all_wait s (Serve e) holds all = all_serve s e (find (is_on e) s.waiting) all
    all_wait s (Break e) holds all = All-nil P
    all_wait s (Expire n) holds all = all_cancel s n (find (has_number n) s.waiting) all
