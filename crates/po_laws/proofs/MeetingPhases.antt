-- A history of a meeting, event by event: it gathers calls, or lets the calls of a full meeting go.
use Rattle.std.proofs.Common.{◌≡◌, ℕ, zero, suc, ◌+◌, ◌<◌, List, [], ◌∷◌, ◌++◌, length, refl, ap, sym, subst, ◌∙◌, arith, false, Option, append-nil, append_assoc, ◌⊎◌, inl, inr}
use Rattle.po_calls.specs.declared.call.Call.{Call}
use Rattle.po_calls.specs.declared.call.Deadline.{Deadline}
use Rattle.po_history.specs.declared.event.Event.{Event}
use Rattle.po_history.specs.declared.event.Event.TheVariants.{Issue, Serve}
use Rattle.po_engine.specs.Step.{step, Needs, IsLegal, replay}
use Rattle.po_core.proofs.Runs.{replay-append}
use Rattle.po_laws.specs.Gathered.{servings, issued}
use Rattle.po_classic_units.specs.Meeting.{MeetingState, new_meeting}
use Rattle.po_laws.proofs.MeetingStates.{m, State, OnWait, one_longer}
use Rattle.po_laws.proofs.MeetingTrails.{AreLeaving, only_serves, leaving_on}
use Rattle.po_laws.proofs.MeetingQueues.{IsGathering, Fills, FillsBy, gathering_step, filled_leaves, one_more_waits}

-- one more serving in front is one more at the end
servings_push : (k : ℕ) → servings {V = ℕ} 0 k ++ Serve 0 ∷ [] ≡ servings 0 (suc k)
servings_push zero = refl
servings_push (suc k) = ap (λ l. Serve 0 ∷ l) (servings_push k)

pub is_new : (u : MeetingState) (size : ℕ) → u.size ≡ size → u.leaving ≡ false → u ≡ new_meeting size
is_new u size h k = ap (λ n. record u { size = n }) h ∙ ap (λ b. record { size = size; leaving = b }) k

module _ (limit : Option ℕ) (size : ℕ) (s : State) where
  -- The events end with the call that made a meeting full, and this many servings after it.
  pub record Began (done : List (Event ℕ)) (served : ℕ) : Type 0 where
    pub before : List (Event ℕ)
    pub number : ℕ
    pub owner : ℕ
    pub value : ℕ
    pub deadline : Deadline
    pub follows : done ≡ before ++ Issue number owner 0 value deadline ∷ servings 0 served
    pub fills : Fills limit size (replay m limit s before) number owner value deadline

  -- After these events calls are leaving a meeting.
  pub record IsUnderway (done : List (Event ℕ)) : Type 0 where
    pub served : ℕ
    pub began : Began done served
    pub calls : List (Call ℕ)
    pub leaving : AreLeaving size (replay m limit s done) calls
    pub left : served + length calls ≡ size
    pub within : served < size

  -- What state these events lead to.
  abbrev pub Phase : List (Event ℕ) → Type 0
  Phase done = IsGathering size (replay m limit s done) ⊎ IsUnderway done

  one_on : (done : List (Event ℕ)) (event : Event ℕ)
      → replay m limit s (done ++ event ∷ []) ≡ step m limit (replay m limit s done) event
  one_on done event = replay-append m limit s done (event ∷ [])

  -- after gathering
  filled : (done : List (Event ℕ)) (event : Event ℕ) → FillsBy limit size (replay m limit s done) event
      → IsUnderway (done ++ event ∷ [])
  filled done event f =
      let q = replay m limit s done in
      let x : Call ℕ = issued f.number f.owner 0 f.value f.deadline in
      let on = ap (λ y. step m limit q y) (sym f.issues) ∙ sym (one_on done event) in
      let long : length (q.waiting ++ x ∷ []) ≡ size = one_more_waits q x ∙ f.fills.many in
      record {
        served = 0;
        began = record {
          before = done;
          number = f.number;
          owner = f.owner;
          value = f.value;
          deadline = f.deadline;
          follows = ap (λ y. done ++ y ∷ []) f.issues;
          fills = f.fills;
        };
        calls = q.waiting ++ x ∷ [];
        leaving = subst (λ t. AreLeaving size t (q.waiting ++ x ∷ [])) on
            (filled_leaves limit size q f.number f.owner f.value f.deadline f.fills);
        left = omega (arith, long);
        within = omega (arith, f.fills.many);
      }

  gathering_on : (done : List (Event ℕ)) (event : Event ℕ) → IsGathering size (replay m limit s done)
      → Needs m (replay m limit s done) event → Phase (done ++ event ∷ [])
  gathering_on done event g need =
      elim (gathering_step limit size (replay m limit s done) event g need) [
        | inl h ↦ inl (subst (IsGathering size) (sym (one_on done event)) h)
        | inr f ↦ inr (filled done event f)
      ]

  -- one more serving
  began_on : (done : List (Event ℕ)) (served : ℕ) → Began done served → Began (done ++ Serve 0 ∷ []) (suc served)
  began_on done served b =
      let first : Event ℕ = Issue b.number b.owner 0 b.value b.deadline in
      record {
        before = b.before;
        number = b.number;
        owner = b.owner;
        value = b.value;
        deadline = b.deadline;
        follows = ap (λ l. l ++ Serve 0 ∷ []) b.follows
            ∙ (append_assoc b.before (first ∷ servings 0 served) (Serve 0 ∷ [])
            ∙ ap (λ l. b.before ++ first ∷ l) (servings_push served));
        fills = b.fills;
      }

  -- once the last call has gone, the next meeting begins
  emptied : (t : State) → 0 < size → AreLeaving size t [] → IsGathering size t
  emptied t lt a =
      record {
        unit = is_new t.unit size a.sized a.opens;
        few = subst (λ l. length l < size) (sym a.waiting) lt;
        on_wait = subst OnWait (sym a.waiting) a.on_wait;
      }

  -- after a serving, by the calls that are left
  after_serving : (done : List (Event ℕ)) (served : ℕ) (calls : List (Call ℕ)) → Began done served
      → AreLeaving size (replay m limit s (done ++ Serve 0 ∷ [])) calls → suc served + length calls ≡ size
      → Phase (done ++ Serve 0 ∷ [])
  after_serving done served [] b a left =
      inl (emptied (replay m limit s (done ++ Serve 0 ∷ [])) (omega (arith, left)) a)
  after_serving done served (x ∷ xs) b a left =
      inr (record {
        served = suc served;
        began = began_on done served b;
        calls = x ∷ xs;
        leaving = a;
        left = left;
        within = omega (arith, left, one_longer x xs);
      })

  -- while calls are leaving
  leaving_step : (done : List (Event ℕ)) (served : ℕ) (calls : List (Call ℕ)) (event : Event ℕ) → Began done served
      → AreLeaving size (replay m limit s done) calls → served + length calls ≡ size → served < size
      → Needs m (replay m limit s done) event → Phase (done ++ event ∷ [])
  leaving_step done served [] event b a left within need = absurd (omega (arith, left, within))
  leaving_step done served (x ∷ xs) event b a left within need =
      let is : event ≡ Serve 0 = only_serves size (replay m limit s done) x xs event a need in
      let next = subst (λ t. AreLeaving size t xs) (sym (one_on done (Serve 0)))
      (leaving_on limit size (replay m limit s done) x xs a) in
      subst (λ y. Phase (done ++ y ∷ [])) (sym is)
      (after_serving done served xs b next (omega (arith, left, one_longer x xs)))

  phase_on : (done : List (Event ℕ)) (event : Event ℕ) → Phase done → Needs m (replay m limit s done) event
      → Phase (done ++ event ∷ [])
  phase_on done event (inl g) need = gathering_on done event g need
  phase_on done event (inr u) need = leaving_step done u.served u.calls event u.began u.leaving u.left u.within need

  -- the phase at each place of a legal history
  pub phases : (done es fs : List (Event ℕ)) → Phase done → IsLegal m limit (replay m limit s done) (es ++ fs)
      → Phase (done ++ es)
  phases done [] fs h l = subst Phase (sym (append-nil done)) h
  phases done (x ∷ es) fs h l =
      let legal = subst (λ t. IsLegal m limit t (es ++ fs)) (sym (one_on done x)) l.1 in
      subst Phase (append_assoc done (x ∷ []) es) (phases (done ++ x ∷ []) es fs (phase_on done x h l.0) legal)
