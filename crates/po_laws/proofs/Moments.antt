-- What holds of the serial object at each moment of a client's run.
use Rattle.std.proofs.Common.{ℕ, zero, suc, ◌≡◌, ◌∙◌, ◌≤◌, ◌==◌, List, [], ◌∷◌, ◌++◌, replicate, Bool, true, false, ◌&&◌, ◌||◌, cond, if◌then◌else◌, Ok, Option, Some, None, nat_le, nat_lt, count_by, ap, ap₂, refl, sym, subst, arith, inl, inr, ◌⊎◌}
use Rattle.std.specs.List.{All, find, slice_index}
use Rattle.std.proofs.lemmas.Bool.{eqb-true}
use Rattle.std.proofs.lemmas.List.Elements.{All-cons, All-head, All-nil, All-weaker}
use Rattle.po_unit.specs.Meaning.{Meaning}
use Rattle.po_calls.specs.declared.call.Call.{Call}
use Rattle.po_calls.specs.declared.end.End.TheVariants.{ProgramError}
use Rattle.po_engine.specs.WaitingCalls.{has_number, is_due, is_on}
use Rattle.po_history.specs.declared.event.Event.{Event}
use Rattle.po_engine.specs.ObjectState.{IsAtRest, IsQuiet, ObjectState, barrier_in}
use Rattle.po_engine.specs.Step.{IsLegal, end_all, replay, run_body}
use Rattle.po_engine.proofs.Absent.{eq_self}
use Rattle.po_engine.proofs.Alone.{found_alone}
use Rattle.po_driven.specs.AtRest.{told}
use Rattle.po_driven.specs.DrivenView.{Awaits, DrivenView, IsDriven, KeepsSetup}
use Rattle.po_driven.specs.Happening.{Driving, happen, opening, replay as led_to}
use Rattle.po_driven.specs.Noted.{Notes, full_at, longest_on}
use Rattle.po_driven.specs.OnePlace.{IsInOnePlace, places_with}
use Rattle.po_driven.specs.DrivenCallsView.{led_by}
use Rattle.po_driven.specs.declared.happening.Happening.{Happening}
use Rattle.po_driven.specs.declared.phase.Phase.{Phase}
use Rattle.po_driven.specs.declared.phase.Phase.TheVariants.{Asked, Breaking, Resting, Running, Settling}
use Rattle.po_laws.specs.Client.{Moment, unit_object}
use Rattle.po_laws.specs.Serial.{AreNext, IsSame}
use Rattle.po_laws.proofs.Words.{base}

led_all : (d : Driving) (hs more : List Happening) → led_to d (hs ++ more) ≡ led_to (led_to d hs) more
led_all d [] more = refl
led_all d (h ∷ hs) more = led_all (happen h d) hs more

-- if this has happened, it leads the calls on
pub led_after : (old new : DrivenView) (hs : List Happening) → KeepsSetup old new → Notes hs old new → led_by new.calls ≡ led_to (led_by old.calls) hs
led_after old new hs k noted =
    ap₂ (λ n l. led_to (opening n) l) k.entries noted ∙ led_all (opening old.calls.object.state.unit) old.calls.happened hs

-- no limit is set
abbrev pub NoLimits : DrivenView → Type 0
NoLimits d = (e : ℕ) → slice_index d.limits e ≡ 0

pub zeros : (n e : ℕ) → slice_index (replicate n 0) e ≡ 0
zeros zero e = refl
zeros (suc n) zero = refl
zeros (suc n) (suc e) = zeros n e

pub longest_none : (d : DrivenView) (e : ℕ) → NoLimits d → longest_on d e ≡ None
longest_none d e none = ap full_at (none e)

one_told : (e k : ℕ) (b : Bool) → (e == k) ≡ b → (b || false) ≡ true → e ≡ k
one_told e k true is h = eqb-true e k is
one_told e k false is h = absurd (cc)

told_or : (b : Bool) (closed : List ℕ) (e k : ℕ) → (b || told (closed ++ e ∷ []) k) ≡ true → (told (closed ++ e ∷ []) k ≡ true → (told closed k ≡ true) ⊎ (e ≡ k)) → ((b || told closed k) ≡ true) ⊎ (e ≡ k)
told_or true closed e k h rest = inl refl
told_or false closed e k h rest = rest h

-- an entry that counts as closed did so before, or it is the one that was answered now
pub told_push : (closed : List ℕ) (e k : ℕ) → told (closed ++ e ∷ []) k ≡ true → (told closed k ≡ true) ⊎ (e ≡ k)
told_push [] e k h = inr (one_told e k (e == k) refl h)
told_push (x ∷ closed) e k h = told_or (x == k) closed e k h (told_push closed e k)

-- if none counts as closed, no call is queued on one that does
pub none_told : (xs : List (Call ℕ)) → All (λ x. told [] x.entry ≡ true) xs → xs ≡ []
none_told [] h = refl
none_told (x ∷ xs) h = let bad : false ≡ true = All-head (λ y. told [] y.entry ≡ true) x xs h in absurd (cc)

none_if : (b : Bool) (x : Call ℕ) (rest : Option (Call ℕ)) → cond b (Some x) rest ≡ None → (b ≡ false) × (rest ≡ None)
none_if true x rest h = let bad : Some x ≡ None = h in absurd (cc)
none_if false x rest h = (refl, h)

-- what isn't found isn't in the list
pub nowhere : (p : Call ℕ → Bool) (xs : List (Call ℕ)) → find p xs ≡ None → All (λ x. p x ≡ false) xs
nowhere p [] h = All-nil (λ x. p x ≡ false)
nowhere p (x ∷ xs) h = let off = none_if (p x) x (find p xs) h in All-cons (λ y. p y ≡ false) x xs off.0 (nowhere p xs off.1)

at_most : (b : Bool) (n : ℕ) → n ≡ (if b then 1 else 0) → n ≤ 1
at_most true n h = omega arith
at_most false n h = omega arith

-- a number is at most once among the queued calls
pub once : (d : Driving) (n : ℕ) → IsInOnePlace d → count_by (has_number n) d.state.waiting ≤ 1
once d n placed = omega (arith, at_most (nat_le 1 n && nat_lt n d.state.next) (places_with n d) (placed.each n))

-- a queued call that is found is the one with its number
pub by_number : (d : Driving) (p : Call ℕ → Bool) (x : Call ℕ) → IsInOnePlace d → find p d.state.waiting ≡ Some x → find (has_number x.number) d.state.waiting ≡ Some x
by_number d p x placed found = found_alone p (has_number x.number) d.state.waiting x found (eq_self x.number) (once d x.number placed)

module _ {S : Type 0} (m : Meaning S ℕ) where
  -- the body of the call in service has run, if there is one
  abbrev pub run_serving : ObjectState S ℕ → Option (Call ℕ) → ObjectState S ℕ
  run_serving t None = t
  run_serving t (Some x) = run_body m None t x

  -- the serial object when the driven one is in this phase: the body of the call in service has already run, and if queued
  -- calls are ending one after another, all have already ended
  abbrev pub serial_of : Phase → S → Driving → ObjectState S ℕ
  serial_of Resting u d = base u d
  serial_of (Asked e) u d = base u d
  serial_of Running u d = run_serving (base u d) d.serving
  serial_of Settling u d = base u d
  serial_of Breaking u d = end_all (base u d) ProgramError

  -- The entries that count as closed are closed.
  abbrev pub AreClosed : ObjectState S ℕ → List ℕ → Type 0
  AreClosed t closed = (e : ℕ) → told closed e ≡ true → barrier_in m t e ≡ Ok false

  -- The same, in those phases in which the entries were examined since anything changed.
  abbrev pub IsToldSo : Phase → ObjectState S ℕ → List ℕ → Type 0
  IsToldSo Resting t closed = AreClosed t closed
  IsToldSo (Asked e) t closed = AreClosed t closed
  IsToldSo Running t closed = Unit {0}
  IsToldSo Settling t closed = Unit {0}
  IsToldSo Breaking t closed = Unit {0}

  -- The serial object is in this state, while the client has these data and this driven object.
  pub record Follows (s : ObjectState S ℕ) (u : S) (d : DrivenView) : Type 0 where
    pub driven : IsDriven d
    pub entries : m.entries u ≡ d.calls.object.state.unit
    pub limits : NoLimits d
    pub same : IsSame s (serial_of d.phase u (led_by d.calls))
    pub closed : IsToldSo d.phase (base u (led_by d.calls)) d.closed

  pub follows : (s : ObjectState S ℕ) (u : S) (d : DrivenView) (p : Phase) (h : Driving) → IsDriven d → m.entries u ≡ d.calls.object.state.unit → NoLimits d → d.phase ≡ p → led_by d.calls ≡ h
      → IsSame s (serial_of p u h) → IsToldSo p (base u h) d.closed → Follows s u d
  follows s u d p h driven entries limits phase led is closed = record {
    driven = driven;
    entries = entries;
    limits = limits;
    same = subst (λ q. IsSame s (serial_of q u (led_by d.calls))) (sym phase) (subst (λ k. IsSame s (serial_of p u k)) (sym led) is);
    closed = subst (λ q. IsToldSo q (base u (led_by d.calls)) d.closed) (sym phase) (subst (λ k. IsToldSo p (base u k) d.closed) (sym led) closed);
  }

  -- These events happen to the serial object, and lead it to the client's state.
  abbrev pub Leads : ObjectState S ℕ → List (Event ℕ) → S → DrivenView → Type 0
  Leads s events u d = IsLegal m None s events × AreNext m s events × Follows (replay m None s events) u d

  pub none_closed : (t : ObjectState S ℕ) (closed : List ℕ) → closed ≡ [] → AreClosed t closed
  none_closed t closed none = λ e h. let bad : false ≡ true = subst (λ l. told l e ≡ true) none h in absurd (cc)

  -- all queued calls are on closed entries, if they are on entries that count as closed
  pub quiet : (u : S) (d : DrivenView) (closed : List ℕ) → IsDriven d → AreClosed (base u (led_by d.calls)) closed → All (λ x. told closed x.entry ≡ true) d.calls.object.state.waiting → IsQuiet m (base u (led_by d.calls))
  quiet u d closed driven are all =
      let g = led_by d.calls in let t = base u g in
      subst (λ xs. All (λ x. barrier_in m t x.entry ≡ Ok false) xs) (ap (λ s. s.waiting) driven.traced.leads.state)
      (All-weaker (λ x. told closed x.entry ≡ true) (λ x. barrier_in m t x.entry ≡ Ok false) (λ x k. are x.entry k) d.calls.object.state.waiting all)

  -- if the driven object rests, the serial one is at rest
  pub rests : (u : S) (d : DrivenView) → IsDriven d → d.phase ≡ Resting → AreClosed (base u (led_by d.calls)) d.closed → IsAtRest m (base u (led_by d.calls))
  rests u d driven phase are =
      let g = led_by d.calls in
      let idle = subst (λ p. Awaits p d.calls.object d.closed) phase driven.waits.awaits in
      let is = driven.traced.leads.state in record {
        quiet = quiet u d d.closed driven are idle.closed;
        none_due = nowhere (is_due g.state.clock) g.state.waiting (subst (λ s. find (is_due s.clock) s.waiting ≡ None) is idle.none_due);
      }

  -- the unit's object at a moment has the calls to which everything that happened leads
  pub unit_object_is : (c : Moment S) → IsDriven c.object → unit_object m c ≡ base c.unit (led_by c.object.calls)
  unit_object_is c driven =
      let g = led_by c.object.calls in
      ap (λ s. record { unit = c.unit; waiting = s.waiting; ended = g.state.ended; next = s.next; clock = s.clock; finalized = s.finalized }) driven.traced.leads.state
