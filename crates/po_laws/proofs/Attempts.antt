-- An attempt to cancel a call leads the serial object on.
use Rattle.std.proofs.Common.{ℕ, ◌≡◌, ◌∙◌, ◌+◌, ◌≤◌, List, [], ◌∷◌, map, Bool, true, false, ◌&&◌, cond, if◌then◌else◌, Option, Some, None, count_by, ap, ap₂, refl, sym, subst, arith}
use Rattle.std.specs.Prelude.{IsSomeAnd}
use Rattle.std.specs.List.{find}
use Rattle.po_unit.specs.Meaning.{Meaning}
use Rattle.po_calls.specs.declared.call.Call.{Call}
use Rattle.po_calls.specs.declared.end.End.TheVariants.{Cancelled as IsCancelled}
use Rattle.po_calls.specs.declared.ticket.Ticket.{Ticket}
use Rattle.po_engine.specs.Finding.{IsFound}
use Rattle.po_engine.specs.Tickets.{is_live, waiting_among}
use Rattle.po_engine.specs.WaitingCalls.{counts_of, has_number, is_on, mark}
use Rattle.po_queues.specs.Turns.{below}
use Rattle.po_history.specs.declared.event.Event.TheVariants.{Cancel}
use Rattle.po_engine.specs.ObjectState.{ObjectState, barrier_in}
use Rattle.po_engine.specs.Step.{attempt_cancel, cancel, take_out}
use Rattle.po_engine.proofs.Sums.{sum_by-cons, sum_by-mapped}
use Rattle.po_driven.specs.AtRest.{told}
use Rattle.po_driven.specs.DrivenView.{DrivenView, IsDriven}
use Rattle.po_driven.specs.Happening.{Driving, happen}
use Rattle.po_driven.specs.Noted.{Notes, attempted}
use Rattle.po_driven.specs.Steps.{Attempts}
use Rattle.po_driven.specs.DrivenCallsView.{led_by}
use Rattle.po_driven.specs.declared.happening.Happening.TheVariants.{Cancelled, Marked}
use Rattle.po_driven.specs.declared.phase.Phase.TheVariants.{Resting, Settling}
use Rattle.po_driven.specs.declared.words.Cancellation.{Cancellation}
use Rattle.po_driven.specs.declared.words.Cancellation.TheVariants.{Kept, Made, Refused, Unknown}
use Rattle.po_laws.specs.Client.{MayBegin}
use Rattle.po_laws.specs.Serial.{IsSame, attempt_of}
use Rattle.po_laws.proofs.Words.{base, end_same, with_ended}
use Rattle.po_laws.proofs.Moments.{AreClosed, Follows, IsToldSo, Leads, led_after, once, serial_of}
use Rattle.po_laws.proofs.Turns.{begins, goes}

-- the call of a live ticket is queued
among : (P : Call ℕ → Type 0) (b : Bool) (o : Option (Call ℕ)) → IsSomeAnd (if b then o else None) P → (x : Call ℕ) × (o ≡ Some x) × P x
among P true None h = absurd h
among P true (Some x) h = (x, refl, h)
among P false o h = absurd h

on_marked : (e : ℕ) (b : Bool) (x : Call ℕ) → is_on e (if b then record x { aborted = true } else x) ≡ is_on e x
on_marked e true x = refl
on_marked e false x = refl

count_marked : (n e : ℕ) (xs : List (Call ℕ)) → count_by (is_on e) (map (mark n) xs) ≡ count_by (is_on e) xs
count_marked n e xs = sum_by-mapped (λ y. cond (is_on e y) 1 0) (mark n) (λ y. cond (is_on e y) 1 0) (λ y. ap (λ b. cond b 1 0) (on_marked e (has_number n y) y)) xs

map_same : (f h : ℕ → ℕ) → ((k : ℕ) → f k ≡ h k) → (xs : List ℕ) → map f xs ≡ map h xs
map_same f h is [] = refl
map_same f h is (x ∷ xs) = ap₂ (λ a l. a ∷ l) (is x) (map_same f h is xs)

-- a mark changes no count
counts_marked : (total n : ℕ) (xs : List (Call ℕ)) → counts_of total (map (mark n) xs) ≡ counts_of total xs
counts_marked total n xs = map_same (λ e. count_by (is_on e) (map (mark n) xs)) (λ e. count_by (is_on e) xs) (λ e. count_marked n e xs) (below total)

-- a call that is already marked stays as it is
marked_call : (x : Call ℕ) → x.aborted ≡ true → record x { aborted = true } ≡ x
marked_call x is = ap (λ b. record x { aborted = b }) (sym is)

unmarked_if : (n : ℕ) (b : Bool) (x : Call ℕ) (xs : List (Call ℕ)) → has_number n x ≡ b → count_by (has_number n) (x ∷ xs) ≤ 0 → (count_by (has_number n) xs ≤ 0 → map (mark n) xs ≡ xs) → (if b then record x { aborted = true } else x) ∷ map (mark n) xs ≡ x ∷ xs
unmarked_if n true x xs is le rest =
    let one : count_by (has_number n) (x ∷ xs) ≡ 1 + count_by (has_number n) xs = sum_by-cons (λ z. cond (has_number n z) 1 0) x xs ∙ ap (λ b. cond b 1 0 + count_by (has_number n) xs) is in
    absurd (omega (arith, one, le))
unmarked_if n false x xs is le rest = ap (λ l. x ∷ l) (rest (omega (arith, sum_by-cons (λ z. cond (has_number n z) 1 0) x xs, le)))

-- if no call has the number, none is marked
unmarked : (n : ℕ) (xs : List (Call ℕ)) → count_by (has_number n) xs ≤ 0 → map (mark n) xs ≡ xs
unmarked n [] le = refl
unmarked n (x ∷ xs) le = unmarked_if n (has_number n x) x xs refl le (unmarked n xs)

marked_if : (n : ℕ) (b : Bool) (x y : Call ℕ) (xs : List (Call ℕ)) → has_number n x ≡ b → cond b (Some x) (find (has_number n) xs) ≡ Some y → y.aborted ≡ true → count_by (has_number n) (x ∷ xs) ≤ 1
    → (find (has_number n) xs ≡ Some y → count_by (has_number n) xs ≤ 1 → map (mark n) xs ≡ xs) → (if b then record x { aborted = true } else x) ∷ map (mark n) xs ≡ x ∷ xs
marked_if n true x y xs is found aborted le rest =
    let same : x ≡ y = cc in
    let one : count_by (has_number n) (x ∷ xs) ≡ 1 + count_by (has_number n) xs = sum_by-cons (λ z. cond (has_number n z) 1 0) x xs ∙ ap (λ b. cond b 1 0 + count_by (has_number n) xs) is in
    ap₂ (λ c l. c ∷ l) (marked_call x (ap (λ c. c.aborted) same ∙ aborted)) (unmarked n xs (omega (arith, one, le)))
marked_if n false x y xs is found aborted le rest = ap (λ l. x ∷ l) (rest found (omega (arith, sum_by-cons (λ z. cond (has_number n z) 1 0) x xs, le)))

-- if the call with the number is already marked, another mark changes nothing
marked_twice : (n : ℕ) (xs : List (Call ℕ)) (y : Call ℕ) → find (has_number n) xs ≡ Some y → y.aborted ≡ true → count_by (has_number n) xs ≤ 1 → map (mark n) xs ≡ xs
marked_twice n [] y found aborted le = refl
marked_twice n (x ∷ xs) y found aborted le = marked_if n (has_number n x) x y xs refl found aborted le (λ f l. marked_twice n xs y f aborted l)

module _ {S : Type 0} (m : Meaning S ℕ) (s : ObjectState S ℕ) (u : S) (d n : DrivenView) (f : Follows m s u d) (after : IsDriven n) (may : MayBegin d) (ticket : Ticket) (expired : Bool) where
  abbrev g : Driving
  g = led_by d.calls

  abbrev now : ObjectState S ℕ
  now = base u g

  abbrev k : ℕ
  k = ticket.number

  abbrev there : ObjectState S ℕ
  there = with_ended s.ended now

  is : IsSame s now
  is = subst (λ q. IsSame s (serial_of m q u g)) may.resting f.same

  are : AreClosed m now d.closed
  are = subst (λ q. IsToldSo m q now d.closed) may.resting f.closed

  queued : (P : Call ℕ → Type 0) → IsSomeAnd (waiting_among d.calls.object.state.waiting d.calls.object.tickets ticket) P → (x : Call ℕ) × (find (has_number k) now.waiting ≡ Some x) × P x
  queued P h =
      let q = among P (is_live d.calls.object.tickets ticket) (find (has_number k) d.calls.object.state.waiting) h in
      (q.0, subst (λ t. find (has_number k) t.waiting ≡ Some q.0) f.driven.traced.leads.state q.1, q.2)

  unchanged : n ≡ d → Follows m s u n
  unchanged same = subst (λ v. Follows m s u v) (sym same) f

  cancelled_if : (b : Bool) (x : Call ℕ) → x.without_abort ≡ b → b ≡ false → IsSame (if b then record there { waiting = map (mark k) there.waiting } else cancel there k (Some x)) (base u (record g { state = cancel g.state k (Some x); serving = None }))
  cancelled_if true x without_abort off = absurd (cc)
  cancelled_if false x without_abort off = end_same s.ended (take_out now (has_number k)) x IsCancelled is.ended

  found_if : (x : Call ℕ) → find (has_number k) now.waiting ≡ Some x → (x.without_abort && x.aborted) ≡ false → IsFound (λ y. (y.without_abort && y.aborted) ≡ false) (find (has_number k) now.waiting)
  found_if x found free = subst (λ r. IsFound (λ y. (y.without_abort && y.aborted) ≡ false) r) (sym found) free

  made_leads : Attempts ticket expired d n Made → Leads m s (Cancel k ∷ []) u n
  made_leads a =
      let q = queued (λ x. x.without_abort ≡ false) a.call in let x = q.0 in
      let same = subst (λ r. IsSame (attempt_cancel there k r) (base u (record g { state = cancel g.state k r; serving = None }))) (sym q.1) (cancelled_if x.without_abort x refl q.2) in
      subst (λ r. Leads m r (Cancel k ∷ []) u n) (sym is.state) (
        ((begins m u d n f.entries f.limits f.driven a.setup after s.ended is.ended may.resting are may.alive, found_if x q.1 (ap (λ b. b && x.aborted) q.2)), tt),
        (tt, tt),
        goes m u u d n refl f.entries f.limits f.driven a.setup after (attempt_cancel there k (find (has_number k) now.waiting)) Settling (happen (Cancelled k) g) (a.made refl) (led_after d n (Cancelled k ∷ []) a.setup a.noted) same tt,
      )

  -- if the call is kept, the object rests as before
  module _ (a : Attempts ticket expired d n Kept) where
    resting : n.phase ≡ Resting
    resting = ap (λ v. v.phase) a.same ∙ may.resting

    still_closed : (t : ObjectState S ℕ) → ((e : ℕ) → barrier_in m t e ≡ barrier_in m now e) → AreClosed m t n.closed
    still_closed t barriers = λ e h. barriers e ∙ are e (subst (λ l. told l e ≡ true) (ap (λ v. v.closed) a.same) h)

    kept_on : (h : Driving) (r : ObjectState S ℕ) → led_by n.calls ≡ h → IsSame r (base u h) → ((e : ℕ) → barrier_in m (base u h) e ≡ barrier_in m now e) → Follows m r u n
    kept_on h r led same barriers = goes m u u d n refl f.entries f.limits f.driven a.setup after r Resting h resting led same (still_closed (base u h) barriers)

  expired_leads : expired ≡ true → Attempts ticket expired d n Kept → Follows m s u n
  expired_leads on a = kept_on a g s (led_after d n [] a.setup (subst (λ b. Notes (attempted Kept k b) d n) on a.noted)) is (λ e. refl)

  abbrev marked : Driving
  marked = record g { state = record g.state { waiting = map (mark k) g.state.waiting }; serving = None }

  marked_is : (b : Bool) (x : Call ℕ) → b ≡ true → record g { state = if b then record g.state { waiting = map (mark k) g.state.waiting } else cancel g.state k (Some x); serving = None } ≡ marked
  marked_is true x on = refl
  marked_is false x on = absurd (cc)

  mark_same : (b : Bool) (x : Call ℕ) → b ≡ true → IsSame (if b then record there { waiting = map (mark k) there.waiting } else cancel there k (Some x)) (base u marked)
  mark_same true x on = record { state = refl; ended = is.ended }
  mark_same false x on = absurd (cc)

  barriers_marked : (e : ℕ) → barrier_in m (base u marked) e ≡ barrier_in m now e
  barriers_marked e = ap (m.barrier u e) (counts_marked (m.entries u) k g.state.waiting)

  module _ (off : expired ≡ false) (a : Attempts ticket expired d n Kept) where
    mark_leads : (b : Bool) (x : Call ℕ) → find (has_number k) now.waiting ≡ Some x → x.without_abort ≡ true → x.aborted ≡ b → Leads m s (if b then [] else Cancel k ∷ []) u n
    mark_leads true x found without_abort aborted =
        let led = led_after d n (Marked k ∷ []) a.setup (subst (λ b. Notes (attempted Kept k b) d n) off a.noted)
        ∙ ap (λ r. record g { state = attempt_cancel g.state k r; serving = None }) found ∙ marked_is x.without_abort x without_abort in
        let twice = marked_twice k g.state.waiting x found aborted (once g k f.driven.traced.placed) in
        (tt, tt, kept_on a marked s led (subst (λ xs. IsSame s (record now { waiting = xs })) (sym twice) is) barriers_marked)
    mark_leads false x found without_abort aborted =
        let led = led_after d n (Marked k ∷ []) a.setup (subst (λ b. Notes (attempted Kept k b) d n) off a.noted)
        ∙ ap (λ r. record g { state = attempt_cancel g.state k r; serving = None }) found ∙ marked_is x.without_abort x without_abort in
        subst (λ r. Leads m r (Cancel k ∷ []) u n) (sym is.state) (
          ((begins m u d n f.entries f.limits f.driven a.setup after s.ended is.ended may.resting are may.alive, found_if x found (ap₂ (λ b c. b && c) without_abort aborted)), tt),
          (tt, tt),
          kept_on a marked (attempt_cancel there k (find (has_number k) now.waiting)) led (subst (λ r. IsSame (attempt_cancel there k r) (base u marked)) (sym found) (mark_same x.without_abort x without_abort)) barriers_marked,
        )

    attempted_leads : Leads m s (attempt_of Kept false k (find (has_number k) now.waiting)) u n
    attempted_leads =
        let q = queued (λ x. x.without_abort ≡ true) a.call in
        subst (λ r. Leads m s (attempt_of Kept false k r) u n) (sym q.1) (mark_leads q.0.aborted q.0 q.1 q.2 refl)

  kept_leads : (b : Bool) → expired ≡ b → Attempts ticket expired d n Kept → Leads m s (attempt_of Kept b k (find (has_number k) now.waiting)) u n
  kept_leads true on a = (tt, tt, expired_leads on a)
  kept_leads false off a = attempted_leads off a

  pub attempt_leads : (what : Cancellation) → Attempts ticket expired d n what → Leads m s (attempt_of what expired k (find (has_number k) now.waiting)) u n
  attempt_leads Made a = made_leads a
  attempt_leads Kept a = kept_leads expired refl a
  attempt_leads Unknown a = (tt, tt, unchanged a.same)
  attempt_leads Refused a = (tt, tt, unchanged a.same)
