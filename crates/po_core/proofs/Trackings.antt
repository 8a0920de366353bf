-- What an object keeps of its history: how that begins, and how it goes on by one event, which its
-- record notes.
use Rattle.std.proofs.Common.{◌≡◌, ◌∙◌, sym, ap, subst, refl, arith, ℕ, ◌<◌, ◌≤◌, ◌+◌, ◌-◌, List, [], ◌∷◌, ◌++◌, Bool, true, false, cond, Option, None, Some, length, length-append}
use Rattle.std.specs.List.{All, count_by}
use Rattle.po_unit.specs.Meaning.{Meaning, IsLawful}
use Rattle.po_unit.specs.Numbering.{entry_count}
use Rattle.po_calls.specs.declared.call.Deadline.{Deadline}
use Rattle.po_calls.specs.declared.ticket.Ticket.{Ticket}
use Rattle.po_history.specs.declared.event.Event.{Event}
use Rattle.po_history.specs.declared.event.Event.TheVariants.{Issue}
use Rattle.po_engine.specs.ObjectState.{ObjectState, opening_state, IsAtRest}
use Rattle.po_engine.specs.Step.{Needs, step}
use Rattle.po_engine.specs.Pick.{owed, served_last, pick, Fits}
use Rattle.po_engine.specs.Arrival.{AreAt, noted, call_of}
use Rattle.po_engine.specs.StateView.{StateView}
use Rattle.po_core.specs.Base.{Base, is_issue, is_ran, state_with, state_at}
use Rattle.po_core.specs.Setup.{Setup}
use Rattle.po_core.specs.Public.{NamesPublic}
use Rattle.po_core.specs.History.{IsHistory}
use Rattle.po_core.proofs.Counting.{replay-next}
use Rattle.po_core.proofs.Wells.{well, next_inner, next-issue}
use Rattle.po_core.proofs.Picks.{pick_fits, pick_none_rests, needs_from_fits, public_from_fits, no_procedure}
use Rattle.po_core.proofs.Falls.{owed_falls, owed_issue}
use Rattle.po_core.proofs.PlacesKept.{arrived_by, places_go_on, places_all, arrived_earlier}
use Rattle.po_core.proofs.Settling.{last-push}
use Rattle.po_core.proofs.Histories.{history_opens, history_goes_on}
use Rattle.po_core.proofs.Ends.{ended_on, ends_stay}
use Rattle.po_core.specs.Tracking.{IsTracked, ArePlaces, opening_of}
use Rattle.po_core.specs.Noting.{Follows}

not_ran : {X : Type 0} (b : Bool) → b ≡ true → cond {A = ℕ} b 1 0 ≡ 0 → X
not_ran true h none = absurd (omega (arith, none))
not_ran false h none = absurd (cc)

-- room for a number of events, with that number written otherwise
pub room_as : (P : ℕ → ℕ → Type 0) (n i k : ℕ) → n ≡ i → P n k → P i k
room_as P n i k same h = subst (λ j. P j k) same h

module _ {S V : Type 0} (m : Meaning S V) (setup : Setup S) where
  -- what a newly made object keeps
  pub tracked_opens : m.entries setup.opening ≡ entry_count setup.shape → setup.first_place < 18_446_744_073_709_551_616 → setup.first_number < 18_446_744_073_709_551_616
      → (s : StateView S V) (most : ℕ) (fixed : Bool)
      → s ≡ record { state = opening_state setup.opening setup.first_number; places = []; serving = None; tickets = []; keys = []; first = setup.first_number; capacity = most; is_fixed = fixed; before = 0 }
      → IsTracked m setup (opening_of setup) s [] setup.first_place None
  tracked_opens shaped low_place low s most fixed is = rw is (record {
    history = history_opens m setup shaped;
    last = refl;
    placed = tt;
    place = omega arith;
    fits = omega (arith, low_place);
    numbers = omega (arith, low);
    shown = omega arith;
    idle = refl;
  })

  -- what an object keeps after an event that follows
  tracked_on : (b : Base S V) (p r : StateView S V) (es : List (Event V)) (k : ℕ) (last : Option ℕ) (e : Event V) (n : ℕ) (ticket : Option Ticket) → IsTracked m setup b p es k last
      → Follows m setup b es p r e n ticket → AreAt (noted (arrived_by m setup b p.state es) k (call_of p.state e)) r.state.waiting r.places
      → ArePlaces (k + 1) (owed m r.state) r.state.next → r.state.next ≤ 18_446_744_073_709_551_615
      → IsTracked m setup b r (es ++ e ∷ []) (k + 1) (served_last last e)
  tracked_on b p r es k last e n ticket kept f at fits numbers =
      let same : state_at b p.state.ended ≡ state_at b r.state.ended = ap (state_with b) (ends_stay m setup.max_queue p.state r.state e b.ended f.is kept.history.base.ended) in
      let more : length p.state.ended ≤ length r.state.ended = ended_on m setup.max_queue p.state r.state e (length p.state.ended) f.is (omega arith) in record {
        history = history_goes_on m setup b p.state r.state es e kept.history f.need f.named f.is;
        last = last-push b.last last es e kept.last;
        placed = places_go_on m setup b p.state r.state es e k r.places kept.history.leads same kept.place at;
        place = omega (arith, kept.place, length-append es (e ∷ []));
        fits = fits;
        numbers = numbers;
        shown = omega (arith, more, f.so_far);
        idle = f.serving;
      }

  -- the event that is picked fits
  pub tracked_fits : IsLawful m → (b : Base S V) (p : StateView S V) (es : List (Event V)) (k : ℕ) (last : Option ℕ) (e : Event V) → IsTracked m setup b p es k last
      → pick m setup.order last p.state ≡ Some e → Fits m p.state e
  tracked_fits law b p es k last e kept is =
      pick_fits m law setup.max_queue (entry_count setup.shape) setup.first_number p.state (well m law setup b p.state es kept.history) setup.order last e is

  -- if none is picked, the object is at rest
  pub tracked_rests : IsLawful m → (b : Base S V) (p : StateView S V) (es : List (Event V)) (k : ℕ) (last : Option ℕ) → IsTracked m setup b p es k last
      → pick m setup.order last p.state ≡ None → IsAtRest m p.state
  tracked_rests law b p es k last kept is =
      pick_none_rests m law setup.max_queue (entry_count setup.shape) setup.first_number p.state (well m law setup b p.state es kept.history) setup.order last is

  -- an inner event follows
  pub inner_follows : IsLawful m → (b : Base S V) (p r : StateView S V) (es : List (Event V)) (k : ℕ) (last : Option ℕ) (e : Event V) → IsTracked m setup b p es k last
      → Fits m p.state e → r ≡ record p { state = step m setup.max_queue p.state e; places = r.places } → (n : ℕ) → n ≡ length p.state.ended - p.before
      → Follows m setup b es p r e n None
  inner_follows law b p r es k last e kept fits is n so_far =
      let same : r.state ≡ step m setup.max_queue p.state e = ap (λ s. s.state) is in record {
        history = kept.history;
        need = needs_from_fits m p.state e fits;
        named = public_from_fits m setup.shape p.state e fits;
        is = same;
        serving = ap (λ s. s.serving) is ∙ kept.idle;
        keys = ap (λ s. s.keys) is;
        first = ap (λ s. s.first) is;
        fixed = ap (λ s. s.is_fixed) is;
        next = omega (arith, ap (λ s. s.next) same ∙ next_inner m law setup.max_queue (entry_count setup.shape) p.state e fits);
        so_far = omega (arith, so_far, kept.shown, ap (λ s. s.before) is);
        spent = λ ran. not_ran (is_ran e) ran (no_procedure m p.state e fits);
      }

  -- what an object keeps after an inner event
  pub tracked_inner : IsLawful m → (b : Base S V) (p r : StateView S V) (es : List (Event V)) (k : ℕ) (last : Option ℕ) (e : Event V) (n : ℕ) → IsTracked m setup b p es k last
      → Fits m p.state e → Follows m setup b es p r e n None
      → AreAt (noted (arrived_by m setup b p.state es) k (call_of p.state e)) r.state.waiting r.places
      → IsTracked m setup b r (es ++ e ∷ []) (k + 1) (served_last last e)
  tracked_inner law b p r es k last e n kept fits f at =
      let less : owed m r.state + 1 ≤ owed m p.state = rw f.is (owed_falls m law setup.max_queue p.state e fits) in
      tracked_on b p r es k last e n None kept f at (omega (arith, less, kept.fits, f.next)) (omega (arith, kept.numbers, f.next))

  -- a command's own event that issues no call is one that follows
  pub own_follows : (b : Base S V) (p r : StateView S V) (es : List (Event V)) (k : ℕ) (last : Option ℕ) (e : Event V) → IsTracked m setup b p es k last
      → Needs m p.state e → NamesPublic setup.shape e
      → (places : List ℕ) → r ≡ record p { state = step m setup.max_queue p.state e; places = places; before = length p.state.ended }
      → (step m setup.max_queue p.state e).next ≡ p.state.next → (is_ran e ≡ true → k < 18_446_744_073_709_551_615)
      → Follows m setup b es p r e 0 None
  own_follows b p r es k last e kept need named places is next spent = record {
    history = kept.history;
    need = need;
    named = named;
    is = ap (λ s. s.state) is;
    serving = ap (λ s. s.serving) is ∙ kept.idle;
    keys = ap (λ s. s.keys) is;
    first = ap (λ s. s.first) is;
    fixed = ap (λ s. s.is_fixed) is;
    next = omega (arith, ap (λ s. s.state.next) is, next);
    so_far = omega (arith, ap (λ s. s.before) is);
    spent = λ ran. omega (arith, spent ran, kept.place);
  }

  -- what an object keeps after such an event, if the places of those that may follow fit
  pub tracked_own : (b : Base S V) (p r : StateView S V) (es : List (Event V)) (k : ℕ) (last : Option ℕ) (e : Event V) → IsTracked m setup b p es k last
      → Follows m setup b es p r e 0 None → AreAt (noted (arrived_by m setup b p.state es) k (call_of p.state e)) r.state.waiting r.places
      → ArePlaces (k + 1) (owed m r.state) p.state.next
      → IsTracked m setup b r (es ++ e ∷ []) (k + 1) (served_last last e)
  tracked_own b p r es k last e kept f at fits =
      tracked_on b p r es k last e 0 None kept f at (omega (arith, fits, f.next)) (omega (arith, kept.numbers, f.next))

  -- an issued call is an event that follows
  pub issue_follows : IsLawful m → (b : Base S V) (p r : StateView S V) (es : List (Event V)) (k : ℕ) (last : Option ℕ) (owner e : ℕ) (v : V) (d : Deadline) (ticket : Ticket) → IsTracked m setup b p es k last
      → Needs m p.state (Issue p.state.next owner e v d) → NamesPublic setup.shape (Issue p.state.next owner e v d)
      → r ≡ record p { state = step m setup.max_queue p.state (Issue p.state.next owner e v d); places = r.places; tickets = r.tickets; keys = p.keys ++ ticket.key ∷ []; before = length p.state.ended }
      → Follows m setup b es p r (Issue p.state.next owner e v d) 0 (Some ticket)
  issue_follows law b p r es k last owner e v d ticket kept need named is =
      let same : r.state ≡ step m setup.max_queue p.state (Issue p.state.next owner e v d) = ap (λ s. s.state) is in record {
        history = kept.history;
        need = need;
        named = named;
        is = same;
        serving = ap (λ s. s.serving) is ∙ kept.idle;
        keys = ap (λ s. s.keys) is;
        first = ap (λ s. s.first) is;
        fixed = ap (λ s. s.is_fixed) is;
        next = ap (λ s. s.next) same ∙ next-issue m law setup.max_queue (entry_count setup.shape) p.state p.state.next owner e v d;
        so_far = omega (arith, ap (λ s. s.before) is);
        spent = λ ran. absurd (cc);
      }

  -- what an object keeps after a call is issued
  pub tracked_issue : IsLawful m → (b : Base S V) (p r : StateView S V) (es : List (Event V)) (k : ℕ) (last : Option ℕ) (owner e : ℕ) (v : V) (d : Deadline) (ticket : Ticket) → IsTracked m setup b p es k last
      → Follows m setup b es p r (Issue p.state.next owner e v d) 0 (Some ticket)
      → AreAt (noted (arrived_by m setup b p.state es) k (Some p.state.next)) r.state.waiting r.places
      → m.rank e v ≤ 255 → p.state.next < 18_446_744_073_709_551_615
      → IsTracked m setup b r (es ++ Issue p.state.next owner e v d ∷ []) (k + 1) last
  tracked_issue law b p r es k last owner e v d ticket kept f at low few =
      let more : owed m r.state ≤ owed m p.state + (m.rank e v + 2) = rw f.is (owed_issue m law setup.max_queue p.state p.state.next owner e v d) in
      tracked_on b p r es k last (Issue p.state.next owner e v d) 0 (Some ticket) kept f at (omega (arith, more, kept.fits, f.next, low)) (omega (arith, few, f.next))

  -- there is room for what an issued call may cause
  pub more_room : IsLawful m → (p r : ObjectState S V) (owner e : ℕ) (v : V) (d : Deadline) (rank : ℕ) → r ≡ step m setup.max_queue p (Issue p.next owner e v d)
      → rank ≡ m.rank e v → owed m r ≤ owed m p + rank + 2
  more_room law p r owner e v d rank is ranked =
      let more : owed m r ≤ owed m p + (m.rank e v + 2) = rw is (owed_issue m law setup.max_queue p p.next owner e v d) in
      omega (arith, more, ranked)

  -- only these parts of what is seen of the state matter
  pub tracked_same : (b : Base S V) (p r : StateView S V) (es : List (Event V)) (k : ℕ) (last : Option ℕ) → r.state ≡ p.state → r.places ≡ p.places → r.serving ≡ p.serving → r.before ≤ length p.state.ended
      → IsTracked m setup b p es k last → IsTracked m setup b r es k last
  tracked_same b p r es k last state places serving shown kept = record {
    history = subst (λ s. IsHistory m setup b s es) (sym state) kept.history;
    last = kept.last;
    placed = subst (λ s. AreAt (arrived_by m setup b s es) s.waiting r.places) (sym state) (subst (AreAt (arrived_by m setup b p.state es) p.state.waiting) (sym places) kept.placed);
    place = kept.place;
    fits = subst (λ s. ArePlaces k (owed m s) s.next) (sym state) kept.fits;
    numbers = subst (λ s. s.next ≤ 18_446_744_073_709_551_615) (sym state) kept.numbers;
    shown = subst (λ s. r.before ≤ length s.ended) (sym state) shown;
    idle = serving ∙ kept.idle;
  }

  -- the calls that the history issues are numbered from the base's next number on
  pub tracked_issued : (b : Base S V) (s : StateView S V) (es : List (Event V)) (k : ℕ) (last : Option ℕ) → IsTracked m setup b s es k last
      → s.state.next ≡ b.next + count_by is_issue es
  tracked_issued b s es k last kept = sym (ap (λ p. p.next) kept.history.leads) ∙ replay-next m setup.max_queue (state_at b s.state.ended) es

  -- there is a place for an inner event
  pub tracked_room : IsLawful m → (b : Base S V) (p : StateView S V) (es : List (Event V)) (k : ℕ) (last : Option ℕ) (e : Event V) → IsTracked m setup b p es k last
      → Fits m p.state e → k + 1 < 340_282_366_920_938_463_463_374_607_431_768_211_456
  tracked_room law b p es k last e kept fits = omega (arith, owed_falls m law setup.max_queue p.state e fits, kept.fits, kept.numbers)

  -- and for a command's own event
  pub tracked_place : (b : Base S V) (p : StateView S V) (es : List (Event V)) (k : ℕ) (last : Option ℕ) → IsTracked m setup b p es k last
      → k + 1 < 340_282_366_920_938_463_463_374_607_431_768_211_456
  tracked_place b p es k last kept = omega (arith, kept.fits, kept.numbers)

  -- each waiting call arrived before the present place
  pub tracked_later : (law : IsLawful m) (b : Base S V) (s : StateView S V) (es : List (Event V)) (place : ℕ) (last : Option ℕ) → IsTracked m setup b s es place last → All (λ k. k < place) s.places
  tracked_later law b s es place last kept =
      subst (λ i. All (λ k. k < i) s.places) (sym kept.place)
      (places_all (λ k. k < b.place + length es) (arrived_by m setup b s.state es) s.state.waiting s.places kept.placed (arrived_earlier m setup law b s.state es kept.history))
