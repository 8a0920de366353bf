-- What a record in memory keeps after an event that follows.
use Rattle.std.proofs.Common.{◌≡◌, ◌∙◌, sym, ap, subst, ℕ, ◌<◌, ◌≤◌, ◌+◌, ◌-◌, List, [], ◌∷◌, ◌++◌, Bool, true, false, Option, None, Some, refl, arith, length, length-append, take, get_or, cond, nat_lt, nat_le, ◌&&◌, if◌then◌else◌, Vec, vec_len, vec_capacity, option_map}
use Rattle.std.specs.List.{All, count_by, find}
use Rattle.po_calls.specs.declared.end.End.{End}
use Rattle.std.proofs.Math.Seq.{take-length}
use Rattle.std.proofs.lemmas.Bool.Decides.{nat_tests}
use Rattle.std.proofs.lemmas.List.Sums.{count_by-le-length}
use Rattle.po_unit.specs.Meaning.{Meaning, IsLawful}
use Rattle.po_calls.specs.declared.ticket.Ticket.{Ticket}
use Rattle.po_history.specs.declared.event.Event.{Event}
use Rattle.po_history.specs.Histories.{HistoryView}
use Rattle.po_engine.specs.declared.ended.Ended.{Ended}
use Rattle.po_engine.specs.Ending.{has_ended}
use Rattle.po_engine.specs.WaitingCalls.{has_number}
use Rattle.po_engine.specs.ObjectState.{ObjectState, opening_state}
use Rattle.po_core.specs.Tracking.{opening_of}
use Rattle.po_core.specs.Setup.{Setup}
use Rattle.po_core.specs.Base.{Base, is_ran}
use Rattle.po_engine.specs.Pick.{owed}
use Rattle.po_core.specs.View.{IsInOnePlace}
use Rattle.po_core.specs.Outcomes.{AreOutcomes, IsCallOf}
use Rattle.po_engine.specs.StateView.{StateView}
use Rattle.po_core.proofs.Ends.{ended_on, ends_stay}
use Rattle.po_core.proofs.Histories.{history_goes_on}
use Rattle.po_core.proofs.Noted.{counted_at, outcomes_reserved}
use Rattle.po_core.proofs.Picks.{bit_le}
use Rattle.po_engine.proofs.Absent.{eq_self}
use Rattle.po_engine.proofs.Sums.{sum_by-push}
use Rattle.po_core.proofs.Wells.{well}
use Rattle.po_core.specs.Recording.{IsRecording}
use Rattle.po_core.specs.Noting.{Follows, Known, known_of, calls_of, keys_on}

-- The history may take the calls that were ended by the event from p to r: it has room for the outcome of each, and each ends
-- only once.
pub record IsOpenFor {S V : Type 0} (p r : ObjectState S V) (h : HistoryView V) : Type 0 where
  pub before : length p.ended ≤ length r.ended
  pub shown : p.ended ≡ take (length p.ended) r.ended
  pub once : (n : ℕ) → count_by (has_ended n) r.ended ≤ 1
  pub calls : All (λ x. IsCallOf h x.number) r.ended
  pub outcomes : AreOutcomes h p.ended

module _ {S V B : Type 0} where
  -- What noting needs to know about the recorded ends, if `noted` of those from the command are noted already.
  pub record IsNotable (r : StateView S V) (h : HistoryView V) (ended : Vec (Ended V) B) (noted : ℕ) : Type 0 where
    pub serving : r.serving ≡ None
    pub noted_so_far : r.before + noted ≡ vec_len ended
    pub shown : ended.items ≡ take (vec_len ended) r.state.ended
    pub for_all : length r.keys ≤ vec_capacity ended
    pub before : vec_len ended ≤ length r.state.ended
    pub once : (n : ℕ) → count_by (has_ended n) r.state.ended ≤ 1
    pub calls : All (λ x. IsCallOf h x.number) r.state.ended
    pub outcomes : AreOutcomes h ended.items

  notable : (p r : StateView S V) (h : HistoryView V) (ended : Vec (Ended V) B) (noted : ℕ) → ended.items ≡ p.state.ended
      → r.serving ≡ None → length r.keys ≤ vec_capacity ended → r.before + noted ≡ length p.state.ended → IsOpenFor p.state r.state h → IsNotable r h ended noted
  notable p r h ended noted is serving for_all so_far may =
      let len : vec_len ended ≡ length p.state.ended = omega (arith, ended.ok.0, ap (λ (l : List (Ended V)). length l) is) in record {
        serving = serving;
        noted_so_far = omega (arith, so_far, len);
        shown = is ∙ may.shown ∙ ap (λ n. take n r.state.ended) (sym len);
        for_all = for_all;
        before = omega (arith, len, may.before);
        once = may.once;
        calls = may.calls;
        outcomes = subst (AreOutcomes h) (sym is) may.outcomes;
      }

keys_len : (keys : List ℕ) (ticket : Option Ticket) → length (keys_on keys ticket) ≡ length keys + calls_of ticket
keys_len keys None = omega arith
keys_len keys (Some ticket) = omega (arith, length-append keys (ticket.key ∷ []))

in_range : (first next n k : ℕ) → 1 ≤ k → k ≡ (if nat_le first n && nat_lt n next then 1 else 0) → (first ≤ n) × (n < next)
in_range first next n k some is = (grind (arith, nat_tests), grind (arith, nat_tests))

module _ {S V : Type 0} (m : Meaning S V) (setup : Setup S) where
  ended_range : (r : ObjectState S V) → IsInOnePlace setup.first_number r → All (λ x. (setup.first_number ≤ x.number) × (x.number < r.next)) r.ended
  ended_range r placed i d lt =
      let x = get_or r.ended i d in
      let some : 1 ≤ count_by (has_ended x.number) r.ended = counted_at (has_ended x.number) r.ended i d lt (eq_self x.number) in
      in_range setup.first_number r.next x.number (count_by (has_number x.number) r.waiting + count_by (has_ended x.number) r.ended) (omega (arith, some)) (placed x.number)

  may_be_noted : IsLawful m → (b : Base S V) (es : List (Event V)) (p r : StateView S V) (e : Event V) (noted : ℕ) (ticket : Option Ticket) (h : HistoryView V) → Follows m setup b es p r e noted ticket
      → h.first_number ≡ setup.first_number → AreOutcomes h p.state.ended → setup.first_number + length h.outcomes ≡ p.state.next + calls_of ticket → IsOpenFor p.state r.state h
  may_be_noted law b es p r e noted ticket h f from ends numbered =
      let w = well m law setup b r.state (es ++ e ∷ []) (history_goes_on m setup b p.state r.state es e f.history f.need f.named f.is) in
      let range = ended_range r.state w.placed in record {
        before = ended_on m setup.max_queue p.state r.state e (length p.state.ended) f.is (omega arith);
        once = λ n. omega (arith, bit_le _ _ (w.placed n));
        calls = λ i d lt. let both = range i d lt in (omega (arith, both.0, from), omega (arith, both.0, both.1, from, numbered, f.next));
        shown = sym (take-length p.state.ended) ∙ ends_stay m setup.max_queue p.state r.state e (length p.state.ended) f.is (omega arith);
        outcomes = ends;
      }

  -- what noting needs to know
  pub recording_notable : {A B : Type 0} → IsLawful m → (b : Base S V) (p r : StateView S V) (e : Event V) (noted room : ℕ) (ticket : Option Ticket) (h : HistoryView V) (keys : Vec ℕ A) (ends : Vec (Ended V) B) (ran : ℕ)
      → IsRecording setup (known_of p) room (calls_of ticket) b h keys ends ran → {es : List (Event V)} → Follows m setup b es p r e noted ticket → IsNotable r h ends noted
  recording_notable law b p r e noted room ticket h keys ends ran k {es} f =
      notable p r h ends noted k.ended f.serving
      (omega (arith, ap (λ (l : List ℕ). length l) f.keys, keys_len p.keys ticket, ap (λ (l : List ℕ). length l) k.keys, keys.ok.0, k.for_ends)) f.so_far
      (may_be_noted law b es p r e noted ticket h f k.first_number k.outcomes k.numbered)

  -- if the event is a procedure's, the count of procedures has room for it
  pub recording_ran : {A B : Type 0} (b : Base S V) (p r : StateView S V) (e : Event V) (noted room : ℕ) (ticket : Option Ticket) (h : HistoryView V) (keys : Vec ℕ A) (ends : Vec (Ended V) B) (ran : ℕ)
      → IsRecording setup (known_of p) room (calls_of ticket) b h keys ends ran → Follows m setup b h.events p r e noted ticket → is_ran e ≡ true → ran < 18_446_744_073_709_551_615
  recording_ran b p r e noted room ticket h keys ends ran k f runs =
      omega (arith, f.spent runs, k.ran, f.history.base.counted, f.history.base.low, count_by-le-length is_ran h.events)

  -- what a record keeps when an event is added
  pub recording_push : {A B : Type 0} (b : Base S V) (s : Known S V) (e : Event V) (room calls : ℕ) (h k : HistoryView V) (keys : Vec ℕ A) (ends : Vec (Ended V) B) (ran ran_now : ℕ)
      → k ≡ record h { events = h.events ++ e ∷ []; owed = h.owed - 1 } → ran_now ≡ ran + (if is_ran e then 1 else 0)
      → IsRecording setup s (room + 1) calls b h keys ends ran → IsRecording setup s room calls b k keys ends ran_now
  recording_push b s e room calls h k keys ends ran ran_now made counted i = rw made (record {
    counted = omega (arith, i.counted);
    ran = omega (arith, counted, i.ran, sum_by-push (λ x. cond (is_ran x) 1 0) h.events e);
    outcomes = i.outcomes;
    numbered = i.numbered;
    first_number = i.first_number;
    place = i.place;
    keys = i.keys;
    ended = i.ended;
    first = i.first;
    grows = i.grows;
    for_ends = i.for_ends;
    for_keys = i.for_keys;
  })

  -- what a record keeps after an event that follows
  pub recording_on : {A B : Type 0} (b : Base S V) (p r : StateView S V) (e : Event V) (noted room : ℕ) (ticket : Option Ticket) (h k : HistoryView V) (keys more : Vec ℕ A) (ends now : Vec (Ended V) B) (ran : ℕ)
      → IsRecording setup (known_of p) room (calls_of ticket) b h keys ends ran → {es : List (Event V)} → Follows m setup b es p r e noted ticket
      → k ≡ record h { owed = owed m r.state; outcomes = k.outcomes } → length k.outcomes ≡ length h.outcomes → AreOutcomes k r.state.ended
      → more.items ≡ keys_on keys.items ticket → vec_len more ≡ vec_len keys + calls_of ticket → vec_capacity more ≡ vec_capacity keys
      → now.items ≡ r.state.ended → vec_capacity now ≡ vec_capacity ends
      → IsRecording setup (known_of r) (owed m r.state) 0 b k more now ran
  recording_on b p r e noted room ticket h k keys more ends now ran i f rest len outcomes items more_len more_cap ended cap = record {
    counted = sym (ap (λ x. x.owed) rest);
    ran = subst (λ l. ran ≡ b.ran + count_by is_ran l) (sym (ap (λ x. x.events) rest)) i.ran;
    outcomes = outcomes;
    numbered = omega (arith, len, i.numbered, f.next);
    first_number = ap (λ x. x.first_number) rest ∙ i.first_number;
    place = ap (λ x. x.place) rest ∙ i.place;
    keys = items ∙ ap (λ l. keys_on l ticket) i.keys ∙ sym f.keys;
    ended = ended;
    first = f.first ∙ i.first;
    grows = f.fixed ∙ i.grows;
    for_ends = omega (arith, i.for_ends, more_len, cap);
    for_keys = omega (arith, i.for_keys, more_len, more_cap);
  }

  -- the record after room was made for a call, and after that failed
  pub recording_room : {A B : Type 0} (b : Base S V) (p q : StateView S V) (room more : ℕ) (h k : HistoryView V) (keys keys_now : Vec ℕ A) (ends ends_now : Vec (Ended V) B) (ran : ℕ)
      → IsRecording setup (known_of p) room 0 b h keys ends ran → q ≡ record p { capacity = q.capacity }
      → k ≡ record h { owed = h.owed + more; outcomes = h.outcomes ++ None ∷ [] }
      → (keys_now.items ≡ keys.items) × (vec_len keys_now ≡ vec_len keys) → (ends_now.items ≡ ends.items) × (vec_len ends_now ≡ vec_len ends)
      → vec_len keys_now + 1 ≤ vec_capacity keys_now → vec_len keys_now + 1 ≤ vec_capacity ends_now
      → IsRecording setup (known_of q) (room + more) 1 b k keys_now ends_now ran
  recording_room b p q room more h k keys keys_now ends ends_now ran i same made sk se rk re = rw made (record {
    counted = omega (arith, i.counted);
    ran = i.ran;
    outcomes = λ n. outcomes_reserved h (h.owed + more) n ∙ i.outcomes n ∙ ap (λ s. option_end n s) (sym (ap (λ s. s.state.ended) same));
    numbered = omega (arith, i.numbered, length-append h.outcomes (None ∷ []), ap (λ s. s.state.next) same);
    first_number = i.first_number;
    place = i.place;
    keys = sk.0 ∙ i.keys ∙ sym (ap (λ s. s.keys) same);
    ended = se.0 ∙ i.ended ∙ sym (ap (λ s. s.state.ended) same);
    first = ap (λ s. s.first) same ∙ i.first;
    grows = ap (λ s. s.is_fixed) same ∙ i.grows;
    for_ends = re;
    for_keys = rk;
  })
    where
      option_end : ℕ → List (Ended V) → Option (End V)
      option_end n ended = option_map (λ x. x.end) (find (has_ended n) ended)

  pub recording_still : {A B : Type 0} (b : Base S V) (p q : StateView S V) (room : ℕ) (h : HistoryView V) (keys keys_now : Vec ℕ A) (ends ends_now : Vec (Ended V) B) (ran : ℕ)
      → IsRecording setup (known_of p) room 0 b h keys ends ran → q ≡ record p { capacity = q.capacity }
      → (keys_now.items ≡ keys.items) × (vec_len keys_now ≡ vec_len keys) → (ends_now.items ≡ ends.items) × (vec_len ends_now ≡ vec_len ends)
      → vec_capacity ends ≤ vec_capacity ends_now
      → IsRecording setup (known_of q) room 0 b h keys_now ends_now ran
  recording_still b p q room h keys keys_now ends ends_now ran i same sk se grows = record {
    counted = i.counted;
    ran = i.ran;
    outcomes = subst (AreOutcomes h) (sym (ap (λ s. s.state.ended) same)) i.outcomes;
    numbered = omega (arith, i.numbered, ap (λ s. s.state.next) same);
    first_number = i.first_number;
    place = i.place;
    keys = sk.0 ∙ i.keys ∙ sym (ap (λ s. s.keys) same);
    ended = se.0 ∙ i.ended ∙ sym (ap (λ s. s.state.ended) same);
    first = ap (λ s. s.first) same ∙ i.first;
    grows = ap (λ s. s.is_fixed) same ∙ i.grows;
    for_ends = omega (arith, i.for_ends, sk.1, grows);
    for_keys = omega (arith, keys_now.ok.1);
  }

  either_same : {X : Type 0} (b : Bool) (o : Option X) → (if b then o else o) ≡ o
  either_same true o = refl
  either_same false o = refl

  none_ended : (first place : ℕ) → AreOutcomes {V = V} (record { first_number = first; place = place; events = []; owed = 1; outcomes = [] }) []
  none_ended first place n = either_same (nat_lt n first) None

  -- the record of a newly made object
  pub recording_opens : {A B : Type 0} (h : HistoryView V) (keys : Vec ℕ A) (ends : Vec (Ended V) B)
      → h ≡ record { first_number = setup.first_number; place = setup.first_place; events = []; owed = 1; outcomes = [] } → keys.items ≡ [] → vec_len keys ≡ 0 → ends.items ≡ []
      → (s : Known S V) → s.state ≡ opening_state setup.opening setup.first_number → s.keys ≡ [] → s.first ≡ setup.first_number → s.is_fixed ≡ false
      → IsRecording setup s 1 0 (opening_of setup) h keys ends 0
  recording_opens h keys ends made no_keys none no_ends s is k f g = rw (made, is) (record {
    counted = refl;
    ran = refl;
    outcomes = none_ended setup.first_number setup.first_place;
    numbered = omega arith;
    first_number = refl;
    place = refl;
    keys = no_keys ∙ sym k;
    ended = no_ends;
    first = f;
    grows = g;
    for_ends = omega (arith, none);
    for_keys = omega (arith, none);
  })
