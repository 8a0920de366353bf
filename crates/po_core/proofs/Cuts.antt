-- What holds of an object with a record in memory after a cut.
use Rattle.std.proofs.Common.{◌≡◌, ◌∙◌, ap, sym, arith, ℕ, ◌+◌, [], length, map, Option, Vec}
use Rattle.std.proofs.lemmas.List.Elements.{All-nil}
use Rattle.po_unit.specs.Meaning.{Meaning, IsLawful}
use Rattle.po_history.specs.Histories.{HistoryView}
use Rattle.po_engine.specs.declared.ended.Ended.{Ended}
use Rattle.po_engine.specs.Pick.{owed}
use Rattle.po_engine.specs.StateView.{StateView}
use Rattle.po_core.specs.Arrival.{arrival}
use Rattle.po_core.specs.Base.{Base, arrived}
use Rattle.po_core.specs.Setup.{Setup}
use Rattle.po_core.specs.Public.{NamesPublic}
use Rattle.po_core.specs.View.{View}
use Rattle.po_core.specs.Cutting.{present_base}
use Rattle.po_core.proofs.CutLemmas.{same_base, at_by, present_state, present_is_base, keeps_arrivals}
use Rattle.po_core.proofs.PlacesKept.{arrivals_are_places}
use Rattle.po_core.specs.Tracking.{IsTracked}
use Rattle.po_core.specs.Noting.{known_of}
use Rattle.po_core.specs.Recording.{IsRecording}

-- The base has the parts of the present picture.
pub record IsPicture {S V : Type 0} (s : StateView S V) (h : HistoryView V) (served : Option ℕ) (procedures : ℕ) (new : Base S V) : Type 0 where
  pub unit : new.unit ≡ s.state.unit
  pub waiting : new.waiting ≡ s.state.waiting
  pub arrivals : new.arrivals ≡ s.places
  pub ended : new.ended ≡ length s.state.ended
  pub next : new.next ≡ s.state.next
  pub clock : new.clock ≡ s.state.clock
  pub finalized : new.finalized ≡ s.state.finalized
  pub place : new.place ≡ h.place + length h.events
  pub ran : new.ran ≡ procedures
  pub last : new.last ≡ served

module _ {S V A B : Type 0} (m : Meaning S V) (setup : Setup S) (b : Base S V) (s : StateView S V) (h : HistoryView V) (keys : Vec ℕ A) (ends : Vec (Ended V) B) (served : Option ℕ) (place ran : ℕ) where
  -- what is seen of the object
  abbrev pub viewed : View S V
  viewed = record { setup = setup; base = b; events = h.events; state = s.state; ended_before = s.before }

  -- a base with the parts of the present picture is the present picture
  pub is_picture : (new : Base S V) → IsTracked m setup b s h.events place served → IsRecording setup (known_of s) (owed m s.state) 0 b h keys ends ran → IsPicture s h served ran new → new ≡ present_base m viewed
  is_picture new t r is =
      let arrivals : new.arrivals ≡ map (λ x. arrival m viewed x.number) s.state.waiting = is.arrivals ∙ sym (arrivals_are_places (arrival m viewed) s.state.waiting s.places t.placed) in
      same_base new (present_base m viewed) is.unit is.waiting arrivals is.ended is.next is.clock is.finalized (is.place ∙ ap (λ p. p + length h.events) r.place) (is.ran ∙ r.ran) (is.last ∙ t.last)

  -- what is tracked from the present picture on
  tracked_present : IsLawful m → IsTracked m setup b s h.events place served → IsTracked m setup (present_base m viewed) s [] place served
  tracked_present law t = record {
    history = record {
      base = present_is_base m law viewed t.history;
      legal = tt;
      leads = present_state m viewed;
      public = All-nil (NamesPublic setup.shape);
    };
    last = t.last;
    placed = at_by (arrival m viewed) (arrived (present_base m viewed)) s.state.waiting s.places (keeps_arrivals m viewed) t.placed;
    place = omega (arith, t.place);
    fits = t.fits;
    numbers = t.numbers;
    shown = t.shown;
    idle = t.idle;
  }

  pub tracked_cut : IsLawful m → (new : Base S V) (rest : HistoryView V) → IsTracked m setup b s h.events place served → IsRecording setup (known_of s) (owed m s.state) 0 b h keys ends ran
      → IsPicture s h served ran new → rest ≡ record h { place = h.place + length h.events; events = [] } → IsTracked m setup new s rest.events place served
  tracked_cut law new rest t r is after = rw (is_picture new t r is, after) (tracked_present law t)

  pub recording_cut : (new : Base S V) (rest : HistoryView V) → IsRecording setup (known_of s) (owed m s.state) 0 b h keys ends ran
      → IsPicture s h served ran new → rest ≡ record h { place = h.place + length h.events; events = [] } → IsRecording setup (known_of s) (owed m s.state) 0 new rest keys ends ran
  recording_cut new rest r is after = rw after (record {
    counted = r.counted;
    ran = omega (arith, is.ran);
    outcomes = r.outcomes;
    numbered = r.numbered;
    first_number = r.first_number;
    place = sym is.place;
    keys = r.keys;
    ended = r.ended;
    first = r.first;
    grows = r.grows;
    for_ends = r.for_ends;
    for_keys = r.for_keys;
  })
