use Rattle.std.proofs.Common.{◌≡◌, List, refl, ap, ◌∙◌, arith, length, vec_len}
use Rattle.po_engine.specs.declared.ended.Ended.{Ended}
use Rattle.po_core.proofs.Cuts.{IsPicture, is_picture, tracked_cut, recording_cut}
use Rattle.po_core.proofs.recorded_object.CoreInAction+U+Recorded+U.cut.Goals as goal

pub invariant_of-self-2 : goal.invariant_of-self-2
invariant_of-self-2 g c =
    let m = g.U.Unit.meaning in
    let a = c.self.inside in
    let r = c.self.invariant.has in
    let len : vec_len a.kept.ended ≡ length a.state.state.ended = omega (arith, a.kept.ended.ok.0, ap (λ (l : List (Ended g.row.U-Value.Denot)). length l) r.ended) in
    let is : IsPicture a.state a.kept.history a.last a.kept.ran _ = record {
      unit = c.in_ok-unit.ensures ∙ c.unit.ensures;
      waiting = c.in_ok-waiting.ensures.calls;
      arrivals = c.in_ok-waiting.ensures.places;
      ended = c.len.ensures ∙ len;
      next = c.next_number.ensures;
      clock = c.clock.ensures;
      finalized = c.is_finalized.ensures;
      place = c.place-place.ensures;
      ran = refl;
      last = refl;
    } in
    record {
      tracked = tracked_cut m a.setup a.kept.base a.state a.kept.history a.kept.keys a.kept.ended a.last a.place a.kept.ran g.met.U.Unit.lawful _ c.cut.new.self c.self.invariant.tracked r is c.in_ok-volume.ensures.after;
      has = recording_cut m a.setup a.kept.base a.state a.kept.history a.kept.keys a.kept.ended a.last a.place a.kept.ran _ c.cut.new.self r is c.in_ok-volume.ensures.after;
    }

pub returns-clause-after : goal.returns-clause-after
returns-clause-after g c =
    let m = g.U.Unit.meaning in
    let a = c.self.inside in
    let r = c.self.invariant.has in
    let len : vec_len a.kept.ended ≡ length a.state.state.ended = omega (arith, a.kept.ended.ok.0, ap (λ (l : List (Ended g.row.U-Value.Denot)). length l) r.ended) in
    let picture = is_picture m a.setup a.kept.base a.state a.kept.history a.kept.keys a.kept.ended a.last a.place a.kept.ran _ c.self.invariant.tracked r (record {
      unit = c.in_ok-unit.ensures ∙ c.unit.ensures;
      waiting = c.in_ok-waiting.ensures.calls;
      arrivals = c.in_ok-waiting.ensures.places;
      ended = c.len.ensures ∙ len;
      next = c.next_number.ensures;
      clock = c.clock.ensures;
      finalized = c.is_finalized.ensures;
      place = c.place-place.ensures;
      ran = refl;
      last = refl;
    }) in
    rw (← c.self.view_is, c.in_ok-volume.ensures.after, picture) refl
