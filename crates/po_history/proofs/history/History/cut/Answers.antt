-- The volumes with the new one run on to the present, and no event is lost.
use Rattle.std.proofs.Common.{◌≡◌, ◌+◌, [], length, rules, ap}
use Rattle.po_history.specs.Histories.{HistoryView}
use Rattle.po_history.proofs.history.History.cut.Goals as goal
use Rattle.po_history.proofs.Volumes.{cut_off}

pub returns-clause-joined : goal.returns-clause-joined
returns-clause-joined g c =
    let inside = c.self.inside in
    let old : HistoryView _ = record {
      first_number = inside.first_number;
      place = inside.place;
      events = inside.events.items;
      owed = inside.owed;
      outcomes = inside.outcomes.items;
    } in
    let len : inside.place + c.len.result ≡ inside.place + length inside.events.items = search rules in
    let empty : c.replace-events.new.dest.items ≡ [] = search rules in
    let events = ap (λ v. v.items) c.replace-events.ensures.value in
    rw (← c.self.view_is) (cut_off old (record old { place = inside.place + c.len.result; events = c.replace-events.new.dest.items }) c.new.result
    (rw (← events) c.new.ensures)
    (rw (len, empty)))
