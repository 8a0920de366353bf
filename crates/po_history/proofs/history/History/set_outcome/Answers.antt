-- The outcomes of the other calls stay.
use Rattle.std.proofs.Common.{◌≤◌, subst, sym}
use Rattle.po_history.specs.Histories.{HistoryView}
use Rattle.po_history.proofs.history.History.set_outcome.Goals as goal
use Rattle.po_history.proofs.Outcomes.{outcome-set_other}

pub returns-clause-others : goal.returns-clause-others
returns-clause-others g c =
    let inside = c.self.inside in
    let old : HistoryView _ = record {
      first_number = inside.first_number;
      place = inside.place;
      events = inside.events.items;
      owed = inside.owed;
      outcomes = inside.outcomes.items;
    } in
    let issued = subst (λ h. h.first_number ≤ c.args.n) (sym c.self.view_is) c.requires.issued in
    λ m other. rw (← c.self.view_is) (outcome-set_other old c.args.n m c.args.end issued other)
