-- How calls ended, after one more of them has.
use Rattle.std.proofs.Common.{ℕ, ◌≡◌, ◌≢◌, ◌≤◌, ◌-◌, Some, None, set, arith, inl, inr}
use Rattle.std.proofs.lemmas.Bool.{cases_lt, lt-ltb, le-ltb}
use Rattle.std.proofs.lemmas.List.{get_or-set_other}
use Rattle.po_calls.specs.declared.end.End.{End}
use Rattle.po_history.specs.Histories.{HistoryView, outcome_of}

module _ {V : Type 0} where
  -- The outcomes of the other calls stay.
  pub outcome-set_other :
      (history : HistoryView V) (n m : ℕ) (end : End V)
      → history.first_number ≤ n → m ≢ n
      → outcome_of (record history { outcomes = set history.outcomes (n - history.first_number) (Some end) }) m
      ≡ outcome_of history m
  outcome-set_other history n m end issued other = elim (cases_lt m history.first_number) [
    | inl below ↦ rw (lt-ltb m history.first_number below)
    | inr above ↦
        let apart : m - history.first_number ≢ n - history.first_number = omega (arith, issued, above, other) in
        rw (le-ltb m history.first_number above)
        (get_or-set_other history.outcomes (n - history.first_number) (m - history.first_number) (Some end) None apart)
  ]
