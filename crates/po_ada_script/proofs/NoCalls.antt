-- Without calls there are no tickets, neither in the core nor in the script's table.
use Rattle.std.proofs.Common.{◌≡◌, ℕ, List, [], Option, Some, None, sym, ap, ◌∙◌}
use Rattle.po_engine.specs.Tickets.{number_at}
use Rattle.po_script.specs.Tickets.{key_of, Knows}
use Rattle.po_script.specs.declared.tickets.Tickets.{Tickets}

none_some : (n : ℕ) → None ≡ Some n → ⊥
none_some n e = cc

pub knows_none : (core : List (Option ℕ)) (t : Tickets) → core ≡ [] → ((n : ℕ) → key_of t n ≡ None) → Knows core t
knows_none core t none empty = record {
  kept = λ key n is. absurd (none_some n (sym (ap (λ c. number_at c key) none) ∙ is));
  live = λ key n is. absurd (none_some key (sym (empty n) ∙ is));
}
