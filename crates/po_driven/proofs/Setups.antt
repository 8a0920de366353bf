-- The setup stays through one step after the other.
use Rattle.std.proofs.Common.{◌≡◌, ◌∙◌, ap}
use Rattle.po_driven.specs.DrivenView.{DrivenView, KeepsSetup}
use Rattle.po_driven.proofs.Tickets.{kept_then, same_tickets}

pub setup_then : (a b c : DrivenView) → KeepsSetup a b → KeepsSetup b c → KeepsSetup a c
setup_then a b c ab bc = record {
  entries = bc.entries ∙ ab.entries;
  limits = bc.limits ∙ ab.limits;
  room = record { fixed = bc.room.fixed ∙ ab.room.fixed; capacity = λ fixed. bc.room.capacity (ab.room.fixed ∙ fixed) ∙ ab.room.capacity fixed };
  tickets = kept_then a.calls.object b.calls.object c.calls.object ab.tickets bc.tickets;
}

-- nothing of it changes if neither calls nor limits do
pub setup_same : (a b : DrivenView) → b.calls ≡ a.calls → b.limits ≡ a.limits → KeepsSetup a b
setup_same a b calls limits = record {
  entries = ap (λ t. t.object.state.unit) calls;
  limits = limits;
  room = record { fixed = ap (λ t. t.object.is_fixed) calls; capacity = λ fixed. ap (λ t. t.object.capacity) calls };
  tickets = same_tickets a.calls.object b.calls.object (ap (λ t. t.object.tickets) calls) (ap (λ t. t.object.state.ended) calls);
}
