-- What is seen of a core, given its object.
use Rattle.std.proofs.Common.{◌≡◌, Bool, false, Option, Some, None, ap}
use Rattle.std.specs.Prelude.{MatchOption}
use Rattle.po_core.specs.View.{View}
use Rattle.po_core.specs.Tickets.{CoreView}
use Rattle.po_core.proofs.TicketLemmas.{same_core}

module _ {S V : Type 0} where
  -- if a core stays as it is, so does its object
  pub same_object : {X : Type 0} (o : Option X) (b : Bool) (s t : CoreView S V) (P : X → Type 0) → MatchOption o ((b ≡ false) × (t ≡ s)) P → MatchOption o ((b ≡ false) × (t.object ≡ s.object)) P
  same_object None b s t P h = (h.0, ap (λ core. core.object) h.1)
  same_object (Some x) b s t P h = h

  -- if all parts except the object stay
  pub with_object : (s t : CoreView S V) (object : View S V) → t.object ≡ object → t.tickets ≡ s.tickets → t.capacity ≡ s.capacity → t ≡ record s { object = object }
  with_object s t object is tickets capacity = same_core t (record s { object = object }) is tickets capacity
