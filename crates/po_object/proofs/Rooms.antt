-- There is memory for one more call of each free pass: at first, after each command, and if a call is refused.
use Rattle.std.proofs.Common.{◌≡◌, ℕ, ◌+◌, ◌≤◌, ◌<◌, Bool, true, false, refl, sym, ap, subst, ◌∙◌, arith, Option, Some, None, is_some}
use Rattle.std.specs.Option.{option_map}
use Rattle.std.specs.Prelude.{IfSome}
use Rattle.po_calls.specs.declared.ticket.Ticket.{Ticket}
use Rattle.po_engine.specs.Tickets.{number_at, SetsTicket, uncollected}
use Rattle.po_engine.proofs.TicketCounts.{none-held, one-more, one-less}
use Rattle.po_core.specs.Tickets.{CoreView, AreIssued}
use Rattle.po_object.specs.Reservations.{reserved, HasRoomFor}

-- the places are counted, or not, as before
pub stays-free : (old new : Option ℕ) → old ≡ option_map (λ n. n + 1) new → is_some new ≡ is_some old
stays-free old None is = ap is_some (sym is)
stays-free old (Some n) is = ap is_some (sym is)

pub gives-free : (old new : Option ℕ) → new ≡ option_map (λ n. n + 1) old → is_some new ≡ is_some old
gives-free None new is = ap is_some is
gives-free (Some n) new is = ap is_some is

module _ {S V : Type 0} (old new : CoreView S V) (ticket : Ticket) where
  -- after a call that used the place of its pass
  pub room-issued : (before after : Option ℕ) → before ≡ option_map (λ n. n + 1) after → new.capacity ≡ old.capacity → number_at old.tickets ticket.key ≡ None → SetsTicket old.tickets new.tickets ticket.key (Some ticket.number) → HasRoomFor old before → HasRoomFor new after
  room-issued before None is capacity vacant sets room = capacity ∙ subst (HasRoomFor old) is room
  room-issued before (Some n) is capacity vacant sets room =
      let r = subst (HasRoomFor old) is room in
      let more = one-more old.tickets new.tickets ticket.key ticket.number vacant sets in
      (r.0, (capacity ∙ r.1.0, omega (arith, r.1.1, more)))

  -- after a call was collected, and its pass has its place again
  pub room-collected : (before after : Option ℕ) → after ≡ option_map (λ n. n + 1) before → new.capacity ≡ old.capacity → number_at old.tickets ticket.key ≡ Some ticket.number → SetsTicket old.tickets new.tickets ticket.key None → HasRoomFor old before → HasRoomFor new after
  room-collected None after is capacity there sets room = subst (HasRoomFor new) (sym is) (capacity ∙ room)
  room-collected (Some n) after is capacity there sets room =
      let less = one-less old.tickets new.tickets ticket.key ticket.number there sets in
      subst (HasRoomFor new) (sym is) (room.0, (capacity ∙ room.1.0, omega (arith, room.1.1, less)))

-- if tickets and capacity are the same
pub room-same : {S V : Type 0} (old new : CoreView S V) (o : Option ℕ) → new.tickets ≡ old.tickets → new.capacity ≡ old.capacity → HasRoomFor old o → HasRoomFor new o
room-same old new None tickets capacity room = capacity ∙ room
room-same old new (Some n) tickets capacity room = (room.0, (capacity ∙ room.1.0, subst (λ list. uncollected list + n ≤ room.0) (sym tickets) room.1.1))

none_at : (o : Option ℕ) → ((n : ℕ) → o ≡ Some n → ⊥) → o ≡ None
none_at None h = refl
none_at (Some n) h = absurd (h n refl)

-- if no call was issued, none is uncollected
pub none-open : {S V : Type 0} (core : CoreView S V) → core.object.state.next ≡ core.object.setup.first_number → AreIssued core → uncollected core.tickets ≡ 0
none-open core none issued = none-held core.tickets (λ k. none_at (number_at core.tickets k) (λ n is. let i = issued k n is in omega (arith, i.0, i.1, none)))

room_by : {S V : Type 0} (core : CoreView S V) (o capacity : Option ℕ) → capacity ≡ core.capacity → is_some o ≡ is_some capacity → uncollected core.tickets ≡ 0 → IfSome o (λ n. IfSome capacity (λ most. n ≤ most)) → HasRoomFor core o
room_by core None None is same none room = sym is
room_by core None (Some most) is same none room = cc
room_by core (Some n) None is same none room = cc
room_by core (Some n) (Some most) is same none room = (most, (sym is, omega (arith, none, room)))

-- at first
pub room-first : {S V : Type 0} (core : CoreView S V) (o : Option ℕ) → is_some o ≡ is_some core.capacity → uncollected core.tickets ≡ 0 → IfSome o (λ n. IfSome core.capacity (λ most. n ≤ most)) → HasRoomFor core o
room-first core o same none room = room_by core o core.capacity refl same none room

some_same : (a b : ℕ) → Some a ≡ Some b → a ≡ b
some_same a b e = cc

-- Room is reserved for one pass after another: `before` passes have room, and the other parts are left.
module _ (bounded : Bool) (all : ℕ) where
  both_by : (b : Bool) (before : ℕ) (free rest : Option ℕ) → free ≡ reserved b before → option_map (λ n. n + before) rest ≡ reserved b all → is_some rest ≡ is_some free
  both_by false before free None free_is rest_is = ap is_some (sym free_is)
  both_by false before free (Some n) free_is rest_is = cc
  both_by true before free None free_is rest_is = cc
  both_by true before free (Some n) free_is rest_is = ap is_some (sym free_is)

  -- both are counted, or neither is
  pub reserve-both : (before : ℕ) (free rest : Option ℕ) → free ≡ reserved bounded before → option_map (λ n. n + before) rest ≡ reserved bounded all → is_some rest ≡ is_some free
  reserve-both before free rest free_is rest_is = both_by bounded before free rest free_is rest_is

  left_by : (b : Bool) (before : ℕ) (rest : Option ℕ) → option_map (λ n. n + before) rest ≡ reserved b all → before + 1 < all → IfSome rest (λ n. 1 < n)
  left_by b before None is low = tt
  left_by false before (Some n) is low = cc
  left_by true before (Some n) is low = let same : n + before ≡ all = some_same (n + before) all is in omega (arith, same, low)

  -- there is a part for the next pass
  pub reserve-left : (before : ℕ) (rest : Option ℕ) → option_map (λ n. n + before) rest ≡ reserved bounded all → before + 1 < all → IfSome rest (λ n. 1 < n)
  reserve-left before rest is low = left_by bounded before rest is low

  more_by : (b : Bool) (before : ℕ) → option_map (λ n. n + 1) (reserved b before) ≡ reserved b (before + 1)
  more_by false before = refl
  more_by true before = refl

  -- one more pass has its place
  pub reserve-more : (before : ℕ) (free later : Option ℕ) → free ≡ reserved bounded before → later ≡ option_map (λ n. n + 1) free → later ≡ reserved bounded (before + 1)
  reserve-more before free later is more = more ∙ (ap (option_map (λ n. n + 1)) is ∙ more_by bounded before)

  -- and one part fewer is left
  pub reserve-rest : (before : ℕ) (rest later : Option ℕ) → rest ≡ option_map (λ n. n + 1) later → option_map (λ n. n + before) rest ≡ reserved bounded all → option_map (λ n. n + (before + 1)) later ≡ reserved bounded all
  reserve-rest before rest None less is = ap (option_map (λ n. n + before)) (sym less) ∙ is
  reserve-rest before rest (Some n) less is =
      let same : n + (before + 1) ≡ n + 1 + before = omega arith in
      ap Some same ∙ (ap (option_map (λ n. n + before)) (sym less) ∙ is)

  own_by : (b : Bool) (before : ℕ) → option_map (λ n. 1) (reserved b before) ≡ reserved b 1
  own_by false before = refl
  own_by true before = refl

  -- the pass has one place
  pub reserve-own : (before : ℕ) (free own : Option ℕ) → free ≡ reserved bounded before → own ≡ option_map (λ n. 1) free → own ≡ reserved bounded 1
  reserve-own before free own is one = one ∙ (ap (option_map (λ n. 1)) is ∙ own_by bounded before)

  all_by : (b : Bool) → option_map (λ n. n + 0) (reserved b all) ≡ reserved b all
  all_by false = refl
  all_by true = let same : all + 0 ≡ all = omega arith in ap Some same

  -- at first all parts are left
  pub reserve-all : (rest : Option ℕ) → rest ≡ reserved bounded all → option_map (λ n. n + 0) rest ≡ reserved bounded all
  reserve-all rest is = ap (option_map (λ n. n + 0)) is ∙ all_by bounded

  is_by : (b : Bool) → is_some (reserved b all) ≡ b
  is_by false = refl
  is_by true = refl

  -- places are counted exactly if the number of calls is fixed
  pub is-reserved : (free : Option ℕ) → free ≡ reserved bounded all → is_some free ≡ bounded
  is-reserved free is = ap is_some is ∙ is_by bounded

  room_of : (b : Bool) (capacity : Option ℕ) → IfSome capacity (λ most. all ≤ most) → IfSome (reserved b all) (λ n. IfSome capacity (λ most. n ≤ most))
  room_of false capacity room = tt
  room_of true capacity room = room

  -- if there is memory for a call of each pass
  pub room-reserved : (free capacity : Option ℕ) → free ≡ reserved bounded all → IfSome capacity (λ most. all ≤ most) → IfSome free (λ n. IfSome capacity (λ most. n ≤ most))
  room-reserved free capacity is room = subst (λ o. IfSome o (λ n. IfSome capacity (λ most. n ≤ most))) (sym is) (room_of bounded capacity room)

-- if the number of calls isn't fixed
pub room-unbounded : (seats : ℕ) (capacity : Option ℕ) (bounded : Bool) → is_some capacity ≡ bounded → bounded ≡ false → IfSome capacity (λ most. seats ≤ most)
room-unbounded seats None bounded is grows = tt
room-unbounded seats (Some most) bounded is grows = let bad : true ≡ false = is ∙ grows in cc
