-- What a refusal of the core says.
use Rattle.std.proofs.Common.{◌≡◌, ◌⊎◌, ℕ, ◌+◌, ◌≤◌, inl, inr, ap, sym, ◌∙◌, subst, refl, arith, Bool, true, false, Option, Some, None, Result, Ok, Err, List, is_some, nat_le, if◌then◌else◌}
use Rattle.std.specs.Prelude.{IfSome}
use Rattle.std.specs.List.{slice_get}
use Rattle.std.proofs.lemmas.Bool.Decides.{nat_tests}
use Rattle.po_unit.specs.declared.decl.Decl.{Decl}
use Rattle.po_unit.specs.declared.decl.EntryRef.{EntryRef}
use Rattle.po_unit.specs.declared.error.IndexError.{IndexError}
use Rattle.po_unit.specs.Numbering.{flat_number}
use Rattle.po_engine.specs.Tickets.{uncollected}
use Rattle.po_core.specs.declared.refusal.Refusal.{Refusal}
use Rattle.po_core.specs.declared.refusal.Refusal.TheVariants.{OutOfMemory, TooManyCalls, Finalized, NumbersSpent, PrivateEntry}
use Rattle.po_core.specs.View.{View, next_place}
use Rattle.po_core.specs.Tickets.{CoreView}
use Rattle.po_core.specs.Refusals.{MayRefuse, if_full, if_finalized, if_private, if_unindexed, or_else, if_uncounted, entry_refusal, issue_refusal, tick_refusal, finalized_refusal}
use Rattle.po_object.specs.Reservations.{HasRoomFor}
use Rattle.po_object.specs.Refused.{IsOutOfMemory, IsCallRefusal, IsTickRefusal, IsTickRefusalOf}

-- memory may run out
pub out-of-memory : (bounded : Bool) → bounded ≡ false → IsOutOfMemory bounded OutOfMemory
out-of-memory bounded is = subst (λ b. IsOutOfMemory b OutOfMemory) (sym is) refl

not_full : (most taken free : ℕ) → taken + free ≤ most → 1 ≤ free → nat_le most taken ≡ false
not_full most taken free fits some = grind (arith, nat_tests)

module _ {S V : Type 0} (core : CoreView S V) where
  -- there is a place for a call of a free pass
  pub has-place : (o : Option ℕ) → HasRoomFor core o → IfSome o (λ n. 1 ≤ n) → if_full core.capacity core.tickets ≡ None
  has-place None room some = ap (λ capacity. if_full capacity core.tickets) room
  has-place (Some n) room some =
      ap (λ capacity. if_full capacity core.tickets) room.1.0 ∙ ap (λ b. if b then Some TooManyCalls else None) (not_full room.0 (uncollected core.tickets) n room.1.1 some)

  grows : (o : Option ℕ) → HasRoomFor core o → core.capacity ≡ None → is_some o ≡ false
  grows None room is = refl
  grows (Some n) room is = let bad : None ≡ Some room.0 = sym is ∙ room.1.0 in cc

  either : (o : Option ℕ) (bounded : Bool) → is_some o ≡ bounded → HasRoomFor core o → (refusal : Option Refusal) (r : Refusal) → MayRefuse core.capacity refusal r → IsOutOfMemory bounded r ⊎ (refusal ≡ Some r)
  either o bounded is room None r may = inl (subst (λ x. IsOutOfMemory bounded x) (sym may.1) (out-of-memory bounded (sym is ∙ grows o room may.0)))
  either o bounded is room (Some why) r may = inr (ap (λ x. Some x) (sym may))

  -- it is that of the command, or memory has run out
  pub refused-either : (o : Option ℕ) (filed bounded : Bool) → is_some o ≡ filed → filed ≡ bounded → HasRoomFor core o → (refusal : Option Refusal) (r : Refusal) → MayRefuse core.capacity refusal r → IsOutOfMemory bounded r ⊎ (refusal ≡ Some r)
  refused-either o filed bounded same is room refusal r may = either o bounded (same ∙ is) room refusal r may

  or_none : (refusal full : Option Refusal) → full ≡ None → or_else refusal full ≡ refusal
  or_none None full is = is
  or_none (Some why) full is = refl

  -- and so is that of a call of a free pass
  pub call-refused : (o : Option ℕ) (filed bounded : Bool) → is_some o ≡ filed → filed ≡ bounded → HasRoomFor core o → IfSome o (λ n. 1 ≤ n) → (refusal : Option Refusal) (r : Refusal) → MayRefuse core.capacity (or_else refusal (if_full core.capacity core.tickets)) r → IsOutOfMemory bounded r ⊎ (refusal ≡ Some r)
  call-refused o filed bounded same is room some refusal r may =
      refused-either o filed bounded same is room refusal r (subst (λ why. MayRefuse core.capacity why r) (or_none refusal (if_full core.capacity core.tickets) (has-place o room some)) may)

  allowed_or : (refusal full : Option Refusal) → or_else refusal full ≡ None → refusal ≡ None
  allowed_or None full is = refl
  allowed_or (Some why) full is = cc

  -- if a call is accepted, its own refusals don't hold
  pub call-allowed : (refusal : Option Refusal) → or_else refusal (if_full core.capacity core.tickets) ≡ None → refusal ≡ None
  call-allowed refusal is = allowed_or refusal (if_full core.capacity core.tickets) is

  tick_or : (finalized : Option Refusal) (other : Option Refusal) → or_else finalized other ≡ None → finalized ≡ None
  tick_or None other is = refl
  tick_or (Some why) other is = cc

  -- if a tick is accepted, the object isn't finalized
  pub tick-allowed : tick_refusal core ≡ None → finalized_refusal core.object ≡ None
  tick-allowed is = tick_or (finalized_refusal core.object) (if_uncounted core.capacity (next_place core.object)) is

  tick_by : (capacity : Option ℕ) (finalized : Bool) (place : ℕ) (r : Refusal) → MayRefuse capacity (or_else (if finalized then Some Finalized else None) (if_uncounted capacity place)) r → IsTickRefusal (is_some capacity) r
  tick_by None true place r may = inr may
  tick_by None false place r may = inl may.1
  tick_by (Some most) true place r may = inr may
  tick_by (Some most) false place r may = uncounted (nat_le 18_446_744_073_709_551_615 place) may
    where
      uncounted : (b : Bool) → MayRefuse (Some most) (if b then Some NumbersSpent else None) r → (r ≡ NumbersSpent) ⊎ (r ≡ Finalized)
      uncounted true h = inl h
      uncounted false h = let bad : None ≡ Some most = sym h.0 in cc

  -- which refusals a tick may meet
  pub tick-refused : (bounded : Bool) → is_some core.capacity ≡ bounded → (r : Refusal) → MayRefuse core.capacity (tick_refusal core) r → IsTickRefusal bounded r
  tick-refused bounded is r may = subst (λ b. IsTickRefusal b r) is (tick_by core.capacity core.object.state.finalized (next_place core.object) r may)

  tick_of : (capacity : Option ℕ) (finalized : Option Refusal) (place : ℕ) (r : Refusal) → MayRefuse capacity (or_else finalized (if_uncounted capacity place)) r
      → IsOutOfMemory (is_some capacity) r ⊎ (or_else finalized (if is_some capacity then (if nat_le 18_446_744_073_709_551_615 place then Some NumbersSpent else None) else None) ≡ Some r)
  tick_of None (Some why) place r may = inr (ap (λ x. Some x) (sym may))
  tick_of None None place r may = inl may.1
  tick_of (Some most) (Some why) place r may = inr (ap (λ x. Some x) (sym may))
  tick_of (Some most) None place r may = spent (nat_le 18_446_744_073_709_551_615 place) may
    where
      spent : (b : Bool) → MayRefuse (Some most) (if b then Some NumbersSpent else None) r → ⊥ ⊎ ((if b then Some NumbersSpent else None) ≡ Some r)
      spent true h = inr (ap (λ x. Some x) (sym h))
      spent false h = let bad : None ≡ Some most = sym h.0 in cc

  -- and which one it meets, by the object's state
  pub tick-refused-of : (bounded : Bool) → is_some core.capacity ≡ bounded → (r : Refusal) → MayRefuse core.capacity (tick_refusal core) r → IsTickRefusalOf bounded core.object r
  tick-refused-of bounded is r may = subst (λ b. IsTickRefusalOf b core.object r) is (tick_of core.capacity (finalized_refusal core.object) (next_place core.object) r may)

-- a refusal that isn't that of the entry is the other one
entry-or : (public : Bool) (f : Result ℕ IndexError) (other : Option Refusal) (r : Refusal)
    → (if public then if_unindexed f other else Some PrivateEntry) ≡ Some r
    → ((if public then if_unindexed f None else Some PrivateEntry) ≡ Some r) ⊎ (((if public then if_unindexed f None else Some PrivateEntry) ≡ None) × (other ≡ Some r))
entry-or false f other r is = inl is
entry-or true (Ok n) other r is = inr (refl, is)
entry-or true (Err fault) other r is = inl is

private-or : (o : Option Decl) (f : Result ℕ IndexError) (other : Option Refusal) (r : Refusal) → if_private o (if_unindexed f other) ≡ Some r
    → (if_private o (if_unindexed f None) ≡ Some r) ⊎ ((if_private o (if_unindexed f None) ≡ None) × (other ≡ Some r))
private-or None f other r is = inl is
private-or (Some d) f other r is = entry-or d.public f other r is

by-state : (finalized spent : Bool) (r : Refusal) → (if finalized then Some Finalized else (if spent then Some NumbersSpent else None)) ≡ Some r → (r ≡ Finalized) ⊎ (r ≡ NumbersSpent)
by-state true spent r is = inl cc
by-state false true r is = inr cc
by-state false false r is = cc

-- which refusals a call may meet
pub call-refusal : {S V : Type 0} (bounded : Bool) (view : View S V) (shape : List Decl) (entry : EntryRef) (r : Refusal) → view.setup.shape ≡ shape
    → IsOutOfMemory bounded r ⊎ (issue_refusal view entry ≡ Some r) → IsCallRefusal bounded shape entry r
call-refusal {S} {V} bounded view shape entry r same (inl none) = inl none
call-refusal {S} {V} bounded view shape entry r same (inr is) =
    let other = if_finalized view.state (if nat_le 18_446_744_073_709_551_615 view.state.next then Some NumbersSpent else None) in
    let here : entry_refusal shape entry other ≡ Some r = subst (λ (decls : List Decl). entry_refusal decls entry other ≡ Some r) same is in
    elim (private-or (slice_get shape entry.declaration) (flat_number shape entry) other r here) [
      | inl own ↦ inr (inl own)
      | inr rest ↦ inr (inr (rest.0, by-state view.state.finalized (nat_le 18_446_744_073_709_551_615 view.state.next) r rest.1))
    ]
