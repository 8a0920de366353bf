-- SPDX-License-Identifier: MIT
-- A copy of the calls, with room for more of them.
use Rattle.std.proofs.Common.{◌≡◌, ℕ, ◌≤◌, ◌+◌, Option, Some, None, ap, refl, arith}
use Rattle.std.proofs.lemmas.List.Elements.{same_from_all_zip}
use Rattle.slab.specs.Slab.{Slab, slab_len, get, IsSlotClone, IsSlabClone}
use Rattle.po_calls.specs.declared.kept.Kept.{Kept}
use Rattle.po_calls.specs.Calls.{CallTable, AreReached}

module _ {V : Type 0} where
  same_slot : (a b : Option (Kept V)) → IsSlotClone (λ kept clone. clone ≡ kept) a b → b ≡ a
  same_slot None b is = is
  same_slot (Some k) None is = absurd is
  same_slot (Some k) (Some l) is = ap (λ x. Some x) is

  -- a clone that got more room keeps the same calls
  pub same_calls : (calls cloned now : Slab (Kept V)) → IsSlabClone (λ kept clone. clone ≡ kept) calls cloned
      → now ≡ record cloned { capacity = now.capacity } → now ≡ record calls { capacity = now.capacity }
  same_calls calls cloned now is grown =
      let slots : cloned.slots ≡ calls.slots = same_from_all_zip _ calls.slots cloned.slots is.slots same_slot in
      cc (slots, is.vacant_key, grown)

  pub same_table : (calls now : Slab (Kept V)) (last : Option ℕ) → now ≡ record calls { capacity = now.capacity }
      → let copy : CallTable V = record { calls = now; last = last } in
      copy ≡ record { calls = record calls { capacity = now.capacity }; last = last }
  same_table calls now last same = ap (λ s. record { calls = s; last = last }) same

  -- there is room for as many calls as were asked for
  pub enough_room : (calls now : Slab (Kept V)) (most more : ℕ) → now ≡ record calls { capacity = now.capacity }
      → most ≤ slab_len calls + more → slab_len now + more ≤ now.capacity → most ≤ now.capacity
  enough_room calls now most more same asked room =
      let len : slab_len now ≡ slab_len calls = ap slab_len same in
      omega (arith, len, asked, room)

  -- the numbers stay reached
  pub reached_in_copy : (calls now : Slab (Kept V)) (last : Option ℕ) → now ≡ record calls { capacity = now.capacity }
      → AreReached (record { calls = calls; last = last }) → AreReached (record { calls = now; last = last })
  reached_in_copy calls now last same h = rw same h
