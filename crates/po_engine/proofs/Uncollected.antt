-- Each waiting call is kept, so no more calls wait than are uncollected.
use Rattle.std.proofs.Common.{◌≡◌, ℕ, zero, suc, ◌+◌, ◌<◌, ◌≤◌, Bool, true, false, cond, List, [], ◌∷◌, ◌++◌, length, map, drop, get_or, set, Option, Some, None, option_map, is_some, count_by, refl, sym, ap, ap₂, ◌∙◌, arith}
use Rattle.std.proofs.Math.Seq.{drop-append_seam}
use Rattle.std.proofs.lemmas.Bool.{eqb-false}
use Rattle.std.proofs.lemmas.List.{get_or-set_other}
use Rattle.std.proofs.lemmas.List.Sums.{sum_by-set, sum_by-cons}
use Rattle.slab.specs.Slab.{Slab, get}
use Rattle.po_queues.specs.QueuedKeys.{occurs, AreDistinct}
use Rattle.po_queues.specs.Arrived.{Arrived, arrived_keys}
use Rattle.po_calls.specs.Calls.{waiting_call}
use Rattle.po_calls.specs.declared.kept.Kept.{Kept}
use Rattle.po_calls.specs.declared.call.Call.{Call}
use Rattle.po_engine.specs.Finding.{IsFound}
use Rattle.po_engine.specs.Calls.{AllQueued, IsQueuedAs, call_at}
use Rattle.po_engine.proofs.Held.{tail_free}
use Rattle.po_engine.specs.Tickets.{uncollected}

module _ {T : Type 0} where
  -- Each of the keys has something.
  abbrev pub AllHeld : List (Option T) → List ℕ → Type 0
  AllHeld slots [] = Unit {0}
  AllHeld slots (k ∷ ks) = (is_some (get_or slots k None) ≡ true) × AllHeld slots ks

  held_below : (slots : List (Option T)) (k : ℕ) → is_some (get_or slots k None) ≡ true → k < length slots
  held_below [] k held = let bad : false ≡ true = held in absurd (cc)
  held_below (x ∷ xs) zero held = omega arith
  held_below (x ∷ xs) (suc k) held = omega (arith, held_below xs k held)

  held_others : (slots : List (Option T)) (k : ℕ) (ks : List ℕ) → occurs k ks ≡ false → AllHeld slots ks → AllHeld (set slots k None) ks
  held_others slots k [] free all = tt
  held_others slots k (j ∷ js) free all =
      let t = tail_free k j js free in
      (ap is_some (get_or-set_other slots k j None None (eqb-false j k t.0)) ∙ all.0, held_others slots k js t.1 all.1)

  one_less : (slots : List (Option T)) (k : ℕ) → is_some (get_or slots k None) ≡ true → count_by is_some (set slots k None) + 1 ≡ count_by is_some slots
  one_less slots k held =
      let e = sum_by-set (λ (o : Option T). cond (is_some o) 1 0) slots k None None (held_below slots k held) in
      let one : ◌≡◌ {A = ℕ} (cond (is_some (get_or slots k None)) 1 0) 1 = ap (λ (b : Bool). cond {A = ℕ} b 1 0) held in
      omega (arith, e, one)

  -- Distinct keys that each have something are no more than all slots that have something.
  pub held_within : (slots : List (Option T)) (ks : List ℕ) → AreDistinct ks → AllHeld slots ks → length ks ≤ count_by is_some slots
  held_within slots [] d all = omega arith
  held_within slots (k ∷ ks) d all =
      let rest = held_within (set slots k None) ks d.1 (held_others slots k ks d.0 all.1) in
      omega (arith, rest, one_less slots k all.0)

module _ {V : Type 0} where
  some_number : (o : Option (Kept V)) → is_some (option_map (λ k. k.call.number) o) ≡ is_some o
  some_number None = refl
  some_number (Some k) = refl

  -- There are as many tickets of uncollected calls as calls kept.
  pub uncollected_kept : (slots : List (Option (Kept V))) → uncollected (map (option_map (λ k. k.call.number)) slots) ≡ count_by is_some slots
  uncollected_kept [] = refl
  uncollected_kept (o ∷ os) =
      let one : ◌≡◌ {A = ℕ} (cond (is_some (option_map (λ (k : Kept V). k.call.number) o)) 1 0) (cond (is_some o) 1 0) = ap (λ (b : Bool). cond {A = ℕ} b 1 0) (some_number o) in
      sum_by-cons (λ (p : Option ℕ). cond (is_some p) 1 0) (option_map (λ (k : Kept V). k.call.number) o) (map (option_map (λ (k : Kept V). k.call.number)) os)
      ∙ ap₂ (λ a b. a + b) one (uncollected_kept os)
      ∙ sym (sum_by-cons (λ (p : Option (Kept V)). cond (is_some p) 1 0) o os)

  kept_at : (P : Call V → Type 0) (o : Option (Kept V)) → IsFound P (waiting_call o) → is_some o ≡ true
  kept_at P None found = absurd found
  kept_at P (Some k) found = refl

  -- What is queued is kept.
  pub queued_held : (calls : Slab (Kept V)) (index : ℕ → Option ℕ) (items : List Arrived) → AllQueued (call_at calls) index items → AllHeld calls.slots (arrived_keys items)
  queued_held calls index [] all = tt
  queued_held calls index (i ∷ is) all = (kept_at (IsQueuedAs index i) (get calls i.key) all.0, queued_held calls index is all.1)

-- As many calls have ended in the command as come after those that had ended before.
pub ended_length : {X : Type 0} (ended before now : List X) → ended ≡ before ++ now → length (drop (length before) ended) ≡ length now
ended_length ended before now shown = ap length (ap (drop (length before)) shown ∙ drop-append_seam before now)
