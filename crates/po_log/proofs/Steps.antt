-- What each method does with what the keeper owns and what was seen. Assumes `Logic`.
use Rattle.std.proofs.Common.{ℕ, ◌≤◌, List, [], ◌∷◌, ◌++◌, map, length, sym, subst}
use mathlib.Core.List.{IsPrefix}
use seplogic.Ra.Ura.{Ura}
use base.Fraction.{full_share}
use base.Stored.{Coded, Gv}
use base.Logic.{SProp, ent, sep, ex, guard, emp, via, emp∗, mono∗}
use contract.Monad.{fact, fact_i}
use base.Fml.{Fml}
use base.Shift.{Keyless}
use base.Growing.{latest, at_least, Least}
use types.Logic.{Logic, sem}
use types.Owned.{basic}
use types.Growing.{latest_new, latest_grows, latest_shows, latest_bounds, at_least_dup, at_least_join}
use types.Kit.{‵, ◌⊛◌, some, given, ◌$◌, ◌∵◌, !, qed, pick, show, learn, check, done, use2}
use Rattle.logbook.specs.Kept.{logs}
use Rattle.logbook.proofs.Roster.{prefix_out, prefix_in}
use Rattle.po_log.specs.Owned.{keeper_owns, seen_owns}
use Rattle.po_log.proofs.Beginnings.{length-coded, prefix_shorter}

-- one clause holds, and so do the others
pub tells : {M : Type 1} (𝓤 : Ura M) {A : Type 0} {Q : SProp 𝓤} → A → ent 𝓤 (emp 𝓤) Q → ent 𝓤 (emp 𝓤) (sep 𝓤 (fact 𝓤 A) Q)
tells 𝓤 {A} a others = via 𝓤 (sep 𝓤 (emp 𝓤) (emp 𝓤)) (emp∗ 𝓤 (emp 𝓤)) (mono∗ 𝓤 (fact_i 𝓤 A (emp 𝓤) a) others)

module _ {E : Type 0} (c : E → Gv) where
  -- neither what a keeper owns nor what was seen is bound to a thread
  pub keeper_keyless : (η : ℕ) (log : List E) → Keyless (keeper_owns c η log)
  unfolding keeper_owns latest
  keeper_keyless η log = tt

  pub seen_keyless : (η : ℕ) (log : List E) → Keyless (seen_owns c η log)
  unfolding seen_owns at_least
  seen_keyless η log = tt

module _ {M : Type 1} {𝓤 : Ura M} (𝓛 : Logic 𝓤) {E : Type 0} (cv : Coded E) where
  open 𝓛 use {H}

  abbrev Keeps : ℕ → List E → Fml
  Keeps = keeper_owns cv.code

  abbrev Saw : ℕ → List E → Fml
  Saw = seen_owns cv.code

  -- a new log has no items
  pub opens_one : ent 𝓤 (emp 𝓤) (H.⇛ (ex 𝓤 (λ (η : ℕ). sem 𝓛 (Keeps η []))))
  unfolding keeper_owns
  opens_one = via 𝓤 _ (latest_new logs 𝓛 []) (basic 𝓛 _)

  -- a keeper may add anything
  pub goes_on : (η : ℕ) (log more : List E) → ent 𝓤 (sem 𝓛 (Keeps η log)) (H.⇛ (sem 𝓛 (Keeps η (log ++ more))))
  unfolding keeper_owns
  goes_on η log more = via 𝓤 _ (latest_grows logs 𝓛 η (map cv.code log) (map cv.code (log ++ more)) (prefix_in cv log more)) (basic 𝓛 _)

  -- a keeper may show any beginning of its log
  pub shows : (η : ℕ) (log seen : List E) → IsPrefix seen log → ent 𝓤 (sem 𝓛 (Keeps η log)) (sep 𝓤 (sem 𝓛 (Keeps η log)) (sem 𝓛 (Saw η seen)))
  unfolding keeper_owns seen_owns
  shows η log seen p = latest_shows logs 𝓛 full_share η (map cv.code log) (map cv.code seen) (subst (λ (l : List E). IsPrefix (map cv.code seen) (map cv.code l)) p.1 (prefix_in cv seen p.0))

  -- what was seen is a beginning of what the keeper has
  pub bounds : (η : ℕ) (log l : List E) → ent 𝓤 (sep 𝓤 (sem 𝓛 (Keeps η log)) (sem 𝓛 (Saw η l))) (guard 𝓤 (IsPrefix l log) (sep 𝓤 (sem 𝓛 (Keeps η log)) (sem 𝓛 (Saw η l))))
  unfolding keeper_owns seen_owns
  bounds η log l = qed 𝓛 (‵ (latest logs full_share η (map cv.code log)) ∷ ‵ (at_least logs η (map cv.code l)) ∷ []) ∵
      use2 𝓛 (given (IsPrefix (map cv.code l) (map cv.code log)) (‵ (latest logs full_share η (map cv.code log)) ⊛ ‵ (at_least logs η (map cv.code l)))) (latest_bounds logs 𝓛 full_share η (map cv.code log) (map cv.code l)) $
      learn ! (λ p. check ! (prefix_out cv l log p) $ done !)

  -- what was seen may be owned twice
  pub twice : (η : ℕ) (log : List E) → ent 𝓤 (sem 𝓛 (Saw η log)) (sep 𝓤 (sem 𝓛 (Saw η log)) (sem 𝓛 (Saw η log)))
  unfolding seen_owns
  twice η log = at_least_dup logs 𝓛 η (map cv.code log)

  -- two lists that were seen are beginnings of one list
  pub meets : (η : ℕ) (a b : List E) → ent 𝓤 (sep 𝓤 (sem 𝓛 (Saw η a)) (sem 𝓛 (Saw η b))) (ex 𝓤 (λ (t : List Gv). guard 𝓤 (length a ≤ length b → IsPrefix a b) (sem 𝓛 (at_least logs η t))))
  unfolding seen_owns
  meets η a b =
      let own : List Gv = map cv.code a in let oth : List Gv = map cv.code b in
      qed 𝓛 (‵ (at_least logs η own) ∷ ‵ (at_least logs η oth) ∷ []) ∵
      use2 𝓛 (some (λ (t : List Gv). given (Least IsPrefix own oth t) (‵ (at_least logs η t)))) (at_least_join logs 𝓛 η own oth) $
      pick ! (λ t. learn ! (λ l. show ! (λ (u : List Gv). guard 𝓤 (length a ≤ length b → IsPrefix a b) (sem 𝓛 (at_least logs η u))) t $
      check ! (λ le. prefix_out cv a b (prefix_shorter own oth t l.0 l.1 (subst (λ (p : ℕ × ℕ). p.0 ≤ p.1) (λ i. (sym (length-coded cv.code a) i, sym (length-coded cv.code b) i)) le))) $ done !))
