-- Each name has one keeper, whatever it keeps. Assumes `Logic`.
use Rattle.std.proofs.Common.{◌≡◌, ◌≢◌, ◌⊎◌, inl, inr, ℕ, List, true, false, eqb, map, subst}
use Rattle.std.proofs.lemmas.Bool.Decides.{eqb_tells}
use mathlib.Core.Option.{some}
use seplogic.Ra.Ura.{Ura}
use base.Fraction.{full_share}
use base.FractionLaws.{not-OpDef-full_share}
use base.Graph.{sum_out}
use base.Growing.{grows, growing, latest}
use base.Logic.{SProp, ent, sep, guard, guard_i}
use base.Stored.{Gv}
use types.Logic.{Logic, sem}
use types.Owned.{own_glued}
use Rattle.logbook.specs.Kept.{logs}
use Rattle.po_log.specs.Owned.{keeper_owns}

module _ {M : Type 1} {𝓤 : Ura M} (𝓛 : Logic 𝓤) where
  -- the whole right to a log can't be owned twice
  one_whole : (η : ℕ) (l m : List Gv) (Z : SProp 𝓤) → ent 𝓤 (sep 𝓤 (sem 𝓛 (latest logs full_share η l)) (sem 𝓛 (latest logs full_share η m))) Z
  unfolding latest
  one_whole η l m Z = own_glued 𝓛 (growing logs) η (some full_share, l) (some full_share, m) Z (λ c h. absurd (not-OpDef-full_share full_share (sum_out (grows logs) (some full_share, l) (some full_share, m) c h).0.0))

  module _ {E X : Type 0} (c : E → Gv) (d : X → Gv) (log : List E) (other : List X) where
    abbrev Both : ℕ → ℕ → SProp 𝓤
    Both η ζ = sep 𝓤 (sem 𝓛 (keeper_owns c η log)) (sem 𝓛 (keeper_owns d ζ other))

    no_two : (η ζ : ℕ) (Z : SProp 𝓤) → η ≡ ζ → ent 𝓤 (Both η ζ) Z
    unfolding keeper_owns
    no_two η ζ Z e = subst (λ (z : ℕ). ent 𝓤 (Both η z) Z) e (one_whole η (map c log) (map d other) Z)

    by_names : (η ζ : ℕ) → ((eqb η ζ ≡ true) × (η ≡ ζ)) ⊎ ((eqb η ζ ≡ false) × (η ≢ ζ)) → ent 𝓤 (Both η ζ) (guard 𝓤 (η ≢ ζ) (Both η ζ))
    by_names η ζ (inl same) = no_two η ζ (guard 𝓤 (η ≢ ζ) (Both η ζ)) same.1
    by_names η ζ (inr apart) = guard_i 𝓤 (η ≢ ζ) (Both η ζ) apart.1

    pub two_names : (η ζ : ℕ) → ent 𝓤 (Both η ζ) (guard 𝓤 (η ≢ ζ) (Both η ζ))
    two_names η ζ = by_names η ζ (eqb_tells η ζ)
