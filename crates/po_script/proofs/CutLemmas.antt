-- Bytes cut at their newlines, and cut parts put together.
use Rattle.std.proofs.Common.{◌≡◌, ℕ, eqb, false, List, [], ◌∷◌, ◌++◌, refl, sym, ap, ◌∙◌, inl, inr}
use Rattle.std.proofs.lemmas.Bool.{cases_Bool}
use Rattle.std.proofs.lemmas.List.{append-nil}
use Rattle.po_script.specs.Script.{Cut, cut, onto}

-- the lines and the rest of some bytes, followed by those of more bytes
abbrev pub glue : List (List ℕ) → List ℕ → List (List ℕ) → List ℕ → Cut
glue fs r [] s = record { full = fs; rest = r ++ s }
glue fs r (l ∷ ls) s = record { full = fs ++ (r ++ l) ∷ ls; rest = s }

onto_glue : (b : ℕ) (fs : List (List ℕ)) (r : List ℕ) (ls : List (List ℕ)) (s : List ℕ) → onto b (glue fs r ls s) ≡ (let c = onto b (record { full = fs; rest = r }) in glue c.full c.rest ls s)
onto_glue b [] r [] s = elim (cases_Bool (eqb b 10)) [ inl t ↦ simp t refl | inr f ↦ simp f refl ]
onto_glue b [] r (l ∷ ls) s = elim (cases_Bool (eqb b 10)) [ inl t ↦ simp t refl | inr f ↦ simp f refl ]
onto_glue b (g ∷ gs) r [] s = elim (cases_Bool (eqb b 10)) [ inl t ↦ simp t refl | inr f ↦ simp f refl ]
onto_glue b (g ∷ gs) r (l ∷ ls) s = elim (cases_Bool (eqb b 10)) [ inl t ↦ simp t refl | inr f ↦ simp f refl ]

glue_none : (ls : List (List ℕ)) (s : List ℕ) → record { full = ls; rest = s } ≡ glue [] [] ls s
glue_none [] s = refl
glue_none (l ∷ ls) s = refl

pub cut-append : (xs ys : List ℕ) → cut (xs ++ ys) ≡ glue (cut xs).full (cut xs).rest (cut ys).full (cut ys).rest
cut-append [] ys = glue_none (cut ys).full (cut ys).rest
cut-append (b ∷ bs) ys = ap (onto b) (cut-append bs ys) ∙ onto_glue b (cut bs).full (cut bs).rest (cut ys).full (cut ys).rest

-- the lines of more bytes begin with the lines so far
pub full_grows : (xs ys : List ℕ) → (ms : List (List ℕ)) × ((cut (xs ++ ys)).full ≡ (cut xs).full ++ ms)
full_grows xs ys = go (cut ys).full (ap (λ (c : Cut). c.full) (cut-append xs ys))
  where
    go : (ls : List (List ℕ)) → (cut (xs ++ ys)).full ≡ (glue (cut xs).full (cut xs).rest ls (cut ys).rest).full → (ms : List (List ℕ)) × ((cut (xs ++ ys)).full ≡ (cut xs).full ++ ms)
    go [] e = ([], e ∙ sym (append-nil _))
    go (l ∷ ls) e = (((cut xs).rest ++ l) ∷ ls, e)

pub cut-newline : (xs : List ℕ) → cut (xs ++ 10 ∷ []) ≡ record { full = (cut xs).full ++ (cut xs).rest ∷ []; rest = [] }
cut-newline xs = cut-append xs (10 ∷ []) ∙ ap (λ (r : List ℕ). let c : Cut = record { full = (cut xs).full ++ r ∷ []; rest = [] } in c) (append-nil (cut xs).rest)

pub cut-letter : (xs : List ℕ) (b : ℕ) → eqb b 10 ≡ false → cut (xs ++ b ∷ []) ≡ record { full = (cut xs).full; rest = (cut xs).rest ++ b ∷ [] }
cut-letter xs b other = cut-append xs (b ∷ []) ∙ simp other refl
