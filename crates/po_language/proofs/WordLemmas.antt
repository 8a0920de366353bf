-- Words and numbers of a line, step by step.
use Rattle.std.proofs.Common.{◌≡◌, ℕ, zero, suc, ◌+◌, ◌-◌, ◌*◌, ◌^◌, ◌<◌, ◌≤◌, List, [], ◌∷◌, ◌++◌, length, get_or, take, drop, refl, sym, ap, ◌∙◌, inl, inr, arith, one-add}
use Rattle.std.specs.List.{filter, slice_split, prefix_len, fold}
use Rattle.std.proofs.lemmas.Bool.{cases_Bool}
use Rattle.std.proofs.lemmas.List.{take-append-drop}
use Rattle.std.proofs.lemmas.List.Sums.{fold-append, fold_more}
use Rattle.po_language.specs.Words.{words, is_space, is_word_byte, has_bytes, digits_value}

-- the first part is what comes before the first space
parts : (l : List ℕ) → (tail : List (List ℕ)) × (slice_split is_space l ≡ take (prefix_len is_word_byte l) l ∷ tail) × (words (drop (prefix_len is_word_byte l) l) ≡ filter has_bytes tail)
parts [] = ([], refl, refl)
parts (b ∷ bs) =
    let later = parts bs in
    elim (cases_Bool (is_space b)) [
      | inl sp ↦ (slice_split is_space bs, simp sp refl, simp sp refl)
      | inr le ↦ (later.0, simp (le, one-add, later.1) refl, simp (le, one-add) later.2)
    ]

skipped : (l : List ℕ) → words (drop (prefix_len is_space l) l) ≡ words l
skipped [] = refl
skipped (b ∷ bs) = elim (cases_Bool (is_space b)) [ inl sp ↦ simp (sp, one-add) (skipped bs) | inr le ↦ simp le refl ]

nil_at_zero : (l : List ℕ) → length l ≡ 0 → l ≡ []
nil_at_zero [] none = refl
nil_at_zero (b ∷ bs) none = absurd (omega arith)

-- after the spaces comes a letter
letter_next : (l : List ℕ) → 0 < length (drop (prefix_len is_space l) l) → 0 < prefix_len is_word_byte (drop (prefix_len is_space l) l)
letter_next [] = λ some. some
letter_next (b ∷ bs) =
    elim (cases_Bool (is_space b)) [
      | inl sp ↦ simp (sp, one-add) (letter_next bs)
      | inr le ↦ simp le (λ _. omega arith)
    ]

pub no_word : (l : List ℕ) → length (drop (prefix_len is_space l) l) ≡ 0 → words l ≡ []
no_word l none = sym (skipped l) ∙ ap words (nil_at_zero _ none)

kept : (r : List ℕ) (n : ℕ) → 0 < n → 0 < length r → (tail : List (List ℕ)) → filter has_bytes (take n r ∷ tail) ≡ take n r ∷ filter has_bytes tail
kept r zero low some tail = absurd (omega arith)
kept [] (suc n) low some tail = absurd (omega arith)
kept (b ∷ bs) (suc n) low some tail = refl

pub first_word : (l : List ℕ) → 0 < length (drop (prefix_len is_space l) l) → words l ≡ take (prefix_len is_word_byte (drop (prefix_len is_space l) l)) (drop (prefix_len is_space l) l) ∷ words (drop (prefix_len is_word_byte (drop (prefix_len is_space l) l)) (drop (prefix_len is_space l) l))
first_word l some =
    let r = drop (prefix_len is_space l) l in
    let p = parts r in
    let letter = letter_next l some in
    sym (skipped l) ∙ rw (p.1, p.2) (kept r (prefix_len is_word_byte r) letter (some) p.0)

pub cut_is : (l r w rest : List ℕ) (n m : ℕ) → n ≡ prefix_len is_space l → r ≡ drop n l → 0 < length r → m ≡ prefix_len is_word_byte r → w ≡ take m r → rest ≡ drop m r → words l ≡ w ∷ words rest
cut_is l r w rest n m en er some em ew erest =
    let e : r ≡ drop (prefix_len is_space l) l = cc in
    let p = first_word l (rw e at some) in
    rw (ew, erest, em, e) p

value_grows : (n : ℕ) (ds : List ℕ) → n ≤ fold (λ n d. n * 10 + (d - 48)) n ds
value_grows n [] = omega arith
value_grows n (d ∷ ds) = omega (arith, value_grows (n * 10 + (d - 48)) ds)

pub digits_at : (w : List ℕ) (i : ℕ) → i < length w → digits_value (take i w) * 10 + (get_or w i 0 - 48) ≤ digits_value w
digits_at w i h =
    let f : ℕ → ℕ → ℕ = λ n d. n * 10 + (d - 48) in
    let e = fold_more f 0 w i 0 h in
    let whole = ap (fold f 0) (take-append-drop (i + 1) w) in
    let parted = fold-append f 0 (take (i + 1) w) (drop (i + 1) w) in
    omega (arith, e, whole, parted, value_grows (fold f 0 (take (i + 1) w)) (drop (i + 1) w))

-- if the digits so far are too much for 64 bits, so are all digits
pub too_high : (w : List ℕ) (i : ℕ) → i < length w → 2 ^ 64 ≤ digits_value (take i w) * 10 + (get_or w i 0 - 48) → 2 ^ 64 ≤ digits_value w
too_high w i h high = omega (arith, digits_at w i h)

-- the word and what follows it come after the spaces
pub parted : (l r w rest : List ℕ) (n m : ℕ) → r ≡ drop n l → w ≡ take m r → rest ≡ drop m r → l ≡ take n l ++ (w ++ rest)
parted l r w rest n m er ew erest = rw (ew, erest, take-append-drop m r, er) (sym (take-append-drop n l))
