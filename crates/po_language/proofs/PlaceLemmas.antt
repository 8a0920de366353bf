-- Words after words, and their places.
use Rattle.std.proofs.Common.{◌≡◌, ℕ, zero, suc, ◌+◌, ◌-◌, ◌≤◌, List, [], ◌∷◌, ◌++◌, length, get_or, take, drop, refl, sym, ap, ◌∙◌, subst, arith, append_assoc, length-append}
use Rattle.std.proofs.lemmas.List.{take_at, drop_at}
use Rattle.po_language.specs.Spans.{IsSuffix, IsSpanOf}
use Rattle.po_language.specs.Words.{words}

drop_nil : (n : ℕ) → drop {A = List ℕ} n [] ≡ []
drop_nil zero = refl
drop_nil (suc n) = refl

nil_apart : (w : List ℕ) (rest : List (List ℕ)) → [] ≡ w ∷ rest → (A : Type 0) → A
nil_apart w rest e A = let is_nil : List (List ℕ) → Type 0 = elim [ [] ↦ Unit {0} | x ∷ xs ↦ A ] in subst is_nil e tt

pub suffix_longer : (line w behind rest : List ℕ) → IsSuffix line rest → ((spaces : List ℕ) × (rest ≡ spaces ++ (w ++ behind))) → IsSuffix line behind
suffix_longer line w behind rest s p = (s.0 ++ (p.0 ++ w), s.1 ∙ ap (λ r. s.0 ++ r) p.1 ∙ ap (λ r. s.0 ++ r) (sym (append_assoc p.0 w behind)) ∙ sym (append_assoc s.0 (p.0 ++ w) behind))

next_behind : (ws : List (List ℕ)) (n : ℕ) (w : List ℕ) (rest : List (List ℕ)) → drop n ws ≡ w ∷ rest → rest ≡ drop (suc n) ws
next_behind [] n w rest e = nil_apart w rest (sym (drop_nil n) ∙ e) _
next_behind (x ∷ xs) zero w rest e = ap (λ (l : List (List ℕ)). drop 1 l) (sym e)
next_behind (x ∷ xs) (suc n) w rest e = next_behind xs n w rest e

-- one word further
pub one_behind : (ws : List (List ℕ)) (n : ℕ) (w : List ℕ) (rest : List (List ℕ)) → drop n ws ≡ w ∷ rest → rest ≡ drop (n + 1) ws
one_behind ws n w rest e = let k : suc n ≡ n + 1 = omega arith in next_behind ws n w rest e ∙ ap (λ k. drop k ws) k

pub none_behind : (ws : List (List ℕ)) (n m : ℕ) → n ≤ m → drop n ws ≡ [] → drop m ws ≡ []
none_behind [] n m le e = drop_nil m
none_behind (x ∷ xs) zero m le e = nil_apart x xs (sym e) _
none_behind (x ∷ xs) (suc n) zero le e = absurd (omega arith)
none_behind (x ∷ xs) (suc n) (suc m) le e = none_behind xs n m (omega arith) e

first_behind : (ws : List (List ℕ)) (n : ℕ) (w : List ℕ) (rest : List (List ℕ)) → drop n ws ≡ w ∷ rest → get_or ws n [] ≡ w
first_behind [] n w rest e = nil_apart w rest (sym (drop_nil n) ∙ e) _
first_behind (x ∷ xs) zero w rest e = ap (λ (l : List (List ℕ)). get_or l 0 []) e
first_behind (x ∷ xs) (suc n) w rest e = first_behind xs n w rest e

past_end : (ws : List (List ℕ)) (n : ℕ) → drop n ws ≡ [] → get_or ws n [] ≡ []
past_end [] n e = refl
past_end (x ∷ xs) zero e = nil_apart x xs (sym e) _
past_end (x ∷ xs) (suc n) e = past_end xs n e

still_before : (ws : List (List ℕ)) (n : ℕ) (w : List ℕ) (rest : List (List ℕ)) → drop n ws ≡ w ∷ rest → length ws ≤ n → ⊥
still_before [] n w rest e le = nil_apart w rest (sym (drop_nil n) ∙ e) _
still_before (x ∷ xs) zero w rest e le = omega arith
still_before (x ∷ xs) (suc n) w rest e le = still_before xs n w rest e (omega arith)

-- a word is cut out of its line by its length and the length of what follows
cut_out : (line front w behind : List ℕ) → line ≡ front ++ (w ++ behind) → take (length w) (drop (length line - (length w + length behind)) line) ≡ w
cut_out line front w behind e =
    let n : length line - (length w + length behind) ≡ length front = omega (arith, ap (λ (l : List ℕ). length l) e, length-append front (w ++ behind), length-append w behind) in
    ap (λ k. take (length w) (drop k line)) n ∙ ap (λ l. take (length w) (drop (length front) l)) e ∙ ap (λ l. take (length w) l) (drop_at front (w ++ behind) (length front) refl) ∙ take_at w behind (length w) refl

pub word_span : (line rest w behind : List ℕ) (n : ℕ) → words rest ≡ drop n (words line) → IsSuffix line rest → words rest ≡ w ∷ words behind → ((spaces : List ℕ) × (rest ≡ spaces ++ (w ++ behind))) → IsSpanOf line n (record { start = length line - (length w + length behind); length = length w })
word_span line rest w behind n some s cut p =
    let whole : line ≡ (s.0 ++ p.0) ++ (w ++ behind) = s.1 ∙ ap (λ r. s.0 ++ r) p.1 ∙ sym (append_assoc s.0 p.0 (w ++ behind)) in
    let e : drop n (words line) ≡ w ∷ words behind = sym some ∙ cut in
    record {
      within = omega arith;
      word = cut_out line (s.0 ++ p.0) w behind whole ∙ sym (first_behind (words line) n w (words behind) e);
      behind = λ le. absurd (still_before (words line) n w (words behind) e le);
    }

pub end_span : (line rest : List ℕ) (n : ℕ) → words rest ≡ drop n (words line) → words rest ≡ [] → IsSpanOf line n (record { start = length line; length = 0 })
end_span line rest n some none = record {
  within = omega arith;
  word = sym (past_end (words line) n (sym some ∙ none));
  behind = λ le. refl;
}
