-- The bytes of a source, cut one by one.
use Rattle.std.proofs.Common.{◌≡◌, ℕ, zero, suc, ◌+◌, ◌<◌, ◌≤◌, eqb, ltb, false, List, [], ◌∷◌, ◌++◌, length, take, drop, get_or, min, Option, Result, Ok, Err, OnErr, refl, sym, ap, ◌∙◌, inl, inr, arith, append_assoc}
use Rattle.std.proofs.lemmas.List.{append-nil, length_push, length-take-le, get_or-take, drop_more, take_all}
use Rattle.std.proofs.lemmas.Bool.{cases_Bool, lt-ltb, ltb-true, ltb-false}
use Rattle.std.proofs.KnownBytes.{Consumes-trans}
use Rattle.std.specs.Io.KnownBytes.{Consumes}
use Rattle.po_script.proofs.CountLemmas.{one_more_read}
use Rattle.po_script.proofs.CutLemmas.{cut-newline, cut-letter}
use Rattle.po_script.specs.Chunk.{Given}
use Rattle.po_script.specs.Cutter.{CutsBy}
use Rattle.po_script.specs.Script.{Cut, cut}
use Rattle.po_streams.specs.Source.{CountsMore}

-- the first of the waiting bytes
pub first_waits : (bytes : List ℕ) (taken count : ℕ) → taken < count → count ≤ length bytes → drop taken (take count bytes) ≡ get_or bytes taken 0 ∷ drop (taken + 1) (take count bytes)
first_waits bytes taken count some within =
    drop_more (take count bytes) taken 0 (omega (arith, some, length-take-le count bytes within)) ∙ ap (λ b. b ∷ drop (taken + 1) (take count bytes)) (get_or-take count bytes taken 0 some)

-- one more read, after all given bytes are taken
pub given_read : (more bytes buffer : List ℕ) (n : ℕ) (start left has : Option (List ℕ)) (first before reads : Option ℕ) → more ≡ [] → Given more bytes start left first before → n ≤ length buffer → Consumes left has (take n buffer) → CountsMore before reads (min n 1) → Given (take n buffer) bytes start has first reads
given_read more bytes buffer n start left has first before reads none s within gave told =
    let old : (count : ℕ) × (count ≤ length bytes) × CountsMore first before count = (s.counted.0, omega (arith, s.counted.1, ap (λ (l : List ℕ). length l) none), s.counted.2) in
    let counted = one_more_read first before reads (length bytes) n (min n 1) (omega arith) old told in
    record {
      consumed = Consumes-trans start left has bytes (take n buffer) (rw (none, append-nil) at s.consumed) gave;
      counted = (counted.0, omega (arith, counted.1, length-take-le n buffer within), counted.2);
    }

-- one of the given bytes is taken
given_taken : (byte : ℕ) (more later bytes : List ℕ) (start left : Option (List ℕ)) (first reads : Option ℕ) → Given more bytes start left first reads → more ≡ byte ∷ later → Given later (bytes ++ byte ∷ []) start left first reads
given_taken byte more later bytes start left first reads s is =
    record {
      consumed = rw (is, sym (append_assoc bytes (byte ∷ []) later)) at s.consumed;
      counted = (s.counted.0, omega (arith, s.counted.1, length_push bytes byte, ap (λ (l : List ℕ). length l) is), s.counted.2);
    }

-- the first n of (the first n of xs) and ys are the first n of xs and ys
take-take-append : (n : ℕ) (xs ys : List ℕ) → take n (take n xs ++ ys) ≡ take n (xs ++ ys)
take-take-append zero xs ys = refl
take-take-append (suc n) [] ys = refl
take-take-append (suc n) (x ∷ xs) ys = ap (λ l. x ∷ l) (take-take-append n xs ys)

module _ (line : List ℕ) (number total : ℕ) (more later bytes : List ℕ) (start left has : Option (List ℕ)) (first before reads : Option ℕ) (s : CutsBy line number total more bytes start left first before) where
  -- nothing is cut
  pub stays : Given later bytes start has first reads → CutsBy line number total later bytes start has first reads
  stays source = record { line_is = s.line_is; number_is = s.number_is; total_is = s.total_is; source = source }

  -- a byte of the line is cut
  pub letter_cuts : (longer : List ℕ) (byte : ℕ) → eqb byte 10 ≡ false → longer ≡ take 4097 (line ++ byte ∷ []) → more ≡ byte ∷ later → CutsBy longer number (total + 1) (drop 1 more) (bytes ++ byte ∷ []) start left first before
  letter_cuts longer byte other kept is =
      let e = cut-letter bytes byte other in
      record {
        line_is = kept ∙ ap (λ l. take 4097 (l ++ byte ∷ [])) s.line_is ∙ take-take-append 4097 (cut bytes).rest (byte ∷ []) ∙ ap (λ (c : Cut). take 4097 c.rest) (sym e);
        number_is = omega (arith, s.number_is, ap (λ (c : Cut). length c.full) e);
        total_is = omega (arith, s.total_is, length_push bytes byte);
        source = rw (ap (drop 1) is) (given_taken byte more later bytes start left first before s.source is);
      }

  -- a newline is cut
  pub newline_cuts : more ≡ 10 ∷ later → CutsBy [] (number + 1) (total + 1) (drop 1 more) (bytes ++ 10 ∷ []) start left first before
  newline_cuts is =
      let e = cut-newline bytes in
      record {
        line_is = ap (λ (c : Cut). take 4097 c.rest) (sym e);
        number_is = omega (arith, s.number_is, ap (λ (c : Cut). length c.full) e, length_push (cut bytes).full (cut bytes).rest);
        total_is = omega (arith, s.total_is, length_push bytes 10);
        source = rw (ap (drop 1) is) (given_taken 10 more later bytes start left first before s.source is);
      }

-- how often the source was read
pub few_reads : (line : List ℕ) (number total : ℕ) (more bytes : List ℕ) (start left : Option (List ℕ)) (first reads : Option ℕ) → CutsBy line number total more bytes start left first reads → total ≤ 67108864 → (count : ℕ) × (count ≤ 67108865) × CountsMore first reads count
few_reads line number total more bytes start left first reads s few = (s.source.counted.0, omega (arith, few, s.total_is, s.source.counted.1), s.source.counted.2)

-- the bytes that are kept show whether a line is too long
pub kept_long : (rest : List ℕ) → ltb 4096 (length (take 4097 rest)) ≡ ltb 4096 (length rest)
kept_long rest = elim (cases_Bool (ltb 4096 (length rest))) [
  | inl long ↦
      let more : 4097 ≤ length rest = omega (arith, ltb-true 4096 (length rest) long) in
      lt-ltb 4096 (length (take 4097 rest)) (omega (arith, length-take-le 4097 rest more)) ∙ sym long
  | inr few ↦ ap (λ (l : List ℕ). ltb 4096 (length l)) (take_all 4097 rest (omega (arith, ltb-false 4096 (length rest) few)))
]

-- what holds anyway holds of any error
pub on_err : {T E : Type 0} (P : Type 0) (r : Result T E) → P → OnErr r P
on_err P (Ok v) h = tt
on_err P (Err e) h = h
