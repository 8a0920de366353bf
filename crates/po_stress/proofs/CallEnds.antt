-- How many calls ended in each way: receipt by receipt, and pass by pass.
use Rattle.std.proofs.Common.{subst, ◌≡◌, ◌<◌, ◌+◌, ◌++◌, ℕ, List, [], ◌∷◌, length, get_or, slice_get, refl, sym, ap, ◌∙◌, arith, Some, None, Bool, true, false, cond, Result}
use Rattle.std.specs.List.{All, count_by, filter, find}
use Rattle.std.proofs.lemmas.List.Elements.{All-head, All-tail, All-from_get_or}
use Rattle.std.proofs.lemmas.List.Sums.{length-filter, sum_by-append, sum_by-cons}
use Rattle.std.proofs.lemmas.Option.{get_or_from_slice_get}
use Rattle.po_calls.specs.declared.call.Deadline.{Deadline}
use Rattle.po_calls.specs.declared.end.End.{End}
use Rattle.po_calls.specs.declared.end.End.TheVariants.{Completed, Raised, Cancelled, ProgramError}
use Rattle.po_receipts.specs.declared.receipt.Receipt.{Receipt}
use Rattle.po_receipts.specs.declared.receipt.Receipt.TheVariants.{Called, Ran}
use Rattle.po_receipts.specs.Passes.{PassView, IsTallied, is_call, fresh, unfiled}
use Rattle.po_object.specs.Seats.{is_at, AreFresh, OneEach, AreBySeat, ArePlaced}
use Rattle.po_object.proofs.Seating.{kept-found, sum-by_seat}
use Rattle.po_stress.proofs.EndSums.{one_if}
use Rattle.po_stress.specs.declared.counting.Ending.{Ending}
use Rattle.po_stress.specs.declared.counting.Ending.TheVariants.{Done, GivenUp, Failed}
use Rattle.po_stress.specs.declared.ends.Ends.{Ends}
use Rattle.po_stress.specs.Ends.{all_of, is_receipt_as, filed_as, filed_by_all, calls_of, AreEndsOf, AreEndsOfAll, AreUnused}

-- a list with one element
one-listed : {A : Type 0} (xs : List A) → length xs ≡ 1 → (q : A) × (xs ≡ q ∷ [])
one-listed [] e = absurd (omega (arith, e))
one-listed (x ∷ []) e = (x, refl)
one-listed (x ∷ y ∷ xs) e = absurd (omega (arith, e))

module _ {V : Type 0} where
  -- one more receipt is counted too
  pub filed-more : (ending : Ending) (rs : List (Receipt V)) (r : Receipt V)
      → filed_as ending (rs ++ r ∷ []) ≡ filed_as ending rs + one_if (is_receipt_as ending r)
  filed-more ending rs r =
      let a = sum_by-append (λ x. one_if (is_receipt_as ending x)) rs (r ∷ []) in
      let b = sum_by-cons (λ x. one_if (is_receipt_as ending x)) r [] in
      omega (arith, a, b)

  -- the receipt of a procedure counts for no ending
  pub ends-ran : (rs : List (Receipt V)) (op : ℕ) (v : V) (reply : Result V ℕ) (ends : Ends)
      → AreEndsOf rs ends → AreEndsOf (rs ++ Ran op v reply ∷ []) ends
  ends-ran rs op v reply ends h = record {
    completed = (let more = filed-more Done rs (Ran op v reply) in omega (arith, h.completed, more));
    cancelled = (let more = filed-more GivenUp rs (Ran op v reply) in omega (arith, h.cancelled, more));
    program_error = (let more = filed-more Failed rs (Ran op v reply) in omega (arith, h.program_error, more));
  }

  -- the receipt of a call counts only for its ending
  pub ends-called : (rs : List (Receipt V)) (r : Receipt V) (old new : Ends)
      → new.completed ≡ old.completed + one_if (is_receipt_as Done r)
      → new.cancelled ≡ old.cancelled + one_if (is_receipt_as GivenUp r)
      → new.program_error ≡ old.program_error + one_if (is_receipt_as Failed r)
      → AreEndsOf rs old → AreEndsOf (rs ++ r ∷ []) new
  ends-called rs r old new a b d h = record {
    completed = (let more = filed-more Done rs r in omega (arith, h.completed, more, a));
    cancelled = (let more = filed-more GivenUp rs r in omega (arith, h.cancelled, more, b));
    program_error = (let more = filed-more Failed rs r in omega (arith, h.program_error, more, d));
  }

  ended-once : (r : Receipt V)
      → one_if (is_receipt_as Done r) + one_if (is_receipt_as GivenUp r) + one_if (is_receipt_as Failed r) ≡ one_if (is_call r)
  ended-once (Called number entry value deadline (Completed v)) = refl
  ended-once (Called number entry value deadline (Raised k)) = refl
  ended-once (Called number entry value deadline Cancelled) = refl
  ended-once (Called number entry value deadline ProgramError) = refl
  ended-once (Ran op v reply) = refl

  -- each receipt of a call is counted once
  pub filed-all : (rs : List (Receipt V)) → filed_as Done rs + filed_as GivenUp rs + filed_as Failed rs ≡ count_by is_call rs
  filed-all [] = refl
  filed-all (r ∷ rs) =
      let a = sum_by-cons (λ x. one_if (is_receipt_as Done x)) r rs in
      let b = sum_by-cons (λ x. one_if (is_receipt_as GivenUp x)) r rs in
      let d = sum_by-cons (λ x. one_if (is_receipt_as Failed x)) r rs in
      let e = sum_by-cons (λ x. one_if (is_call x)) r rs in
      let here = ended-once r in
      let rest = filed-all rs in
      omega (arith, a, b, d, e, here, rest)

  -- so the numbers add up to the count of calls
  pub ends-all : (rs : List (Receipt V)) (ends : Ends) → AreEndsOf rs ends → all_of ends ≡ count_by is_call rs
  ends-all rs ends h = omega (arith, h.completed, h.cancelled, h.program_error, filed-all rs)

  calls-filed : (rs : List (Receipt V)) (r : Receipt V) → count_by is_call (rs ++ r ∷ []) ≡ count_by is_call rs + one_if (is_call r)
  calls-filed rs r =
      let a = sum_by-append (λ x. one_if (is_call x)) rs (r ∷ []) in
      let b = sum_by-cons (λ x. one_if (is_call x)) r [] in
      omega (arith, a, b)

  -- if one more receipt is within the bound, so is one more call
  pub room-left : (bound : ℕ) (rs new : List (Receipt V)) (number entry : ℕ) (value : V) (deadline : Deadline) (end : End V) (ends : Ends)
      → new ≡ rs ++ Called number entry value deadline end ∷ [] → AreEndsOf rs ends → count_by is_call new < bound → all_of ends + 1 < bound
  room-left bound rs new number entry value deadline end ends filed h within =
      let same : count_by is_call new ≡ count_by is_call (rs ++ Called number entry value deadline end ∷ []) = ap (λ l. count_by is_call l) filed in
      omega (arith, within, same, calls-filed rs (Called number entry value deadline end), ends-all rs ends h)

  -- and to the calls that the pass counted, if none is pending
  pub ends-tallied : (pass : PassView V) (ends : Ends) → AreEndsOf pass.receipts ends → IsTallied pass → pass.pending ≡ None → all_of ends ≡ pass.calls
  ends-tallied pass ends h t free =
      let none : unfiled pass.pending ≡ 0 = ap unfiled free in
      omega (arith, ends-all pass.receipts ends h, t.calls, none)

  -- new passes are unused
  pub fresh-unused : (n : ℕ) (ps : List (PassView V)) → AreFresh n ps → AreUnused ps
  fresh-unused n ps h =
      All-from_get_or (λ (pass : PassView V). (pass.pending ≡ None) × (pass.receipts ≡ [])) ps (fresh 0)
      (λ i within.
      let same : get_or ps i (fresh 0) ≡ fresh i = get_or_from_slice_get ps i (fresh i) (fresh 0) (h.1 i (omega (arith, within, h.0))) in
      (ap (λ (p : PassView V). p.pending) same, ap (λ (p : PassView V). p.receipts) same))

  filed-by-more : (ending : Ending) (ps : List (PassView V)) (pass : PassView V)
      → filed_by_all ending (ps ++ pass ∷ []) ≡ filed_by_all ending ps + filed_as ending pass.receipts
  filed-by-more ending ps pass =
      let x = sum_by-append (λ (p : PassView V). filed_as ending p.receipts) ps (pass ∷ []) in
      let y = sum_by-cons (λ (p : PassView V). filed_as ending p.receipts) pass [] in
      omega (arith, x, y)

  -- with the numbers of one more pass, they are those of all
  pub ends-more : (ps : List (PassView V)) (pass : PassView V) (old here new : Ends)
      → new.completed ≡ old.completed + here.completed
      → new.cancelled ≡ old.cancelled + here.cancelled
      → new.program_error ≡ old.program_error + here.program_error
      → AreEndsOfAll ps old → AreEndsOf pass.receipts here → AreEndsOfAll (ps ++ pass ∷ []) new
  ends-more ps pass old here new a b d h k = record {
    completed = (let more = filed-by-more Done ps pass in omega (arith, h.completed, k.completed, more, a));
    cancelled = (let more = filed-by-more GivenUp ps pass in omega (arith, h.cancelled, k.cancelled, more, b));
    program_error = (let more = filed-by-more Failed ps pass in omega (arith, h.program_error, k.program_error, more, d));
  }

  -- how many calls the passes counted, with one more pass
  pub calls-more : (ps : List (PassView V)) (pass : PassView V) → calls_of (ps ++ pass ∷ []) ≡ calls_of ps + pass.calls
  calls-more ps pass =
      let x = sum_by-append (λ (p : PassView V). p.calls) ps (pass ∷ []) in
      let y = sum_by-cons (λ (p : PassView V). p.calls) pass [] in
      omega (arith, x, y)

  -- the pass of a seat that has exactly one
  of-seat : (n s : ℕ) (ps : List (PassView V)) → OneEach n ps → s < n → (q : PassView V) × (find (is_at s) ps ≡ Some q)
  of-seat n s ps one within =
      let kept = one-listed (filter (is_at s) ps) (omega (arith, length-filter (is_at s) ps, one s within)) in
      (kept.0, kept-found (is_at s) ps kept.0 [] kept.1)

  found-among : (P : PassView V → Type 0) (f : PassView V → Bool) (b : Bool) (p : PassView V) (ps : List (PassView V)) (q : PassView V)
      → P p → (find f ps ≡ Some q → P q) → cond b (Some p) (find f ps) ≡ Some q → P q
  found-among P f true p ps q here rest e = (let same : p ≡ q = cc in subst P same here)
  found-among P f false p ps q here rest e = rest e

  -- what holds of all holds of the one that `find` finds
  found-holds : (P : PassView V → Type 0) (f : PassView V → Bool) (ps : List (PassView V)) (q : PassView V) → All P ps → find f ps ≡ Some q → P q
  found-holds P f [] q all e = let r : None ≡ Some q = e in absurd (let s : ⊥ = cc in s)
  found-holds P f (p ∷ ps) q all e = found-among P f (f p) p ps q (All-head P p ps all) (λ e'. found-holds P f ps q (All-tail P p ps all) e') e

  -- what holds of all passes holds of them sorted by seat
  pub all-by_seat : (P : PassView V → Type 0) (n : ℕ) (ps qs : List (PassView V)) → OneEach n ps → AreBySeat n ps qs → All P ps → All P qs
  all-by_seat P n ps qs one sorted all =
      All-from_get_or P qs (fresh 0)
      (λ s within.
      let own = of-seat n s ps one (omega (arith, within, sorted.0)) in
      let at : slice_get qs s ≡ Some own.0 = sorted.1 s (omega (arith, within, sorted.0)) ∙ own.1 in
      subst P (sym (get_or_from_slice_get qs s own.0 (fresh 0) at)) (found-holds P (is_at s) ps own.0 all own.1))

  placed : (n : ℕ) (ps qs : List (PassView V)) → AreBySeat n ps qs → ArePlaced n ps qs
  placed n ps qs sorted s pass within kept = sorted.1 s within ∙ kept-found (is_at s) ps pass [] kept

  -- so do their numbers
  pub ends-by_seat : (n : ℕ) (ps qs : List (PassView V)) (ends : Ends) → length ps ≡ n → OneEach n ps → AreBySeat n ps qs → AreEndsOfAll ps ends → AreEndsOfAll qs ends
  ends-by_seat n ps qs ends len one sorted h = record {
    completed = h.completed ∙ sum-by_seat (λ (p : PassView V). filed_as Done p.receipts) n ps qs len sorted.0 one (placed n ps qs sorted);
    cancelled = h.cancelled ∙ sum-by_seat (λ (p : PassView V). filed_as GivenUp p.receipts) n ps qs len sorted.0 one (placed n ps qs sorted);
    program_error = h.program_error ∙ sum-by_seat (λ (p : PassView V). filed_as Failed p.receipts) n ps qs len sorted.0 one (placed n ps qs sorted);
  }

  -- and so does the number of their calls
  pub calls-by_seat : (n : ℕ) (ps qs : List (PassView V)) → length ps ≡ n → OneEach n ps → AreBySeat n ps qs → calls_of ps ≡ calls_of qs
  calls-by_seat n ps qs len one sorted = sum-by_seat (λ (p : PassView V). p.calls) n ps qs len sorted.0 one (placed n ps qs sorted)
