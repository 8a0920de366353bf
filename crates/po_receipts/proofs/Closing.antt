-- When the object is closed, the receipts of each seat are those that are due: each says what happened, one after another, and
-- by the closing totals there are no others.
use Rattle.std.proofs.Common.{◌≡◌, ◌<◌, ◌≤◌, ◌+◌, ℕ, zero, suc, List, [], ◌∷◌, ◌++◌, length, take, map, refl, sym, ap, subst, ◌∙◌, arith, append_assoc, length-append, Option, Some, None, true, cond, get_or, inl, inr}
use Rattle.std.specs.List.{All, slice_get, count_by, sum_by}
use Rattle.std.specs.Prelude.{option_map}
use Rattle.std.proofs.lemmas.Bool.{cases_lt, eq-eqb}
use Rattle.std.proofs.lemmas.List.{take_more, take_all}
use Rattle.std.proofs.lemmas.List.Elements.{filter-append, All-get_or}
use Rattle.std.proofs.lemmas.List.Sums.{sum_by-append, sum_by-cons, length-filter}
use Rattle.std.proofs.lemmas.Option.{slice_get-get_or, slice_get_within, get_or_from_slice_get}
use mathlib.Core.List.{IsPrefix}
use base.Growing.{prefix_trans}
use Rattle.po_unit.specs.Meaning.{Meaning}
use Rattle.po_calls.specs.declared.end.End.{End}
use Rattle.po_history.specs.declared.event.Event.{Event}
use Rattle.po_history.specs.declared.event.Event.TheVariants.{Issue, Procedure}
use Rattle.po_engine.specs.declared.ended.Ended.{Ended}
use Rattle.po_core.specs.Tickets.{CoreView}
use Rattle.po_core.specs.Headline.{Headline}
use Rattle.po_receipts.specs.declared.receipt.Receipt.{Receipt}
use Rattle.po_receipts.specs.declared.receipt.Receipt.TheVariants as R
use Rattle.po_receipts.specs.Passes.{PassView, fresh, IsTallied}
use Rattle.po_receipts.specs.Receipts.{is_asked_by, asked_by, answer_of, receipt_of, receipts_due}
use Rattle.po_receipts.specs.Agreement.{AllAgree}
use Rattle.po_receipts.specs.Answers.{HasNoOthers, NonePending, HasClosingTotals}
use Rattle.po_receipts.specs.Told.{HappensBetween, IsAskedBetween, IsAnswerBetween, AreAnswersBetween, IsTold}
use Rattle.po_receipts.specs.OneHistory.{end_in, IsWholeLog}
use Rattle.po_receipts.proofs.OneHistory.{none-listed, whole-leads}
use Rattle.po_receipts.proofs.Stays.{answer-stays}
use Rattle.po_receipts.proofs.Told.{longer}
use Rattle.po_receipts.proofs.NoOthers.{asked_below, is_asked, receipts_in, waits_in, count_none, count_more, below_all, total_of, none_waits}

module _ {V : Type 0} (ended : List (Ended V)) (seat : ℕ) where
  -- there are no more receipts than the seat asked for, and if there are as many, they are those that are due
  record Fits (receipts : List (Receipt V)) (events : List (Event V)) : Type 0 where
    most : length receipts ≤ length (asked_by events seat)
    all : length receipts ≡ length (asked_by events seat) → map Some receipts ≡ receipts_due ended events seat

  asked-first : (event : Event V) (events : List (Event V)) → is_asked_by seat event ≡ true → asked_by (event ∷ events) seat ≡ event ∷ asked_by events seat
  asked-first event events is = ap (λ b. cond b (event ∷ asked_by events seat) (asked_by events seat)) is

  asked-append : (xs ys : List (Event V)) → asked_by (xs ++ ys) seat ≡ asked_by xs seat ++ asked_by ys seat
  asked-append xs ys = filter-append (is_asked_by seat) xs ys

  -- what the seat asked for: before an event, the event itself, and after it
  asked-behind : (gap : List (Event V)) (event : Event V) (other events : List (Event V)) → is_asked_by seat event ≡ true
      → asked_by (gap ++ (event ∷ (other ++ events))) seat ≡ asked_by gap seat ++ (event ∷ (asked_by other seat ++ asked_by events seat))
  asked-behind gap event other events is =
      asked-append gap (event ∷ (other ++ events))
      ∙ ap (λ (l : List (Event V)). asked_by gap seat ++ l) (asked-first event (other ++ events) is ∙ ap (λ (l : List (Event V)). event ∷ l) (asked-append other events))

  -- one receipt more in front
  fits-more : (receipt : Receipt V) (receipts : List (Receipt V)) (gap : List (Event V)) (event : Event V) (other events : List (Event V)) → is_asked_by seat event ≡ true → receipt_of ended event ≡ Some receipt
      → Fits receipts events → Fits (receipt ∷ receipts) (gap ++ (event ∷ (other ++ events)))
  fits-more receipt receipts gap event other events is due fits =
      let a = asked_by gap seat in
      let b = asked_by other seat in
      let e = asked_by events seat in
      let asked : asked_by (gap ++ (event ∷ (other ++ events))) seat ≡ a ++ (event ∷ (b ++ e)) = asked-behind gap event other events is in
      let whole = length-append a (event ∷ (b ++ e)) in
      let rest = length-append b e in
      let same = ap length asked in
      let many : length (asked_by (gap ++ (event ∷ (other ++ events))) seat) ≡ length a + (1 + (length b + length e)) = omega (arith, whole, rest, same) in
      let most = fits.most in
      record {
        most = omega (arith, many, most);
        all = λ same.
            let none-before : length a ≡ 0 = omega (arith, many, most, same) in
            let none-between : length b ≡ 0 = omega (arith, many, most, same) in
            let rest : length receipts ≡ length e = omega (arith, many, most, same) in
            let events-are : asked_by (gap ++ (event ∷ (other ++ events))) seat ≡ event ∷ e =
            asked ∙ (ap (λ (l : List (Event V)). l ++ (event ∷ (b ++ e))) (none-listed a none-before) ∙ ap (λ (l : List (Event V)). event ∷ (l ++ e)) (none-listed b none-between)) in
            ap (λ (o : Option (Receipt V)). o ∷ map Some receipts) (sym due)
            ∙ (ap (λ (l : List (Option (Receipt V))). receipt_of ended event ∷ l) (fits.all rest) ∙ sym (ap (λ (l : List (Event V)). map (receipt_of ended) l) events-are));
      }

  fits-none : (events : List (Event V)) → Fits [] events
  fits-none events = record {
    most = omega arith;
    all = λ same. sym (ap (λ (l : List (Event V)). map (receipt_of ended) l) (none-listed (asked_by events seat) (sym same)));
  }

module _ {V : Type 0} (ended : List (Ended V)) (seat : ℕ) (end_of : List (Event V) → ℕ → Option (End V)) (log : List (Event V)) (stays : (here : List (Event V)) (n : ℕ) (answer : End V) → IsPrefix here log → end_of here n ≡ Some answer → answer_of ended n ≡ Some answer) where
  -- what the receipt says is what is due for an event of the seat
  record Says (receipt : Receipt V) (before here : List (Event V)) : Type 0 where
    event : Event V
    asked : is_asked_by seat event ≡ true
    due : receipt_of ended event ≡ Some receipt
    happens : HappensBetween event before here

  says : (receipt : Receipt V) (before here : List (Event V)) → IsPrefix here log → IsAnswerBetween seat end_of receipt before here → Says receipt before here
  says (R.Called n e v d answer) before here p is = record {
    event = Issue n seat e v d;
    asked = eq-eqb seat seat refl;
    due = ap (λ (o : Option (End V)). option_map (λ a. R.Called n e v d a) o) (stays here n answer p is.1);
    happens = is.0;
  }
  says (R.Ran op v reply) before here p is = record {
    event = Procedure seat op v reply;
    asked = eq-eqb seat seat refl;
    due = refl;
    happens = is;
  }

  reaches-by : (event : Event V) (before here : List (Event V)) → HappensBetween event before here → IsPrefix here log → IsPrefix before log
  reaches-by event before here h p = prefix_trans before h.here log h.later (prefix_trans h.here (h.here ++ event ∷ []) log (event ∷ [], refl) (prefix_trans (h.here ++ event ∷ []) here log h.within p))

  reaches-one : (receipt : Receipt V) (before here : List (Event V)) → IsAnswerBetween seat end_of receipt before here → IsPrefix here log → IsPrefix before log
  reaches-one (R.Called n e v d answer) before here is p = reaches-by (Issue n seat e v d) before here is.0 p
  reaches-one (R.Ran op v reply) before here is p = reaches-by (Procedure seat op v reply) before here is p

  -- if answers end within the log, they begin within it
  reaches : (receipts : List (Receipt V)) (here : List (Event V)) → AreAnswersBetween seat end_of receipts here log → IsPrefix here log
  reaches [] here told = told
  reaches (receipt ∷ receipts) here told = reaches-one receipt here told.0 told.1.0 (reaches receipts told.0 told.1.1)

  -- the rest of the log after what was there before, into which the receipts fit
  record Rest (receipts : List (Receipt V)) (before : List (Event V)) : Type 0 where
    events : List (Event V)
    is : before ++ events ≡ log
    fits : Fits ended seat receipts events

  rest-of : (receipts : List (Receipt V)) (before : List (Event V)) → AreAnswersBetween seat end_of receipts before log → Rest receipts before
  rest-of [] before told = record { events = told.0; is = told.1; fits = fits-none ended seat told.0 }
  rest-of (receipt ∷ receipts) before told =
      let here = told.0 in
      let s = says receipt before here (reaches receipts here told.1.1) told.1.0 in
      let r = rest-of receipts here told.1.1 in
      let gap = s.happens.later.0 in
      let other = s.happens.within.0 in
      let to-event : before ++ gap ≡ s.happens.here = s.happens.later.1 in
      let to-here : (s.happens.here ++ s.event ∷ []) ++ other ≡ here = s.happens.within.1 in
      let whole : before ++ (gap ++ (s.event ∷ (other ++ r.events))) ≡ log =
      sym (append_assoc before gap (s.event ∷ (other ++ r.events)))
      ∙ (ap (λ (l : List (Event V)). l ++ (s.event ∷ (other ++ r.events))) to-event
      ∙ (sym (append_assoc s.happens.here (s.event ∷ other) r.events)
      ∙ (ap (λ (l : List (Event V)). l ++ r.events) (sym (append_assoc s.happens.here (s.event ∷ []) other) ∙ to-here) ∙ r.is))) in
      record { events = gap ++ (s.event ∷ (other ++ r.events)); is = whole; fits = fits-more ended seat receipt receipts gap s.event other r.events s.asked s.due r.fits }

  -- the receipts fit into the log
  fits-in : (receipts : List (Receipt V)) → AreAnswersBetween seat end_of receipts [] log → Fits ended seat receipts log
  fits-in receipts told = let r = rest-of receipts [] told in subst (Fits ended seat receipts) r.is r.fits

module _ {V : Type 0} (ended : List (Ended V)) (history : List (Event V)) (passes : List (PassView V)) (fit : (seat : ℕ) (pass : PassView V) → slice_get passes seat ≡ Some pass → Fits ended seat pass.receipts history) where
  -- one more pass among the first ones
  sum-more : (limit : ℕ) → limit < length passes → sum_by receipts_in (take (limit + 1) passes) ≡ sum_by receipts_in (take limit passes) + receipts_in (get_or passes limit (fresh 0))
  sum-more limit within =
      let pass = get_or passes limit (fresh 0) in
      let split : sum_by receipts_in (take (limit + 1) passes) ≡ sum_by receipts_in (take limit passes) + sum_by receipts_in (pass ∷ []) =
      ap (sum_by receipts_in) (take_more passes limit (fresh 0) within) ∙ sum_by-append receipts_in (take limit passes) (pass ∷ []) in
      let one = sum_by-cons receipts_in pass [] in
      omega (arith, split, one)

  at : (limit : ℕ) → limit < length passes → Fits ended limit (get_or passes limit (fresh 0)).receipts history
  at limit within = fit limit (get_or passes limit (fresh 0)) (slice_get-get_or passes limit (fresh 0) within)

  -- the first seats have no more receipts than they asked for
  under : (limit : ℕ) → limit ≤ length passes → sum_by receipts_in (take limit passes) ≤ count_by (asked_below limit) history
  under zero h = let none = count_none history in omega (arith, none)
  under (suc limit) h =
      let within : limit < length passes = omega (arith, h) in
      let more = sum-more limit within in
      let counts = count_more limit history in
      let most = (at limit within).most in
      let len = length-filter (is_asked_by limit) history in
      let rest = under limit (omega (arith, h)) in
      let last : suc limit ≡ limit + 1 = omega arith in
      let all : sum_by receipts_in (take (limit + 1) passes) ≤ count_by (asked_below (limit + 1)) history = omega (arith, more, counts, most, len, rest) in
      subst (λ n. sum_by receipts_in (take n passes) ≤ count_by (asked_below n) history) (sym last) all

  -- if together they have as many, each of them has
  each : (limit : ℕ) → limit ≤ length passes → sum_by receipts_in (take limit passes) ≡ count_by (asked_below limit) history
      → (seat : ℕ) → seat < limit → receipts_in (get_or passes seat (fresh 0)) ≡ length (asked_by history seat)
  each zero h same seat lt = absurd (omega (arith, lt))
  each (suc limit) h same seat lt =
      let within : limit < length passes = omega (arith, h) in
      let last : suc limit ≡ limit + 1 = omega arith in
      let all : sum_by receipts_in (take (limit + 1) passes) ≡ count_by (asked_below (limit + 1)) history = subst (λ n. sum_by receipts_in (take n passes) ≡ count_by (asked_below n) history) last same in
      let more = sum-more limit within in
      let counts = count_more limit history in
      let most = (at limit within).most in
      let len = length-filter (is_asked_by limit) history in
      let rest = under limit (omega (arith, h)) in
      elim (cases_lt seat limit) [
        | inl l ↦ each limit (omega (arith, h)) (omega (arith, all, more, counts, most, len, rest)) seat l
        | inr g ↦ (let here : seat ≡ limit = omega (arith, g, lt) in
            subst (λ s. receipts_in (get_or passes s (fresh 0)) ≡ length (asked_by history s)) (sym here) (omega (arith, all, more, counts, most, len, rest)))
      ]

  all-agree : sum_by receipts_in passes ≡ count_by (asked_below (length passes)) history → AllAgree ended history passes
  all-agree same seat pass of_seat =
      let whole : take (length passes) passes ≡ passes = take_all (length passes) passes (omega arith) in
      let within = slice_get_within passes seat pass of_seat in
      let is : get_or passes seat (fresh 0) ≡ pass = get_or_from_slice_get passes seat pass (fresh 0) of_seat in
      let many = each (length passes) (omega arith) (ap (sum_by receipts_in) whole ∙ same) seat within in
      (fit seat pass of_seat).all (sym (ap receipts_in is) ∙ many)

module _ {S V : Type 0} (m : Meaning S V) (core : CoreView S V) (passes : List (PassView V)) (end_of : List (Event V) → ℕ → Option (End V)) (log : List (Event V)) where
  -- each pass was told the answers of this log
  abbrev pub AllTold : Type 0
  AllTold = (seat : ℕ) (pass : PassView V) → slice_get passes seat ≡ Some pass → (pass.seat ≡ seat) × (IsTold end_of pass × IsPrefix pass.seen log)

  stays-in : end_of ≡ end_in m core.object.setup → Headline m core.object → IsWholeLog m core.object log
      → (here : List (Event V)) (n : ℕ) (answer : End V) → IsPrefix here log → end_of here n ≡ Some answer → answer_of core.object.state.ended n ≡ Some answer
  stays-in ends h w here n answer p is =
      let there : end_in m core.object.setup here n ≡ Some answer = ap (λ (f : List (Event V) → ℕ → Option (End V)). f here n) (sym ends) ∙ is in
      ap (λ s. answer_of s.ended n) (sym (whole-leads m core.object log h w)) ∙ answer-stays m core.object.setup here log n answer p there

  told-answers : NonePending passes → AllTold → (seat : ℕ) (pass : PassView V) → slice_get passes seat ≡ Some pass → AreAnswersBetween seat end_of pass.receipts [] log
  told-answers none told seat pass of_seat =
      let t = told seat pass of_seat in
      let within = slice_get_within passes seat pass of_seat in
      let pending : pass.pending ≡ None = subst (λ (p : PassView V). p.pending ≡ None) (get_or_from_slice_get passes seat pass pass of_seat) (All-get_or (λ (p : PassView V). p.pending ≡ None) passes seat pass within none) in
      let here = t.1.0.0 in
      let seen : IsPrefix here pass.seen = subst (λ o. IsAskedBetween pass.seat o here pass.seen) pending t.1.0.1.1 in
      subst (λ s. AreAnswersBetween s end_of pass.receipts [] log) t.0 (longer pass.seat end_of pass.receipts [] here log t.1.0.1.0 (prefix_trans here pass.seen log seen t.1.1))

  -- if no call is pending, the receipts of each seat are those that are due to it
  pub receipts-due : end_of ≡ end_in m core.object.setup → Headline m core.object → IsWholeLog m core.object log → All IsTallied passes → HasClosingTotals core passes → HasNoOthers log passes → AllTold → NonePending passes
      → AllAgree core.object.state.ended log passes
  receipts-due ends h w tallied totals alone told none =
      let waits = none_waits passes none in
      let total : count_by is_asked log ≡ sum_by receipts_in passes + sum_by waits_in passes = subst (λ (l : List (Event V)). count_by is_asked l ≡ sum_by receipts_in passes + sum_by waits_in passes) (sym w.2) (total_of m core passes w.0 w.1 h tallied totals) in
      let below = below_all (length passes) log alone in
      all-agree core.object.state.ended log passes
      (λ seat pass of_seat. fits-in core.object.state.ended seat end_of log (stays-in ends h w) pass.receipts (told-answers none told seat pass of_seat))
      (omega (arith, waits, total, below))
