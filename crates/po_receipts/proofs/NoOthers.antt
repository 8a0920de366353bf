-- If receipts and closing totals agree with the history, it has no other calls and procedures.
use Rattle.std.proofs.Common.{◌≡◌, ◌==◌, ◌<◌, ◌≤◌, ◌+◌, ℕ, zero, suc, List, [], ◌∷◌, length, take, refl, sym, ap, subst, ◌∙◌, arith, Option, Some, None, Bool, true, false, cond, get_or, ◌⊎◌, inl, inr}
use Rattle.std.specs.List.{All, slice_get, count_by, sum_by}
use Rattle.std.specs.Option.{IfSome}
use Rattle.std.specs.Prelude.{nat_lt, is_some}
use Rattle.std.proofs.lemmas.Bool.{ltb-true}
use Rattle.std.proofs.lemmas.Bool.Decides.{nat_tests}
use Rattle.std.proofs.lemmas.List.{take_more, take_all}
use Rattle.std.proofs.lemmas.List.Elements.{All-nil, All-cons, All-head, All-tail}
use Rattle.std.proofs.lemmas.List.Sums.{sum_by-append, sum_by-cons, length-filter}
use Rattle.std.proofs.lemmas.Option.{slice_get-get_or}
use Rattle.po_unit.specs.Meaning.{Meaning}
use Rattle.po_history.specs.declared.event.Event.{Event}
use Rattle.po_history.specs.declared.event.Event.TheVariants.{Issue, Procedure, Cancel, Tick, Finalize, Serve, Break, Expire}
use Rattle.po_history.specs.Histories.{VolumeView, RunOn, joined}
use Rattle.po_engine.specs.declared.ended.Ended.{Ended}
use Rattle.po_core.specs.Base.{is_issue, is_ran}
use Rattle.po_core.specs.View.{View}
use Rattle.po_engine.specs.ObjectState.{ObjectState, opening_state}
use Rattle.po_core.specs.Tickets.{CoreView}
use Rattle.po_core.specs.Cutting.{AreVolumes, Leads}
use Rattle.po_core.specs.Headline.{Headline}
use Rattle.po_core.proofs.Counting.{replay-next}
use Rattle.po_receipts.specs.declared.asked.Asked.{Asked}
use Rattle.po_receipts.specs.declared.receipt.Receipt.{Receipt}
use Rattle.po_receipts.specs.declared.receipt.Receipt.TheVariants as R
use Rattle.po_receipts.specs.Passes.{PassView, fresh, IsTallied, is_call, is_procedure, unfiled}
use Rattle.po_receipts.specs.Receipts.{is_asked_by}
use Rattle.po_receipts.specs.Agreement.{AllAgree, history_of}
use Rattle.po_receipts.specs.Answers.{asker_of, AskedBySeats, HasNoOthers, NonePending, HasClosingTotals}
use Rattle.po_receipts.specs.OneHistory.{IsWholeLog}
use Rattle.po_receipts.proofs.OneHistory.{whole-history, whole-leads}
use Rattle.po_receipts.proofs.OwnAnswers.{as_many}

-- what a test adds to a count
abbrev pub one_if : Bool → ℕ
one_if b = cond b 1 0

-- whether it is one of the first seats
abbrev pub is_below : ℕ → Option ℕ → Bool
is_below limit None = false
is_below limit (Some seat) = nat_lt seat limit

-- whether it is this seat
abbrev pub is_seat : ℕ → Option ℕ → Bool
is_seat seat None = false
is_seat seat (Some other) = other == seat

-- one seat more
seat_more : (limit : ℕ) (o : Option ℕ) → one_if (is_below (limit + 1) o) ≡ one_if (is_below limit o) + one_if (is_seat limit o)
seat_more limit None = refl
seat_more limit (Some seat) = grind (arith, nat_tests)

-- no seat is below 0
below_none : (o : Option ℕ) → one_if (is_below 0 o) ≡ zero
below_none None = refl
below_none (Some seat) = grind (arith, nat_tests)

-- one of the first seats is a seat
below_some : (limit : ℕ) (o : Option ℕ) → one_if (is_below limit o) ≤ one_if (is_some o)
below_some limit None = omega arith
below_some limit (Some seat) = grind (arith, nat_tests)

-- if the two count the same, the asker is one of the first seats
asker_below : (limit : ℕ) (o : Option ℕ) → one_if (is_below limit o) ≡ one_if (is_some o) → IfSome o (λ seat. seat < limit)
asker_below limit None same = tt
asker_below limit (Some seat) same = one_below (nat_lt seat limit) refl same
  where
    one_below : (b : Bool) → nat_lt seat limit ≡ b → one_if b ≡ 1 → seat < limit
    one_below true is same = ltb-true seat limit is
    one_below false is same = absurd (omega (arith, same))

-- one of the first seats is counted as one
below_is : (limit : ℕ) (o : Option ℕ) → IfSome o (λ seat. seat < limit) → one_if (is_below limit o) ≡ one_if (is_some o)
below_is limit None h = refl
below_is limit (Some seat) h = let under : seat < limit = h in grind (arith, nat_tests)

module _ {V : Type 0} where
  -- whether the event is a call or a procedure of one of the first seats
  abbrev pub asked_below : ℕ → Event V → Bool
  asked_below limit event = is_below limit (asker_of event)

  -- whether the event is a call or a procedure
  abbrev pub is_asked : Event V → Bool
  is_asked event = is_some (asker_of event)

  asked_is : (seat : ℕ) (event : Event V) → is_asked_by seat event ≡ is_seat seat (asker_of event)
  asked_is seat (Issue n owner e v deadline) = refl
  asked_is seat (Procedure owner op v reply) = refl
  asked_is seat (Cancel n) = refl
  asked_is seat (Tick t) = refl
  asked_is seat Finalize = refl
  asked_is seat (Serve e) = refl
  asked_is seat (Break e) = refl
  asked_is seat (Expire n) = refl

  -- one seat more
  below_more : (limit : ℕ) (event : Event V)
      → one_if (asked_below (limit + 1) event) ≡ one_if (asked_below limit event) + one_if (is_asked_by limit event)
  below_more limit event =
      seat_more limit (asker_of event) ∙ ap (λ b. one_if (asked_below limit event) + one_if b) (sym (asked_is limit event))

  -- the first seats and one more asked for as many as both together
  pub count_more : (limit : ℕ) (events : List (Event V))
      → count_by (asked_below (limit + 1)) events ≡ count_by (asked_below limit) events + count_by (is_asked_by limit) events
  count_more limit [] = refl
  count_more limit (event ∷ events) =
      let a = sum_by-cons (λ x. one_if (asked_below (limit + 1) x)) event events in
      let b = sum_by-cons (λ x. one_if (asked_below limit x)) event events in
      let d = sum_by-cons (λ x. one_if (is_asked_by limit x)) event events in
      let here = below_more limit event in
      let rest = count_more limit events in
      omega (arith, a, b, d, here, rest)

  -- no seats asked for none
  pub count_none : (events : List (Event V)) → count_by (asked_below 0) events ≡ 0
  count_none [] = refl
  count_none (event ∷ events) =
      let a = sum_by-cons (λ x. one_if (asked_below 0 x)) event events in
      let here = below_none (asker_of event) in
      let rest = count_none events in
      omega (arith, a, here, rest)

  -- the first seats asked for no more than all
  count_le : (limit : ℕ) (events : List (Event V)) → count_by (asked_below limit) events ≤ count_by is_asked events
  count_le limit [] = omega arith
  count_le limit (event ∷ events) =
      let a = sum_by-cons (λ x. one_if (asked_below limit x)) event events in
      let b = sum_by-cons (λ x. one_if (is_asked x)) event events in
      let here = below_some limit (asker_of event) in
      let rest = count_le limit events in
      omega (arith, a, b, here, rest)

  -- if they asked for as many as all, each event is of one of the first seats
  all_below : (limit : ℕ) (events : List (Event V)) → count_by (asked_below limit) events ≡ count_by is_asked events
      → All (λ event. IfSome (asker_of event) (λ seat. seat < limit)) events
  all_below limit [] same = All-nil (λ event. IfSome (asker_of event) (λ seat. seat < limit))
  all_below limit (event ∷ events) same =
      let a = sum_by-cons (λ x. one_if (asked_below limit x)) event events in
      let b = sum_by-cons (λ x. one_if (is_asked x)) event events in
      let here = below_some limit (asker_of event) in
      let rest = count_le limit events in
      All-cons (λ event. IfSome (asker_of event) (λ seat. seat < limit)) event events
      (asker_below limit (asker_of event) (omega (arith, same, a, b, here, rest)))
      (all_below limit events (omega (arith, same, a, b, here, rest)))

  -- if each event is of one of the first seats, they asked for as many as all
  pub below_all : (limit : ℕ) (events : List (Event V)) → AskedBySeats limit events → count_by (asked_below limit) events ≡ count_by is_asked events
  below_all limit [] h = refl
  below_all limit (event ∷ events) h =
      let P = λ (x : Event V). IfSome (asker_of x) (λ seat. seat < limit) in
      let a = sum_by-cons (λ x. one_if (asked_below limit x)) event events in
      let b = sum_by-cons (λ x. one_if (is_asked x)) event events in
      let here = below_is limit (asker_of event) (All-head P event events h) in
      let rest = below_all limit events (All-tail P event events h) in
      omega (arith, a, b, here, rest)

  -- an event that was asked for is a call or a procedure
  asked_kinds : (event : Event V) → one_if (is_asked event) ≡ one_if (is_issue event) + one_if (is_ran event)
  asked_kinds (Issue n owner e v deadline) = refl
  asked_kinds (Procedure owner op v reply) = refl
  asked_kinds (Cancel n) = refl
  asked_kinds (Tick t) = refl
  asked_kinds Finalize = refl
  asked_kinds (Serve e) = refl
  asked_kinds (Break e) = refl
  asked_kinds (Expire n) = refl

  count_kinds : (events : List (Event V)) → count_by is_asked events ≡ count_by is_issue events + count_by is_ran events
  count_kinds [] = refl
  count_kinds (event ∷ events) =
      let a = sum_by-cons (λ x. one_if (is_asked x)) event events in
      let b = sum_by-cons (λ x. one_if (is_issue x)) event events in
      let d = sum_by-cons (λ x. one_if (is_ran x)) event events in
      let here = asked_kinds event in
      let rest = count_kinds events in
      omega (arith, a, b, d, here, rest)

  -- a receipt is that of a call or of a procedure
  filed_kinds : (receipt : Receipt V) → one_if (is_call receipt) + one_if (is_procedure receipt) ≡ 1
  filed_kinds (R.Called number entry value deadline answer) = refl
  filed_kinds (R.Ran op value reply) = refl

  length_kinds : (receipts : List (Receipt V)) → length receipts ≡ count_by is_call receipts + count_by is_procedure receipts
  length_kinds [] = refl
  length_kinds (receipt ∷ receipts) =
      let a = sum_by-cons (λ x. one_if (is_call x)) receipt receipts in
      let b = sum_by-cons (λ x. one_if (is_procedure x)) receipt receipts in
      let here = filed_kinds receipt in
      let rest = length_kinds receipts in
      omega (arith, a, b, here, rest)

  -- how many receipts a pass has
  abbrev pub receipts_in : PassView V → ℕ
  receipts_in pass = length pass.receipts

  -- how many calls of a pass have no receipt yet
  abbrev pub waits_in : PassView V → ℕ
  waits_in pass = unfiled pass.pending

  -- the tallies of a pass count its receipts, and the call that has none yet
  pass_tallied : (pass : PassView V) → IsTallied pass → receipts_in pass + waits_in pass ≡ pass.calls + pass.procedures
  pass_tallied pass tallied =
      let kinds = length_kinds pass.receipts in
      let calls = tallied.calls in
      let procedures = tallied.procedures in
      omega (arith, kinds, calls, procedures)

  -- and those of all passes count all receipts, and all calls that have none yet
  all_tallied : (passes : List (PassView V)) → All IsTallied passes
      → sum_by receipts_in passes + sum_by waits_in passes ≡ sum_by (λ pass. pass.calls) passes + sum_by (λ pass. pass.procedures) passes
  all_tallied [] tallied = refl
  all_tallied (pass ∷ passes) tallied =
      let a = sum_by-cons receipts_in pass passes in
      let b = sum_by-cons (λ (p : PassView V). p.calls) pass passes in
      let d = sum_by-cons (λ (p : PassView V). p.procedures) pass passes in
      let e = sum_by-cons waits_in pass passes in
      let here = pass_tallied pass (All-head IsTallied pass passes tallied) in
      let rest = all_tallied passes (All-tail IsTallied pass passes tallied) in
      omega (arith, a, b, d, e, here, rest)

  -- if no pass has a call pending, none waits for its receipt
  pub none_waits : (passes : List (PassView V)) → NonePending passes → sum_by waits_in passes ≡ 0
  none_waits [] none = refl
  none_waits (pass ∷ passes) none =
      let a = sum_by-cons waits_in pass passes in
      let here : waits_in pass ≡ 0 = ap unfiled (All-head (λ p. p.pending ≡ None) pass passes none) in
      let rest = none_waits passes (All-tail (λ p. p.pending ≡ None) pass passes none) in
      omega (arith, a, here, rest)

  none_there : (pending : Option (Asked V)) → unfiled pending ≡ 0 → pending ≡ None
  none_there None none = refl
  none_there (Some asked) none = absurd (omega (arith, none))

  -- and if none waits, no pass has a call pending
  none_pend : (passes : List (PassView V)) → sum_by waits_in passes ≡ 0 → NonePending passes
  none_pend [] none = All-nil (λ p. p.pending ≡ None)
  none_pend (pass ∷ passes) none =
      let a = sum_by-cons waits_in pass passes in
      All-cons (λ p. p.pending ≡ None) pass passes
      (none_there pass.pending (omega (arith, a, none)))
      (none_pend passes (omega (arith, a, none)))

module _ {V : Type 0} (ended : List (Ended V)) (history : List (Event V)) (passes : List (PassView V)) where
  -- the receipts of the first seats are as many as their calls and procedures
  count_first : AllAgree ended history passes → (limit : ℕ) → limit ≤ length passes
      → sum_by receipts_in (take limit passes) ≡ count_by (asked_below limit) history
  count_first agree zero under = sym (count_none history)
  count_first agree (suc limit) under =
      let within : limit < length passes = omega (arith, under) in
      let pass = get_or passes limit (fresh 0) in
      let of_seat : slice_get passes limit ≡ Some pass = slice_get-get_or passes limit (fresh 0) within in
      let many : length pass.receipts ≡ count_by (is_asked_by limit) history =
      as_many ended history limit pass.receipts (agree limit pass of_seat) ∙ length-filter (is_asked_by limit) history in
      let split : sum_by receipts_in (take (limit + 1) passes) ≡ sum_by receipts_in (take limit passes) + sum_by receipts_in (pass ∷ []) =
      ap (sum_by receipts_in) (take_more passes limit (fresh 0) within)
      ∙ sum_by-append receipts_in (take limit passes) (pass ∷ []) in
      let one = sum_by-cons receipts_in pass [] in
      let rest = count_first agree limit (omega (arith, under)) in
      let more = count_more limit history in
      let last : suc limit ≡ limit + 1 = omega arith in
      let all : sum_by receipts_in (take (limit + 1) passes) ≡ count_by (asked_below (limit + 1)) history = omega (arith, many, split, one, rest, more) in
      subst (λ n. sum_by receipts_in (take n passes) ≡ count_by (asked_below n) history) (sym last) all

  -- there are as many receipts as calls and procedures of the seats
  receipts_are : AllAgree ended history passes → sum_by receipts_in passes ≡ count_by (asked_below (length passes)) history
  receipts_are agree =
      let all : take (length passes) passes ≡ passes = take_all (length passes) passes (omega arith) in
      sym (ap (sum_by receipts_in) all) ∙ count_first agree (length passes) (omega arith)

  -- if there are as many calls and procedures as receipts, there are no others
  no_others : AllAgree ended history passes → count_by is_asked history ≡ sum_by receipts_in passes → HasNoOthers history passes
  no_others agree total = all_below (length passes) history (sym (receipts_are agree) ∙ sym total)

  -- and if there are no others, there are as many as receipts
  as_receipts : AllAgree ended history passes → HasNoOthers history passes → count_by is_asked history ≡ sum_by receipts_in passes
  as_receipts agree none = sym (below_all (length passes) history none) ∙ sym (receipts_are agree)

module _ {S V : Type 0} (m : Meaning S V) (core : CoreView S V) (passes : List (PassView V)) (volumes : List (VolumeView V)) where
  abbrev start : ObjectState S V
  start = opening_state core.object.setup.opening core.object.setup.first_number

  -- the whole history leads from the opening to the present state
  pub whole_leads : AreVolumes m core.object volumes → Headline m core.object
      → Leads m core.object.setup (history_of core volumes) start core.object.state
  whole_leads are headline =
      let w : IsWholeLog m core.object (history_of core volumes) = (volumes, are, refl) in
      let h = whole-history m core.object (history_of core volumes) headline w in
      record { legal = h.legal; to_there = whole-leads m core.object (history_of core volumes) headline w; public = h.public }

  -- the whole history has issued as many calls as were accepted
  pub calls_counted : AreVolumes m core.object volumes → Headline m core.object → HasClosingTotals core passes
      → count_by is_issue (history_of core volumes) ≡ sum_by (λ pass. pass.calls) passes
  calls_counted are headline totals =
      let setup = core.object.setup in
      let next : core.object.state.next ≡ setup.first_number + count_by is_issue (history_of core volumes) =
      sym (ap (λ s. s.next) (whole_leads are headline).to_there) ∙ replay-next m setup.max_queue start (history_of core volumes) in
      let calls = totals.calls in
      omega (arith, next, calls)

  -- and as many procedures ran in it
  pub procedures_counted : AreVolumes m core.object volumes → HasClosingTotals core passes
      → count_by is_ran (history_of core volumes) ≡ sum_by (λ pass. pass.procedures) passes
  procedures_counted are totals =
      let ran = sum_by-append (λ x. one_if (is_ran x)) (joined volumes) core.object.events in
      let based = are.ran in
      let procedures = totals.procedures in
      omega (arith, ran, based, procedures)

  -- so it has as many of both as there are receipts and calls that have none yet
  pub total_of : AreVolumes m core.object volumes → Headline m core.object → All IsTallied passes → HasClosingTotals core passes
      → count_by is_asked (history_of core volumes) ≡ sum_by receipts_in passes + sum_by waits_in passes
  total_of are headline tallied totals =
      let kinds = count_kinds (history_of core volumes) in
      let calls = calls_counted are headline totals in
      let procedures = procedures_counted are totals in
      let filed = all_tallied passes tallied in
      omega (arith, kinds, calls, procedures, filed)

  -- if no call is pending, there are no others; and if there are no others, none is pending
  pub filed_alone : AreVolumes m core.object volumes → Headline m core.object → All IsTallied passes → HasClosingTotals core passes
      → AllAgree core.object.state.ended (history_of core volumes) passes
      → NonePending passes ⊎ HasNoOthers (history_of core volumes) passes
      → HasNoOthers (history_of core volumes) passes × NonePending passes
  filed_alone are headline tallied totals agree (inl none) =
      let waits = none_waits passes none in
      let total = total_of are headline tallied totals in
      (no_others core.object.state.ended (history_of core volumes) passes agree (omega (arith, waits, total)), none)
  filed_alone are headline tallied totals agree (inr none) =
      let receipts = as_receipts core.object.state.ended (history_of core volumes) passes agree none in
      let total = total_of are headline tallied totals in
      (none, none_pend passes (omega (arith, receipts, total)))

-- if there is no gap and no volumes are given, none were cut off
pub cut_off_before : {S V : Type 0} (m : Meaning S V) (view : View S V) (volumes : List (VolumeView V))
    → (view.base.place ≡ view.setup.first_place → AreVolumes m view [])
    → RunOn view.setup.first_place volumes view.base.place
    → (volumes ≡ []) ⊎ AreVolumes m view volumes
    → AreVolumes m view volumes
cut_off_before m view volumes uncut whole (inl none) =
    subst (AreVolumes m view) (sym none) (uncut (sym (subst (λ l. RunOn view.setup.first_place l view.base.place) none whole)))
cut_off_before m view volumes uncut whole (inr are) = are
