-- What is known of the seats' calls is true at first, stays true, and finds the call of a seat.
use Rattle.std.proofs.Common.{◌≡◌, ◌≢◌, ℕ, zero, suc, ◌+◌, ◌<◌, ◌≤◌, ◌==◌, List, length, get_or, set, refl, subst, ap, sym, ◌∙◌, arith, inl, inr, Bool, true, false, cond, ◌&&◌, nat_le, nat_lt, Option, Some, None, is_some, if◌then◌else◌}
use Rattle.std.specs.List.{find, All, count_by}
use Rattle.std.specs.Option.{option_map}
use Rattle.std.proofs.lemmas.Bool.{cases_eq}
use Rattle.std.proofs.lemmas.Bool.Decides.{nat_tests}
use Rattle.std.proofs.lemmas.List.{get_or-set_same, get_or-set_other}
use Rattle.std.proofs.lemmas.List.Sums.{get_or-le-sum_by}
use Rattle.po_unit.specs.Meaning.{Meaning}
use Rattle.po_calls.specs.declared.call.Call.{Call}
use Rattle.po_calls.specs.declared.call.Deadline.{Deadline}
use Rattle.po_calls.specs.declared.end.End.{End}
use Rattle.po_calls.specs.declared.end.CallStatus.TheVariants.{Unknown, Waiting}
use Rattle.po_calls.specs.declared.ticket.Ticket.{Ticket}
use Rattle.po_history.specs.declared.event.Event.{Event}
use Rattle.po_history.specs.declared.event.Event.TheVariants.{Issue, Cancel}
use Rattle.po_engine.specs.declared.ended.Ended.{Ended}
use Rattle.po_engine.specs.WaitingCalls.{is_of, has_number}
use Rattle.po_engine.specs.Ending.{has_ended}
use Rattle.po_engine.specs.Finding.{IsFound}
use Rattle.po_engine.specs.Tickets.{number_at, SetsTicket, is_number, is_live, status_by, end_at}
use Rattle.po_engine.proofs.Lists.{found_passes}
use Rattle.po_engine.specs.ObjectState.{ObjectState}
use Rattle.po_core.specs.View.{View, IsInOnePlace}
use Rattle.po_core.specs.ProtectedAction.{IsProtectedAction, IsAttemptOf, IsAttemptOnCall}
use Rattle.po_core.proofs.Counting.{action-next}
use Rattle.po_core.proofs.Finds.{All-found, find_agree, none-found, none-passes}
use Rattle.po_core.proofs.Remaining.{OfIssued, of-action, waiting-issued}
use Rattle.po_core.specs.Tickets.{CoreView, status_of_ticket, end_of_ticket}
use Rattle.po_core.specs.Refusals.{cancel_refusal}
use Rattle.po_object.specs.declared.latest.Latest.{Latest}
use Rattle.po_object.specs.declared.latest.Latest.TheVariants.{Never, Only, Several}
use Rattle.po_object.specs.LatestCalls.{latest_of, IsTrueOf, IsIssued, IsTicketOf, KnowsLatest}
use Rattle.po_object.proofs.Waits.{counted-too}

-- what is known of each seat is true of the call with this number and owner
abbrev pub IsTrueOfEach : List Latest → ℕ → ℕ → Type 0
IsTrueOfEach calls number owner = (seat : ℕ) → IsTrueOf (latest_of calls seat) seat number owner

-- the noted tickets are live if they are of the call with this number
abbrev pub IsTicketOfEach : List (Option ℕ) → List Latest → ℕ → Type 0
IsTicketOfEach tickets calls number = (seat : ℕ) → IsTicketOf tickets (latest_of calls seat) number

-- a call that was issued stays issued
issued_later : (l : Latest) (next later : ℕ) → next ≤ later → IsIssued next l → IsIssued later l
issued_later Never next later le h = tt
issued_later (Only t) next later le h = omega arith
issued_later Several next later le h = tt

module _ {S V : Type 0} (m : Meaning S V) (calls : List Latest) (old new : CoreView S V) (kept : new.tickets ≡ old.tickets) where
  -- what is known stays true over a protected action, if it is true of the call that it issues
  pub known-action : (own : Event V) → IsProtectedAction m old.object new.object own → OfIssued (IsTrueOfEach calls) own → OfIssued (λ number owner. IsTicketOfEach old.tickets calls number) own → KnowsLatest calls old → KnowsLatest calls new
  known-action own a true_of ticket_of h = record {
    issued = λ seat. issued_later (latest_of calls seat) old.object.state.next new.object.state.next (omega (arith, action-next m old.object new.object own a)) (h.issued seat);
    waiting = of-action (IsTrueOfEach calls) m old.object new.object own a true_of h.waiting;
    live = subst (λ tickets. All (λ x. IsTicketOfEach tickets calls x.number) new.object.state.waiting) (sym kept) (of-action (λ number owner. IsTicketOfEach old.tickets calls number) m old.object new.object own a ticket_of h.live);
  }

  -- what is known depends only on the state and the tickets
  pub known-same : new.object.state ≡ old.object.state → KnowsLatest calls old → KnowsLatest calls new
  known-same state h = record {
    issued = λ seat. subst (λ s. IsIssued s.next (latest_of calls seat)) (sym state) (h.issued seat);
    waiting = subst (λ s. All (λ x. IsTrueOfEach calls x.number x.owner) s.waiting) (sym state) h.waiting;
    live = subst (λ tickets. All (λ x. IsTicketOfEach tickets calls x.number) new.object.state.waiting) (sym kept) (subst (λ s. All (λ x. IsTicketOfEach old.tickets calls x.number) s.waiting) (sym state) h.live);
  }

  known_marks : (n : ℕ) (x : Call V) (without_abort aborted : Bool) → x.without_abort ≡ without_abort → x.aborted ≡ aborted → IsAttemptOnCall m old.object new.object n x → KnowsLatest calls old → KnowsLatest calls new
  known_marks n x false aborted s t a h = known-action (Cancel n) (a.cancelled s) tt tt h
  known_marks n x true false s t a h = known-action (Cancel n) (a.marked s t).0 tt tt h
  known_marks n x true true s t a h = known-same (ap (λ view. view.state) (a.kept s t)) h

  known_attempt : (n : ℕ) (o : Option (Call V)) → IsFound (IsAttemptOnCall m old.object new.object n) o → KnowsLatest calls old → KnowsLatest calls new
  known_attempt n None a h = absurd a
  known_attempt n (Some x) a h = known_marks n x x.without_abort x.aborted refl refl a h

  -- what is known stays true over an attempt to cancel a call
  pub known-attempt_of : (n : ℕ) → IsAttemptOf m old.object new.object n → KnowsLatest calls old → KnowsLatest calls new
  known-attempt_of n a h = known_attempt n (find (has_number n) old.object.state.waiting) a h

number_of_found : {V : Type 0} (n : ℕ) (x : Call V) → has_number n x ≡ true → x.number ≡ n
number_of_found n x is = grind (arith, nat_tests)

same_number : (n : ℕ) → (n == n) ≡ true
same_number n = grind (arith, nat_tests)

live_of : (t : Ticket) (tickets : List (Option ℕ)) → number_at tickets t.key ≡ Some t.number → is_live tickets t ≡ true
live_of t tickets is = ap (is_number t.number) is ∙ same_number t.number

number_by : (o : Option ℕ) (n : ℕ) → is_number n o ≡ true → o ≡ Some n
number_by None n h = cc
number_by (Some k) n h = let same : k ≡ n = grind (arith, nat_tests) in ap Some same

one_or_none : (b : Bool) (w e : ℕ) → w + e ≡ (if b then 1 else 0) → 1 ≤ w → e ≡ 0
one_or_none true w e h l = omega (arith, h, l)
one_or_none false w e h l = omega (arith, h, l)

ended_none : {V : Type 0} (n : ℕ) (o : Option (Ended V)) (ended : List (Ended V)) → find (has_ended n) ended ≡ o → count_by (has_ended n) ended ≡ 0 → o ≡ None
ended_none n None ended is none = refl
ended_none n (Some y) ended is none = absurd (omega (arith, counted-too (has_ended n) (has_ended n) ended y is (found_passes (has_ended n) ended y is), none))

module _ {S V : Type 0} (first : ℕ) (s : ObjectState S V) (placed : IsInOnePlace first s) where
  -- no call that waits has ended
  none_ended : All (λ x. find (has_ended x.number) s.ended ≡ None) s.waiting
  none_ended k d within =
      let n = (get_or s.waiting k d).number in
      let counts : cond (n == n) 1 0 ≡ suc zero = ap (λ b. cond b 1 0) (same_number n) in
      let one : 1 ≤ count_by (has_number n) s.waiting = omega (arith, counts, get_or-le-sum_by (λ y. cond (has_number n y) 1 0) s.waiting k d within) in
      ended_none n (find (has_ended n) s.ended) s.ended refl (one_or_none (nat_le first n && nat_lt n s.next) (count_by (has_number n) s.waiting) (count_by (has_ended n) s.ended) (placed n) one)

  -- each is found by its number
  found_itself : All (λ x. is_some (find (has_number x.number) s.waiting) ≡ true) s.waiting
  found_itself k d within = itself (find (has_number (get_or s.waiting k d).number) s.waiting) refl
    where
      itself : (o : Option (Call V)) → find (has_number (get_or s.waiting k d).number) s.waiting ≡ o → is_some o ≡ true
      itself (Some y) is = refl
      itself None is =
          let bad : false ≡ true = sym (none-passes (has_number (get_or s.waiting k d).number) s.waiting is k d within) ∙ same_number (get_or s.waiting k d).number in
          cc

module _ {V : Type 0} where
  ended_by : (live : Bool) (o : Option (Ended V)) (w : Option (Call V)) (end : End V) → Some end ≡ end_at (if live then status_by o w else Unknown) → (live ≡ true) × (is_some o ≡ true)
  ended_by false o w end h = cc
  ended_by true None None end h = cc
  ended_by true None (Some x) end h = cc
  ended_by true (Some y) w end h = (refl, refl)

  waits_by : (live : Bool) (o : Option (Ended V)) (w : Option (Call V)) → (if live then status_by o w else Unknown) ≡ Waiting → (live ≡ true) × ((x : Call V) × (w ≡ Some x))
  waits_by false o w h = cc
  waits_by true None None h = cc
  waits_by true None (Some x) h = (refl, (x, refl))
  waits_by true (Some y) w h = cc

  waits_at : (live : Bool) (o : Option (Ended V)) (w : Option (Call V)) → live ≡ true → o ≡ None → is_some w ≡ true → (if live then status_by o w else Unknown) ≡ Waiting
  waits_at live o None is none waits = cc
  waits_at live o (Some x) is none waits = rw (is, none) refl

module _ {S V : Type 0} (core : CoreView S V) (ticket : Ticket) where
  its_end : (end : End V) → Some end ≡ end_of_ticket core ticket → (is_live core.tickets ticket ≡ true) × (is_some (find (has_ended ticket.number) core.object.state.ended) ≡ true)
  its_end end h = ended_by (is_live core.tickets ticket) (find (has_ended ticket.number) core.object.state.ended) (find (has_number ticket.number) core.object.state.waiting) end h

  -- a ticket whose end is known is of an uncollected call
  pub ended-ticket : (end : End V) → Some end ≡ end_of_ticket core ticket → number_at core.tickets ticket.key ≡ Some ticket.number
  ended-ticket end h = number_by (number_at core.tickets ticket.key) ticket.number (its_end end h).0

  -- and that call doesn't wait
  not_it : (end : End V) (n : ℕ) → Some end ≡ end_of_ticket core ticket → find (has_ended n) core.object.state.ended ≡ None → n ≢ ticket.number
  not_it end n h none same =
      let bad : false ≡ true = ap is_some (sym none) ∙ (ap (λ k. is_some (find (has_ended k) core.object.state.ended)) same ∙ (its_end end h).1) in cc

  -- if a call waits and a live ticket has its number, the ticket is of a waiting call
  pub waits-at : (first : ℕ) (p : Call V → Bool) (x : Call V) → IsInOnePlace first core.object.state → is_live core.tickets ticket ≡ true → find p core.object.state.waiting ≡ Some x → x.number ≡ ticket.number → status_of_ticket core ticket ≡ Waiting
  waits-at first p x placed live found same =
      let s = core.object.state in
      waits_at (is_live core.tickets ticket) (find (has_ended ticket.number) s.ended) (find (has_number ticket.number) s.waiting) live
      (ap (λ n. find (has_ended n) s.ended) (sym same) ∙ All-found p (λ y. find (has_ended y.number) s.ended ≡ None) s.waiting x found (none_ended first s placed))
      (ap (λ n. is_some (find (has_number n) s.waiting)) (sym same) ∙ All-found p (λ y. is_some (find (has_number y.number) s.waiting) ≡ true) s.waiting x found (found_itself first s placed))

  waits_as : (first : ℕ) (p : Call V → Bool) (o : Option (Call V)) → find p core.object.state.waiting ≡ o → IsInOnePlace first core.object.state → is_live core.tickets ticket ≡ true → Some ticket.number ≡ option_map (λ x. x.number) o → status_of_ticket core ticket ≡ Waiting
  waits_as first p None is placed live number = cc
  waits_as first p (Some x) is placed live number = let same : x.number ≡ ticket.number = cc in waits-at first p x placed live is same

  -- the cancellation of a waiting call isn't refused, if it was found by a live ticket
  pub cancels : (first : ℕ) (p : Call V → Bool) → IsInOnePlace first core.object.state → is_live core.tickets ticket ≡ true → Some ticket.number ≡ option_map (λ x. x.number) (find p core.object.state.waiting) → cancel_refusal (status_of_ticket core ticket) ≡ None
  cancels first p placed live number = ap cancel_refusal (waits_as first p (find p core.object.state.waiting) refl placed live number)

-- what holds of the number of a call holds of the call
pub found-by : {V : Type 0} (n : ℕ) (P : ℕ → Type 0) (o : Option (Call V)) → Some n ≡ option_map (λ x. x.number) o → P n → IsFound (λ x. P x.number) o
found-by n P None is p = cc
found-by n P (Some x) is p = let same : n ≡ x.number = cc in subst P same p

some_same : (a b : ℕ) → Some a ≡ Some b → a ≡ b
some_same a b e = cc

-- a ticket stays live if the ticket of another call is taken
ticket_left : (l : Latest) (old new : List (Option ℕ)) (ticket : Ticket) (number : ℕ) → number_at old ticket.key ≡ Some ticket.number → number ≢ ticket.number → SetsTicket old new ticket.key None → IsTicketOf old l number → IsTicketOf new l number
ticket_left Never old new ticket number there other sets h = tt
ticket_left (Only t) old new ticket number there other sets h = λ is. elim (cases_eq t.key ticket.key) [
  | inl same ↦ let one : t.number ≡ ticket.number = some_same t.number ticket.number (sym (h is) ∙ (ap (number_at old) same ∙ there)) in absurd (other (sym is ∙ one))
  | inr apart ↦ sets.others t.key apart ∙ h is
]
ticket_left Several old new ticket number there other sets h = tt

-- what is known stays true if an end is collected
pub known-collected : {S V : Type 0} (calls : List Latest) (first : ℕ) (old new : CoreView S V) (ticket : Ticket) (end : End V) → new.object ≡ old.object → Some end ≡ end_of_ticket old ticket → SetsTicket old.tickets new.tickets ticket.key None → IsInOnePlace first old.object.state → KnowsLatest calls old → KnowsLatest calls new
known-collected {S} {V} calls first old new ticket end same ended sets placed h = record {
  issued = λ seat. subst (λ (view : View S V). IsIssued view.state.next (latest_of calls seat)) (sym same) (h.issued seat);
  waiting = subst (λ (view : View S V). All (λ x. IsTrueOfEach calls x.number x.owner) view.state.waiting) (sym same) h.waiting;
  live = subst (λ (view : View S V). All (λ x. IsTicketOfEach new.tickets calls x.number) view.state.waiting) (sym same) (λ k d within seat.
      let number = (get_or old.object.state.waiting k d).number in
      ticket_left (latest_of calls seat) old.tickets new.tickets ticket number (ended-ticket old ticket end ended)
      (not_it old ticket end number ended (none_ended first old.object.state placed k d within)) sets (h.live k d within seat));
}

module _ {S V : Type 0} (calls : List Latest) (core : CoreView S V) (seat : ℕ) (h : KnowsLatest calls core) where
  known_of : (l : Latest) → l ≡ latest_of calls seat → All (λ x. IsTrueOf l seat x.number x.owner) core.object.state.waiting
  known_of l is k d within =
      let x = get_or core.object.state.waiting k d in
      subst (λ i. IsTrueOf i seat x.number x.owner) (sym is) (h.waiting k d within seat)

  -- a seat that has issued no call has no waiting call
  pub never-waits : Never ≡ latest_of calls seat → find (is_of seat) core.object.state.waiting ≡ None
  never-waits is = none-found (is_of seat) core.object.state.waiting (known_of Never is)

  module _ (t : Ticket) (is : Only t ≡ latest_of calls seat) where
    -- the call of a seat is found by the number of the seat's latest call
    found_by_number : find (is_of seat) core.object.state.waiting ≡ find (has_number t.number) core.object.state.waiting
    found_by_number = find_agree (is_of seat) (has_number t.number) core.object.state.waiting (known_of (Only t) is)

    -- it waits if its ticket is of a waiting call
    pub only-waits : status_of_ticket core t ≡ Waiting → (is_live core.tickets t ≡ true) × (Some t.number ≡ option_map (λ x. x.number) (find (is_of seat) core.object.state.waiting))
    only-waits at =
        let w = waits_by (is_live core.tickets t) (find (has_ended t.number) core.object.state.ended) (find (has_number t.number) core.object.state.waiting) at in
        let x = w.1.0 in
        let same = number_of_found t.number x (found_passes (has_number t.number) core.object.state.waiting x w.1.1) in
        (w.0, ap Some (sym same) ∙ ap (option_map (λ y. y.number)) (sym (found_by_number ∙ w.1.1)))

    gone : (first : ℕ) (o : Option (Call V)) → find (has_number t.number) core.object.state.waiting ≡ o → IsInOnePlace first core.object.state → status_of_ticket core t ≢ Waiting → o ≡ None
    gone first None found placed not = refl
    gone first (Some x) found placed not =
        let same = number_of_found t.number x (found_passes (has_number t.number) core.object.state.waiting x found) in
        let ticket = subst (λ l. IsTicketOf core.tickets l x.number) (sym is) (All-found (has_number t.number) (λ y. IsTicketOfEach core.tickets calls y.number) core.object.state.waiting x found h.live seat) in
        absurd (not (waits-at core t first (has_number t.number) x placed (live_of t core.tickets (ticket (sym same))) found same))

    -- otherwise no call of the seat waits
    pub only-ended : (first : ℕ) → IsInOnePlace first core.object.state → status_of_ticket core t ≢ Waiting → find (is_of seat) core.object.state.waiting ≡ None
    only-ended first placed not = found_by_number ∙ gone first (find (has_number t.number) core.object.state.waiting) refl placed not

-- what is known of a seat after it has issued a call
abbrev pub latest_after : Bool → Ticket → Latest
latest_after idle t = if idle then Only t else Several

other_number : (n k : ℕ) → k < n → (n == k) ≡ false
other_number n k lt = grind (arith, nat_tests)

other_seat : (s t : ℕ) → s ≢ t → (t == s) ≡ false
other_seat s t ne = grind (arith, nat_tests)

both_same : (s n : ℕ) → (s == s) ≡ (n == n)
both_same s n = grind (arith, nat_tests)

-- what is known of another seat is true of the call that is issued
true_elsewhere : (l : Latest) (s seat n next : ℕ) → s ≢ seat → n ≡ next → IsIssued next l → IsTrueOf l s n seat
true_elsewhere Never s seat n next ne is h = other_seat s seat ne
true_elsewhere (Only t) s seat n next ne is h = other_seat s seat ne ∙ sym (other_number n t.number (omega arith))
true_elsewhere Several s seat n next ne is h = tt

-- what is known of the seat is true of the call that it issues, and of those that waited
true_here : (idle : Bool) (seat : ℕ) (t : Ticket) → IsTrueOf (latest_after idle t) seat t.number seat
true_here true seat t = both_same seat t.number
true_here false seat t = tt

true_before : (idle : Bool) (seat : ℕ) (t : Ticket) (number owner : ℕ) → (idle ≡ true → (owner == seat) ≡ false) → number < t.number → IsTrueOf (latest_after idle t) seat number owner
true_before true seat t number owner free lt = free refl ∙ sym (other_number_below number t.number lt)
  where
    other_number_below : (k j : ℕ) → k < j → (k == j) ≡ false
    other_number_below k j below = grind (arith, nat_tests)
true_before false seat t number owner free lt = tt

issued_here : (idle : Bool) (t : Ticket) (next : ℕ) → t.number < next → IsIssued next (latest_after idle t)
issued_here true t next lt = lt
issued_here false t next lt = tt

-- the noted ticket of the call is live, and isn't that of an earlier call
ticket_here : (idle : Bool) (t : Ticket) (tickets : List (Option ℕ)) (number : ℕ) → number_at tickets t.key ≡ Some t.number → IsTicketOf tickets (latest_after idle t) number
ticket_here true t tickets number there = λ same. there
ticket_here false t tickets number there = tt

-- a ticket that was live for the call stays so if one more is set
ticket_stays : (l : Latest) (old new : List (Option ℕ)) (key n number : ℕ) → number_at old key ≡ None → SetsTicket old new key (Some n) → IsTicketOf old l number → IsTicketOf new l number
ticket_stays Never old new key n number vacant sets h = tt
ticket_stays (Only t) old new key n number vacant sets h = λ is. elim (cases_eq t.key key) [
  | inl same ↦ let bad : None ≡ Some t.number = sym vacant ∙ (ap (number_at old) (sym same) ∙ h is) in cc
  | inr other ↦ sets.others t.key other ∙ h is
]
ticket_stays Several old new key n number vacant sets h = tt

-- no earlier ticket is of a call that is now issued
ticket_other : (l : Latest) (tickets : List (Option ℕ)) (next n : ℕ) → n ≡ next → IsIssued next l → IsTicketOf tickets l n
ticket_other Never tickets next n is h = tt
ticket_other (Only t) tickets next n is h = λ same. absurd (omega (arith, same, is, h))
ticket_other Several tickets next n is h = tt

module _ (calls : List Latest) (seat : ℕ) (ticket : Ticket) (idle : Bool) (inside : seat < length calls) where
  -- what is known, with one more call of the seat
  abbrev after : List Latest
  after = set calls seat (latest_after idle ticket)

  by_seat : (P : ℕ → Latest → Type 0) → P seat (latest_after idle ticket) → ((s : ℕ) → s ≢ seat → P s (latest_of calls s)) → (s : ℕ) → P s (latest_of after s)
  by_seat P here elsewhere s = elim (cases_eq s seat) [
    | inl same ↦ subst (λ i. P i (latest_of after i)) (sym same) (subst (P seat) (sym (get_or-set_same calls seat (latest_after idle ticket) Never inside)) here)
    | inr other ↦ subst (P s) (sym (get_or-set_other calls seat s (latest_after idle ticket) Never other)) (elsewhere s other)
  ]

  module _ {S V : Type 0} (old new : CoreView S V) (h : KnowsLatest calls old) where
    -- what is then known is true of the waiting calls, and none of these is of the seat if it is idle
    known_before : (idle ≡ true → find (is_of seat) old.object.state.waiting ≡ None) → All (λ x. x.number < ticket.number) old.object.state.waiting → All (λ x. IsTrueOfEach after x.number x.owner) old.object.state.waiting
    known_before free below k d within =
        let x = get_or old.object.state.waiting k d in
        by_seat (λ i l. IsTrueOf l i x.number x.owner)
        (true_before idle seat ticket x.number x.owner (λ is. none-passes (is_of seat) old.object.state.waiting (free is) k d within) (below k d within))
        (λ i other. h.waiting k d within i)

    -- and the noted tickets of waiting calls are live
    live_before : number_at old.tickets ticket.key ≡ None → SetsTicket old.tickets new.tickets ticket.key (Some ticket.number) → All (λ x. IsTicketOfEach new.tickets after x.number) old.object.state.waiting
    live_before vacant sets k d within =
        let number = (get_or old.object.state.waiting k d).number in
        by_seat (λ s l. IsTicketOf new.tickets l number) (ticket_here idle ticket new.tickets number sets.changed)
        (λ s other. ticket_stays (latest_of calls s) old.tickets new.tickets ticket.key ticket.number number vacant sets (h.live k d within s))

    known_issue : (m : Meaning S V) (first : ℕ) (entry : ℕ) (value : V) (deadline : Deadline) → IsProtectedAction m old.object new.object (Issue ticket.number seat entry value deadline) → ticket.number ≡ old.object.state.next → IsInOnePlace first old.object.state → (idle ≡ true → find (is_of seat) old.object.state.waiting ≡ None) → number_at old.tickets ticket.key ≡ None → SetsTicket old.tickets new.tickets ticket.key (Some ticket.number) → KnowsLatest after new
    known_issue m first entry value deadline a is placed free vacant sets =
        let n = ticket.number in
        let own = Issue n seat entry value deadline in
        let next = action-next m old.object new.object own a in
        let below : All (λ x. x.number < n) old.object.state.waiting = λ k d within. omega (arith, is, (waiting-issued first old.object.state placed k d within).1) in
        record {
          issued = by_seat (λ i l. IsIssued new.object.state.next l) (issued_here idle ticket new.object.state.next (omega (arith, is, next)))
              (λ i other. issued_later (latest_of calls i) old.object.state.next new.object.state.next (omega (arith, next)) (h.issued i));
          waiting = of-action (IsTrueOfEach after) m old.object new.object own a
              (by_seat (λ i l. IsTrueOf l i n seat) (true_here idle seat ticket) (λ i other. true_elsewhere (latest_of calls i) i seat n old.object.state.next other is (h.issued i)))
              (known_before free below);
          live = of-action (λ number owner. IsTicketOfEach new.tickets after number) m old.object new.object own a
              (by_seat (λ i l. IsTicketOf new.tickets l n) (ticket_here idle ticket new.tickets n sets.changed) (λ i other. ticket_other (latest_of calls i) new.tickets old.object.state.next n is (h.issued i)))
              (live_before vacant sets);
        }

    -- what is known after a call of the seat
    pub known-issue : (m : Meaning S V) (first : ℕ) (entry : ℕ) (value : V) (deadline : Deadline) (later : List Latest) → later ≡ after → IsProtectedAction m old.object new.object (Issue old.object.state.next seat entry value deadline) → ticket.number ≡ old.object.state.next → IsInOnePlace first old.object.state → (idle ≡ true → find (is_of seat) old.object.state.waiting ≡ None) → number_at old.tickets ticket.key ≡ None → SetsTicket old.tickets new.tickets ticket.key (Some ticket.number) → KnowsLatest later new
    known-issue m first entry value deadline later noted action is placed free vacant sets =
        let a = subst (λ k. IsProtectedAction m old.object new.object (Issue k seat entry value deadline)) (sym is) action in
        subst (λ list. KnowsLatest list new) (sym noted) (known_issue m first entry value deadline a is placed free vacant sets)

-- at first nothing waits
pub known-first : {S V : Type 0} (calls : List Latest) (first : ℕ) (core : CoreView S V) → IsInOnePlace first core.object.state → core.object.state.next ≡ first → ((seat : ℕ) → latest_of calls seat ≡ Never) → KnowsLatest calls core
known-first calls first core placed none never = record {
  issued = λ seat. subst (IsIssued core.object.state.next) (sym (never seat)) tt;
  waiting = λ k d within. let i = waiting-issued first core.object.state placed k d within in absurd (omega (arith, i.0, i.1, none));
  live = λ k d within. let i = waiting-issued first core.object.state placed k d within in absurd (omega (arith, i.0, i.1, none));
}
