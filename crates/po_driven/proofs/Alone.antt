-- A call that arrives alone, with a closed barrier: it waits, or it is turned away.
use Rattle.std.proofs.Common.{ℕ, ◌≡◌, ◌∙◌, ◌<◌, ◌==◌, nat_le, List, [], ◌∷◌, ◌++◌, length, false, true, Option, None, Some, ap, refl, sym, subst, arith, append_assoc, append-nil, inl, inr, count_by}
use Rattle.std.specs.Prelude.{IsSome, IsSomeAnd}
use Rattle.std.specs.List.{All, find, slice_index}
use Rattle.std.proofs.lemmas.Bool.{cases_Bool}
use Rattle.std.proofs.lemmas.Bool.Decides.{nat_tests}
use Rattle.std.proofs.lemmas.List.Elements.{All-nil, All-push}
use Rattle.po_calls.specs.declared.call.Call.{Call}
use Rattle.po_calls.specs.declared.end.End.TheVariants.{Cancelled as IsCancelled}
use Rattle.po_engine.specs.declared.arriving.Arriving.{Arriving}
use Rattle.po_engine.specs.Driving.{counted, new_call}
use Rattle.po_engine.specs.Ending.{ended_as}
use Rattle.po_engine.specs.ObjectState.{ObjectState}
use Rattle.po_engine.specs.Step.{enter, is_full}
use Rattle.po_engine.specs.Tickets.{is_live, is_number, number_at}
use Rattle.po_engine.specs.WaitingCalls.{has_number, is_due, is_on}
use Rattle.po_engine.proofs.Absent.{eq_self}
use Rattle.po_driven.specs.AtRest.{ToldBelow, told}
use Rattle.po_driven.specs.DrivenCallsView.{IsTraced, KeepsRoom, KeepsTickets, passed}
use Rattle.po_driven.specs.DrivenView.{DrivenView, IsDriven}
use Rattle.po_driven.specs.Happening.{cancellation_of}
use Rattle.po_driven.specs.Noted.{full_at, longest_on}
use Rattle.po_driven.specs.Passing.{ArrivesAlone, TurnsAwayBetween, WaitsBetween, is_due_in}
use Rattle.po_driven.specs.declared.happening.Happening.TheVariants.{Arrived, Cancelled as WasCancelled}
use Rattle.po_driven.specs.declared.phase.Phase.TheVariants.{Asked, Resting, Settling}
use Rattle.po_driven.specs.declared.words.NamedCall.{NamedCall}
use Rattle.po_driven.proofs.Between.{resting_idle}
use Rattle.po_driven.proofs.Passing.{cancelled_traced, in_queue, queue_traced}
use Rattle.po_driven.proofs.Tickets.{one_issued, one_passed, same_tickets}
use Rattle.po_driven.proofs.Traces.{found_last}

-- an empty queue isn't full
full_never : (limit : ℕ) → is_full (full_at limit) 0 ≡ false
full_never limit = elim (cases_Bool (limit == 0)) [ inl none ↦ rw none refl | inr some ↦ rw some (never limit some) ]
  where
    never : (n : ℕ) → (n == 0) ≡ false → nat_le n 0 ≡ false
    never n h = grind (arith, nat_tests, h)

pub open_alone : (d : DrivenView) (e : ℕ) → d.calls.object.state.waiting ≡ [] → is_full (longest_on d e) 0 ≡ false
open_alone d e none = full_never (slice_index d.limits e)

-- what is queued after a call has arrived alone
entered_alone : (limit : Option ℕ) (s : ObjectState ℕ ℕ) (x : Call ℕ) → s.waiting ≡ [] → is_full limit 0 ≡ false → (enter limit s x).waiting ≡ x ∷ []
entered_alone limit s x none room =
    let full : is_full limit (count_by (is_on x.entry) s.waiting) ≡ false = ap (λ xs. is_full limit (count_by (is_on x.entry) xs)) none ∙ room in
    rw full (ap (λ xs. xs ++ x ∷ []) none)

-- the entries below that of the only call have no queued call
pub below_alone : (x : Call ℕ) (waiting : List (Call ℕ)) → waiting ≡ x ∷ [] → ToldBelow [] x.entry waiting
below_alone x waiting is =
    let P : Call ℕ → Type 0 = λ y. y.entry < x.entry → told [] y.entry ≡ true in
    subst (λ xs. All P xs) (sym is) (All-push P [] x (All-nil P) (λ lt. absurd (omega (arith, lt))))

pub asked_same : (e k : ℕ) → Asked e ≡ Asked k → e ≡ k
asked_same e k h = cc

module _ (d new : DrivenView) (a : Arriving ℕ) (alone : ArrivesAlone a d) where
  abbrev its : Call ℕ
  its = new_call d.calls.object.state.next a

  -- it waits: what leads there
  pub waits_between : (step : NamedCall) → IsDriven d → IsTraced new.calls → new.limits ≡ d.limits → new.phase ≡ Resting → new.closed ≡ a.entry ∷ []
      → new.calls.object.state ≡ enter (longest_on d a.entry) (counted d.calls.object.state) its → new.calls.object.state.unit ≡ d.calls.object.state.unit
      → new.calls.object.serving ≡ None → new.calls.happened ≡ d.calls.happened ++ Arrived a (longest_on d a.entry) ∷ []
      → KeepsRoom d.calls.object new.calls.object → KeepsTickets d.calls.object new.calls.object → step.caller ≡ a.value → step.number ≡ d.calls.object.state.next
      → is_live new.calls.object.tickets (record { key = step.key; number = step.number }) ≡ true
      → IsSome (find (has_number step.number) new.calls.object.state.waiting) → IsSome (find (is_on a.entry) new.calls.object.state.waiting) → WaitsBetween a step d new
  waits_between step is traced limits resting closed state unit idle noted room tickets caller number live found on =
      let asked : DrivenView = record new { phase = Asked a.entry; closed = [] } in
      let waiting = ap (λ s. s.waiting) state ∙ entered_alone (longest_on d a.entry) (counted d.calls.object.state) its alone.alone (open_alone d a.entry alone.alone) in
      record {
        asked = asked;
        driven = record {
          traced = traced;
          waits = record {
            limits = ap (λ l. length l) limits ∙ is.waits.limits ∙ sym unit;
            awaits = (idle, subst (λ n. a.entry < n) (sym unit) alone.may.entry, on, below_alone its new.calls.object.state.waiting waiting, All-nil (λ e. e < a.entry));
          };
        };
        issues = record {
          tells = refl;
          kept = tt;
          setup = record { entries = unit; limits = limits; room = room; tickets = tickets };
          accepted = λ may e. absurd (cc);
          refused = λ no. absurd (no alone.may);
          room = λ few e. absurd (cc);
          fresh = refl;
          noted = noted;
          names = (caller, number);
          ticket = (live, found);
          follows = (alone.stays, refl);
          full = λ ne. tt;
        };
        answers = record {
          tells = resting;
          kept = tt;
          setup = record { entries = refl; limits = refl; room = record { fixed = refl; capacity = λ fixed. refl }; tickets = same_tickets new.calls.object new.calls.object refl refl };
          accepted = λ e q r. absurd (cc);
          refused = λ no. absurd (no a.entry refl);
          closed = λ e q. closed ∙ ap (λ k. k ∷ []) (asked_same a.entry e q);
          noted = sym (append-nil new.calls.happened);
          names = tt;
          serves = λ e q r. absurd (cc);
          looks_on = λ e q r. tt;
          breaks = λ e q r. absurd (cc);
        };
      }

pub last_number : (tickets : List (Option ℕ)) (n : ℕ) → number_at (tickets ++ Some n ∷ []) (length tickets) ≡ Some n
last_number [] n = refl
last_number (o ∷ tickets) n = last_number tickets n

-- the only call is due
due_alone : (t : ℕ) (x : Call ℕ) (waiting : List (Call ℕ)) → waiting ≡ x ∷ [] → is_due t x ≡ true → find (is_due t) waiting ≡ Some x
due_alone t x waiting is due = ap (λ xs. find (is_due t) xs) is ∙ due_first t x due
  where
    due_first : (t : ℕ) (x : Call ℕ) → is_due t x ≡ true → find (is_due t) (x ∷ []) ≡ Some x
    due_first t x due = rw due refl

told_alone : (x : Call ℕ) (waiting : List (Call ℕ)) → waiting ≡ x ∷ [] → All (λ y. told (x.entry ∷ []) y.entry ≡ true) waiting
told_alone x waiting is =
    let P : Call ℕ → Type 0 = λ y. told (x.entry ∷ []) y.entry ≡ true in
    subst (λ xs. All P xs) (sym is) (All-push P [] x (All-nil P) (rw (eq_self x.entry) refl))

module _ (d new : DrivenView) (a : Arriving ℕ) (alone : ArrivesAlone a d) (due : is_due_in d a ≡ true) where
  abbrev away : Call ℕ
  away = new_call d.calls.object.state.next a

  abbrev pub limit : Option ℕ
  limit = longest_on d a.entry

  abbrev pub queued : DrivenView
  queued = record d { calls = in_queue d.calls a limit; phase = Asked a.entry; closed = [] }

  abbrev pub ended : DrivenView
  ended = record d { calls = passed d.calls a IsCancelled (Arrived a limit ∷ WasCancelled d.calls.object.state.next ∷ []); phase = Settling; closed = a.entry ∷ [] }

  only : queued.calls.object.state.waiting ≡ away ∷ []
  only = ap (λ xs. xs ++ away ∷ []) alone.alone

  -- it is turned away: what leads there
  pub turned_between : IsDriven d → new.calls ≡ ended.calls → new.limits ≡ d.limits → new.phase ≡ Resting → new.closed ≡ [] → TurnsAwayBetween a d new
  turned_between is calls limits resting closed =
      let idle = resting_idle d is alone.may.accepts.resting in
      let found = due_alone d.calls.object.state.clock away queued.calls.object.state.waiting only due in
      let told : NamedCall = record { caller = a.value; key = length d.calls.object.tickets; number = d.calls.object.state.next } in
      record {
        asked = queued;
        cancelled = ended;
        queued = told;
        named = told;
        driven = (
          record {
            traced = queue_traced d.calls a limit is.traced idle alone.alone (open_alone d a.entry alone.alone);
            waits = record {
              limits = is.waits.limits;
              awaits = (idle, alone.may.entry, found_last (is_on a.entry) d.calls.object.state.waiting away (eq_self a.entry), below_alone away queued.calls.object.state.waiting only, All-nil (λ e. e < a.entry));
            };
          },
          record {
            traced = cancelled_traced d.calls a limit is.traced idle alone.alone (open_alone d a.entry alone.alone);
            waits = record { limits = is.waits.limits; awaits = idle };
          },
        );
        issues = record {
          tells = refl;
          kept = tt;
          setup = record { entries = refl; limits = refl; room = record { fixed = refl; capacity = λ fixed. refl }; tickets = one_issued d.calls.object queued.calls.object d.calls.object.state.next refl refl };
          accepted = λ may e. absurd (cc);
          refused = λ no. absurd (no alone.may);
          room = λ few e. absurd (cc);
          fresh = refl;
          noted = refl;
          names = (refl, refl);
          ticket = (
            ap (is_number d.calls.object.state.next) (last_number d.calls.object.tickets d.calls.object.state.next) ∙ eq_self d.calls.object.state.next,
            found_last (has_number d.calls.object.state.next) d.calls.object.state.waiting away (eq_self d.calls.object.state.next),
          );
          follows = (alone.stays, refl);
          full = λ ne. tt;
        };
        answers = record {
          tells = refl;
          kept = tt;
          setup = record { entries = refl; limits = refl; room = record { fixed = refl; capacity = λ fixed. refl }; tickets = one_passed queued.calls.object ended.calls.object d.calls.object.tickets (ended_as IsCancelled away) refl refl refl };
          accepted = λ e q r. absurd (cc);
          refused = λ no. absurd (no a.entry refl);
          closed = λ e q. ap (λ k. k ∷ []) (asked_same a.entry e q);
          noted = sym (append_assoc d.calls.happened (Arrived a limit ∷ []) (WasCancelled d.calls.object.state.next ∷ [])) ∙ ap (λ o. (d.calls.happened ++ Arrived a limit ∷ []) ++ cancellation_of o) (sym found);
          names = subst (λ o. IsSomeAnd o (λ y. a.value ≡ y.value)) (sym found) refl;
          serves = λ e q r. absurd (cc);
          looks_on = λ e q r. told_alone away queued.calls.object.state.waiting only;
          breaks = λ e q r. absurd (cc);
        };
        goes_on = record {
          tells = resting;
          kept = tt;
          setup = record {
            entries = ap (λ t. t.object.state.unit) calls;
            limits = limits;
            room = record { fixed = ap (λ t. t.object.is_fixed) calls; capacity = λ fixed. ap (λ t. t.object.capacity) calls };
            tickets = same_tickets ended.calls.object new.calls.object (ap (λ t. t.object.tickets) calls) (ap (λ t. t.object.state.ended) calls);
          };
          accepted = λ waits e. absurd (cc);
          refused = λ no. absurd (no tt);
          fresh = closed;
          noted = ap (λ t. t.happened) calls ∙ sym (append-nil ended.calls.happened);
          names = tt;
          looks_on = λ ne r. tt;
          breaks = λ e. absurd (cc);
        };
      }
