-- A call that is served, requeued by its body to an open entry of the object, and completed there, while no other is queued.
use Rattle.std.proofs.Common.{ℕ, ◌≡◌, ◌∙◌, ◌<◌, [], ◌∷◌, ◌++◌, length, Bool, true, false, ◌&&◌, ◌||◌, if◌then◌else◌, Option, None, Some, ap, ap₂, refl, sym, subst, arith}
use Rattle.std.proofs.lemmas.List.Elements.{All-nil}
use Rattle.po_unit.specs.declared.outcome.Outcome.TheVariants.{Requeue as RequeueTo}
use Rattle.po_calls.specs.declared.call.Call.{Call}
use Rattle.po_calls.specs.declared.end.End.TheVariants.{Completed as IsCompleted}
use Rattle.po_engine.specs.declared.arriving.Arriving.{Arriving}
use Rattle.po_engine.specs.Driving.{new_call}
use Rattle.po_engine.specs.Ending.{ended_as}
use Rattle.po_engine.specs.Step.{is_full}
use Rattle.po_engine.specs.Tickets.{is_number}
use Rattle.po_engine.specs.WaitingCalls.{has_number, is_on}
use Rattle.po_engine.proofs.Absent.{eq_self}
use Rattle.po_driven.specs.Answering.{MayRequeue, Moves}
use Rattle.po_driven.specs.DrivenCallsView.{passed_twice}
use Rattle.po_driven.specs.DrivenView.{DrivenView, IsDriven}
use Rattle.po_driven.specs.Noted.{longest_on}
use Rattle.po_driven.specs.Passing.{MayServeTwice, ServesTwiceBetween}
use Rattle.po_driven.specs.declared.action.Action.TheVariants.{Run, Queued}
use Rattle.po_driven.specs.declared.happening.Happening.TheVariants.{Due, Ended, Requeued as WasRequeued, Selected, Served}
use Rattle.po_driven.specs.declared.phase.Phase.TheVariants.{Asked, Resting, Running}
use Rattle.po_driven.specs.declared.words.BodyEnd.TheVariants.{Requeued}
use Rattle.po_driven.specs.declared.words.NamedCall.{NamedCall}
use Rattle.po_driven.specs.declared.words.Requeue.{Requeue}
use Rattle.po_driven.proofs.Alone.{asked_same, below_alone, last_number, open_alone}
use Rattle.po_driven.proofs.Between.{issues_open, may_issue, named, resting_idle, running, running_driven}
use Rattle.po_driven.proofs.Passing.{in_second_body, in_second_queue, moved_call, noted_twice, second_body_traced, second_queue_traced}
use Rattle.po_driven.proofs.Tickets.{one_passed, same_tickets}
use Rattle.po_driven.proofs.Traces.{found_last}

same_requeue : (q r : Requeue) → Requeued r ≡ Requeued q → r ≡ q
same_requeue q r e = cc

same_call : (x y : Call ℕ) → Some x ≡ Some y → x ≡ y
same_call x y e = cc

-- a requeue with abort of a call that it doesn't cancel is of one that isn't aborted
pub kept_at : (w b c : Bool) → (w && (b || c)) ≡ false → (w ≡ true) → (c ≡ false)
kept_at true true c h is = absurd (cc)
kept_at true false c h is = h
kept_at false b c h is = absurd (cc)

module _ (d new : DrivenView) (a : Arriving ℕ) (r : Requeue) (may : MayServeTwice a r d) (is : IsDriven d) where
  abbrev its : Call ℕ
  its = new_call d.calls.object.state.next a

  abbrev moved : Call ℕ
  moved = moved_call d.calls a r.target r.with_abort

  abbrev limit : Option ℕ
  limit = longest_on d r.target

  abbrev pub queued : DrivenView
  queued = record d { calls = in_second_queue d.calls a r.target r.with_abort limit; phase = Asked r.target; closed = [] }

  abbrev pub second : DrivenView
  second = record d { calls = in_second_body d.calls a r.target r.with_abort limit; phase = Running; closed = [] }

  abbrev ticket : NamedCall
  ticket = record { caller = a.value; key = length d.calls.object.tickets; number = d.calls.object.state.next }

  idle : d.calls.object.serving ≡ None
  idle = resting_idle d is may.served.may.accepts.resting

  room : is_full limit 0 ≡ false
  room = open_alone d r.target may.alone

  kept : (r.with_abort ≡ true) → (a.aborted ≡ false)
  kept = kept_at r.with_abort r.aborted a.aborted may.kept

  only : queued.calls.object.state.waiting ≡ moved ∷ []
  only = ap (λ xs. xs ++ moved ∷ []) may.alone

  moves_on : (q : Requeue) (x : Call ℕ) → Requeued r ≡ Requeued q → Some its ≡ Some x → Moves (Queued r.target) q x ticket (running d a)
  moves_on q x e in_service =
      subst (λ z. Moves (Queued r.target) z x ticket (running d a)) (same_requeue q r e)
      (subst (λ y. Moves (Queued r.target) r y ticket (running d a)) (same_call its x in_service) (may.kept, refl, refl))

  may_requeue : (q : Requeue) → Requeued r ≡ Requeued q → MayRequeue (running d a) q
  may_requeue q e = subst (λ z. MayRequeue (running d a) z) (same_requeue q r e) (may.target, omega (arith, may.served.may.second))

  pub twice_between : new.calls ≡ passed_twice d.calls a (IsCompleted a.value) (Served a ∷ WasRequeued (RequeueTo r.target r.with_abort a.value) limit ∷ Selected r.target ∷ Ended (IsCompleted a.value) ∷ [])
      → new.limits ≡ d.limits → new.phase ≡ Resting → new.closed ≡ [] → ServesTwiceBetween a r d new
  twice_between calls limits resting closed = record {
    first = running d a;
    queued = queued;
    second = second;
    told = named a;
    ticket = ticket;
    named = named a;
    driven = (
      running_driven d a is idle,
      record {
        traced = second_queue_traced d.calls a r.target r.with_abort limit is.traced idle may.alone room kept;
        waits = record {
          limits = is.waits.limits;
          awaits = (idle, may.target, found_last (is_on r.target) d.calls.object.state.waiting moved (eq_self r.target), below_alone moved queued.calls.object.state.waiting only, All-nil (λ e. e < r.target));
        };
      },
      record {
        traced = second_body_traced d.calls a r.target r.with_abort limit is.traced idle may.alone room kept;
        waits = record { limits = is.waits.limits; awaits = refl };
      },
    );
    issues = issues_open d a (may_issue d a.entry may.served.may may.served.entry) may.served.stays;
    requeues = record {
      tells = refl;
      kept = tt;
      setup = record { entries = refl; limits = refl; room = record { fixed = refl; capacity = λ fixed. refl }; tickets = same_tickets (running d a).calls.object queued.calls.object refl refl };
      accepted = λ some no. absurd no;
      refused = λ none. absurd (cc);
      fresh = refl;
      noted = λ x e. ap₂ (λ y b. (d.calls.happened ++ Served a ∷ []) ++ ((if b then Due ∷ [] else []) ++ WasRequeued (RequeueTo r.target r.with_abort y.value) limit ∷ [])) (same_call its x e) (sym may.quiet);
      names = λ no. absurd no;
      unmoved = λ q e no. absurd (no (may_requeue q e));
      moves = λ q x e in_service. moves_on q x e in_service;
      ticket = (
        ap (is_number d.calls.object.state.next) (last_number d.calls.object.tickets d.calls.object.state.next) ∙ eq_self d.calls.object.state.next,
        found_last (has_number d.calls.object.state.next) d.calls.object.state.waiting moved (eq_self d.calls.object.state.next),
      );
      full = λ q e. tt;
      looks_on = λ some e. absurd (cc);
      leaves = λ some e. absurd (cc);
      breaks = λ some e. absurd (cc);
    };
    answers = record {
      tells = refl;
      kept = tt;
      setup = record { entries = refl; limits = refl; room = record { fixed = refl; capacity = λ fixed. refl }; tickets = same_tickets queued.calls.object second.calls.object refl refl };
      accepted = λ e q n. absurd (cc);
      refused = λ no. absurd (no r.target refl);
      closed = λ e q. refl;
      noted = refl;
      names = (refl, refl);
      serves = λ e q b. ap Run (asked_same r.target e q);
      looks_on = λ e q b. absurd (cc);
      breaks = λ e q b. absurd (cc);
    };
    ends = record {
      tells = resting;
      kept = tt;
      setup = record {
        entries = ap (λ t. t.object.state.unit) calls;
        limits = limits;
        room = record { fixed = ap (λ t. t.object.is_fixed) calls; capacity = λ fixed. ap (λ t. t.object.capacity) calls };
        tickets = one_passed second.calls.object new.calls.object d.calls.object.tickets (ended_as (IsCompleted a.value) its) refl (ap (λ t. t.object.tickets) calls) (ap (λ t. t.object.state.ended) calls);
      };
      accepted = λ some no n. absurd (cc);
      refused = λ none. absurd (cc);
      fresh = closed;
      noted = λ x e. ap (λ t. t.happened) calls ∙ sym (noted_twice d.calls a r.target r.with_abort limit is.traced idle may.alone room kept)
          ∙ ap (λ (y : Call ℕ). second.calls.happened ++ Ended (IsCompleted y.value) ∷ []) (same_call moved x e);
      names = λ no. tt;
      unmoved = λ q e no. absurd (cc);
      moves = λ q x e in_service. absurd (cc);
      ticket = tt;
      full = λ q e. absurd (cc);
      looks_on = λ some e. tt;
      leaves = λ some e. absurd (cc);
      breaks = λ some e. absurd (cc);
    };
  }
