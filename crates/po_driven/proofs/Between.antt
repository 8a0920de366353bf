-- The objects in between when several steps are carried out in one.
use Rattle.std.proofs.Common.{ℕ, ◌≡◌, ◌≢◌, ◌∙◌, ◌+◌, ◌<◌, List, [], ◌∷◌, ◌++◌, false, true, Option, None, Some, ap, ap₂, refl, sym, subst, arith, append_assoc, cond, count_by}
use Rattle.std.specs.Prelude.{IsSome, IsSomeAnd}
use Rattle.std.specs.List.{find, slice_get}
use Rattle.po_calls.specs.declared.call.Call.{Call}
use Rattle.po_calls.specs.declared.end.End.{End}
use Rattle.po_calls.specs.declared.end.End.TheVariants.{Completed as IsCompleted, Raised}
use Rattle.po_engine.specs.Ending.{ended_as}
use Rattle.po_engine.specs.declared.arriving.Arriving.{Arriving}
use Rattle.po_engine.specs.Driving.{new_call}
use Rattle.po_engine.specs.WaitingCalls.{is_due}
use Rattle.po_driven.specs.Answering.{Breaks, LooksOn, Moves, is_withdrawn}
use Rattle.po_driven.specs.DrivenCallsView.{DrivenCallsView, KeepsTickets, passed}
use Rattle.po_driven.specs.DrivenView.{Awaits, DrivenView, Fresh, IsDriven, KeepsAll, KeepsSetup, LeavesNamed, MayIssue, Tells}
use Rattle.po_driven.specs.Happening.{arrives, cancellation_of}
use Rattle.po_driven.specs.Noted.{IsNoRequeue, Names, Notes, finalized, serviced}
use Rattle.po_driven.specs.Passing.{HasTarget, IsTaken, MayServe, WasServed}
use Rattle.po_driven.specs.Servicing.{Services}
use Rattle.po_driven.specs.Steps.{EndsBody, Finalizes, Issues}
use Rattle.po_driven.specs.declared.action.Action.{Action}
use Rattle.po_driven.specs.declared.action.Action.TheVariants.{Rest, Evaluate, Run, Queued, Cancelled, ProgramError, NoMemory, Refused}
use Rattle.po_driven.specs.declared.happening.Happening.{Happening}
use Rattle.po_driven.specs.declared.happening.Happening.TheVariants.{Ended, Finalized, RequeuedElsewhere as HasLeft, Served}
use Rattle.po_driven.specs.declared.phase.Phase.TheVariants.{Resting, Running, Settling}
use Rattle.po_driven.specs.declared.words.Barrier.TheVariants.{Open}
use Rattle.po_driven.specs.declared.words.BodyEnd.{BodyEnd}
use Rattle.po_driven.specs.declared.words.BodyEnd.TheVariants.{Completed, Failed, Requeued, RequeuedElsewhere}
use Rattle.po_driven.specs.declared.words.NamedCall.{NamedCall}
use Rattle.po_driven.specs.declared.words.Requeue.{Requeue}
use Rattle.po_engine.proofs.Sums.{sum_by-push}
use Rattle.po_driven.proofs.Passing.{body_traced, in_body}
use Rattle.po_driven.proofs.Setups.{setup_then}
use Rattle.po_driven.proofs.Tickets.{kept_then, one_ended, one_issued, one_passed}

-- the object while the body of this call runs
abbrev pub running : DrivenView → Arriving ℕ → DrivenView
running d a = record d { calls = in_body d.calls a; phase = Running; closed = [] }

-- the object after these calls have come of a step
abbrev pub settling : DrivenView → DrivenCallsView → DrivenView
settling d calls = record d { calls = calls; phase = Settling; closed = [] }

-- what the client is told of the call whose body runs
abbrev pub named : Arriving ℕ → NamedCall
named a = record { caller = a.value; key = 0; number = 0 }

-- the same object, made of equal parts
pub same_settling : (d : DrivenView) (calls later : DrivenCallsView) (limits closed : List ℕ) → calls ≡ later → limits ≡ d.limits → closed ≡ []
    → record { calls = calls; limits = limits; phase = Settling; closed = closed } ≡ settling d later
same_settling d calls later limits closed same set none =
    ap (λ k. let v : DrivenView = record { calls = k; limits = limits; phase = Settling; closed = closed } in v) same
    ∙ ap (λ l. let v : DrivenView = record { calls = later; limits = l; phase = Settling; closed = closed } in v) set
    ∙ ap (λ l. let v : DrivenView = record { calls = later; limits = d.limits; phase = Settling; closed = l } in v) none

-- an object that waits for a command runs no body
pub resting_idle : (d : DrivenView) → IsDriven d → d.phase ≡ Resting → d.calls.object.serving ≡ None
resting_idle d is resting =
    let rest : Awaits Resting d.calls.object d.closed = subst (λ p. Awaits p d.calls.object d.closed) resting is.waits.awaits in
    rest.idle

-- a call that may have been served is accepted
pub may_issue : (d : DrivenView) (e : ℕ) → MayServe d → e < d.calls.object.state.unit → MayIssue d e
may_issue d e may entry = record { accepts = may.accepts; entry = entry }

-- a call with an open barrier is issued, and its body runs
pub issues_open : (d : DrivenView) (a : Arriving ℕ) → MayIssue d a.entry → is_withdrawn a ≡ false → Issues a Open (named a) d (running d a) (Run a.entry)
issues_open d a may stays = record {
  tells = refl;
  kept = tt;
  setup = record { entries = refl; limits = refl; room = record { fixed = refl; capacity = λ fixed. refl }; tickets = one_issued d.calls.object (in_body d.calls a).object d.calls.object.state.next refl refl };
  accepted = λ is e. absurd (cc);
  refused = λ no. absurd (no may);
  room = λ few e. absurd (cc);
  fresh = refl;
  noted = refl;
  names = refl;
  ticket = tt;
  follows = (stays, (refl, refl));
  full = λ ne. tt;
}

pub running_driven : (d : DrivenView) (a : Arriving ℕ) → IsDriven d → d.calls.object.serving ≡ None → IsDriven (running d a)
running_driven d a is idle = record {
  traced = body_traced d.calls a is.traced idle;
  waits = record { limits = is.waits.limits; awaits = refl };
}

fresh_of : (r : Action) (d : DrivenView) → d.closed ≡ [] → Fresh r d
fresh_of Rest d is = is
fresh_of (Evaluate e) d is = is
fresh_of (Run e) d is = is
fresh_of (Queued e) d is = is
fresh_of Cancelled d is = is
fresh_of ProgramError d is = is
fresh_of NoMemory d is = tt
fresh_of Refused d is = tt

module _ (u v : DrivenView) (waiting : u.calls.object.state.waiting ≡ v.calls.object.state.waiting) (clock : u.calls.object.state.clock ≡ v.calls.object.state.clock) where
  first_due : find (is_due u.calls.object.state.clock) u.calls.object.state.waiting ≡ find (is_due v.calls.object.state.clock) v.calls.object.state.waiting
  first_due = ap₂ (λ t xs. find (is_due t) xs) clock waiting

  same_serviced : (r : Action) → serviced r u ≡ serviced r v
  same_serviced Rest = refl
  same_serviced (Evaluate e) = refl
  same_serviced (Run e) = refl
  same_serviced (Queued e) = refl
  same_serviced Cancelled = ap cancellation_of first_due
  same_serviced ProgramError = refl
  same_serviced NoMemory = refl
  same_serviced Refused = refl

  same_names : (r : Action) (step : NamedCall) (new : DrivenView) → Names r step u new → Names r step v new
  same_names Rest step new h = tt
  same_names (Evaluate e) step new h = tt
  same_names (Run e) step new h = h
  same_names (Queued e) step new h = h
  same_names Cancelled step new h = subst (λ o. IsSomeAnd o (λ x. step.caller ≡ x.value)) first_due h
  same_names ProgramError step new h = subst (λ xs. IsSomeAnd (slice_get xs 0) (λ x. step.caller ≡ x.value)) waiting h
  same_names NoMemory step new h = tt
  same_names Refused step new h = tt

  same_breaks : (r : Action) (new : DrivenView) → Breaks r u new → Breaks r v new
  same_breaks Rest new h = sym waiting ∙ h
  same_breaks ProgramError new h = h
  same_breaks (Evaluate e) new h = h
  same_breaks (Run e) new h = h
  same_breaks (Queued e) new h = h
  same_breaks Cancelled new h = h
  same_breaks NoMemory new h = h
  same_breaks Refused new h = h

-- the object once it is finalized
abbrev pub final : DrivenView → DrivenView
final d = record d { calls = record d.calls { object = record d.calls.object { state = record d.calls.object.state { finalized = true } }; happened = d.calls.happened ++ Finalized ∷ [] } }

final_is : (d : DrivenView) (r : Action) → r ≢ Refused → finalized r d ≡ Finalized ∷ serviced r d
final_is d Rest ne = refl
final_is d (Evaluate e) ne = refl
final_is d (Run e) ne = refl
final_is d (Queued e) ne = refl
final_is d Cancelled ne = refl
final_is d ProgramError ne = refl
final_is d NoMemory ne = refl
final_is d Refused ne = absurd (ne refl)

-- then its queued calls end
pub finalizes : (d m new : DrivenView) (step : NamedCall) (r : Action) → d.phase ≡ Resting → m ≡ final d → Services step m new r → new.closed ≡ [] → Breaks r m new → Finalizes step d new r
finalizes d m new step r resting is serves fresh breaks =
    let s = subst (λ v. Services step v new r) is serves in record {
      tells = s.tells;
      kept = s.proceeds d new;
      setup = record {
        entries = s.setup.entries;
        limits = s.setup.limits;
        room = record { fixed = s.setup.room.fixed; capacity = s.setup.room.capacity };
        tickets = record { live = s.setup.tickets.live; left = s.setup.tickets.left };
      };
      accepted = λ e. s.answers;
      refused = λ ne. absurd (ne resting);
      fresh = fresh_of r new fresh;
      noted = s.noted ∙ append_assoc d.calls.happened (Finalized ∷ []) (serviced r (final d)) ∙ ap (λ hs. d.calls.happened ++ Finalized ∷ hs) (same_serviced (final d) d refl refl r) ∙ ap (λ hs. d.calls.happened ++ hs) (sym (final_is d r s.answers));
      names = same_names (final d) d refl refl r step new s.names;
      breaks = λ e. same_breaks (final d) d refl refl r new (subst (λ v. Breaks r v new) is breaks);
    }

two_noted : (hs : List Happening) (g h : Happening) (more : List Happening) → (hs ++ g ∷ h ∷ []) ++ more ≡ (hs ++ g ∷ []) ++ h ∷ more
two_noted hs g h more = append_assoc hs (g ∷ h ∷ []) more ∙ sym (append_assoc hs (g ∷ []) (h ∷ more))

module _ (d : DrivenView) (a : Arriving ℕ) where
  abbrev pub completed_calls : DrivenCallsView
  completed_calls = passed d.calls a (IsCompleted a.value) (Served a ∷ Ended (IsCompleted a.value) ∷ [])

  abbrev pub failed_calls : DrivenCallsView
  failed_calls = passed d.calls a (Raised 0) (Served a ∷ Ended (Raised 0) ∷ [])

  abbrev pub left_calls : DrivenCallsView
  left_calls = passed d.calls a (IsCompleted a.value) (Served a ∷ HasLeft ∷ [])

  -- the setup stays while a call passes
  pub passed_setup : (end : End ℕ) (hs : List Happening) → KeepsSetup d (settling d (passed d.calls a end hs))
  passed_setup end hs = record {
    entries = refl;
    limits = refl;
    room = record { fixed = refl; capacity = λ fixed. refl };
    tickets = one_ended d.calls.object (passed d.calls a end hs).object (ended_as end (new_call d.calls.object.state.next a)) refl refl;
  }

  -- the ticket of the call that has passed is given up, and no other
  left_kept : (v new : DrivenView) (end : End ℕ) → v.calls.object.tickets ≡ d.calls.object.tickets → v.calls.object.state.ended ≡ d.calls.object.state.ended ++ ended_as end (new_call d.calls.object.state.next a) ∷ []
      → KeepsTickets v.calls.object new.calls.object → KeepsTickets (running d a).calls.object new.calls.object
  left_kept v new end tickets ended kept =
      kept_then (running d a).calls.object v.calls.object new.calls.object
      (one_passed (running d a).calls.object v.calls.object d.calls.object.tickets (ended_as end (new_call d.calls.object.state.next a)) refl tickets ended) kept

  its_value : (x : Call ℕ) → Some (new_call d.calls.object.state.next a) ≡ Some x → a.value ≡ x.value
  its_value x e = let same : new_call d.calls.object.state.next a ≡ x = cc in ap (λ y. y.value) same

  pub completed : (new : DrivenView) (step : NamedCall) (r : Action) → Services step (settling d completed_calls) new r → new.closed ≡ [] → LooksOn r d.calls.object.state.waiting [] → EndsBody Completed step (running d a) new r
  completed new step r s fresh looks =
      let v = settling d completed_calls in let m = running d a in record {
        tells = s.tells;
        kept = s.proceeds m new;
        setup = record { entries = s.setup.entries; limits = s.setup.limits; room = record { fixed = s.setup.room.fixed; capacity = s.setup.room.capacity }; tickets = left_kept v new (IsCompleted a.value) refl refl s.setup.tickets };
        accepted = λ some no. s.answers;
        refused = λ none. absurd (cc);
        fresh = fresh_of r new fresh;
        noted = λ x e. s.noted ∙ two_noted d.calls.happened (Served a) (Ended (IsCompleted a.value)) (serviced r v)
            ∙ ap₂ (λ n hs. (d.calls.happened ++ Served a ∷ []) ++ Ended (IsCompleted n) ∷ hs) (its_value x e) (same_serviced v m refl refl r);
        names = λ no. same_names v m refl refl r step new s.names;
        unmoved = λ q e no. absurd (cc);
        moves = λ q x e in_service. absurd (cc);
        ticket = s.unqueued step new;
        full = λ q e. absurd (cc);
        looks_on = λ some e. subst (λ l. LooksOn r d.calls.object.state.waiting l) (sym fresh) looks;
        leaves = λ some e. absurd (cc);
        breaks = λ some e. absurd (cc);
      }

  pub left : (new : DrivenView) (step : NamedCall) (r : Action) → Services step (settling d left_calls) new r → new.closed ≡ [] → LooksOn r d.calls.object.state.waiting [] → EndsBody RequeuedElsewhere step (running d a) new r
  left new step r s fresh looks =
      let v = settling d left_calls in let m = running d a in record {
        tells = s.tells;
        kept = s.proceeds m new;
        setup = record { entries = s.setup.entries; limits = s.setup.limits; room = record { fixed = s.setup.room.fixed; capacity = s.setup.room.capacity }; tickets = left_kept v new (IsCompleted a.value) refl refl s.setup.tickets };
        accepted = λ some no. s.answers;
        refused = λ none. absurd (cc);
        fresh = fresh_of r new fresh;
        noted = λ x e. s.noted ∙ two_noted d.calls.happened (Served a) HasLeft (serviced r v)
            ∙ ap (λ hs. (d.calls.happened ++ Served a ∷ []) ++ HasLeft ∷ hs) (same_serviced v m refl refl r);
        names = λ no. same_names v m refl refl r step new s.names;
        unmoved = λ q e no. absurd (cc);
        moves = λ q x e in_service. absurd (cc);
        ticket = s.unqueued step new;
        full = λ q e. absurd (cc);
        looks_on = λ some e. absurd (cc);
        leaves = λ some e. subst (λ l. LooksOn r d.calls.object.state.waiting l) (sym fresh) looks;
        breaks = λ some e. absurd (cc);
      }

  pub failed : (new : DrivenView) (step : NamedCall) (r : Action) → Services step (settling d failed_calls) new r → new.closed ≡ [] → Breaks r (settling d failed_calls) new → EndsBody Failed step (running d a) new r
  failed new step r s fresh breaks =
      let v = settling d failed_calls in let m = running d a in record {
        tells = s.tells;
        kept = s.proceeds m new;
        setup = record { entries = s.setup.entries; limits = s.setup.limits; room = record { fixed = s.setup.room.fixed; capacity = s.setup.room.capacity }; tickets = left_kept v new (Raised 0) refl refl s.setup.tickets };
        accepted = λ some no. s.answers;
        refused = λ none. absurd (cc);
        fresh = fresh_of r new fresh;
        noted = λ x e. s.noted ∙ two_noted d.calls.happened (Served a) (Ended (Raised 0)) (serviced r v)
            ∙ ap (λ hs. (d.calls.happened ++ Served a ∷ []) ++ Ended (Raised 0) ∷ hs) (same_serviced v m refl refl r);
        names = λ no. same_names v m refl refl r step new s.names;
        unmoved = λ q e no. absurd (cc);
        moves = λ q x e in_service. absurd (cc);
        ticket = s.unqueued step new;
        full = λ q e. absurd (cc);
        looks_on = λ some e. absurd (cc);
        leaves = λ some e. absurd (cc);
        breaks = λ some e. same_breaks v m refl refl r new breaks;
      }

-- The entry to which a body requeues exists in an object with as many entries.
target_in : (end : BodyEnd) (u v : DrivenView) → v.calls.object.state.unit ≡ u.calls.object.state.unit → HasTarget u end → HasTarget v end
target_in Completed u v same h = tt
target_in Failed u v same h = tt
target_in (Requeued q) u v same h = subst (λ n. q.target < n) (sym same) h
target_in RequeuedElsewhere u v same h = tt

-- the place after a call with an open barrier has arrived
place_served : (u v : DrivenView) (a : Arriving ℕ) → IsDriven u → IsDriven v → Notes (Served a ∷ []) u v → v.calls.place ≡ u.calls.place + 1
place_served u v a is now noted =
    now.traced.place ∙ ap (count_by arrives) noted ∙ omega (arith, is.traced.place, sum_by-push (λ h. cond (arrives h) 1 0) u.calls.happened (Served a))

accepted_at : (end : BodyEnd) (m : DrivenView) (r : Action) (step : NamedCall) (o : Option (Call ℕ)) → m.calls.object.serving ≡ o → IsSome o → HasTarget m end
    → m.calls.place < 340_282_366_920_938_463_463_374_607_431_768_211_455 → (IsSome m.calls.object.serving → IsNoRequeue end → r ≢ Refused)
    → ((q : Requeue) (x : Call ℕ) → end ≡ Requeued q → m.calls.object.serving ≡ Some x → Moves r q x step m) → r ≢ Refused
accepted_at end m r step None is some target place accepts moves = absurd (cc)
accepted_at Completed m r step (Some x) is some target place accepts moves = accepts (subst (λ o. IsSome o) (sym is) some) tt
accepted_at Failed m r step (Some x) is some target place accepts moves = accepts (subst (λ o. IsSome o) (sym is) some) tt
accepted_at RequeuedElsewhere m r step (Some x) is some target place accepts moves = accepts (subst (λ o. IsSome o) (sym is) some) tt
accepted_at (Requeued q) m r step (Some x) is some target place accepts moves = λ e. (subst (λ k. Moves k q x step m) e (moves q x refl is)) (target, place)

-- if it isn't refused, it is taken
taken_of : (m new : DrivenView) (r : Action) → r ≢ Refused → Tells r new → KeepsAll r m new → m.phase ≡ Running → IsTaken r
taken_of m new Rest ne tells kept running = tt
taken_of m new (Evaluate e) ne tells kept running = tt
taken_of m new (Run e) ne tells kept running = tt
taken_of m new (Queued e) ne tells kept running = tt
taken_of m new Cancelled ne tells kept running = tt
taken_of m new ProgramError ne tells kept running = tt
taken_of m new NoMemory ne tells kept running =
    let bad : Resting ≡ Running = sym tells ∙ ap (λ v. v.phase) kept ∙ running in absurd (cc)
taken_of m new Refused ne tells kept running = absurd (ne refl)

kept_taken : (r : Action) (old new : DrivenView) → IsTaken r → KeepsAll r old new
kept_taken Rest old new is = tt
kept_taken (Evaluate e) old new is = tt
kept_taken (Run e) old new is = tt
kept_taken (Queued e) old new is = tt
kept_taken Cancelled old new is = tt
kept_taken ProgramError old new is = tt
kept_taken NoMemory old new is = absurd is
kept_taken Refused old new is = absurd is

named_taken : (r : Action) (old new : NamedCall) → IsTaken r → LeavesNamed r old new
named_taken Rest old new is = tt
named_taken (Evaluate e) old new is = tt
named_taken (Run e) old new is = tt
named_taken (Queued e) old new is = tt
named_taken Cancelled old new is = tt
named_taken ProgramError old new is = tt
named_taken NoMemory old new is = absurd is
named_taken Refused old new is = absurd is

module _ (d m new : DrivenView) (a : Arriving ℕ) (end : BodyEnd) (step : NamedCall) (r : Action) (was : WasServed a end d) (is : IsDriven d) (now : IsDriven m) (running : m.phase ≡ Running)
    (setup : KeepsSetup d m) (noted : Notes (Served a ∷ []) d m) (ends : EndsBody end step m new r) where
  -- the end of the body of a call that was just issued isn't refused
  pub body_accepted : r ≢ Refused
  body_accepted =
      let awaits : Awaits Running m.calls.object m.closed = subst (λ p. Awaits p m.calls.object m.closed) running now.waits.awaits in
      accepted_at end m r step m.calls.object.serving refl awaits (target_in end d m setup.entries was.target) (omega (arith, place_served d m a is now noted, was.may.second)) ends.accepted ends.moves

  is_taken : IsTaken r
  is_taken = taken_of m new r body_accepted ends.tells ends.kept running

  pub body_kept : KeepsAll r d new
  body_kept = kept_taken r d new is_taken

  pub body_named : (before after : NamedCall) → LeavesNamed r before after
  body_named before after = named_taken r before after is_taken

call_value : (x y : Call ℕ) → Some x ≡ Some y → x.value ≡ y.value
call_value x y e = let same : x ≡ y = cc in ap (λ z. z.value) same

not_idle : (o : Option (Call ℕ)) (x : Call ℕ) → o ≡ Some x → o ≡ None → ⊥
not_idle o x is none = let bad : None ≡ Some x = sym none ∙ is in absurd (cc)

module _ (d m new : DrivenView) (x : Call ℕ) (step : NamedCall) (r : Action) (in_service : d.calls.object.serving ≡ Some x) (setup : KeepsSetup d m)
    (waiting : m.calls.object.state.waiting ≡ d.calls.object.state.waiting) (clock : m.calls.object.state.clock ≡ d.calls.object.state.clock)
    (s : Services step m new r) (fresh : new.closed ≡ []) where
  since : (h : Happening) → Notes (h ∷ []) d m → new.calls.happened ≡ d.calls.happened ++ h ∷ serviced r d
  since h noted =
      s.noted ∙ ap (λ l. l ++ serviced r m) noted ∙ append_assoc d.calls.happened (h ∷ []) (serviced r m)
      ∙ ap (λ hs. d.calls.happened ++ h ∷ hs) (same_serviced m d waiting clock r)

  its : (y : Call ℕ) → d.calls.object.serving ≡ Some y → x.value ≡ y.value
  its y e = call_value x y (sym in_service ∙ e)

  -- the body of the call in service completed, or failed, or requeued it elsewhere, and the queues were serviced
  pub completes : Notes (Ended (IsCompleted x.value) ∷ []) d m → LooksOn r d.calls.object.state.waiting [] → EndsBody Completed step d new r
  completes noted looks = record {
    tells = s.tells;
    kept = s.proceeds d new;
    setup = setup_then d m new setup s.setup;
    accepted = λ some no. s.answers;
    refused = λ none. absurd (not_idle d.calls.object.serving x in_service none);
    fresh = fresh_of r new fresh;
    noted = λ y e. since (Ended (IsCompleted x.value)) noted ∙ ap (λ n. d.calls.happened ++ Ended (IsCompleted n) ∷ serviced r d) (its y e);
    names = λ no. same_names m d waiting clock r step new s.names;
    unmoved = λ q e no. absurd (cc);
    moves = λ q y e is. absurd (cc);
    ticket = s.unqueued step new;
    full = λ q e. absurd (cc);
    looks_on = λ some e. subst (λ l. LooksOn r d.calls.object.state.waiting l) (sym fresh) looks;
    leaves = λ some e. absurd (cc);
    breaks = λ some e. absurd (cc);
  }

  pub leaves : Notes (HasLeft ∷ []) d m → LooksOn r d.calls.object.state.waiting [] → EndsBody RequeuedElsewhere step d new r
  leaves noted looks = record {
    tells = s.tells;
    kept = s.proceeds d new;
    setup = setup_then d m new setup s.setup;
    accepted = λ some no. s.answers;
    refused = λ none. absurd (not_idle d.calls.object.serving x in_service none);
    fresh = fresh_of r new fresh;
    noted = λ y e. since HasLeft noted;
    names = λ no. same_names m d waiting clock r step new s.names;
    unmoved = λ q e no. absurd (cc);
    moves = λ q y e is. absurd (cc);
    ticket = s.unqueued step new;
    full = λ q e. absurd (cc);
    looks_on = λ some e. absurd (cc);
    leaves = λ some e. subst (λ l. LooksOn r d.calls.object.state.waiting l) (sym fresh) looks;
    breaks = λ some e. absurd (cc);
  }

  pub fails : Notes (Ended (Raised 0) ∷ []) d m → Breaks r m new → EndsBody Failed step d new r
  fails noted breaks = record {
    tells = s.tells;
    kept = s.proceeds d new;
    setup = setup_then d m new setup s.setup;
    accepted = λ some no. s.answers;
    refused = λ none. absurd (not_idle d.calls.object.serving x in_service none);
    fresh = fresh_of r new fresh;
    noted = λ y e. since (Ended (Raised 0)) noted;
    names = λ no. same_names m d waiting clock r step new s.names;
    unmoved = λ q e no. absurd (cc);
    moves = λ q y e is. absurd (cc);
    ticket = s.unqueued step new;
    full = λ q e. absurd (cc);
    looks_on = λ some e. absurd (cc);
    leaves = λ some e. absurd (cc);
    breaks = λ some e. same_breaks m d waiting clock r new breaks;
  }
