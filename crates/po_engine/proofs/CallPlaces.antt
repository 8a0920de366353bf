-- In which state a call is, by what the table keeps of it, and what stays once it is collected.
use Rattle.std.proofs.Common.{◌≡◌, ℕ, true, eqb, List, Option, Some, None, refl, sym, ap, ◌∙◌, subst, inl, inr, if◌then◌else◌}
use Rattle.std.specs.List.{find}
use Rattle.std.specs.Prelude.{option_map}
use Rattle.std.proofs.lemmas.Bool.{cases_Bool, cases_eq, eqb-true}
use Rattle.slab.specs.Slab.{Slab, get, Updates}
use Rattle.po_queues.specs.QueuedKeys.{occurs}
use Rattle.po_calls.specs.declared.call.Call.{Call}
use Rattle.po_calls.specs.declared.end.End.{End}
use Rattle.po_calls.specs.declared.end.CallStatus.TheVariants.{Unknown}
use Rattle.po_calls.specs.declared.kept.Kept.{Kept}
use Rattle.po_calls.specs.declared.ticket.Ticket.{Ticket}
use Rattle.po_calls.specs.Calls.{CallTable, waiting_call, with_number, kept, status_of, status_with_end, end_of, numbers_of}
use Rattle.po_engine.specs.declared.ended.Ended.{Ended}
use Rattle.po_queues.specs.Arrived.{Arrived, EntryQueuesView, arrived_keys}
use Rattle.po_engine.specs.Finding.{IsFound}
use Rattle.po_engine.specs.Ending.{has_ended}
use Rattle.po_engine.specs.WaitingCalls.{has_number}
use Rattle.po_engine.specs.Tickets.{is_number, status_by, status_among, end_at}
use Rattle.po_engine.specs.Calls.{call_at, waiting_in, of_key, IsQueued, IsKeptWell, IsInService}
use Rattle.po_engine.proofs.ServiceSteps.{none_serving}
use Rattle.po_engine.proofs.KeptSteps.{number_kept}
use Rattle.po_engine.proofs.CallReads.{number_call, waiting_kept, queued_kept}

module _ {V : Type 0} where
  place_found : (calls : Slab (Kept V)) (index : ℕ → Option ℕ) (queues : EntryQueuesView) (ended : List (Ended V)) (k : ℕ) (c : Kept V) (o : Option (Ended V))
      → IsQueued (call_at calls) index queues None → IsKeptWell calls index ended → get calls k ≡ Some c
      → find (has_ended c.call.number) ended ≡ o
      → status_with_end c.end ≡ status_by o (find (has_number c.call.number) (waiting_in (call_at calls) queues.items))
  place_found calls index queues ended k c (Some x) q w here e =
      let end : c.end ≡ Some x.end = w.ends k c here ∙ ap (option_map (λ y. y.end)) e in
      rw end refl
  place_found calls index queues ended k c None q w here e =
      let end : c.end ≡ None = w.ends k c here ∙ ap (option_map (λ y. y.end)) e in
      let waits : call_at calls k ≡ Some c.call = ap waiting_call here ∙ rw end refl in
      let has : occurs k (arrived_keys queues.items) ≡ true = elim (cases_Bool (occurs k (arrived_keys queues.items))) [
        | inl there ↦ there
        | inr gone ↦ let bad : None ≡ Some k = q.only k c.call waits gone in absurd (cc)
      ] in
      let found = number_call (call_at calls) index c.call.number k c.call queues.items q.queued waits refl (w.indexed k c here) has in
      rw (end, found) refl

  placed : (calls : Slab (Kept V)) (index : ℕ → Option ℕ) (queues : EntryQueuesView) (ended : List (Ended V)) (ticket : Ticket) (o : Option (Kept V))
      → IsQueued (call_at calls) index queues None → IsKeptWell calls index ended → get calls ticket.key ≡ o
      → status_of (with_number ticket.number o) ≡ (if is_number ticket.number (option_map (λ c. c.call.number) o) then status_by (find (has_ended ticket.number) ended) (find (has_number ticket.number) (waiting_in (call_at calls) queues.items)) else Unknown)
  placed calls index queues ended ticket None q w here = refl
  placed calls index queues ended ticket (Some c) q w here = elim (cases_Bool (eqb c.call.number ticket.number)) [
    | inl equal ↦ simp equal (subst (λ n. status_with_end c.end ≡ status_by (find (has_ended n) ended) (find (has_number n) (waiting_in (call_at calls) queues.items))) (eqb-true c.call.number ticket.number equal) (place_found calls index queues ended ticket.key c (find (has_ended c.call.number) ended) q w here refl))
    | inr differ ↦ simp differ refl
  ]

  -- if no call is in service, the status of a ticket's call is the one that the table returns
  pub place_is : (table : CallTable V) (index : ℕ → Option ℕ) (queues : EntryQueuesView) (serving : Option ℕ) (ended : List (Ended V)) (ticket : Ticket)
      → IsQueued (call_at table.calls) index queues serving → of_key (call_at table.calls) serving ≡ None
      → IsKeptWell table.calls index ended
      → status_of (kept table ticket) ≡ status_among (waiting_in (call_at table.calls) queues.items) ended (numbers_of table) ticket
  place_is table index queues serving ended ticket q free w =
      let none = none_serving (call_at table.calls) index queues serving q free in
      rw (number_kept table ticket.key) (placed table.calls index queues ended ticket (get table.calls ticket.key) (subst (IsQueued (call_at table.calls) index queues) none q) w refl)

  end_with : (o : Option (End V)) → o ≡ end_at (status_with_end o)
  end_with None = refl
  end_with (Some end) = refl

  -- the end that the table returns is the one of that status
  pub end_is : (o : Option (Kept V)) → end_of o ≡ end_at (status_of o)
  end_is None = refl
  end_is (Some c) = end_with c.end

  ended_call : (o : Option (Kept V)) (n : ℕ) (end : End V) → end_of (with_number n o) ≡ Some end → waiting_call o ≡ None
  ended_call None n end h = refl
  ended_call (Some c) n end h = elim (cases_Bool (eqb c.call.number n)) [
    | inl equal ↦ let e : c.end ≡ Some end = simp equal at h in rw e refl
    | inr differ ↦ let bad : None ≡ Some end = simp differ at h in absurd (cc)
  ]

  -- an ended call that leaves the table wasn't waiting
  same_calls : (old : CallTable V) (new : Slab (Kept V)) (ticket : Ticket) (end : End V) → end_of (kept old ticket) ≡ Some end
      → Updates old.calls new ticket.key None → (k : ℕ) → call_at new k ≡ call_at old.calls k
  same_calls old new ticket end h u k = elim (cases_eq k ticket.key) [
    | inl equal ↦ rw equal (ap waiting_call u.changed ∙ sym (ended_call (get old.calls ticket.key) ticket.number end h))
    | inr other ↦ ap waiting_call (u.others k other)
  ]

  -- what is kept well stays so if one call less is kept
  kept_less : (old new : Slab (Kept V)) (index : ℕ → Option ℕ) (ended : List (Ended V)) (key : ℕ) → Updates old new key None
      → IsKeptWell old index ended → IsKeptWell new index ended
  kept_less old new index ended key u w = record {
    indexed = λ k c here. w.indexed k c (was k c here);
    ends = λ k c here. w.ends k c (was k c here);
  }
    where
      was : (k : ℕ) (c : Kept V) → get new k ≡ Some c → get old k ≡ Some c
      was k c here = elim (cases_eq k key) [
        | inl equal ↦ let bad : None ≡ Some c = sym u.changed ∙ ap (get new) (sym equal) ∙ here in absurd (cc)
        | inr other ↦ sym (u.others k other) ∙ here
      ]

  in_service_same : (call after : ℕ → Option (Call V)) (index : ℕ → Option ℕ) (reserved : ℕ) (items : List Arrived) (serving : Option ℕ)
      → ((k : ℕ) → after k ≡ call k) → IsInService call index reserved items serving → IsInService after index reserved items serving
  in_service_same call after index reserved items None same h = tt
  in_service_same call after index reserved items (Some k) same h = (h.0, h.1, subst (IsFound (λ x. index x.number ≡ Some k)) (sym (same k)) h.2)

  serving_same : (call after : ℕ → Option (Call V)) (serving : Option ℕ) → ((k : ℕ) → after k ≡ call k)
      → of_key after serving ≡ of_key call serving
  serving_same call after None same = refl
  serving_same call after (Some k) same = same k

  -- What stays after an ended call leaves the table.
  pub record Leaves (old new : Slab (Kept V)) (index : ℕ → Option ℕ) (queues : EntryQueuesView) (serving : Option ℕ) (ended : List (Ended V)) : Type 0 where
    pub queued : IsQueued (call_at new) index queues serving
    pub kept : IsKeptWell new index ended
    pub waiting : waiting_in (call_at new) queues.items ≡ waiting_in (call_at old) queues.items
    pub in_service : of_key (call_at new) serving ≡ of_key (call_at old) serving

  pub leaves : (table : CallTable V) (new : Slab (Kept V)) (index : ℕ → Option ℕ) (queues : EntryQueuesView) (serving : Option ℕ) (ended : List (Ended V)) (ticket : Ticket) (end : End V)
      → end_of (kept table ticket) ≡ Some end → Updates table.calls new ticket.key None
      → IsQueued (call_at table.calls) index queues serving → IsKeptWell table.calls index ended
      → Leaves table.calls new index queues serving ended
  leaves table new index queues serving ended ticket end h u q w =
      let call = call_at table.calls in
      let after = call_at new in
      let same = same_calls table new ticket end h u in
      record {
        queued = record {
          queued = queued_kept call after same index queues.items q.queued;
          in_service = in_service_same call after index queues.reserved queues.items serving same q.in_service;
          only = λ k x here free. q.only k x (sym (same k) ∙ here) free;
        };
        kept = kept_less table.calls new index ended ticket.key u w;
        waiting = waiting_kept call after same queues.items;
        in_service = serving_same call after serving same;
      }
