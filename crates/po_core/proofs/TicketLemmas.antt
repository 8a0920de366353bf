-- Tickets are of issued calls, at first and after each command.
use Rattle.std.proofs.Common.{◌≡◌, ℕ, ◌<◌, ◌≤◌, List, [], Option, Some, None, refl, sym, ap, subst, arith, inl, inr, ◌∙◌, OnSome, IfNone}
use Rattle.std.proofs.lemmas.Bool.{cases_eq}
use Rattle.po_unit.specs.Meaning.{Meaning, IsLawful}
use Rattle.po_calls.specs.declared.call.Deadline.{Deadline}
use Rattle.po_history.specs.declared.event.Event.{Event}
use Rattle.po_history.specs.declared.event.Event.TheVariants.{Issue}
use Rattle.po_core.specs.Setup.{Setup}
use Rattle.po_core.specs.View.{View, opening_view}
use Rattle.po_core.specs.Progress.{Begins, Settles, IsSameCommand}
use Rattle.po_core.specs.Tickets.{CoreView, AreIssued}
use Rattle.po_engine.specs.Tickets.{number_at, SetsTicket}
use Rattle.po_core.specs.ProtectedAction.{settled}
use Rattle.po_core.proofs.Wells.{next_le, next_le_all, next-issue}

module _ {S V : Type 0} (m : Meaning S V) (law : IsLawful m) where
  -- the numbers of the tickets are from the first one on, and below the next
  issued_later : (old new : View S V) (tickets : List (Option ℕ)) → new.setup ≡ old.setup → old.state.next ≤ new.state.next → AreIssued (record { object = old; tickets = tickets; capacity = None }) → AreIssued (record { object = new; tickets = tickets; capacity = None })
  issued_later old new tickets same later h = λ key n is. let k = h key n is in (subst (λ made. made.first_number ≤ n) (sym same) k.0, omega (arith, k.1, later))

  next_begun : (s t : View S V) (own : Event V) → Begins m s t own → s.state.next ≤ t.state.next
  next_begun s t own b = subst (λ p. s.state.next ≤ p.next) (sym b.happens.state) (next_le m law s.setup.max_queue 0 s.state own)

  next_settled : (t u : View S V) → Settles m t u → t.state.next ≤ u.state.next
  next_settled t u h = subst (λ p. t.state.next ≤ p.next) (sym h.state) (next_le_all m law t.setup.max_queue 0 t.state h.inner)

  issued_same : (seen : CoreView S V) (tickets : List (Option ℕ)) → seen.tickets ≡ tickets → AreIssued (record { object = seen.object; tickets = tickets; capacity = None }) → AreIssued seen
  issued_same seen tickets same h = subst (λ list. AreIssued (record { object = seen.object; tickets = list; capacity = None })) (sym same) h

  pub issued_begun : (s t : CoreView S V) (own : Event V) → Begins m s.object t.object own → t.tickets ≡ s.tickets → AreIssued s → AreIssued t
  issued_begun s t own b same h = issued_same t s.tickets same (issued_later s.object t.object s.tickets b.setup (next_begun s.object t.object own b) h)

  pub issued_settled : (t u : CoreView S V) → Settles m t.object u.object → IsSameCommand t.object u.object → u ≡ record t { object = settled m t.object } → AreIssued t → AreIssued u
  issued_settled t u settles same exact h = issued_same u t.tickets (ap (λ seen. seen.tickets) exact) (issued_later t.object u.object t.tickets same.setup (next_settled t.object u.object settles) h)

  pub issued_action : (s t u : CoreView S V) (own : Event V) → Begins m s.object t.object own → t.tickets ≡ s.tickets → Settles m t.object u.object → IsSameCommand t.object u.object → u ≡ record t { object = settled m t.object } → AreIssued s → AreIssued u
  issued_action s t u own b kept settles same exact h = issued_settled t u settles same exact (issued_begun s t own b kept h)

  next_le_of : (s t u : View S V) (own : Event V) → Begins m s t own → Settles m t u → s.state.next ≤ u.state.next
  next_le_of s t u own b h = omega (arith, next_begun s t own b, next_settled t u h)

  -- a new call has a number below the next one
  pub issued_new : (s t u : View S V) (n owner e : ℕ) (v : V) (d : Deadline) → Begins m s t (Issue n owner e v d) → Settles m t u → s.state.next < u.state.next
  issued_new s t u n owner e v d b h = omega (arith, next_settled t u h, ap (λ p. p.next) b.happens.state, next-issue m law s.setup.max_queue 0 s.state n owner e v d)

-- a newly made object has no ticket
pub issued_opening : {S : Type 0} (V : Type 0) (setup : Setup S) (capacity : Option ℕ) → AreIssued {V = V} (record { object = opening_view setup; tickets = []; capacity = capacity })
issued_opening V setup capacity = λ key n is. absurd (none key n is)
  where
    none : (key n : ℕ) → number_at [] key ≡ Some n → ⊥
    none key n e = cc

-- after one more ticket
pub issued_with : {S V : Type 0} (u : View S V) (old new : List (Option ℕ)) (key n : ℕ) → u.setup.first_number ≤ n → n < u.state.next → SetsTicket old new key (Some n) → AreIssued (record { object = u; tickets = old; capacity = None }) → AreIssued (record { object = u; tickets = new; capacity = None })
issued_with u old new key n low high set h = λ k j is. elim (cases_eq k key) [
  | inl same ↦ let number : n ≡ j = some_same n j (sym set.changed ∙ (ap (number_at new) (sym same) ∙ is)) in (subst (λ i. u.setup.first_number ≤ i) number low, subst (λ i. i < u.state.next) number high)
  | inr other ↦ h k j (sym (set.others k other) ∙ is)
]
  where
    some_same : (a b : ℕ) → Some a ≡ Some b → a ≡ b
    some_same a b e = cc

-- after one ticket less
pub issued_without : {S V : Type 0} (u : View S V) (old new : List (Option ℕ)) (key : ℕ) → SetsTicket old new key None → AreIssued (record { object = u; tickets = old; capacity = None }) → AreIssued (record { object = u; tickets = new; capacity = None })
issued_without u old new key set h = λ k j is. elim (cases_eq k key) [
  | inl same ↦ absurd (none_some j (sym set.changed ∙ (ap (number_at new) (sym same) ∙ is)))
  | inr other ↦ h k j (sym (set.others k other) ∙ is)
]
  where
    none_some : (j : ℕ) → None ≡ Some j → ⊥
    none_some j e = cc

-- after a collection, which takes the ticket of an ended call
pub issued_collected : {S V X : Type 0} (s t : CoreView S V) (result : Option X) (key : ℕ) → t.object ≡ s.object → OnSome result (SetsTicket s.tickets t.tickets key None) → IfNone result (t ≡ s) → AreIssued s → AreIssued t
issued_collected s t None key same taken left h = subst AreIssued (sym left) h
issued_collected s t (Some x) key same taken left h = subst (λ view. AreIssued (record { object = view; tickets = t.tickets; capacity = None })) (sym same) (issued_without s.object s.tickets t.tickets key taken h)

-- after a new call
pub issued_issue : {S V : Type 0} (m : Meaning S V) (law : IsLawful m) (s t u : CoreView S V) (key n owner e : ℕ) (v : V) (d : Deadline) → n ≡ s.object.state.next → s.object.setup.first_number ≤ s.object.state.next → Begins m s.object t.object (Issue s.object.state.next owner e v d) → SetsTicket s.tickets t.tickets key (Some n) → Settles m t.object u.object → IsSameCommand t.object u.object → u ≡ record t { object = settled m t.object } → AreIssued s → AreIssued u
issued_issue m law s t u key n owner e v d is low b set settles same exact h =
    let first = same.setup ∙ b.setup in
    let others = issued_later m law s.object u.object s.tickets first (next_le_of m law s.object t.object u.object (Issue s.object.state.next owner e v d) b settles) h in
    let number : n < u.object.state.next = omega (arith, is, issued_new m law s.object t.object u.object s.object.state.next owner e v d b settles) in
    issued_same m law u t.tickets (ap (λ seen. seen.tickets) exact) (issued_with u.object s.tickets t.tickets key n (rw (first, is) low) number set others)

-- what is seen of two cores is equal if its parts are
pub same_core : {S V : Type 0} (s t : CoreView S V) → s.object ≡ t.object → s.tickets ≡ t.tickets → s.capacity ≡ t.capacity → s ≡ t
same_core {S} {V} s t object tickets capacity = parts s.object t.object s.tickets t.tickets s.capacity t.capacity object tickets capacity
  where
    parts : (o p : View S V) (k l : List (Option ℕ)) (c d : Option ℕ) → o ≡ p → k ≡ l → c ≡ d → ◌≡◌ {A = CoreView S V} (record { object = o; tickets = k; capacity = c }) (record { object = p; tickets = l; capacity = d })
    parts o p k l c d is same fixed = rw (is, same, fixed) refl
