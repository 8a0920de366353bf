-- The turn that comes next is the same by the entries of the queues and by the waiting calls.
use Rattle.std.proofs.Common.{◌≡◌, ℕ, List, [], ◌∷◌, map, length, refl, ap, ap₂, sym, ◌∙◌, Bool, true, false, cond, ◌==◌, ◌||◌, Option}
use Rattle.std.specs.List.{sum_by, count_by, list_any}
use Rattle.std.proofs.lemmas.List.Sums.{length-filter}
use Rattle.po_unit.specs.Meaning.{Meaning}
use Rattle.po_queues.specs.QueuedKeys.{QueuedKey, QueuesView, queue_of, keys_of, keys_on}
use Rattle.po_queues.specs.Busy.{has_keys}
use Rattle.po_queues.specs.declared.selection.Selection.{Selection}
use Rattle.po_queues.specs.declared.order.Order.{Order}
use Rattle.po_queues.specs.Turns.{below, turn, or_selection, first_selection, selection_if, examined}
use Rattle.po_queues.specs.Service.{counts_of as counts_in_queues, turn_at, serviced_next}
use Rattle.po_engine.specs.WaitingCalls.{is_on}
use Rattle.po_engine.specs.ObjectState.{ObjectState, counts_in}
use Rattle.po_engine.specs.Pick.{turn_of, next_turn}
use Rattle.po_engine.proofs.Sums.{sum_by-mapped}

map_same : {X Y : Type 0} (f g : X → Y) → ((x : X) → f x ≡ g x) → (xs : List X) → map f xs ≡ map g xs
map_same f g h [] = refl
map_same f g h (x ∷ xs) = rw (h x, map_same f g h xs) refl

any_mapped : {X Y : Type 0} (f : X → Y) (test : Y → Bool) (xs : List X) → list_any test (map f xs) ≡ list_any (λ x. test (f x)) xs
any_mapped f test [] = refl
any_mapped f test (x ∷ xs) = ap (λ b. test (f x) || b) (any_mapped f test xs)

some_key : (b : Bool) (x : QueuedKey) (e : ℕ) (items : List QueuedKey) → has_keys (keys_on e items) ≡ list_any (λ i. i.entry == e) items → has_keys (keys_of (cond b (x ∷ queue_of e items) (queue_of e items))) ≡ (b || list_any (λ i. i.entry == e) items)
some_key true x e items h = refl
some_key false x e items h = h

any_key : (e : ℕ) (items : List QueuedKey) → has_keys (keys_on e items) ≡ list_any (λ i. i.entry == e) items
any_key e [] = refl
any_key e (x ∷ items) = some_key (x.entry == e) x e items (any_key e items)

first_same : (f g : ℕ → Selection) → ((e : ℕ) → f e ≡ g e) → (es : List ℕ) → first_selection f es ≡ first_selection g es
first_same f g h [] = refl
first_same f g h (e ∷ es) = ap₂ or_selection (h e) (first_same f g h es)

module _ {S V : Type 0} (m : Meaning S V) (s : ObjectState S V) (queues : QueuesView) (numbers : queues.total ≡ m.entries s.unit) (entries : map (λ i. i.entry) queues.items ≡ map (λ x. x.entry) s.waiting) where
  any_same : (e : ℕ) → has_keys (keys_on e queues.items) ≡ list_any (is_on e) s.waiting
  any_same e =
      any_key e queues.items
      ∙ sym (any_mapped (λ i. i.entry) (λ k. k == e) queues.items)
      ∙ ap (list_any (λ k. k == e)) entries
      ∙ any_mapped (λ x. x.entry) (λ k. k == e) s.waiting

  abbrev bit : ℕ → ℕ → ℕ
  bit e k = cond (k == e) 1 0

  count_same : (e : ℕ) → length (queue_of e queues.items) ≡ count_by (is_on e) s.waiting
  count_same e =
      length-filter (λ i. i.entry == e) queues.items
      ∙ sym (sum_by-mapped (bit e) (λ i. i.entry) (λ i. bit e i.entry) (λ i. refl) queues.items)
      ∙ ap (sum_by (bit e)) entries
      ∙ sum_by-mapped (bit e) (λ x. x.entry) (λ x. bit e x.entry) (λ x. refl) s.waiting

  counts_same : counts_in_queues queues ≡ counts_in m s
  counts_same = map_same (λ e. length (queue_of e queues.items)) (λ e. count_by (is_on e) s.waiting) count_same (below queues.total) ∙ ap (λ n. map (λ e. count_by (is_on e) s.waiting) (below n)) numbers

  turn_same : (e : ℕ) → turn_at m s.unit queues e ≡ turn_of m s e
  turn_same e = ap₂ (λ b counts. selection_if b (turn e (m.barrier s.unit e counts))) (any_same e) counts_same

  -- what is serviced next is the next turn
  pub next_same : (order : Order) (last : Option ℕ) → serviced_next m s.unit queues order last ≡ next_turn m order last s
  next_same order last =
      first_same (turn_at m s.unit queues) (turn_of m s) turn_same (examined order last queues.total (map (λ i. i.entry) queues.items))
      ∙ ap₂ (λ n es. first_selection (turn_of m s) (examined order last n es)) numbers entries
