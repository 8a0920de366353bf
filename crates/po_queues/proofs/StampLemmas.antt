-- The turn of the key that was queued first, among the entries below one.
use Rattle.std.proofs.Common.{◌≡◌, ℕ, ◌+◌, ◌<◌, ◌≤◌, List, [], ◌∷◌, map, length, refl, ap, ◌∙◌, sym, arith, inl, inr}
use Rattle.std.proofs.Common.{Bool, true, false, cond, ltb, eqb, Option, Some, None}
use Rattle.std.specs.List.{All}
use Rattle.std.proofs.lemmas.Bool.{cases_lt, cases_eq, cases_Bool, lt-ltb, le-ltb, eq-eqb, ne_eqb, eqb-true}
use Rattle.std.proofs.lemmas.List.Elements.{All-nil, All-cons, All-head, All-tail}
use Rattle.po_queues.specs.QueuedKeys.{QueuedKey, queue_of, first_of, RiseBy}
use Rattle.po_queues.specs.declared.selection.Selection.{Selection}
use Rattle.po_queues.specs.declared.selection.Selection.TheVariants.{Quiet, Ready, Broken}
use Rattle.po_queues.specs.declared.stamped.Stamped.{Stamped}
use Rattle.po_queues.proofs.RangeLemmas.{is_quiet}
use Rattle.po_queues.specs.Turns.{tells_nothing, or_selection, first_selection}
use Rattle.po_queues.specs.Stamps.{with_stamp, older, selection_of, or_stamped, stamped_if, first_stamped}

-- what holds of each entry with a queued key holds of each item's entry
pub each_item : (T : ℕ → Type 0) (items : List QueuedKey) → ((i : ℕ) → 0 < length (queue_of i items) → T i)
    → All (λ x. T x.entry) items
each_item T [] each = All-nil (λ (x : QueuedKey). T x.entry)
each_item T (x ∷ xs) each = All-cons (λ (y : QueuedKey). T y.entry) x xs
    (each x.entry (simp (eq-eqb x.entry x.entry refl) (omega arith)))
    (each_item T xs (λ i busy. each i (elim (cases_Bool (eqb x.entry i))
    [ inl on_entry ↦ simp on_entry (omega arith) | inr elsewhere ↦ simp elsewhere busy ])))

-- what holds of each item's entry holds of each entry with a queued key
pub busy_each : (T : ℕ → Type 0) (items : List QueuedKey) → All (λ x. T x.entry) items
    → (i : ℕ) → 0 < length (queue_of i items) → T i
busy_each T [] all i busy = absurd (omega arith)
busy_each T (x ∷ xs) all i busy = elim (cases_Bool (eqb x.entry i)) [
  | inl on_entry ↦ rw (eqb-true x.entry i on_entry) at (All-head (λ (y : QueuedKey). T y.entry) x xs all)
  | inr elsewhere ↦ busy_each T xs (All-tail (λ (y : QueuedKey). T y.entry) x xs all) i (simp elsewhere at busy)
]

-- if there is a turn, its stamp is later
abbrev IsLater : ℕ → Option Stamped → Type 0
IsLater s None = Unit {0}
IsLater s (Some a) = s < a.stamp

-- of two later turns, the first is later
later_or : (s t : ℕ) (b : Bool) (l : Selection) (rest : Option Stamped) → s < t → IsLater s rest
    → IsLater s (or_stamped (stamped_if b (with_stamp t l)) rest)
later_or s t false l rest lt late = late
later_or s t true Quiet rest lt late = late
later_or s t true (Ready e) rest lt late = lt
later_or s t true (Broken e) rest lt late = lt

-- of a turn and a later one, the turn is the older
older_front : (s : ℕ) (a : Stamped) (q : Option Stamped) → a.stamp ≡ s → IsLater s q → Some a ≡ older (Some a) q
older_front s a None same late = refl
older_front s a (Some b) same late =
    ap (λ t. cond t (Some b) (Some a)) (sym (le-ltb b.stamp a.stamp (omega (arith, same, late))))

-- the same with the later one in front
older_back : (s : ℕ) (a : Stamped) (p : Option Stamped) → a.stamp ≡ s → IsLater s p → Some a ≡ older p (Some a)
older_back s a None same late = refl
older_back s a (Some b) same late =
    ap (λ t. cond t (Some a) (Some b)) (sym (lt-ltb a.stamp b.stamp (omega (arith, same, late))))

-- one more, in front of the first
front_more : (s : ℕ) (l : Selection) (p q r : Option Stamped) → r ≡ older p q → IsLater s q
    → or_stamped (with_stamp s l) r ≡ older (or_stamped (with_stamp s l) p) q
front_more s Quiet p q r same late = same
front_more s (Ready e) p q r same late = older_front s (record { stamp = s; selection = Ready e }) q refl late
front_more s (Broken e) p q r same late = older_front s (record { stamp = s; selection = Broken e }) q refl late

-- one more, in front of the second
back_more : (s : ℕ) (l : Selection) (p q r : Option Stamped) → r ≡ older p q → IsLater s p
    → or_stamped (with_stamp s l) r ≡ older p (or_stamped (with_stamp s l) q)
back_more s Quiet p q r same late = same
back_more s (Ready e) p q r same late = older_back s (record { stamp = s; selection = Ready e }) p refl late
back_more s (Broken e) p q r same late = older_back s (record { stamp = s; selection = Broken e }) p refl late

-- a turn that isn't quiet, with its stamp
stamp_found : (s : ℕ) (l : Selection) → tells_nothing l ≡ false → Some (record { stamp = s; selection = l }) ≡ with_stamp s l
stamp_found s Quiet found = absurd (cc)
stamp_found s (Ready e) found = refl
stamp_found s (Broken e) found = refl

-- the turn, if there is one, with its stamp or without it
selection_more : (s : ℕ) (l rest : Selection) (r : Option Stamped) → selection_of r ≡ rest
    → selection_of (or_stamped (with_stamp s l) r) ≡ or_selection l rest
selection_more s Quiet rest r same = same
selection_more s (Ready e) rest r same = refl
selection_more s (Broken e) rest r same = refl

module _ (f : ℕ → Selection) where
  -- if all stamps are later, the first turn is later
  first_later : (s : ℕ) (p : ℕ → Bool) (items : List QueuedKey) → All (λ y. s < y.stamp) items
      → IsLater s (first_stamped p f items)
  first_later s p [] all = tt
  first_later s p (x ∷ xs) all = later_or s x.stamp (p x.entry) (f x.entry) (first_stamped p f xs)
      (All-head (λ (y : QueuedKey). s < y.stamp) x xs all)
      (first_later s p xs (All-tail (λ (y : QueuedKey). s < y.stamp) x xs all))

  -- the first turn below one entry more is the older of two, if no entry between them is busy
  older_more : (next e : ℕ) (items : List QueuedKey) → next ≤ e → RiseBy (λ x. x.stamp) items
      → All (λ x. next ≤ x.entry → e ≤ x.entry) items
      → first_stamped (λ i. ltb i (e + 1)) f items
      ≡ older (first_stamped (λ i. ltb i next) f items) (first_stamped (λ i. eqb i e) f items)
  older_more next e [] le rise all = refl
  older_more next e (x ∷ xs) le rise all =
      let rest = older_more next e xs le rise.1
      (All-tail (λ (y : QueuedKey). next ≤ y.entry → e ≤ y.entry) x xs all) in
      let here = All-head (λ (y : QueuedKey). next ≤ y.entry → e ≤ y.entry) x xs all in
      elim (cases_lt x.entry next) [
        | inl before ↦ simp (
          lt-ltb x.entry next before,
          lt-ltb x.entry (e + 1) (omega arith),
          ne_eqb x.entry e (λ q. omega arith),
        ) (front_more x.stamp (f x.entry) _ _ _ rest (first_later x.stamp (λ i. eqb i e) xs rise.0))
        | inr after ↦
            let past = here after in
            elim (cases_eq x.entry e) [
              | inl same ↦ simp (
                le-ltb x.entry next after,
                lt-ltb x.entry (e + 1) (omega arith),
                eq-eqb x.entry e same,
              ) (back_more x.stamp (f x.entry) _ _ _ rest (first_later x.stamp (λ i. ltb i next) xs rise.0))
              | inr other ↦ simp (
                le-ltb x.entry next after,
                le-ltb x.entry (e + 1) (omega arith),
                ne_eqb x.entry e other,
              ) rest
            ]
      ]

  -- so is the older of the turn found so far and that of one entry
  pub older_step : (next e : ℕ) (items : List QueuedKey) → next ≤ e → RiseBy (λ x. x.stamp) items
      → All (λ x. next ≤ x.entry → e ≤ x.entry) items → (found other both : Option Stamped) → both ≡ older found other
      → found ≡ first_stamped (λ i. ltb i next) f items → other ≡ first_stamped (λ i. eqb i e) f items
      → both ≡ first_stamped (λ i. ltb i (e + 1)) f items
  older_step next e items le rise all found other both is first here =
      let more = older_more next e items le rise all in cc

  -- below entry 0 there is no turn
  pub none_below : (items : List QueuedKey) → first_stamped (λ i. ltb i 0) f items ≡ None
  none_below [] = refl
  none_below (x ∷ xs) = simp (le-ltb x.entry 0 (omega arith)) (none_below xs)

  -- the first turn, if all entries are below one
  all_below : (next : ℕ) (items : List QueuedKey) → All (λ x. x.entry < next) items
      → selection_of (first_stamped (λ i. ltb i next) f items) ≡ first_selection f (map (λ x. x.entry) items)
  all_below next [] all = refl
  all_below next (x ∷ xs) all =
      let here = All-head (λ (y : QueuedKey). y.entry < next) x xs all in
      simp (lt-ltb x.entry next here) (selection_more x.stamp (f x.entry) _ _
      (all_below next xs (All-tail (λ (y : QueuedKey). y.entry < next) x xs all)))

  -- an entry without a turn has none
  none_on : (e : ℕ) (items : List QueuedKey) → f e ≡ Quiet → first_stamped (λ i. eqb i e) f items ≡ None
  none_on e [] quiet = refl
  none_on e (x ∷ xs) quiet = elim (cases_eq x.entry e) [
    | inl same ↦ simp (eq-eqb x.entry e same) (rw (same, quiet) (none_on e xs quiet))
    | inr other ↦ simp (ne_eqb x.entry e other) (none_on e xs quiet)
  ]

  -- a turn with the stamp of the first key, if nothing else has a turn
  stamped_or : (s e : ℕ) (xs : List QueuedKey) (l : Selection) → f e ≡ l
      → or_stamped (with_stamp s l) (first_stamped (λ i. eqb i e) f xs) ≡ with_stamp s l
  stamped_or s e xs Quiet is = none_on e xs is
  stamped_or s e xs (Ready i) is = refl
  stamped_or s e xs (Broken i) is = refl

  -- the turn of an entry has the stamp of its first key
  stamped_on : (e k s : ℕ) (items : List QueuedKey) → first_of (queue_of e items) ≡ Some (k, s)
      → first_stamped (λ i. eqb i e) f items ≡ with_stamp s (f e)
  stamped_on e k s [] first = absurd (cc)
  stamped_on e k s (x ∷ xs) first = elim (cases_eq x.entry e) [
    | inl same ↦
        let on_entry = eq-eqb x.entry e same in
        let is : ◌≡◌ {A = Option (ℕ × ℕ)} (Some (x.key, x.stamp)) (Some (k, s)) = simp on_entry at first in
        let pair : ◌≡◌ {A = ℕ × ℕ} (x.key, x.stamp) (k, s) = cc in
        let stamp : x.stamp ≡ s = ap (λ (p : ℕ × ℕ). p.1) pair in
        simp on_entry (rw (same, stamp) (stamped_or s e xs (f e) refl))
    | inr other ↦ simp (ne_eqb x.entry e other) (stamped_on e k s xs (simp (ne_eqb x.entry e other) at first))
  ]

  -- if the turn of an entry is quiet, there is none with a stamp
  pub stamped_none : (e : ℕ) (items : List QueuedKey) (selection : Selection) → selection ≡ f e → tells_nothing selection ≡ true
      → None ≡ first_stamped (λ i. eqb i e) f items
  stamped_none e items selection is tells = sym (none_on e items (sym is ∙ is_quiet selection tells))

  -- if it isn't, it has the stamp of the entry's first key
  pub stamped_some : (e k s : ℕ) (items : List QueuedKey) → first_of (queue_of e items) ≡ Some (k, s)
      → (selection : Selection) → selection ≡ f e → tells_nothing selection ≡ false
      → Some (record { stamp = s; selection = selection }) ≡ first_stamped (λ i. eqb i e) f items
  stamped_some e k s items first selection is tells =
      stamp_found s selection tells ∙ ap (with_stamp s) is ∙ sym (stamped_on e k s items first)

  -- what is found at the end
  pub all_told : (next : ℕ) (items : List QueuedKey) → All (λ x. x.entry < next) items → (found : Option Stamped)
      → found ≡ first_stamped (λ i. ltb i next) f items → (selection : Selection) → selection ≡ selection_of found
      → selection ≡ first_selection f (map (λ x. x.entry) items)
  all_told next items all found is selection told = told ∙ ap selection_of is ∙ all_below next items all
