-- What the root of a tournament says about its leaves.
use Rattle.std.proofs.Common.{◌≡◌, ℕ, zero, suc, ◌+◌, ◌-◌, ◌*◌, ◌/◌, ◌<◌, ◌≤◌, List, length, take, replicate}
use Rattle.std.proofs.Common.{◌++◌, Option, Some, None, refl, sym, ap, subst, ◌∙◌, inl, inr, arith}
use Rattle.std.specs.Prelude.{IsSome, IfSome, slice_get}
use Rattle.std.proofs.lemmas.Bool.{cases_eq, cases_lt}
use Rattle.std.proofs.lemmas.List.{get_or-take, get_or_past, length-take, take_all, take-replicate}
use Rattle.std.proofs.lemmas.Option.{get_or_from_slice_get}
use Rattle.std.proofs.Math.Seq.{take-append-add}
use Rattle.po_queues.specs.Least.{number_of, IsAtMost, IsLeastAt, lesser, KeepsMinima}

-- each number is at most itself
pub at_most_same : (a : Option ℕ) → IsAtMost a a
at_most_same None = tt
at_most_same (Some x) = omega arith

-- the lesser is at most the first
pub at_most_left : (a b : Option ℕ) → IsAtMost (lesser a b) a
at_most_left None b = tt
at_most_left (Some x) None = omega arith
at_most_left (Some x) (Some y) = omega arith

-- the lesser is at most the second
pub at_most_right : (a b : Option ℕ) → IsAtMost (lesser a b) b
at_most_right None b = at_most_same b
at_most_right (Some x) None = tt
at_most_right (Some x) (Some y) = omega arith

-- `IsAtMost None b` holds only if `b` is `None`
at_most_none : (b : Option ℕ) → IsAtMost None b → b ≡ None
at_most_none None p = refl
at_most_none (Some y) p = absurd p

-- a number that is at least one above the limit is above the limit
at_most_above : (n limit : ℕ) (b : Option ℕ) → limit < n → IsAtMost (Some n) b → IfSome b (λ m. limit < m)
at_most_above n limit None above p = tt
at_most_above n limit (Some y) above p = omega (arith, above, p)

-- at most is transitive
pub at_most_trans : (a b c : Option ℕ) → IsAtMost a b → IsAtMost b c → IsAtMost a c
at_most_trans a b None p q = tt
at_most_trans a None (Some z) p q = absurd q
at_most_trans None (Some y) (Some z) p q = absurd p
at_most_trans (Some x) (Some y) (Some z) p q = omega (arith, p, q)

module _ {leaves : ℕ} {nodes : List (Option ℕ)} (k : KeepsMinima leaves nodes) where
  -- a node is at most its children
  above_at_most : (j : ℕ) → j + 2 < 2 * leaves → IsAtMost (number_of nodes (leaves + j / 2)) (number_of nodes j)
  above_at_most j below =
      let l = number_of nodes (2 * (j / 2)) in
      let r = number_of nodes (2 * (j / 2) + 1) in
      let is : number_of nodes (leaves + j / 2) ≡ lesser l r = k.minima (j / 2) (omega arith) in
      subst (λ a. IsAtMost a (number_of nodes j)) (sym is) (elim (cases_eq (2 * (j / 2)) j) [
        | inl even ↦ subst (λ i. IsAtMost (lesser l r) (number_of nodes i)) even (at_most_left l r)
        | inr odd ↦
            let e : 2 * (j / 2) + 1 ≡ j = omega (arith, odd) in
            subst (λ i. IsAtMost (lesser l r) (number_of nodes i)) e (at_most_right l r)
      ])

  -- the root is at most each node; n bounds how many nodes come after it
  root_from : (n j : ℕ) → j + 1 < 2 * leaves → 2 * leaves ≤ j + n + 2
      → IsAtMost (number_of nodes (2 * leaves - 2)) (number_of nodes j)
  root_from zero j below few =
      let e : j ≡ 2 * leaves - 2 = omega arith in
      subst (λ i. IsAtMost (number_of nodes (2 * leaves - 2)) (number_of nodes i)) (sym e)
      (at_most_same (number_of nodes (2 * leaves - 2)))
  root_from (suc n) j below few = elim (cases_eq j (2 * leaves - 2)) [
    | inl equal ↦ subst (λ i. IsAtMost (number_of nodes (2 * leaves - 2)) (number_of nodes i)) (sym equal)
        (at_most_same (number_of nodes (2 * leaves - 2)))
    | inr differ ↦
        let under : j + 2 < 2 * leaves = omega (arith, differ) in
        at_most_trans (number_of nodes (2 * leaves - 2)) (number_of nodes (leaves + j / 2)) (number_of nodes j)
        (root_from n (leaves + j / 2) (omega arith) (omega arith)) (above_at_most j under)
  ]

  -- the root is at most each leaf; keys that are no leaf have no number
  pub root_least : (key : ℕ) → IsAtMost (number_of nodes (2 * leaves - 2)) (number_of (take leaves nodes) key)
  root_least key = elim (cases_lt key leaves) [
    | inl below ↦
        subst (IsAtMost (number_of nodes (2 * leaves - 2))) (sym (get_or-take leaves nodes key None below))
        (root_from (2 * leaves) key (omega arith) (omega arith))
    | inr past ↦
        subst (IsAtMost (number_of nodes (2 * leaves - 2))) (sym (none_past key past)) tt
  ]
    where
      none_past : (key : ℕ) → leaves ≤ key → number_of (take leaves nodes) key ≡ None
      none_past key past = get_or_past (take leaves nodes) key None (omega (arith, length-take leaves nodes))

  -- the last node has the root's number
  pub root_is : (xs : List (Option ℕ)) (r : Option ℕ) → xs ≡ nodes → Some r ≡ slice_get xs (length xs - 1)
      → number_of nodes (2 * leaves - 2) ≡ r
  root_is xs r xs_is is =
      let read : number_of xs (length xs - 1) ≡ r = get_or_from_slice_get xs (length xs - 1) r None (sym is) in
      let last : length xs - 1 ≡ 2 * leaves - 2 = omega (arith, ap length xs_is, k.nodes_len) in
      subst (λ i. number_of nodes i ≡ r) last (subst (λ l. number_of l (length xs - 1) ≡ r) xs_is read)

  module _ (row : List (Option ℕ)) (row_is : take leaves nodes ≡ row) where
    -- if the root has no number, no key has one
    pub no_number : number_of nodes (2 * leaves - 2) ≡ None → (key : ℕ) → number_of row key ≡ None
    no_number none key =
        let least = subst (λ l. IsAtMost (number_of nodes (2 * leaves - 2)) (number_of l key)) row_is (root_least key) in
        at_most_none (number_of row key) (subst (λ a. IsAtMost a (number_of row key)) none least)

    -- if a limit is below the root's number, it is below the number of each key
    pub all_above : (n limit : ℕ) → number_of nodes (2 * leaves - 2) ≡ Some n → limit < n → (key : ℕ)
        → IfSome (number_of row key) (λ m. limit < m)
    all_above n limit root above key =
        let least = subst (λ l. IsAtMost (number_of nodes (2 * leaves - 2)) (number_of l key)) row_is (root_least key) in
        at_most_above n limit (number_of row key) above (subst (λ a. IsAtMost a (number_of row key)) root least)

    -- a leaf that has the root's number is one with the least number
    pub leaf_least : (n leaf : ℕ) → number_of nodes (2 * leaves - 2) ≡ Some n → leaf < leaves
        → number_of nodes leaf ≡ number_of nodes (2 * leaves - 2) → IsLeastAt row leaf
    leaf_least n leaf root below is =
        let here : number_of row leaf ≡ number_of nodes (2 * leaves - 2) =
        ap (λ l. number_of l leaf) (sym row_is) ∙ get_or-take leaves nodes leaf None below ∙ is in (
          subst IsSome (sym (here ∙ root)) refl,
          λ key. subst (λ a. IsAtMost a (number_of row key)) (sym here)
              (subst (λ l. IsAtMost (number_of nodes (2 * leaves - 2)) (number_of l key)) row_is (root_least key)),
        )

-- a row with room for more keys, once the nodes above are made
pub grown_row : (row nodes : List (Option ℕ)) (keys total : ℕ) → length row ≤ keys → keys ≤ total
    → nodes ≡ take total row ++ replicate (total - length row) None
    → take keys nodes ≡ row ++ replicate (keys - length row) None
grown_row row nodes keys total longer enough is =
    let rest : List (Option ℕ) = replicate (total - length row) None in
    let all : nodes ≡ row ++ rest = is ∙ ap (λ l. l ++ rest) (take_all total row (omega (arith, longer, enough))) in
    let split : keys ≡ length row + (keys - length row) = omega (arith, longer) in
    ap (take keys) all
    ∙ ap (λ n. take n (row ++ rest)) split
    ∙ take-append-add row rest (keys - length row)
    ∙ ap (λ l. row ++ l) (take-replicate (keys - length row) (total - length row) None (omega (arith, longer, enough)))

-- the same, given what was copied
pub grown_nodes : (row copied nodes : List (Option ℕ)) (keys total n : ℕ) → length row ≤ keys → keys ≤ total
    → copied ≡ row → n ≡ length copied → nodes ≡ take total copied ++ replicate (total - n) None
    → take keys nodes ≡ row ++ replicate (keys - length row) None
grown_nodes row copied nodes keys total n longer enough copied_is n_is is =
    let many : List (Option ℕ) → ℕ → List (Option ℕ) = λ l m. take total l ++ replicate (total - m) None in
    grown_row row nodes keys total longer enough
    (is ∙ ap (λ l. many l n) copied_is ∙ ap (many row) (n_is ∙ ap length copied_is))
