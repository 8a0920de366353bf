-- Objects of a scene that are changed one after the other.
use Rattle.std.proofs.Common.{◌≡◌, ℕ, ◌+◌, ◌<◌, List, [], ◌∷◌, ◌++◌, subst, map, take, drop, length, set, get_or, append-nil, ◌⊎◌, ◌≤◌, nat_lt, sym, ap, ◌∙◌, inl, inr, arith, false, true}
use Rattle.std.specs.Prelude.{flat_map, option_map, slice_get, slice_set, vec_len, Some, None, Result, Ok, Err, OnOk}
use Rattle.std.specs.Prelude.{Vec}
use Rattle.std.proofs.lemmas.List.{map-set, map-append, take_more, drop_more, get_or_at, length-append, length-map, length-take, take-append-drop, flat_map_more}
use Rattle.std.proofs.lemmas.Bool.{lt-ltb}
use Rattle.std.proofs.lemmas.List.Edits.{map_over_more}
use Rattle.std.proofs.lemmas.Option.{slice_get-map, slice_get_cases, slice_get_read}
use Rattle.po_ada_unit.specs.declared.values.Values.{Values}
use Rattle.po_ada_language.specs.declared.operation.Operation.{Operation}
use Rattle.po_scene.specs.declared.scene.SceneObject.{SceneObject}
use Rattle.po_explore.specs.declared.object.Object.{Object}
use Rattle.po_explore.specs.declared.news.News.{News}
use Rattle.po_explore.specs.News.{told_at, operated_news}
use Rattle.po_explore.specs.Scenes.{ObjectView, changed, changed_by, IsOpening, AreOpening}

abbrev view : Object → ObjectView
view o = o.core.object

-- this object is there, in the core's words
pub object_at : {Z : Type 0} (objects : Vec Object Z) (i : ℕ) (o : Object) → i < vec_len objects → o ≡ get_or objects.items i o
    → slice_get (map (λ o. o.core.object) objects.items) i ≡ Some o.core.object
object_at objects i o low there =
    slice_get-map view objects.items i ∙ ap (option_map view) (slice_get_read objects.items (vec_len objects) i o objects.ok.0 low there)

-- an object is put in the place of another
pub put : {Z : Type 0} (f : ObjectView → ObjectView) (objects : Vec Object Z) (i : ℕ) (old new : Object) → i < vec_len objects → old ≡ get_or objects.items i old
    → new.core.object ≡ f old.core.object → map (λ o. o.core.object) (slice_set objects.items i new) ≡ changed f i (map (λ o. o.core.object) objects.items)
put f objects i old new low there is =
    let at = object_at objects i old low there in
    map-set view objects.items i new ∙ ap (λ v. set (map view objects.items) i v) is ∙ sym (ap (λ o. changed_by o f i (map view objects.items)) at)

-- what follows if it follows from what a success says
pub on_ok : {A B : Type 0} {P Q : Type 0} (r : Result A B) → OnOk r P → (P → Q) → OnOk r Q
on_ok (Ok v) p f = f p
on_ok (Err e) p f = p

same_length : (f : ObjectView → ObjectView) (xs : List ObjectView) (i : ℕ) → length (map f (take i xs) ++ drop i xs) ≡ length xs
same_length f xs i =
    length-append (map f (take i xs)) (drop i xs) ∙ ap (λ n. n + length (drop i xs)) (length-map (take i xs) f)
    ∙ sym (length-append (take i xs) (drop i xs)) ∙ ap length (take-append-drop i xs)

-- one object more is changed
pub changed_more : (f : ObjectView → ObjectView) (xs ys : List ObjectView) (i : ℕ) → i < length xs → ys ≡ map f (take i xs) ++ drop i xs
    → changed f i ys ≡ map f (take (i + 1) xs) ++ drop (i + 1) xs
changed_more f xs ys i low is = elim (slice_get_cases ys i).1 [
  | inl there ↦ ap (λ o. changed_by o f i ys) there.2 ∙ map_over_more f xs ys i there.0 low is (sym there.3)
  | inr past ↦ let n = ap length is ∙ same_length f xs i in absurd (omega (arith, n, past.0, low))
]

-- what is told of one object more is added
pub told_more : (f : ObjectView → ObjectView) (g : ObjectView → List News) (xs ys : List ObjectView) (i : ℕ) (before now after : List News) → i < length xs
    → ys ≡ map f (take i xs) ++ drop i xs → now ≡ before ++ flat_map g (take i xs) → after ≡ now ++ told_at g (slice_get ys i)
    → after ≡ before ++ flat_map g (take (i + 1) xs)
told_more f g xs ys i before now after low is all more = elim (slice_get_cases ys i).1 [
  | inl there ↦
      let front = map f (take i xs) in
      let long : length front ≡ i = length-map (take i xs) f ∙ omega (arith, length-take i xs) in
      let parts : ys ≡ front ++ get_or xs i there.0 ∷ drop (i + 1) xs = is ∙ ap (λ l. front ++ l) (drop_more xs i there.0 low) in
      let read : there.0 ≡ get_or xs i there.0 = sym there.3 ∙ ap (λ l. get_or l i there.0) parts ∙ get_or_at front _ _ there.0 i long in
      let taken : take (i + 1) xs ≡ take i xs ++ there.0 ∷ [] = take_more xs i there.0 low ∙ ap (λ y. take i xs ++ y ∷ []) (sym read) in
      more ∙ ap (λ o. now ++ told_at g o) there.2 ∙ ap (λ l. l ++ g there.0) all ∙ flat_map_more g before (take i xs) there.0
      ∙ ap (λ l. before ++ flat_map g l) (sym taken)
  | inr past ↦ let n = ap length is ∙ same_length f xs i in absurd (omega (arith, n, past.0, low))
]

-- nothing is told of an object that isn't there
pub none_told : {Z : Type 0} (g : ObjectView → List News) (objects : Vec Object Z) (i : ℕ) (told : List News) → (i < vec_len objects → false ≡ true)
    → told ≡ told ++ told_at g (slice_get (map (λ o. o.core.object) objects.items) i)
none_told g objects i told past_end = elim (slice_get_cases (map view objects.items) i).1 [
  | inl there ↦
      let n = length-map objects.items view in
      let l = objects.ok.0 in
      let bad : false ≡ true = past_end (omega (arith, there.1, n, l)) in cc
  | inr past ↦ sym (append-nil told) ∙ ap (λ o. told ++ told_at g o) (sym past.1)
]

none_there : {X : Type 0} (xs : List X) (i : ℕ)
    → ((x : X) × (i < length xs) × (slice_get xs i ≡ Some x) × (get_or xs i x ≡ x)) ⊎ ((length xs ≤ i) × (slice_get xs i ≡ None))
    → false ≡ nat_lt i (length xs) → slice_get xs i ≡ None
none_there xs i (inl there) low = let bad : false ≡ true = low ∙ lt-ltb i (length xs) there.1 in cc
none_there xs i (inr past) low = past.1

-- there is nothing at a position that isn't below the length
pub none_at : {X : Type 0} (xs ys : List X) (i j : ℕ) → ys ≡ xs → i ≡ j → false ≡ nat_lt i (length ys) → slice_get xs j ≡ None
none_at xs ys i j same at low =
    subst (λ l. slice_get l j ≡ None) same (subst (λ k. slice_get ys k ≡ None) at (none_there ys i (slice_get_cases ys i).1 low))

-- nothing is told of an operation on an object that the scene doesn't have
pub none_operated : (objects : List SceneObject) (views : List ObjectView) (object caller : ℕ) (operation : Operation Values) (told : List News)
    → slice_get objects object ≡ None → told ≡ told ++ operated_news (slice_get objects object) views object caller operation
none_operated objects views object caller operation told none =
    sym (append-nil told) ∙ ap (λ o. told ++ operated_news o views object caller operation) (sym none)

-- a position below the length is one of the objects in the core's words
pub within : {Z : Type 0} (objects : Vec Object Z) (i n : ℕ) → n ≡ vec_len objects → i < n → i < length (map (λ o. o.core.object) objects.items)
within objects i n is low = let n' = length-map objects.items view in let l = objects.ok.0 in omega (arith, is, low, n', l)

opened_more : (xs : List SceneObject) (vs : List ObjectView) (x : SceneObject) (v : ObjectView) → AreOpening xs vs → IsOpening x v
    → AreOpening (xs ++ x ∷ []) (vs ++ v ∷ [])
opened_more [] [] x v all is = (is, tt)
opened_more [] (w ∷ ws) x v all is = absurd all
opened_more (y ∷ ys) [] x v all is = absurd all
opened_more (y ∷ ys) (w ∷ ws) x v all is = (all.0, opened_more ys ws x v all.1 is)

-- one object more was made
pub made_more : (named : List SceneObject) (i : ℕ) (x : SceneObject) (objects more : List Object) (o : Object) → i < length named → x ≡ get_or named i x
    → more ≡ objects ++ o ∷ [] → AreOpening (take i named) (map (λ o. o.core.object) objects) → IsOpening x o.core.object
    → AreOpening (take (i + 1) named) (map (λ o. o.core.object) more)
made_more named i x objects more o low there pushed all is =
    let parts = take_more named i x low ∙ ap (λ y. take i named ++ y ∷ []) (sym there) in
    let views = ap (λ l. map view l) pushed ∙ map-append view objects (o ∷ []) in
    subst (λ l. AreOpening l (map view more)) (sym parts)
    (subst (λ l. AreOpening (take i named ++ x ∷ []) l) (sym views) (opened_more (take i named) (map view objects) x o.core.object all is))
