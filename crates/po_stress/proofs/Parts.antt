-- What a writer took of a line, from what it took of the line's parts.
use Rattle.std.proofs.Common.{◌≡◌, ℕ, Option, List, ◌++◌, take, drop, sym, ap, ◌∙◌, append_assoc, take-append-drop, Result, Ok, Err, OnErr}
use Rattle.std.specs.Io.KnownBytes.{Appends}
use Rattle.std.proofs.KnownBytes.{Appends-trans}
use Rattle.po_stress.specs.Reports.{TakesPart}

-- what holds anyway holds at an error
pub on_err : {A E : Type 0} (r : Result A E) (X : Type 0) → X → OnErr r X
on_err (Ok a) X x = tt
on_err (Err e) X x = x

-- `count` bytes from the front of a line are a part of it
pub part_of : {A E : Type 0} (r : Result A E) (old new : Option (List ℕ)) (line : List ℕ) (B : Type 0) → OnErr r ((count : ℕ) × Appends old new (take count line) × B) → OnErr r (TakesPart old new line × B)
part_of (Ok a) old new line B h = tt
part_of (Err x) old new line B h =
    (record { front = take h.0 line; back = drop h.0 line; whole = sym (take-append-drop h.0 line); taken = h.1 }, h.2)

-- a part of the first piece is a part of the line
pub part_of_first : {A E : Type 0} (r : Result A E) (old new : Option (List ℕ)) (first rest line : List ℕ) (B : Type 0) → line ≡ first ++ rest → TakesPart old new first × B → OnErr r (TakesPart old new line × B)
part_of_first (Ok a) old new first rest line B e h = tt
part_of_first (Err x) old new first rest line B e h =
    let t = h.0 in (
      record {
        front = t.front;
        back = t.back ++ rest;
        whole = e ∙ ap (λ l. l ++ rest) t.whole ∙ append_assoc t.front t.back rest;
        taken = t.taken;
      },
      h.1,
    )

-- the first piece and a part of the others are a part of the line
pub part_of_rest : {A E : Type 0} (r : Result A E) (old mid new : Option (List ℕ)) (first rest line : List ℕ) (B : Type 0) → line ≡ first ++ rest → Appends old mid first → OnErr r (TakesPart mid new rest × B) → OnErr r (TakesPart old new line × B)
part_of_rest (Ok a) old mid new first rest line B e told h = tt
part_of_rest (Err x) old mid new first rest line B e told h =
    let t = h.0 in (
      record {
        front = first ++ t.front;
        back = t.back;
        whole = e ∙ ap (λ l. first ++ l) t.whole ∙ sym (append_assoc first t.front t.back);
        taken = Appends-trans old mid new first t.front told t.taken;
      },
      h.1,
    )
