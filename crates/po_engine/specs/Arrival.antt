-- SPDX-License-Identifier: MIT
-- Where calls arrived on their queues (9.5.3, D.4).
use Rattle.std.specs.Prelude.{ℕ, ◌≡◌, ◌+◌, ◌<◌, ◌==◌, List, [], ◌∷◌, Option, Some, None, if◌then◌else◌, find, All, option_map}
use Rattle.po_unit.specs.Meaning.{Meaning}
use Rattle.po_calls.specs.declared.call.Call.{Call}
use Rattle.po_history.specs.declared.event.Event.{Event}
use Rattle.po_history.specs.declared.event.Event.TheVariants.{Issue, Serve}
use Rattle.po_engine.specs.WaitingCalls.{is_on}
use Rattle.po_engine.specs.ObjectState.{ObjectState}
use Rattle.po_engine.specs.Step.{step}

-- the places, with place k noted for the call instead of an earlier one
abbrev pub noted : (ℕ → ℕ) → ℕ → Option ℕ → ℕ → ℕ
noted places k None n = places n
noted places k (Some m) n = if n == m then k else places n

-- The calls are in the order of their places, which rise strictly.
abbrev pub Rises : {V : Type 0} → (ℕ → ℕ) → List (Call V) → Type 0
Rises places [] = Unit {0}
Rises places (x ∷ xs) = All (λ y. places x.number < places y.number) xs × Rises places xs

-- The places rise strictly.
abbrev pub Increases : List ℕ → Type 0
Increases [] = Unit {0}
Increases (k ∷ places) = All (λ j. k < j) places × Increases places

-- Each call is at the place that is noted for its number.
abbrev pub AreAt : {V : Type 0} → (ℕ → ℕ) → List (Call V) → List ℕ → Type 0
AreAt noted [] [] = Unit {0}
AreAt noted [] (k ∷ places) = ⊥
AreAt noted (x ∷ xs) [] = ⊥
AreAt noted (x ∷ xs) (k ∷ places) = (noted x.number ≡ k) × AreAt noted xs places

module _ {S V : Type 0} where
  -- the call that an event queues or may queue: the one that it issues, or the one that it serves, which may be requeued
  abbrev pub call_of : ObjectState S V → Event V → Option ℕ
  call_of s (Issue n owner e v d) = Some n
  call_of s (Serve e) = option_map (λ x. x.number) (find (is_on e) s.waiting)
  call_of s other = None

  -- for each call, the place of the last event whose call it is, if the events have the places from k on
  abbrev pub arrivals : Meaning S V → Option ℕ → ObjectState S V → ℕ → (ℕ → ℕ) → List (Event V) → ℕ → ℕ
  arrivals m limit s k places [] n = places n
  arrivals m limit s k places (event ∷ events) n =
      arrivals m limit (step m limit s event) (k + 1) (noted places k (call_of s event)) events n
