-- SPDX-License-Identifier: MIT
-- When an object that its client drives is at rest (9.5.1, 9.5.3, 9.7.2).
use Rattle.std.specs.Prelude.{ℕ, ◌≡◌, ◌<◌, ◌==◌, List, Bool, true, None, All, find}
use Rattle.std.specs.List.{list_any}
use Rattle.po_calls.specs.declared.call.Call.{Call}
use Rattle.po_engine.specs.WaitingCalls.{is_due}
use Rattle.po_engine.specs.StateView.{StateView}

-- whether the client has reported the entry closed
abbrev pub told : List ℕ → ℕ → Bool
told closed e = list_any (λ k. k == e) closed

-- Each entry below this one that has a queued call was reported closed.
abbrev pub ToldBelow : List ℕ → ℕ → List (Call ℕ) → Type 0
ToldBelow closed from waiting = All (λ x. x.entry < from → told closed x.entry ≡ true) waiting

-- Only entries below this one were reported closed, so from here on no entry is asked for twice.
abbrev pub AskedBelow : List ℕ → ℕ → Type 0
AskedBelow closed from = All (λ e. e < from) closed

-- The object is at rest: no body runs, the client has reported the entry of each queued call closed since anything last
-- changed, and no queued call is due.
pub record IsAtRest (o : StateView ℕ ℕ) (answered : List ℕ) : Type 0 where
  pub idle : o.serving ≡ None
  pub closed : All (λ x. told answered x.entry ≡ true) o.state.waiting
  pub none_due : find (is_due o.state.clock) o.state.waiting ≡ None
