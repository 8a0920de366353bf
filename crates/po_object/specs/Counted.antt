-- SPDX-License-Identifier: MIT
-- What holds of the value behind an object's lock (this project's own).
use Rattle.std.specs.Prelude.{ℕ, ◌≡◌, ◌+◌}
use Rattle.po_core.specs.View.{View}
use Rattle.po_core.specs.Cutting.{procedures_run}

-- This many calls were issued in the whole history, and this many procedures have run.
pub record IsCounted {S V : Type 0} (view : View S V) (calls procedures : ℕ) : Type 0 where
  pub issued : view.state.next ≡ view.setup.first_number + calls
  pub ran : procedures_run view ≡ procedures
