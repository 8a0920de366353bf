-- SPDX-License-Identifier: MIT
-- What a protected object is made with.
use Rattle.std.specs.Prelude.{ℕ, List, Option}
use Rattle.po_unit.specs.declared.decl.Decl.{Decl}
use Rattle.po_queues.specs.declared.order.Order.{Order}

-- What an object was made with. Nothing changes it.
pub record Setup (S : Type 0) : Type 0 where
  pub opening : S
  pub shape : List Decl
  pub order : Order
  -- how many calls may be queued on an entry, if there is a limit
  pub max_queue : Option ℕ
  -- the number of the first call
  pub first_number : ℕ
  -- the place of the first event
  pub first_place : ℕ
