-- SPDX-License-Identifier: MIT
-- The state of a unit that has no data for calls to change.

pub record NoData : Type 0 where
