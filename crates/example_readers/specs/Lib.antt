-- SPDX-License-Identifier: MIT
pub mod Exclusion
pub mod ReadersWriters
