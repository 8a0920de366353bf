-- SPDX-License-Identifier: MIT
pub mod Ladder
pub mod Uncopied
