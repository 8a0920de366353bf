-- SPDX-License-Identifier: MIT
pub mod Agreement
pub mod Answers
pub mod Marks
pub mod OneHistory
pub mod Passes
pub mod Receipts
pub mod Told
