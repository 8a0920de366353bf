-- SPDX-License-Identifier: MIT
pub mod Equality
pub mod Frames
pub mod Object
pub mod Setup
