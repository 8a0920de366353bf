-- SPDX-License-Identifier: MIT
pub mod Sizes
pub mod Steps
pub mod Turns
