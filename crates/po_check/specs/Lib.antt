-- SPDX-License-Identifier: MIT
pub mod Check
pub mod Checked
pub mod Claims
pub mod Reports
pub mod Warnings
