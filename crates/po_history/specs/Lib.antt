-- SPDX-License-Identifier: MIT
pub mod Histories
