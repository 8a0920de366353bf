-- SPDX-License-Identifier: MIT
pub mod Latch
