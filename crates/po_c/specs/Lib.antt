-- SPDX-License-Identifier: MIT
pub mod Held
pub mod Told
