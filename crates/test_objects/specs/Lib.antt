-- SPDX-License-Identifier: MIT
pub mod Sleeper
