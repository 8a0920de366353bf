-- SPDX-License-Identifier: MIT
pub mod Commands
pub mod Faults
pub mod Spans
pub mod Units
pub mod Words
