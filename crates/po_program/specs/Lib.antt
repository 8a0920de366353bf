-- SPDX-License-Identifier: MIT
pub mod Exceptions
pub mod Execution
pub mod Operators
pub mod Values
