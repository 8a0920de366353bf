-- SPDX-License-Identifier: MIT

pub mod Operations
pub mod Preconditions
pub mod Shapes
