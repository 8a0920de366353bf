-- SPDX-License-Identifier: MIT
pub mod Station
