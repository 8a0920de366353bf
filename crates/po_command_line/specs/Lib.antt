-- SPDX-License-Identifier: MIT
pub mod Statuses
