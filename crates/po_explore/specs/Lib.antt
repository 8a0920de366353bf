-- SPDX-License-Identifier: MIT
pub mod Commands
pub mod Findings
pub mod News
pub mod Scenes
