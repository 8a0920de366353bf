-- SPDX-License-Identifier: MIT
pub mod OverStd
pub mod Source
