-- SPDX-License-Identifier: MIT
pub mod Companies
pub mod NoData
pub mod Signs
