-- SPDX-License-Identifier: MIT
-- Declarations of entries (9.5.2).
use Rattle.std.specs.Prelude.{true, false, ℤ, pos}
use Rattle.po_unit.specs.declared.decl.Decl.{Decl}

-- a single entry in the visible part
abbrev pub public_entry : Decl
public_entry = record { public = true; family = false; low = pos 0; high = pos 0 }

-- a single entry in the private part
abbrev pub private_entry : Decl
private_entry = record { public = false; family = false; low = pos 0; high = pos 0 }

-- a family in the visible part, with an entry for each index of the range
abbrev pub public_family : ℤ → ℤ → Decl
public_family low high = record { public = true; family = true; low = low; high = high }

-- a family in the private part, with an entry for each index of the range
abbrev pub private_family : ℤ → ℤ → Decl
private_family low high = record { public = false; family = true; low = low; high = high }
