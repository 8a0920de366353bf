-- SPDX-License-Identifier: MIT
-- The declarations of entries in the words of the runtime.
use Rattle.std.specs.Prelude.{pos, Bool, true, false, Option, Some, None}
use Rattle.po_unit.specs.declared.decl.Decl.{Decl}
use Rattle.po_ada_names.specs.declared.names.Entry.{Entry}
use Rattle.po_ada_names.specs.declared.names.Family.{Family}

-- the declaration of an entry, or of a family with this index range (9.5.2)
abbrev pub declared_as : Bool → Option Family → Decl
declared_as public None = record { public = public; family = false; low = pos 0; high = pos 0 }
declared_as public (Some family) = record { public = public; family = true; low = family.low; high = family.high }

-- the declaration of an entry or a family (9.5.2)
abbrev pub declaration : Entry → Decl
declaration entry = declared_as entry.public entry.family
