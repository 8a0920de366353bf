use Rattle.std.proofs.Common.{◌≡◌, ◌++◌, take, flat_map, string_bytes}
use Rattle.po_unit.specs.Numbering.{entry_references}
use Rattle.po_classic_units.specs.Names.{texts_of}
use Rattle.po_script.specs.Operations.{entry_line}
use Rattle.po_script.proofs.operate.push_entries.Given as goal

abbrev pub invariant-loop-flat : goal.invariant-loop-flat
invariant-loop-flat g l =
    string_bytes l.reply ≡ string_bytes l.initial.reply ++ flat_map (entry_line g.U.Unit.meaning (texts_of l.names) l.core.object) (take l.flat (entry_references l.core.object.setup.shape))
