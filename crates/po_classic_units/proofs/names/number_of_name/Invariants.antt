use Rattle.std.proofs.Common.{◌≡◌, ◌+◌, drop}
use Rattle.po_classic_units.specs.Names.{number_of_name, texts_of}
use Rattle.po_classic_units.proofs.names.number_of_name.Given as goal

abbrev pub invariant-loop-name : goal.invariant-loop-name
invariant-loop-name l = record {
  counted : l.number ≡ l.name-index;
  before : number_of_name (texts_of l.names) l.word ≡ l.number + number_of_name (texts_of (drop l.name-index l.names)) l.word;
}
