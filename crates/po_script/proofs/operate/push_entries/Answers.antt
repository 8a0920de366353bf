use Rattle.std.proofs.Common.{◌∙◌, sym, ap, ◌++◌, append_assoc, string_bytes, take, flat_map}
use Rattle.po_unit.specs.Numbering.{entry_references}
use Rattle.po_classic_units.specs.Names.{texts_of}
use Rattle.po_script.specs.Operations.{entry_line}
use Rattle.po_script.proofs.ShowLemmas.{flat_map_more}
use Rattle.po_script.proofs.operate.push_entries.Goals as goal

pub loop-flat-preserved : goal.loop-flat-preserved
loop-flat-preserved g c =
    let e = c.in_ok-push_entry.ensures in
    let line = entry_line g.U.Unit.meaning (texts_of c.args.names.now) c.args.core.now.object in
    let references = entry_references c.args.core.now.object.setup.shape in
    let more = flat_map_more line references c.loop-flat.flat e.0 e.1 in
    e.2 ∙ (ap (λ l. l ++ line e.0) c.loop-flat.invariant ∙ (append_assoc (string_bytes c.args.reply.now) (flat_map line (take c.loop-flat.flat references)) (line e.0) ∙ ap (λ l. string_bytes c.args.reply.now ++ l) (sym more)))
