-- The turn with the first key's stamp, or none.
use Rattle.std.proofs.Common.{sym, ◌∙◌}
use Rattle.po_queues.specs.Service.{turn_at}
use Rattle.po_queues.proofs.StampLemmas.{stamped_none, stamped_some}
use Rattle.po_queues.proofs.examination.stamped_turn.Goals as goal

pub returns-then-is_quiet : goal.returns-then-is_quiet
returns-then-is_quiet g c =
    stamped_none (turn_at g.U.Unit.meaning c.args.unit.now c.args.queues.now) c.args.entry c.args.queues.now.items
    c.turn_of-selection.result c.turn_of-selection.ensures (sym c.if-is_quiet.ensures)

pub returns : goal.returns
returns g c =
    stamped_some (turn_at g.U.Unit.meaning c.args.unit.now c.args.queues.now) c.args.entry c.in_ok-stamp.field-0-0
    c.in_ok-stamp.stamp c.args.queues.now.items (sym c.first.ensures ∙ c.in_ok-stamp.was) c.turn_of-selection.result
    c.turn_of-selection.ensures (sym c.if-is_quiet.ensures)
