-- The later entries first, then the earlier ones.
use Rattle.std.proofs.Common.{sym}
use Rattle.po_queues.specs.Service.{turn_at}
use Rattle.po_queues.proofs.RangeLemmas.{IsStart, round_found, round_on}
use Rattle.po_queues.proofs.examination.rotating_turn.Goals as goal

pub returns-then-not-is_quiet : goal.returns-then-not-is_quiet
returns-then-not-is_quiet g c =
    let f = turn_at g.U.Unit.meaning c.args.unit.now c.args.queues.now in
    let s : IsStart c.args.queues.now.total c.total-total.result c.in-Some.last c.saturating_add.result
    c.min-start.result
    = record {
      total_is = c.total-total.ensures;
      few = c.total-total.type_inv;
      more_is = c.saturating_add.ensures;
      start_is = c.min-start.ensures;
    } in
    rw c.in-Some.is (round_found f c.args.queues.now.total c.total-total.result c.in-Some.last c.saturating_add.result
    c.min-start.result s c.turn_from-later.result c.turn_from-later.ensures (sym c.if-not-is_quiet.ensures))

pub returns : goal.returns
returns g c =
    let f = turn_at g.U.Unit.meaning c.args.unit.now c.args.queues.now in
    let s : IsStart c.args.queues.now.total c.total-total.result c.in-Some.last c.saturating_add.result
    c.min-start.result
    = record {
      total_is = c.total-total.ensures;
      few = c.total-total.type_inv;
      more_is = c.saturating_add.ensures;
      start_is = c.min-start.ensures;
    } in
    rw c.in-Some.is (round_on f c.args.queues.now.total c.total-total.result c.in-Some.last c.saturating_add.result
    c.min-start.result s c.turn_from-later.result c.turn_from-2.result c.turn_from-later.ensures
    (sym c.if-not-is_quiet.ensures) c.turn_from-2.ensures)
