-- The next busy entry is past the range, or it has its turn, or there is none.
use Rattle.std.proofs.Common.{refl, sym}
use Rattle.po_queues.proofs.TurnLemmas.{none_within, turn_found, none_left}
use Rattle.po_queues.proofs.examination.turn_from.Goals as goal

pub returns-then-entry-to : goal.returns-then-entry-to
returns-then-entry-to g c = sym (none_within g.U.Unit.meaning c.args.unit.now c.args.queues.now c.args.from
    c.loop-entry.next c.args.to c.in-Some.entry c.loop-entry.invariant.quiet c.in-Some.ensures.some c.if-entry-to.true)

pub returns-then-not-is_quiet : goal.returns-then-not-is_quiet
returns-then-not-is_quiet g c =
    let i = c.loop-entry.invariant in
    turn_found g.U.Unit.meaning c.args.unit.now c.args.queues.now c.args.from c.loop-entry.next c.args.to
    c.in-Some.entry i.ahead i.quiet c.in-Some.ensures.some c.if-entry-to.false c.turn_of-selection.result
    c.turn_of-selection.ensures (sym c.if-not-is_quiet.ensures)

pub returns : goal.returns
returns g c = sym (none_left g.U.Unit.meaning c.args.unit.now c.args.queues.now c.args.from
    c.loop-entry.next c.args.to c.loop-entry.invariant.quiet (c.in_default.ensures.none refl))
