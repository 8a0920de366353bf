use Rattle.std.proofs.Common.{arith}
use Rattle.po_calls.proofs.Copies.{same_calls, same_table, enough_room, reached_in_copy}
use Rattle.po_calls.proofs.table.Table.copy.Goals as goal

pub invariant_of-result : goal.invariant_of-result
invariant_of-result g c =
    let same = same_calls c.self.inside.calls c.in_ok-calls.calls c.reserve.new.self c.in_ok-calls.ensures.cases c.reserve.ensures.rest_kept in
    reached_in_copy c.self.inside.calls c.reserve.new.self c.self.inside.last same c.self.invariant

pub returns-clause-same : goal.returns-clause-same
returns-clause-same g c =
    let same = same_calls c.self.inside.calls c.in_ok-calls.calls c.reserve.new.self c.in_ok-calls.ensures.cases c.reserve.ensures.rest_kept in
    rw (← c.self.view_is) (same_table c.self.inside.calls c.reserve.new.self c.self.inside.last same)

pub returns-clause-room : goal.returns-clause-room
returns-clause-room g c =
    let same = same_calls c.self.inside.calls c.in_ok-calls.calls c.reserve.new.self c.in_ok-calls.ensures.cases c.reserve.ensures.rest_kept in
    enough_room c.self.inside.calls c.reserve.new.self c.args.capacity c.saturating_sub.result same
    (omega (arith, c.saturating_sub.ensures, c.len.ensures))
    c.in_ok-reserve.ensures.room
