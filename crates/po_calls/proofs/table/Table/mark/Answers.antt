-- The write leaves the call's number as it is.
use Rattle.std.proofs.Common.{refl}
use Rattle.po_calls.proofs.Numbers.{numbers_stay}
use Rattle.po_calls.proofs.table.Table.mark.Goals.{in-Some, in_default}
use Rattle.po_calls.proofs.table.Table.mark.Goals as goal

pub returns-clause-numbers : goal.returns-clause-numbers
returns-clause-numbers g c = elim c.match-get_mut.branch [
  | in-Some w ↦
      let slots = c.self.inside.calls.slots in
      rw (w.self-inside-is, ← c.self.view_is) (numbers_stay slots c.args.ticket.key w.in-Some.marked.now _ (w.in-Some.ensures.value) refl)
  | in_default w ↦ rw (w.self-inside-is, ← c.self.view_is) refl
]
