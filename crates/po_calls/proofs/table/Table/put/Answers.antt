use Rattle.std.proofs.Common.{sym, subst}
use Rattle.po_calls.specs.Calls.{IsAbove}
use Rattle.po_calls.proofs.table.Table.put.Goals as goal
use Rattle.po_calls.proofs.Numbers.{reached_put}

pub invariant_of-self : goal.invariant_of-self
invariant_of-self g c =
    let above = subst (λ t. IsAbove t.last c.args.call.number) (sym c.self.view_is) c.requires.number in
    let put = c.insert_reserved-key in
    reached_put c.self.inside.calls put.new.self c.self.inside.last put.result _ put.ensures.updates
    above c.self.invariant
