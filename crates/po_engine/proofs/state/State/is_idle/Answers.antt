use Rattle.std.proofs.Common.{◌≡◌, [], sym, subst}
use Rattle.po_engine.proofs.BusyLemmas.{none_in, none_out}
use Rattle.po_engine.proofs.state.State.is_idle.Goals as goal

pub returns : goal.returns
returns g c =
    let queues = c.by_entry.result.now in let waiting = c.self.inside.calls.waiting in (
      λ h. subst (λ v. v.state.waiting ≡ []) c.self.view_is (none_in queues waiting c.by_entry.ensures.entries (c.is_empty.ensures.0 h)),
      λ h. c.is_empty.ensures.1 (none_out queues waiting c.by_entry.ensures.entries (subst (λ v. v.state.waiting ≡ []) (sym c.self.view_is) h)),
    )
