use Rattle.std.proofs.Common.{◌<◌, subst}
use Rattle.std.specs.Prelude.{IfSome, IfNone, IsSome}
use Rattle.std.specs.List.{All, find}
use Rattle.po_engine.specs.WaitingCalls.{is_on}
use Rattle.po_engine.proofs.BusyLemmas.{passed_in, below_in, busy_in}
use Rattle.po_engine.proofs.state.State.next_busy.Goals as goal

pub returns-clause-passed : goal.returns-clause-passed
returns-clause-passed g c =
    subst (λ v. IfSome c.next_busy.result (λ e. All (λ x. x.entry < e → x.entry < c.args.from) v.state.waiting)) c.self.view_is
    (passed_in c.by_entry.result.now c.self.inside.calls.waiting c.by_entry.ensures.entries c.args.from c.next_busy.result c.next_busy.ensures.some)

pub returns-clause-below : goal.returns-clause-below
returns-clause-below g c =
    subst (λ v. IfNone c.next_busy.result (All (λ x. x.entry < c.args.from) v.state.waiting)) c.self.view_is
    (below_in c.by_entry.result.now c.self.inside.calls.waiting c.by_entry.ensures.entries c.args.from c.next_busy.result c.next_busy.ensures.none)

pub returns-clause-busy : goal.returns-clause-busy
returns-clause-busy g c =
    subst (λ v. IfSome c.next_busy.result (λ e. IsSome (find (is_on e) v.state.waiting))) c.self.view_is
    (busy_in c.by_entry.result.now c.self.inside.calls.waiting c.by_entry.ensures.entries c.args.from c.next_busy.result c.next_busy.ensures.some)
