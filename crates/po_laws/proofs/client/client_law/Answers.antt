use Rattle.po_laws.proofs.Opening.{opening_driven}
use Rattle.po_laws.proofs.Runs.{drives}
use Rattle.po_laws.proofs.client.client_law.Goals as goal

pub returns : goal.returns
returns g c = λ most is_fixed turns run.
    let m = g.U.Unit.meaning in let u = c.args.opening.now in
    drives m g.met.U.Unit.lawful c.requires u most is_fixed turns (opening_driven (m.entries u) most is_fixed) run
