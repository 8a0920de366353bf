use Rattle.po_script.proofs.FactLemmas.{refuses_surely}
use Rattle.po_script.proofs.facts.refused_by.Goals as goal

pub returns-clause-refused : goal.returns-clause-refused
returns-clause-refused g c = refuses_surely g.U.Unit.meaning c.args.facts.now c.args.operation
