use Rattle.po_check.proofs.FirstFault.{within_first}
use Rattle.po_check.proofs.WarningLemmas.{warns}
use Rattle.po_check.proofs.check.check_over.Goals as goal

pub returns-clause-first : goal.returns-clause-first
returns-clause-first g c = λ bytes. within_first g.O.ScriptObject.units 67108864 bytes

pub returns-in_err-check-clause-first : goal.returns-in_err-check-clause-first
returns-in_err-check-clause-first g c = λ bytes. within_first g.O.ScriptObject.units 67108864 bytes

pub returns-clause-warned : goal.returns-clause-warned
returns-clause-warned g c = λ bytes. warns g.O.ScriptObject.units c.refused_behind.ensures 67108864 bytes

pub returns-in_err-check-clause-warned : goal.returns-in_err-check-clause-warned
returns-in_err-check-clause-warned g c = λ bytes. warns g.O.ScriptObject.units c.refused_behind.ensures 67108864 bytes

pub read_on-verdict-requires-clause-fresh : goal.read_on-verdict-requires-clause-fresh
read_on-verdict-requires-clause-fresh g c = c.in_ok-check.ensures.ok (g.R.Source.left c.args.reader.now) (g.R.Source.reads c.args.reader.now) (g.P.Report.told c.args.report.now)
