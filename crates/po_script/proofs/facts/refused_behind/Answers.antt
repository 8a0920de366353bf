use Rattle.po_script.proofs.SureLemmas.{refuses_behind}
use Rattle.po_script.proofs.facts.refused_behind.Goals as goal

pub returns : goal.returns
returns g c = λ commands. refuses_behind g.O.ScriptObject.units g.met.O.ScriptObject.lawful commands
