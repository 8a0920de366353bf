use Rattle.std.proofs.Common.{refl, arith}
use Rattle.po_script.proofs.StandLemmas.{appends-nothing}
use Rattle.po_script.proofs.run.Run.new.Goals as goal

pub returns-clause-ok : goal.returns-clause-ok
returns-clause-ok g c = λ start first had.
    record {
      cuts = c.in_ok-lines.ensures start first;
      short = omega arith;
      tells = record { fine = refl; begun_is = c.new-2.ensures.begun; state_is = c.new-2.ensures.session; told = appends-nothing had };
    }
