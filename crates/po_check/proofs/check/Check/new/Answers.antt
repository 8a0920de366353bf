use Rattle.std.proofs.Common.{refl}
use Rattle.po_check.proofs.CheckLemmas.{tells-nothing}
use Rattle.po_check.proofs.check.Check.new.Goals as goal

pub returns-clause-ok : goal.returns-clause-ok
returns-clause-ok g c = λ start first had.
    let k = c.new-2.ensures in
    record {
      cuts = c.in_ok-lines.ensures start first;
      tells = record { known_is = k.known; facts_are = rw (k.known, k.facts) refl; verdict_is = k.verdict; told = tells-nothing had };
    }
