use Rattle.std.proofs.Common.{◌≡◌, refl, subst}
use Rattle.std.specs.List.{All}
use Rattle.po_core.specs.Headline.{Headline}
use Rattle.po_core.specs.Tickets.{CoreView}
use Rattle.po_stress.specs.Reports.{AddUpTo}
use Rattle.po_stress.proofs.EndSums.{same_tallies}
use Rattle.po_stress.proofs.kinds.report_on.Goals as goal

pub returns : goal.returns
returns g c =
    let holds : CoreView g.row.U.Denot _ → Type 0 = λ core. Headline g.U.Unit.meaning core.object in
    let passes = c.args.closed.now.passes in
    let tallies : All (λ pass. pass.calls ≡ c.args.calls) passes = c.requires.tallies in
    record {
      closed = c.args.closed.now;
      made = refl;
      seats = refl;
      tallies = tallies;
      totals = c.closing_totals.ensures;
      headline = subst holds c.core.ensures c.headline.ensures.headline;
      pending = c.requires.pending;
      own = c.every_answer.ensures.own;
      serial = c.every_answer.ensures.serial;
      told = c.of.ensures.told;
      sums = λ ok. subst (λ n. AddUpTo n c.of.result) (same_tallies c.args.calls passes tallies) (c.of.ensures.sums ok);
    }
