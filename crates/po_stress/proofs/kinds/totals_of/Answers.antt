use Rattle.std.proofs.Common.{◌≡◌, ◌+◌, ℕ, refl, subst, ap, ◌∙◌, arith}
use Rattle.std.specs.List.{count_by}
use Rattle.std.proofs.lemmas.Bool.{eq-eqb}
use Rattle.po_core.specs.Base.{is_issue}
use Rattle.po_core.specs.Headline.{Headline}
use Rattle.po_core.specs.Tickets.{CoreView}
use Rattle.po_stress.proofs.EndSums.{same_tallies}
use Rattle.po_stress.proofs.kinds.totals_of.Goals as goal

pub returns : goal.returns
returns g c =
    let M : Type 0 = CoreView g.row.U.Denot ℕ in
    let core = c.args.closed.now.core in
    let holds : M → Type 0 = λ m. Headline g.U.Unit.meaning m.object in
    let issues : M → ℕ = λ m. count_by is_issue m.object.events in
    let counted : M → Type 0 = λ m. m.object.state.next ≡ m.object.setup.first_number + c.issued.result in
    let passes = c.args.closed.now.passes in
    let ends = c.requires.ends in
    let told = c.of.ensures in
    let numbered : counted core = subst counted c.core-2.ensures c.issued.ensures.numbered in
    let all = c.requires.all in
    let many = same_tallies c.args.calls passes c.requires.tallies in
    let closing = c.closing_totals.ensures.totals.calls in
    record {
      closed = c.args.closed.now;
      made = refl;
      seats = refl;
      tallies = c.requires.tallies;
      totals = c.closing_totals.ensures;
      headline = subst holds c.core.ensures c.headline.ensures.headline;
      pending = c.requires.pending;
      own = c.every_answer.ensures.own;
      serial = c.every_answer.ensures.serial;
      told = record {
        issued = told.issued ∙ c.issued.ensures.counted ∙ ap issues c.core-2.ensures;
        completed = told.completed ∙ ends.completed;
        cancelled = told.cancelled ∙ ends.cancelled;
        program_error = told.program_error ∙ ends.program_error;
      };
      issued = omega (arith, told.issued, numbered, closing, many);
      sums = omega (arith, told.completed, told.cancelled, told.program_error, all, many);
      agreed = eq-eqb _ _ (omega (arith, told.issued, told.completed, told.cancelled, told.program_error, numbered, closing, all, many));
    }
