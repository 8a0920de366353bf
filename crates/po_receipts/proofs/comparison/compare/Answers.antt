use Rattle.std.proofs.Common.{◌≡◌, ◌<◌, length, refl, arith, rules, Some}
use Rattle.std.proofs.lemmas.Bool.{false≢true}
use Rattle.std.proofs.lemmas.Option.{slice_get_within}
use Rattle.po_receipts.specs.declared.error.ReconcileError.TheVariants.{Gap, Mismatch}
use Rattle.po_receipts.specs.Agreement.{IsFaultOf, gap, history_of}
use Rattle.po_receipts.proofs.Rounds.{agree_all}
use Rattle.po_receipts.proofs.Exactness.{runs_on, is_fault, is_none, no_fault}
use Rattle.po_receipts.proofs.comparison.compare.Goals as goal

pub overflow_cast-result : goal.overflow_cast-result
overflow_cast-result g c =
    let few = c.requires in
    let mismatch = c.in-Some-difference_in_round.ensures c.loop-first.invariant.agree in
    let within : c.in-Some-difference_in_round.found.seat < length c.args.passes.now =
    slice_get_within c.args.passes.now c.in-Some-difference_in_round.found.seat mismatch.pass mismatch.of_seat in
    omega (arith, few, within)

pub loop-first-preserved : goal.loop-first-preserved
loop-first-preserved g c =
    let inv = c.loop-first.invariant in
    let low = inv.within in
    let seats = c.min-seats.ensures in
    record {
      within = omega (arith, low, seats);
      agree = c.in_default-difference_in_round.ensures inv.agree;
    }

pub returns-in-Some-clause-agreed : goal.returns-in-Some-clause-agreed
returns-in-Some-clause-agreed g c =
    let core = c.args.core.now in
    let volumes = c.args.volumes.now in
    let at : gap core.object.setup.first_place volumes core.object.base.place ≡ Some c.in-Some.place = search rules in (
      λ good. absurd (false≢true good),
      λ agreed. absurd (no_fault core c.args.passes.now volumes (Gap c.in-Some.place) at agreed),
    )

pub returns-in-Some-clause-fault : goal.returns-in-Some-clause-fault
returns-in-Some-clause-fault g c =
    let core = c.args.core.now in
    let volumes = c.args.volumes.now in
    let at : gap core.object.setup.first_place volumes core.object.base.place ≡ Some c.in-Some.place = search rules in
    is_fault core c.args.passes.now volumes (Gap c.in-Some.place) at

pub returns-clause-agreed : goal.returns-clause-agreed
returns-clause-agreed g c =
    let core = c.args.core.now in
    let passes = c.args.passes.now in
    let volumes = c.args.volumes.now in (
      λ _. record {
        whole = runs_on core.object.setup.first_place volumes core.object.base.place (search rules);
        agree = agree_all core.object.state.ended (history_of core volumes) passes c.loop-first.first c.loop-first-test.false c.loop-first.invariant.agree;
      },
      λ _. refl,
    )

pub returns-clause-fault : goal.returns-clause-fault
returns-clause-fault g c =
    let core = c.args.core.now in
    let passes = c.args.passes.now in
    let volumes = c.args.volumes.now in
    is_none core passes volumes (record {}) (record {
      whole = runs_on core.object.setup.first_place volumes core.object.base.place (search rules);
      agree = agree_all core.object.state.ended (history_of core volumes) passes c.loop-first.first c.loop-first-test.false c.loop-first.invariant.agree;
    })

pub returns-in-Some-difference_in_round-clause-agreed : goal.returns-in-Some-difference_in_round-clause-agreed
returns-in-Some-difference_in_round-clause-agreed g c =
    let core = c.args.core.now in
    let passes = c.args.passes.now in
    let volumes = c.args.volumes.now in
    let found = c.in-Some-difference_in_round.found in
    let fault : IsFaultOf core passes volumes (Mismatch found.seat found.place) =
    (runs_on core.object.setup.first_place volumes core.object.base.place (search rules), c.in-Some-difference_in_round.ensures c.loop-first.invariant.agree) in (
      λ good. absurd (false≢true good),
      λ agreed. absurd (no_fault core passes volumes (Mismatch found.seat found.place) fault agreed),
    )

pub returns-in-Some-difference_in_round-clause-fault : goal.returns-in-Some-difference_in_round-clause-fault
returns-in-Some-difference_in_round-clause-fault g c =
    let core = c.args.core.now in
    let passes = c.args.passes.now in
    let volumes = c.args.volumes.now in
    let found = c.in-Some-difference_in_round.found in
    is_fault core passes volumes (Mismatch found.seat found.place)
    (runs_on core.object.setup.first_place volumes core.object.base.place (search rules), c.in-Some-difference_in_round.ensures c.loop-first.invariant.agree)
