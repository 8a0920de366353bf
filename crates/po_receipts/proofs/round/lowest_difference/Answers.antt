use Rattle.std.proofs.Common.{◌≡◌, ◌<◌, ◌+◌, length, subst, arith, refl, get_or}
use Rattle.std.proofs.lemmas.Option.{slice_get_read}
use Rattle.po_receipts.specs.declared.mark.Mark.TheVariants.{Follows}
use Rattle.po_receipts.specs.Receipts.{receipts_due}
use Rattle.po_receipts.specs.Agreement.{AgreeBelow}
use Rattle.po_receipts.proofs.Rounds.{mark_of, differs_first, agree_more}
use Rattle.po_receipts.proofs.round.lowest_difference.Goals as goal

pub returns-in-Some : goal.returns-in-Some
returns-in-Some g c ended history are below =
    let passes = c.args.passes.now in
    let seat = c.args.first + c.loop-i.i in
    let own = c.index-passes-seat.result in
    let receipts = c.receipts.result.now in
    let fits = c.requires in
    let test = c.loop-i-test.true in
    let within : seat < length passes = omega (arith, fits, test) in
    let of_seat = slice_get_read passes (length passes) seat own refl within c.index-passes-seat.is in
    let due = receipts_due ended history seat in
    let mark = mark_of ended own receipts due (get_or c.args.marks.now c.loop-i.i (Follows 0)) c.receipts.ensures (are c.loop-i.i own test of_seat) in
    differs_first ended history passes seat c.in-Some.place receipts (record { pass = own; of_seat = of_seat; is = c.receipts.ensures })
    (c.in-Some.ensures due mark) (c.loop-i.invariant ended history are below)

pub loop-i-preserved : goal.loop-i-preserved
loop-i-preserved g c ended history are below =
    let passes = c.args.passes.now in
    let seat = c.args.first + c.loop-i.i in
    let own = c.index-passes-seat.result in
    let receipts = c.receipts.result.now in
    let fits = c.requires in
    let test = c.loop-i-test.true in
    let within : seat < length passes = omega (arith, fits, test) in
    let of_seat = slice_get_read passes (length passes) seat own refl within c.index-passes-seat.is in
    let due = receipts_due ended history seat in
    let mark = mark_of ended own receipts due (get_or c.args.marks.now c.loop-i.i (Follows 0)) c.receipts.ensures (are c.loop-i.i own test of_seat) in
    let more : AgreeBelow ended history passes (seat + 1) =
    agree_more ended history passes seat receipts (record { pass = own; of_seat = of_seat; is = c.receipts.ensures })
    (c.in_default.ensures due mark) (c.loop-i.invariant ended history are below) in
    let sum : seat + 1 ≡ c.args.first + (c.loop-i.i + 1) = omega arith in
    subst (AgreeBelow ended history passes) sum more

pub returns : goal.returns
returns g c ended history are below seat pass under at =
    let over = c.loop-i-test.false in
    c.loop-i.invariant ended history are below seat pass (omega (arith, over, under)) at
