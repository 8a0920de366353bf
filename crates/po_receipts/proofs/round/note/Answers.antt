use Rattle.std.proofs.Common.{◌≡◌, ◌<◌, ◌+◌, length, arith, refl, Some}
use Rattle.std.specs.List.{slice_get}
use Rattle.std.proofs.lemmas.Option.{slice_get_read}
use Rattle.po_receipts.proofs.Rounds.{marks_move, marks_stay}
use Rattle.po_receipts.proofs.round.note.Goals as goal

pub returns : goal.returns
returns g c seen are =
    let passes = c.args.passes.now in
    let seat = c.args.first + c.in-Some.i in
    let index = c.in-Some.ensures in
    let low = index.0 in
    let fits = c.requires in
    let within : seat < length passes = omega (arith, low, fits) in
    let own = c.index-passes-first.result in
    let has : slice_get passes seat ≡ Some own = slice_get_read passes (length passes) seat own refl within c.index-passes-first.is in
    marks_move c.args.core.now.object.state.ended passes c.args.first seen c.args.event c.args.marks.now c.in-Some.i c.advanced.result own
    c.receipts-receipts.result.now c.receipt_of.result low index.1 index.2 has c.receipts-receipts.ensures c.receipt_of.ensures c.advanced.ensures are

pub returns-in_default : goal.returns-in_default
returns-in_default g c seen are =
    marks_stay c.args.core.now.object.state.ended c.args.passes.now c.args.first seen c.args.event c.args.marks.now c.in_default.ensures are
