use Rattle.std.proofs.Common.{◌+◌}
use Rattle.po_core.proofs.Recordings.{recording_push, recording_ran}
use Rattle.po_core.proofs.recorded.RecordedRecord.push.Goals as goal

pub counted-self-requires : goal.counted-self-requires
counted-self-requires g c =
    let a = c.args.self.now in
    let n = c.requires in
    recording_ran g.U.Unit.meaning n.setup a.base n.from n.to c.args.event n.noted (n.room + 1) n.ticket a.history a.keys a.ended a.ran n.has n.follows

pub returns-clause-has : goal.returns-clause-has
returns-clause-has g c = λ setup s room calls i.
    let a = c.args.self.now in
    recording_push g.U.Unit.meaning setup a.base s c.args.event room calls a.history c.push_owed.new.self a.keys a.ended a.ran c.counted-self.result c.push_owed.ensures.exact c.counted-self.ensures i
