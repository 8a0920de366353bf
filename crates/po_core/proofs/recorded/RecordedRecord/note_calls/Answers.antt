use Rattle.po_core.proofs.Recordings.{recording_notable}
use Rattle.po_core.proofs.recorded.RecordedRecord.note_calls.Goals as goal

pub note_calls-requires-clause-once : goal.note_calls-requires-clause-once
note_calls-requires-clause-once g c =
    let a = c.args.self.now in
    let n = c.requires in
    (recording_notable g.U.Unit.meaning c.args._setup.now g.met.U.Unit.lawful a.base n.from c.args.state.now n.event c.args.noted n.room c.args.ticket a.history a.keys a.ended a.ran n.has n.follows).once

pub note_calls-requires-clause-calls : goal.note_calls-requires-clause-calls
note_calls-requires-clause-calls g c =
    let a = c.args.self.now in
    let n = c.requires in
    (recording_notable g.U.Unit.meaning c.args._setup.now g.met.U.Unit.lawful a.base n.from c.args.state.now n.event c.args.noted n.room c.args.ticket a.history a.keys a.ended a.ran n.has n.follows).calls
