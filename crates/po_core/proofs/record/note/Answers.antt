use Rattle.po_core.specs.Noting.{known_of, calls_of}
use Rattle.po_core.proofs.record.note.Goals as goal

pub note_calls-requires : goal.note_calls-requires
note_calls-requires g c =
    let n = c.requires in
    rw c.push.ensures.base (record {
      event = c.args.event;
      before = g.R.Record.events c.args.kept.now;
      is = c.push.ensures.events;
      from = n.from;
      room = n.room;
      has = c.push.ensures.has c.args.setup.now (known_of n.from) n.room (calls_of c.args.ticket) n.has;
      follows = n.follows;
      fits = n.fits;
    })
