use Rattle.po_receipts.proofs.Told.{told-later}
use Rattle.po_object.proofs.pass.Pass.see.Goals as goal

pub invariant_of-self : goal.invariant_of-self
invariant_of-self g c =
    let i = c.self.invariant in
    record {
      tallied = record { calls = i.tallied.calls; procedures = i.tallied.procedures };
      told = told-later c.self.inside.seat g.C.CallLedger.end_of c.self.inside.pending _ c.self.inside.front c.see.new.self i.told c.see.ensures.own;
      parts = i.parts;
      amounts = i.amounts;
      room = i.room;
      reservation = i.reservation;
      seat = i.seat;
    }
