use Rattle.std.proofs.Common.{sym, ap, arith, subst}
use Rattle.po_engine.specs.Pick.{owed}
use Rattle.po_core.specs.Noting.{known_of}
use Rattle.po_core.proofs.Trackings.{tracked_opens}
use Rattle.po_core.proofs.core_in_action.CoreInAction.new.Goals as goal

pub invariant_of-result : goal.invariant_of-result
invariant_of-result g c =
    let s = c.args.state in
    let setup = c.args.setup in
    record {
      tracked = rw (c.from-place.ensures, c.first_place.ensures, c.requires.base, c.requires.events) (tracked_opens g.U.Unit.meaning setup c.requires.total (omega (arith, c.first_place.ensures)) (omega (arith, c.first_number-number.ensures)) s s.capacity s.is_fixed c.requires.state);
      has = subst (λ x. g.R.Record.IsOf setup c.args.kept (known_of s) (owed g.U.Unit.meaning x) 0) (sym (ap (λ x. x.state) c.requires.state)) c.requires.has;
    }
