use Rattle.std.proofs.Common.{arith, ◌≡◌, ap, refl, sym, subst, ◌∙◌, rules, length, vec_len, sum_by}
use Rattle.std.specs.List.{All}
use Rattle.std.proofs.lemmas.List.{map-id}
use Rattle.std.proofs.lemmas.Iterator.Adapters.{YieldsList-from_vec}
use Rattle.std.proofs.lemmas.Iterator.Consumers.{YieldsList-end}
use Rattle.std.proofs.lemmas.Grind.{common_steps}
use Rattle.po_object.specs.Seats.{ArePlaced}
use Rattle.po_receipts.specs.Told.{IsToldOf}
use Rattle.po_object.proofs.Seating.{placed-more, placed-past}
use Rattle.po_object.proofs.Totals.{told-more}
use Rattle.po_object.proofs.closing.collect.Goals as goal

pub loop-pass-init : goal.loop-pass-init
loop-pass-init g c =
    let parts = c.requires.parts in
    let p = parts.0 in
    record {
      can = tt;
      finite = tt;
      room = c.requires.room;
      parts = parts;
      bound = omega (arith, p, c.requires.bound);
      amounts = c.requires.amounts;
      placed = λ s q l e. (let bad = e in cc);
      told = λ i d lt. absurd (omega (arith, lt));
      log = refl;
    }

pub loop-pass-preserved-then-seat-len : goal.loop-pass-preserved-then-seat-len
loop-pass-preserved-then-seat-len g c = let inv = c.loop-pass.invariant in
    let s = c.spend-spent.ensures in
    let len : length c.loop-pass.room.items ≡ c.args.seats = search (rules, common_steps) in
    record {
      can = tt;
      finite = tt;
      room = inv.room;
      parts = (grind (arith, common_steps), grind (arith, common_steps));
      bound = s.apart.0;
      amounts = (grind (arith, common_steps), grind (arith, common_steps));
      placed = rw (c.seat-seat.ensures, s.same) (placed-more _ _ _ c.in-Some.pass (sym len) inv.placed);
      told = told-more g.C.CallLedger.end_of _ _ c.loop-pass.yielded c.in-Some.pass inv.log s.told inv.told;
      log = s.same_log ∙ inv.log;
    }

pub loop-pass-preserved : goal.loop-pass-preserved
loop-pass-preserved g c = let inv = c.loop-pass.invariant in
    let s = c.spend-spent.ensures in
    let out = c.if-seat-len.false in
    let at = c.seat-seat.ensures in
    let len = c.len.ensures in
    record {
      can = tt;
      finite = tt;
      room = inv.room;
      parts = (grind (arith, common_steps), grind (arith, common_steps));
      bound = s.apart.0;
      amounts = (grind (arith, common_steps), grind (arith, common_steps));
      placed = placed-past _ _ _ c.in-Some.pass (omega arith) inv.placed;
      told = told-more g.C.CallLedger.end_of _ _ c.loop-pass.yielded c.in-Some.pass inv.log s.told inv.told;
      log = s.same_log ∙ inv.log;
    }

pub returns-clause-parts : goal.returns-clause-parts
returns-clause-parts g c =
    let parts = c.loop-pass.invariant.parts in
    let i = c.into_iter-pass-iterator.ensures.into_iter_gives in
    let len : vec_len c.args.passes ≡ length c.args.passes.items = search (rules, common_steps) in
    let seen = YieldsList-end (YieldsList-from_vec c.args.passes.items i.0 (i.1 ∙ len)) c.loop-pass.yielded _ c.loop-pass.yielded_by _ c.next.new.self c.in-None.is c.next.ensures.steps in
    let all : c.loop-pass.yielded ≡ c.args.passes.items = sym (map-id _) ∙ seen.0 in
    let sl = ap (λ ys. length ys) all in
    let p0 = parts.0 in let p1 = parts.1 in
    (omega (arith, p0, sl), omega (arith, p1, sl))

pub returns-clause-calls : goal.returns-clause-calls
returns-clause-calls g c =
    let i = c.into_iter-pass-iterator.ensures.into_iter_gives in
    let len : vec_len c.args.passes ≡ length c.args.passes.items = search (rules, common_steps) in
    let seen = YieldsList-end (YieldsList-from_vec c.args.passes.items i.0 (i.1 ∙ len)) c.loop-pass.yielded _ c.loop-pass.yielded_by _ c.next.new.self c.in-None.is c.next.ensures.steps in
    let all : c.loop-pass.yielded ≡ c.args.passes.items = sym (map-id _) ∙ seen.0 in
    c.loop-pass.invariant.amounts.0 ∙ ap (λ ys. sum_by (λ p. p.calls) ys) all

pub returns-clause-procedures : goal.returns-clause-procedures
returns-clause-procedures g c =
    let i = c.into_iter-pass-iterator.ensures.into_iter_gives in
    let len : vec_len c.args.passes ≡ length c.args.passes.items = search (rules, common_steps) in
    let seen = YieldsList-end (YieldsList-from_vec c.args.passes.items i.0 (i.1 ∙ len)) c.loop-pass.yielded _ c.loop-pass.yielded_by _ c.next.new.self c.in-None.is c.next.ensures.steps in
    let all : c.loop-pass.yielded ≡ c.args.passes.items = sym (map-id _) ∙ seen.0 in
    c.loop-pass.invariant.amounts.1 ∙ ap (λ ys. sum_by (λ p. p.procedures) ys) all

pub returns-clause-placed : goal.returns-clause-placed
returns-clause-placed g c =
    let i = c.into_iter-pass-iterator.ensures.into_iter_gives in
    let len : vec_len c.args.passes ≡ length c.args.passes.items = search (rules, common_steps) in
    let seen = YieldsList-end (YieldsList-from_vec c.args.passes.items i.0 (i.1 ∙ len)) c.loop-pass.yielded _ c.loop-pass.yielded_by _ c.next.new.self c.in-None.is c.next.ensures.steps in
    let all : c.loop-pass.yielded ≡ c.args.passes.items = sym (map-id _) ∙ seen.0 in
    subst (λ ys. ArePlaced c.args.seats ys c.loop-pass.room.items) all c.loop-pass.invariant.placed

pub returns-clause-told : goal.returns-clause-told
returns-clause-told g c =
    let i = c.into_iter-pass-iterator.ensures.into_iter_gives in
    let len : vec_len c.args.passes ≡ length c.args.passes.items = search (rules, common_steps) in
    let seen = YieldsList-end (YieldsList-from_vec c.args.passes.items i.0 (i.1 ∙ len)) c.loop-pass.yielded _ c.loop-pass.yielded_by _ c.next.new.self c.in-None.is c.next.ensures.steps in
    let all : c.loop-pass.yielded ≡ c.args.passes.items = sym (map-id _) ∙ seen.0 in
    subst (All (IsToldOf g.C.CallLedger.end_of c.args.log.now)) all c.loop-pass.invariant.told
