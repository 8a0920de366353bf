use Rattle.std.proofs.Common.{◌≡◌, ◌+◌, ◌<◌, ◌≤◌, [], drop, take, length, arith}
use Rattle.std.proofs.lemmas.List.{drop_all, length-take-le}
use Rattle.po_script.specs.Chunk.{pending}
use Rattle.po_script.proofs.CutterLemmas.{first_waits, given_read}
use Rattle.po_script.proofs.chunk.Chunk.peek.Goals as goal

pub returns-then-self-clause-next : goal.returns-then-self-clause-next
returns-then-self-clause-next g c =
    let chunk = c.args.self.now in
    (drop (chunk.taken + 1) (take chunk.count chunk.bytes), first_waits chunk.bytes chunk.taken chunk.count c.if-self.true (omega (arith, c.type_inv.self, chunk.given)))

pub returns-clause-given : goal.returns-clause-given
returns-clause-given g c = λ bytes start first s.
    let chunk = c.args.self.now in
    let within : chunk.count ≤ length chunk.bytes = omega (arith, c.type_inv.self, chunk.given) in
    let none : pending chunk ≡ [] = drop_all chunk.taken (take chunk.count chunk.bytes) (omega (arith, c.if-self.false, length-take-le chunk.count chunk.bytes within)) in
    let k = c.in_ok-count.ensures in
    given_read (pending chunk) bytes c.read.new.buffer c.in_ok-count.count start _ _ first _ _ none s k.within k.given k.counted

pub returns-clause-next : goal.returns-clause-next
returns-clause-next g c =
    let some : 0 < c.in_ok-count.count = omega (arith, c.if-count-eq0.false) in
    (drop 1 (take c.in_ok-count.count c.read.new.buffer), first_waits c.read.new.buffer 0 c.in_ok-count.count some c.in_ok-count.ensures.within)
