-- The search among the first numbers ends just past the position.
use Rattle.std.proofs.Common.{◌≡◌, ◌-◌, ◌≤◌, leb, rules, arith}
use Rattle.std.proofs.lemmas.List.Sorted.{IsPartitionPoint-from_clause, IsPartitionedBy-leb}
use Rattle.po_unit.specs.FirstNumbers.{first_numbers, IsPositionOf}
use Rattle.po_unit.proofs.FirstNumbersLemmas.{length-first_numbers, first_numbers-rise, position_from_search}
use Rattle.po_unit.proofs.shape.Shape.position_of.Goals as goal

-- what the search says about the position
found : (c : goal.After-partition_point) → (1 ≤ c.partition_point.result) × IsPositionOf c.args.self.now c.args.number (c.partition_point.result - 1)
found c =
    let ds = c.args.self.now in
    let same : c.as_slice.result.now ≡ first_numbers ds = cc in
    let parted = IsPartitionedBy-leb (λ n. n) (first_numbers ds) c.args.number (first_numbers-rise ds) in
    let clause = rw same at c.partition_point.ensures.partitioned in
    let bound = rw same at c.partition_point.ensures.bound in
    let long = length-first_numbers ds in
    let point = IsPartitionPoint-from_clause (λ n. leb n c.args.number) (first_numbers ds) c.partition_point.result clause parted (λ a r q k. search rules) in
    position_from_search ds c.args.number c.partition_point.result c.requires (omega arith) point

pub overflow_sub-result : goal.overflow_sub-result
overflow_sub-result c = (found c).0

pub returns : goal.returns
returns c = (found c).1
