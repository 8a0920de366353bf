use Rattle.std.proofs.Common.{◌≡◌, ◌++◌, map, length, None}
use Rattle.po_calls.specs.declared.end.End.TheVariants.{ProgramError}
use Rattle.po_engine.specs.Ending.{ended_as}
use Rattle.po_engine.proofs.calls.Calls.end_all.Given as goal

abbrev pub invariant-loop-call : goal.invariant-loop-call
invariant-loop-call g l = record {
  free : l.self.serving ≡ None;
  ended : l.self.ended ++ map (ended_as ProgramError) l.self.waiting ≡ l.initial.self.ended ++ map (ended_as ProgramError) l.initial.self.waiting;
  same : l.self ≡ record l.initial.self { waiting = l.self.waiting; places = l.self.places; ended = l.self.ended };
}

abbrev pub decreases-loop-call : goal.decreases-loop-call
decreases-loop-call g l = length l.self.waiting
