use Rattle.std.proofs.Common.{◌≡◌, ◌+◌, ◌++◌, length, take, vec_len, vec_capacity}
use Rattle.po_core.specs.Outcomes.{AreOutcomes}
use Rattle.po_core.proofs.noting.note_ends.Given as goal

abbrev pub invariant-loop-call : goal.invariant-loop-call
invariant-loop-call g l = record {
  rest : l.history ≡ record l.initial.history { outcomes = l.history.outcomes };
  len : length l.history.outcomes ≡ length l.initial.history.outcomes;
  ended : l.ended.items ≡ l.initial.ended.items ++ take l.call-index l.now;
  grows : vec_len l.ended ≡ vec_len l.initial.ended + l.call-index;
  capacity : vec_capacity l.ended ≡ vec_capacity l.initial.ended;
  outcomes : AreOutcomes l.history l.ended.items;
}
