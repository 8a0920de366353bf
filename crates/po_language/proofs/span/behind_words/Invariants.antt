use Rattle.std.proofs.Common.{◌≡◌, drop}
use Rattle.po_language.specs.Words.{words}
use Rattle.po_language.specs.Spans.{IsSuffix}
use Rattle.po_language.proofs.span.behind_words.Given as goal

abbrev pub invariant-loop : goal.invariant-loop
invariant-loop l = record {
  words : words l.rest ≡ drop l.counter (words l.line);
  suffix : IsSuffix l.line l.rest;
}
