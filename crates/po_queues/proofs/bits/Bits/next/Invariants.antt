-- If a bit was found, it is the first from here on; if none was, no bit before the word is set.
use Rattle.std.proofs.Common.{◌≡◌, ℕ, ◌-◌, ◌*◌, ◌<◌, ◌≤◌, length, IfSome, IsNone}
use Rattle.po_queues.specs.Busy.{bit_of, IsNextBit}
use Rattle.po_queues.proofs.bits.Bits.next.Given as goal

abbrev pub invariant-loop-found : goal.invariant-loop-found
invariant-loop-found l = record {
  near : l.from < 64 * l.word;
  found : IfSome l.found (λ b. IsNextBit l.self.words.items l.from b);
  clear : IsNone l.found → (b : ℕ) → l.from ≤ b → b < 64 * l.word → bit_of l.self.words.items b ≡ 0;
}

abbrev pub decreases-loop-found : goal.decreases-loop-found
decreases-loop-found l = length l.self.words.items - l.word
