-- The loop of `digits`: the digits passed spell `number`, which is below 16 to the power of their count, and reading on from there is reading the whole text from 0.
use Rattle.std.proofs.Common.{◌≡◌, ◌<◌, ◌^◌, drop}
use Rattle.replay.specs.Words.{digits_of}
use Rattle.replay.proofs.digits.Given as goal

abbrev pub invariant-loop-byte : goal.invariant-loop-byte
invariant-loop-byte l = record {
  small : l.number < 16 ^ l.byte-index;
  onward : digits_of (drop l.byte-index l.text) l.number ≡ digits_of l.text 0;
}
