use Rattle.std.proofs.Common.{◌≡◌, drop}
use Rattle.record_sums.specs.Crc32c.{state_after, turned}
use Rattle.record_sums.proofs.castagnoli.crc32c.Given as goal

-- the bytes that are left lead to the state after all
abbrev pub invariant-loop-byte : goal.invariant-loop-byte
invariant-loop-byte l = state_after l.state (drop l.byte-index l.bytes) ≡ state_after (turned l.fn.before) l.bytes
