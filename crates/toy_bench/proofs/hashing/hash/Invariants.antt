use Rattle.std.proofs.Common.{◌≡◌, take}
use Rattle.toy_bench.specs.Hashes.{hash_of}
use Rattle.toy_bench.proofs.hashing.hash.Given as goal

-- the hash of the bytes so far
abbrev pub invariant-loop-byte : goal.invariant-loop-byte
invariant-loop-byte l = l.hash ≡ hash_of (take l.byte-index l.text)
