use Rattle.std.proofs.Common.{◌≡◌}
use Rattle.std.specs.Prelude.{string_bytes}
use Rattle.toy_bench.specs.Files.{instances_text}
use Rattle.toy_bench.proofs.files.instances_text.Given as goal

-- the lines so far
abbrev pub invariant-loop-place : goal.invariant-loop-place
invariant-loop-place l = string_bytes l.text ≡ instances_text l.number l.place
