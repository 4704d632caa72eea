use Rattle.std.proofs.Common.{subst}
use Rattle.std.specs.Prelude.{IsUtf8}
use Rattle.std.proofs.lemmas.Str.{IsUtf8-string_bytes}
use Rattle.param_files.proofs.RoundTrip.{reads_back}
use Rattle.param_files.proofs.printer.print_params.Goals as goal

-- the text is UTF-8, since it is a String
pub returns-clause-reads_back : goal.returns-clause-reads_back
returns-clause-reads_back c =
    let utf8 = subst IsUtf8 c.in_ok-text.ensures.value (IsUtf8-string_bytes c.in_ok-text.text) in
    λ few. reads_back c.args.space.now c.in_ok-text.ensures.sound utf8 few
