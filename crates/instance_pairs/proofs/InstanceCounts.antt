-- How many instances a file has.
use Rattle.std.specs.Prelude.{ℕ, ◌≡◌, ◌≤◌, ◌<◌, Bool, true, false, List, [], ◌∷◌, ◌++◌, Option, Some, None, Ok, Err, nat_lt, length, refl}
use Rattle.std.specs.Str.{is_utf8}
use Rattle.std.proofs.Common.{subst, arith, cond}
use Rattle.std.proofs.lemmas.Bool.Decides.{nat_tests}
use Rattle.std.proofs.lemmas.List.{length-append}
use Rattle.plain_text.specs.Faults.{in_line}
use Rattle.plain_text.specs.LineFolds.{fold_lines}
use Rattle.plain_text.specs.Results.{◌>>=◌}
use Rattle.instance_pairs.specs.declared.faults.InstanceWhat.TheVariants.{NotText, TooMany}
use Rattle.instance_pairs.specs.declared.instances.Instance.{Instance}
use Rattle.instance_pairs.specs.Files.{instance_of, with_instance, with_line}
use Rattle.instance_pairs.specs.Limits.{max_instances}

-- lines add no instance past the last that there is room for
pub few_lines : (kept : List Instance) (lines : List (ℕ × List ℕ)) (is : List Instance) → length kept ≤ max_instances → fold_lines with_line kept lines ≡ Ok is → length is ≤ max_instances
unfolding fold_lines with_line
few_lines kept [] is h e = let same : kept ≡ is = cc in subst (λ xs. length xs ≤ max_instances) same h
few_lines kept ((number, line) ∷ later) is h e = by (is_utf8 line) (λ more few all. few_lines more later is few all) e
  where
    Others : Type 0
    Others = (more : List Instance) → length more ≤ max_instances → fold_lines with_line more later ≡ Ok is → length is ≤ max_instances

    room : (i : Instance) (b : Bool) → nat_lt (length kept) max_instances ≡ b → Others
        → in_line number (cond b (Ok (kept ++ i ∷ [])) (Err TooMany)) >>= (λ more. fold_lines with_line more later) ≡ Ok is → length is ≤ max_instances
    room i true test others e = others (kept ++ i ∷ []) (let less : length kept < max_instances = grind (arith, nat_tests, test) in omega (arith, less, length-append kept (i ∷ []))) e
    room i false test others e = absurd (cc)

    stated : (o : Option Instance) → Others → in_line number (with_instance kept o) >>= (λ more. fold_lines with_line more later) ≡ Ok is → length is ≤ max_instances
    stated None others e = others kept h e
    stated (Some i) others e = room i (nat_lt (length kept) max_instances) refl others e

    by : (b : Bool) → Others → in_line number (cond b (with_instance kept (instance_of line)) (Err NotText)) >>= (λ more. fold_lines with_line more later) ≡ Ok is → length is ≤ max_instances
    by true others e = stated (instance_of line) others e
    by false others e = absurd (cc)
