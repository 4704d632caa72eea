-- Numbers and files of a toy, worked out.
use Rattle.std.specs.Prelude.{◌≡◌, [], Some, None, codes, refl}
use Rattle.std.specs.Fmt.{digits}
use Rattle.toy_bench.specs.Numbers.{number_of}
use Rattle.toy_bench.specs.Files.{scenario_text, instances_text}

greatest : number_of (codes "4294967295") ≡ Some 4294967295
greatest = refl

too_great : number_of (codes "4294967296") ≡ None
too_great = refl

with_zeros : number_of (codes "007") ≡ Some 7
with_zeros = refl

empty : number_of [] ≡ None
empty = refl

signed : number_of (codes "+1") ≡ None
signed = refl

scenario_of_7 :
    scenario_text 7
    ≡ codes "algo = toy\ncutoff_time = 5\noverall_obj = mean10\nparamfile = toy-params\ninstance_file = toy-instances\napproach = focused\nN = 100\nmaxComparisons = 500\nnumRun = 7\n"
unfolding digits
scenario_of_7 = refl

two_instances_of_7 : instances_text 7 2 ≡ codes "t1 7\nt2 7\n"
unfolding digits instances_text
two_instances_of_7 = refl
