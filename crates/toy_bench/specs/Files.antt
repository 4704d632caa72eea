-- The files of a toy, by its number.
use Rattle.std.specs.Prelude.{ℕ, zero, suc, List, [], ◌∷◌, ◌++◌, codes}
use Rattle.std.specs.Fmt.{decimal}
use Rattle.outside.specs.Folders.{Folder}

-- the scenario: FocusedILS over at most 100 pairs, 500 comparisons, with the toy's number as the seed of all draws
abbrev pub scenario_text : ℕ → List ℕ
scenario_text number =
    codes "algo = toy\ncutoff_time = 5\noverall_obj = mean10\nparamfile = toy-params\ninstance_file = toy-instances\napproach = focused\nN = 100\nmaxComparisons = 500\n"
    ++ (codes "numRun = " ++ (decimal number ++ codes "\n"))

-- the line of an instance
abbrev pub instance_line : ℕ → ℕ → List ℕ
instance_line number place = codes "t" ++ (decimal place ++ (codes " " ++ (decimal number ++ codes "\n")))

-- the lines of so many instances
unfoldable pub instances_text : ℕ → ℕ → List ℕ
instances_text number zero = []
instances_text number (suc n) = instances_text number n ++ instance_line number (suc n)

-- four parameters of seven values each
abbrev pub params_text : List ℕ
params_text =
    codes "alpha {1.01, 1.066, 1.126, 1.189, 1.256, 1.326, 1.4} [1.189]\nps {0, 0.033, 0.066, 0.1, 0.133, 0.166, 0.2} [0.1]\nrho {0, 0.17, 0.333, 0.5, 0.666, 0.83, 1} [0.5]\nwp {0, 0.01, 0.02, 0.03, 0.04, 0.05, 0.06} [0.03]\n"

-- the three files, none of whose reads fails
abbrev pub toy_folder : ℕ → Folder
toy_folder number = record {
  files = record { name = codes "toy-params"; bytes = params_text }
      ∷ record { name = codes "toy-instances"; bytes = instances_text number 100 }
      ∷ record { name = codes "toy"; bytes = scenario_text number }
      ∷ [];
  bad_reads = [];
  reads = 0;
  faults = 0;
}
