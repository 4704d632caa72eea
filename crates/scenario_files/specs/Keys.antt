-- The keys of a scenario and their names.
use Rattle.std.specs.Prelude.{ℕ, List, [], ◌∷◌, Option, bytes_eq, codes}
use Rattle.std.specs.List.{find}
use Rattle.scenario_files.specs.declared.keys.Key.{Key}
use Rattle.scenario_files.specs.declared.keys.Key.TheVariants.{Algo, Execdir, Deterministic, RunObj, OverallObj, CutoffTime, CutoffLength, TunerTimeout, Paramfile, Outdir, ValidN, InstanceFile, TestInstanceFile, Approach, N, NumRun, MaxComparisons, Workers, R, S, PRestart, CapFloor, PairOrder}

-- a key's name
abbrev pub name_of : Key → List ℕ
name_of Algo = codes "algo"
name_of Execdir = codes "execdir"
name_of Deterministic = codes "deterministic"
name_of RunObj = codes "run_obj"
name_of OverallObj = codes "overall_obj"
name_of CutoffTime = codes "cutoff_time"
name_of CutoffLength = codes "cutoff_length"
name_of TunerTimeout = codes "tunerTimeout"
name_of Paramfile = codes "paramfile"
name_of Outdir = codes "outdir"
name_of ValidN = codes "validN"
name_of InstanceFile = codes "instance_file"
name_of TestInstanceFile = codes "test_instance_file"
name_of Approach = codes "approach"
name_of N = codes "N"
name_of NumRun = codes "numRun"
name_of MaxComparisons = codes "maxComparisons"
name_of Workers = codes "workers"
name_of R = codes "r"
name_of S = codes "s"
name_of PRestart = codes "p_restart"
name_of CapFloor = codes "cap_floor"
name_of PairOrder = codes "pair_order"

-- all keys
abbrev pub keys : List Key
keys =
    Algo ∷ Execdir ∷ Deterministic ∷ RunObj ∷ OverallObj ∷ CutoffTime ∷ CutoffLength ∷ TunerTimeout ∷ Paramfile ∷ Outdir ∷ ValidN ∷ InstanceFile
    ∷ TestInstanceFile ∷ Approach ∷ N ∷ NumRun ∷ MaxComparisons ∷ Workers ∷ R ∷ S ∷ PRestart ∷ CapFloor ∷ PairOrder ∷ []

-- the key with a name
unfoldable pub key_of : List ℕ → Option Key
key_of name = find (λ k. bytes_eq (name_of k) name) keys
