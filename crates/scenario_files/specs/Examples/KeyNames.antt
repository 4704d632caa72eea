-- Each key is found by its name.
use Rattle.std.specs.Prelude.{◌≡◌, Some, refl}
use Rattle.scenario_files.specs.declared.keys.Key.{Key}
use Rattle.scenario_files.specs.declared.keys.Key.TheVariants.{Algo, Execdir, Deterministic, RunObj, OverallObj, CutoffTime, CutoffLength, TunerTimeout, Paramfile, Outdir, ValidN, InstanceFile, TestInstanceFile, Approach, N, NumRun, MaxComparisons, Workers, R, S, PRestart, CapFloor, PairOrder}
use Rattle.scenario_files.specs.Keys.{name_of, key_of}

-- each key is found by its name
pub own_name : (k : Key) → key_of (name_of k) ≡ Some k
unfolding key_of
own_name Algo = refl
own_name Execdir = refl
own_name Deterministic = refl
own_name RunObj = refl
own_name OverallObj = refl
own_name CutoffTime = refl
own_name CutoffLength = refl
own_name TunerTimeout = refl
own_name Paramfile = refl
own_name Outdir = refl
own_name ValidN = refl
own_name InstanceFile = refl
own_name TestInstanceFile = refl
own_name Approach = refl
own_name N = refl
own_name NumRun = refl
own_name MaxComparisons = refl
own_name Workers = refl
own_name R = refl
own_name S = refl
own_name PRestart = refl
own_name CapFloor = refl
own_name PairOrder = refl
