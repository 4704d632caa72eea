-- Hashes and runs of a toy, worked out.
use Rattle.std.specs.Prelude.{ℕ, ◌≡◌, List, [], ◌∷◌, codes, refl}
use Rattle.std.specs.Fmt.{digits}
use Rattle.objective.specs.declared.Outcome.TheVariants.{Solved, Unsolved}
use Rattle.wrapper_lines.specs.declared.runs.Key.{Key}
use Rattle.wrapper_lines.specs.declared.runs.Setting.{Setting}
use Rattle.toy_bench.specs.Hashes.{hash_of}
use Rattle.toy_bench.specs.Outcomes.{key_text, toy_outcome, toy_looks}

-- ---- hashes

of_nothing : hash_of [] ≡ 14695981039346656037
unfolding hash_of
of_nothing = refl

of_a : hash_of (codes "a") ≡ 12638187200555641996
unfolding hash_of
of_a = refl

of_foobar : hash_of (codes "foobar") ≡ 9625390261332436968
unfolding hash_of
of_foobar = refl

-- ---- runs

setting : List ℕ → List ℕ → Setting
setting name value = record { name = name; value = value }

-- the default settings on the first instance of the toy 1
usual : Key
usual = record {
  instance = codes "t1";
  specifics = codes "1";
  seed = 5;
  settings = setting (codes "alpha") (codes "1.189") ∷ setting (codes "ps") (codes "0.1") ∷ setting (codes "rho") (codes "0.5") ∷ setting (codes "wp") (codes "0.03") ∷ [];
}

-- bad settings on the third one
slow : Key
slow = record {
  instance = codes "t3";
  specifics = codes "1";
  seed = 5;
  settings = setting (codes "alpha") (codes "1.01") ∷ setting (codes "ps") (codes "0") ∷ setting (codes "rho") (codes "0.5") ∷ setting (codes "wp") (codes "0.05") ∷ [];
}

text_of_usual : key_text usual ≡ codes "t1 1 5 alpha=1.189 ps=0.1 rho=0.5 wp=0.03"
unfolding digits usual setting
text_of_usual = refl

-- 1,550 milliseconds by the settings, and 1,505 by chance
outcome_of_usual : toy_outcome usual ≡ Solved (record { 0 = 3055000 })
unfolding digits usual setting hash_of
outcome_of_usual = refl

looks_of_usual : toy_looks usual ≡ 1
unfolding digits usual setting hash_of
looks_of_usual = refl

-- 5,191 milliseconds in all
outcome_of_slow : toy_outcome slow ≡ Unsolved
unfolding digits slow setting hash_of
outcome_of_slow = refl
