-- The lines of a space as they are formatted.
use Rattle.std.specs.Prelude.{ℕ, ◌≡◌, List, [], ◌++◌, map, codes}
use Rattle.std.specs.List.{slice_index_or}
use Rattle.std.proofs.lemmas.List.{append_assoc}
use Rattle.param_space.specs.declared.lists.Param.{Param}
use Rattle.param_space.specs.declared.lists.Condition.{Condition}
use Rattle.param_space.specs.declared.lists.Forbidden.{Forbidden}
use Rattle.param_files.specs.PrintedLines.{with_commas, param_name, value_of, param_line, condition_line, pick_text, clause_line}

-- the line of a parameter
pub param_text : (p : Param) (name values default : List ℕ) → name ≡ p.name → values ≡ with_commas p.values → default ≡ slice_index_or p.values p.default []
    → name ++ (codes " {" ++ (values ++ (codes "} [" ++ (default ++ codes "]\n")))) ≡ param_line p ++ codes "\n"
unfolding param_line
param_text p name values default n v d = rw (n, v, d) (simp append_assoc)

-- the line of a condition
pub condition_text : (params : List Param) (c : Condition) (child parent values : List ℕ) → child ≡ param_name params c.child → parent ≡ param_name params c.parent → values ≡ with_commas (map (value_of params c.parent) c.values)
    → child ++ (codes " | " ++ (parent ++ (codes " in {" ++ (values ++ codes "}\n")))) ≡ condition_line params c ++ codes "\n"
unfolding condition_line
condition_text params c child parent values n p v = rw (n, p, v) (simp append_assoc)

-- the line of a clause
pub clause_text : (params : List Param) (f : Forbidden) (picks : List ℕ) → picks ≡ with_commas (map (pick_text params) f.picks) → codes "{" ++ (picks ++ codes "}\n") ≡ clause_line params f ++ codes "\n"
unfolding clause_line
clause_text params f picks e = rw e (simp append_assoc)
