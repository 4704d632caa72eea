-- A space as the text of a parameter file.
use Rattle.std.specs.Prelude.{ℕ, List, [], ◌∷◌, ◌++◌, map, codes}
use Rattle.std.specs.List.{flat_map, slice_index_or}
use Rattle.param_space.specs.declared.lists.Param.{Param}
use Rattle.param_space.specs.declared.lists.Condition.{Condition}
use Rattle.param_space.specs.declared.lists.Pick.{Pick}
use Rattle.param_space.specs.declared.lists.Forbidden.{Forbidden}
use Rattle.param_space.specs.Space.{Lists}

-- texts parted by a comma and a space
abbrev pub with_commas : List (List ℕ) → List ℕ
with_commas [] = []
with_commas (t ∷ []) = t
with_commas (t ∷ u ∷ later) = t ++ (codes ", " ++ with_commas (u ∷ later))

-- the name of the parameter with this number
abbrev pub param_name : List Param → ℕ → List ℕ
param_name params p = slice_index_or (map (λ q. q.name) params) p []

-- a value of the parameter with this number
abbrev pub value_of : List Param → ℕ → ℕ → List ℕ
value_of params p v = slice_index_or (slice_index_or (map (λ q. q.values) params) p []) v []

-- the values of a parameter with these numbers, parted by a comma and a space
abbrev pub values_text : List Param → ℕ → List ℕ → List ℕ
values_text params p values = with_commas (map (value_of params p) values)

-- `name {v1, v2} [default]`
unfoldable pub param_line : Param → List ℕ
param_line p = p.name ++ (codes " {" ++ (with_commas p.values ++ (codes "} [" ++ (slice_index_or p.values p.default [] ++ codes "]"))))

-- `child | parent in {v1, v2}`
unfoldable pub condition_line : List Param → Condition → List ℕ
condition_line params c =
    param_name params c.child ++ (codes " | " ++ (param_name params c.parent ++ (codes " in {"
    ++ (values_text params c.parent c.values ++ codes "}"))))

-- `name=value`
abbrev pub pick_text : List Param → Pick → List ℕ
pick_text params k = param_name params k.param ++ (codes "=" ++ value_of params k.param k.value)

-- picks parted by a comma and a space
abbrev pub picks_text : List Param → List Pick → List ℕ
picks_text params picks = with_commas (map (pick_text params) picks)

-- `{name=value, name=value}`
unfoldable pub clause_line : List Param → Forbidden → List ℕ
clause_line params f = codes "{" ++ (picks_text params f.picks ++ codes "}")

-- the lines of parameters, each ended by a line feed
abbrev pub params_text : List Param → List ℕ
params_text params = flat_map (λ p. param_line p ++ codes "\n") params

-- the lines of conditions, each ended by a line feed
abbrev pub conditions_text : List Param → List Condition → List ℕ
conditions_text params conditions = flat_map (λ c. condition_line params c ++ codes "\n") conditions

-- the lines of clauses, each ended by a line feed
abbrev pub clauses_text : List Param → List Forbidden → List ℕ
clauses_text params clauses = flat_map (λ f. clause_line params f ++ codes "\n") clauses

-- the lines of a space: its parameters, its conditions, its clauses
abbrev pub space_lines : Lists → List (List ℕ)
space_lines lists = map param_line lists.params ++ (map (condition_line lists.params) lists.conditions ++ map (clause_line lists.params) lists.forbidden)

-- the lines of a space, each ended by a line feed
abbrev pub space_text : Lists → List ℕ
space_text lists = flat_map (λ line. line ++ codes "\n") (space_lines lists)
