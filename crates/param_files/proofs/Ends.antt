-- Lines that don't end as their form asks.
use Rattle.std.proofs.Common.{ℕ, ◌≡◌, ◌≤◌, Bool, true, false, cond, List, [], ◌∷◌, Bor, Option, Some, None, length, drop, refl, ap, sym, ◌∙◌, arith}
use Rattle.std.specs.Option.{option_map}
use Rattle.std.proofs.lemmas.List.{drop-map, take_rest}
use Rattle.param_files.specs.declared.statements.NamedPick.{NamedPick}
use Rattle.param_files.specs.declared.statements.Statement.{Statement}
use Rattle.param_files.specs.Grammar.{value_list, pick_list, ended_clause, clause_of, ended_condition, condition_of, listed_parameter, default_of, parameter_of}
use Rattle.param_files.specs.declared.statements.Statement.TheVariants.{Parameter}
use Rattle.std.specs.Prelude.{bytes_eq, codes, get_or}
use Rattle.plain_text.specs.Words.{is_word}
use Rattle.param_files.proofs.Fronts.{texts, left}

-- what is left, as texts
pub texts-left : (ts : List (Bor (List ℕ))) (n : ℕ) → texts (left ts n) ≡ drop n (texts ts)
texts-left ts n = ap texts (take_rest ts n) ∙ sym (drop-map (λ t. t.now) n ts)

either_none : (b : Bool) (s : Option Statement) → s ≡ None → None ≡ cond b s None
either_none true s h = sym h
either_none false s h = refl

clause_none : (tokens : List (List ℕ)) → ended_clause (pick_list (drop 1 tokens)) ≡ None → None ≡ clause_of tokens
unfolding clause_of
clause_none [] h = refl
clause_none (brace ∷ rest) h = either_none _ (ended_clause (pick_list rest)) h

condition_none : (tokens : List (List ℕ)) → ((child parent : List ℕ) → ended_condition child parent (value_list (drop 5 tokens)) ≡ None) → None ≡ condition_of tokens
unfolding condition_of
condition_none [] h = refl
condition_none (a ∷ []) h = refl
condition_none (a ∷ b ∷ []) h = refl
condition_none (a ∷ b ∷ c ∷ []) h = refl
condition_none (a ∷ b ∷ c ∷ d ∷ []) h = refl
condition_none (a ∷ b ∷ c ∷ d ∷ e ∷ rest) h = either_none _ (ended_condition a c (value_list rest)) (h a c)

-- a clause that goes on after its closing brace
pub clause_goes_on : (ts : List (Bor (List ℕ))) (picks : List NamedPick) (tail : List (List ℕ)) (t : List ℕ) (later : List (List ℕ)) → Some (picks, tail) ≡ pick_list (texts (left ts 1)) → tail ≡ t ∷ later → None ≡ clause_of (texts ts)
clause_goes_on ts picks tail t later read more =
    clause_none (texts ts) (ap (λ r. ended_clause (pick_list r)) (sym (texts-left ts 1)) ∙ ap ended_clause (sym read) ∙ ap (λ r. ended_clause (Some (picks, r))) more)

-- a condition that does
pub condition_goes_on : (ts : List (Bor (List ℕ))) (values tail : List (List ℕ)) (t : List ℕ) (later : List (List ℕ)) → Some (values, tail) ≡ value_list (texts (left ts 5)) → tail ≡ t ∷ later → None ≡ condition_of (texts ts)
condition_goes_on ts values tail t later read more =
    condition_none (texts ts) (λ child parent. ap (λ r. ended_condition child parent (value_list r)) (sym (texts-left ts 5)) ∙ ap (ended_condition child parent) (sym read) ∙ ap (λ r. ended_condition child parent (Some (values, r))) more)

parameter_none : (tokens : List (List ℕ)) → ((name : List ℕ) → listed_parameter name (value_list (drop 2 tokens)) ≡ None) → None ≡ parameter_of tokens
unfolding parameter_of
parameter_none [] h = refl
parameter_none (a ∷ []) h = refl
parameter_none (a ∷ b ∷ rest) h = either_none _ (listed_parameter a (value_list rest)) (h a)

-- a parameter without a default
pub parameter_without : (ts : List (Bor (List ℕ))) (values tail : List (List ℕ)) → Some (values, tail) ≡ value_list (texts (left ts 2)) → None ≡ default_of tail → None ≡ parameter_of (texts ts)
parameter_without ts values tail read none =
    parameter_none (texts ts) (λ name. ap (λ r. listed_parameter name (value_list r)) (sym (texts-left ts 2)) ∙ ap (listed_parameter name) (sym read) ∙ ap (option_map (Parameter name values)) (sym none))

-- a token
abbrev pub token : List (Bor (List ℕ)) → ℕ → List ℕ
token ts i = (get_or ts i (record { ref_ptr = (0, 0); now = [] })).now

starts : (ts : List (Bor (List ℕ))) → 2 ≤ length ts → texts ts ≡ token ts 0 ∷ token ts 1 ∷ drop 2 (texts ts)
starts [] h = absurd (omega (arith, h))
starts (a ∷ []) h = absurd (omega (arith, h))
starts (a ∷ b ∷ rest) h = refl

-- a parameter with its default
pub parameter_with : (ts : List (Bor (List ℕ))) (values tail kept : List (List ℕ)) (name default : List ℕ) → 2 ≤ length ts → true ≡ is_word (token ts 0) → true ≡ bytes_eq (token ts 1) (codes "{")
    → Some (values, tail) ≡ value_list (texts (left ts 2)) → Some default ≡ default_of tail → name ≡ token ts 0 → kept ≡ values → Some (Parameter name kept default) ≡ parameter_of (texts ts)
unfolding parameter_of
parameter_with ts values tail kept name default some word brace read default-is same same_values =
    sym (ap parameter_of (starts ts some) ∙ rw (← word, ← brace, ← texts-left ts 2, ← read, ← default-is, same, same_values) refl)
