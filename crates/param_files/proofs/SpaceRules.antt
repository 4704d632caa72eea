-- What passes the reading up to the numbers breaks no rule of a space but, perhaps, one of the whole.
use Rattle.std.specs.Prelude.{ℕ, ◌≡◌, ◌<◌, ◌≤◌, ◌+◌, Bool, true, false, not, ◌&&◌, ◌||◌, List, [], ◌∷◌, ◌++◌, Option, Some, None, Result, Ok, Err, ok_or, nat_lt, nat_le, length, map, option_map, bytes_eq, refl}
use Rattle.std.specs.List.{All, list_any, list_all, filter, position_or_len}
use Rattle.std.proofs.Common.{ap, sym, ◌∙◌, subst, arith, cond}
use Rattle.std.proofs.lemmas.Bool.{and_from, and_parts, ltb-true, leb-true}
use Rattle.std.proofs.lemmas.Bool.Decides.{nat_tests}
use Rattle.std.proofs.lemmas.List.{append_assoc, append-nil, length-append, map-append}
use Rattle.std.proofs.lemmas.List.Elements.{All-nil, All-head, All-tail, All-push, filter-append}
use Rattle.plain_text.specs.Faults.{LineFault, in_line}
use Rattle.plain_text.specs.LineFolds.{fold_lines}
use Rattle.plain_text.specs.Results.{◌>>=◌}
use Rattle.plain_text.specs.Words.{is_word}
use Rattle.param_space.specs.Limits
use Rattle.param_space.specs.declared.lists.Param.{Param}
use Rattle.param_space.specs.declared.lists.Condition as condition
use Rattle.param_space.specs.declared.lists.Pick.{Pick}
use Rattle.param_space.specs.declared.lists.Forbidden.{Forbidden}
use Rattle.param_space.specs.declared.lists.Part.TheVariants as part
use Rattle.param_space.specs.declared.lists.SpaceWhat.{SpaceWhat}
use Rattle.param_space.specs.declared.lists.SpaceWhat.TheVariants.{UnknownName, UnknownValue}
use Rattle.param_space.specs.Space.{value_count}
use Rattle.param_space.specs.Faults
use Rattle.param_space.specs.Faults.{first_broken, first_in, numbers_differ, param_rules, param_fault, later_params_fault, params_fault, condition_fault, clause_fault, whole_fault, space_fault, AreFaultless}
use Rattle.plain_text.specs.Texts.{texts_differ}
use Rattle.param_space.proofs.RuleLemmas.{rules_hold, none_broken, none_here}
use Rattle.param_space.proofs.SpaceSizes.{few_params, few_values}
use Rattle.param_files.specs.declared.faults.ParamWhat.{ParamWhat}
use Rattle.param_files.specs.declared.statements.NamedPick.{NamedPick}
use Rattle.param_files.specs.declared.statements.Statement.{Statement}
use Rattle.param_files.specs.declared.statements.Statement.TheVariants.{Nothing, Parameter, Condition, Clause}
use Rattle.param_files.specs.Reading.{unless, of_space, numbered_param, params_in, is_condition, is_clause, parameter_line_rules, condition_line_rules, clause_line_rules, fault_after, statement_fault, statement_check, line_stated, all_some, param_number, value_number, condition_numbered, pick_of, pick_numbered, clause_numbered, NumberedRelations, with_condition, with_clause, all_numbered, lists_of, some_params, with_line}
use Rattle.param_files.specs.KeptStatements.{AreFew}
use Rattle.param_files.proofs.StatementForms.{IsFormed, line_formed}
use Rattle.param_files.proofs.TextNumbers.{length-all_some, list_all-all_some, map-all_some, values_apart, picks_apart, param_below, value_below}

-- ---- lines

-- what a condition or a clause keeps by itself
abbrev pub IsGood : Statement → Type 0
IsGood Nothing = Unit {0}
IsGood (Parameter name values default) = Unit {0}
IsGood (Condition child parent values) = (0 < length values) × (texts_differ values ≡ true)
IsGood (Clause picks) = (0 < length picks) × (length picks ≤ Limits.max_picks) × (texts_differ (map (λ k. k.name) picks) ≡ true)

-- what statements with their lines keep: no rule of parameters is broken, and the other lists keep their limits
pub record IsPassed (stated : List (ℕ × Statement)) : Type 0 where
  pub params : later_params_fault [] 0 (params_in (map (λ s. s.1) stated)) ≡ None
  pub each : All (λ s. IsGood s.1) stated
  pub conditions : length (filter is_condition (map (λ s. s.1) stated)) ≤ Limits.max_conditions
  pub clauses : length (filter is_clause (map (λ s. s.1) stated)) ≤ Limits.max_clauses

-- a text that is found stands before the end
found_before : {X : Type 0} (p : X → Bool) (xs : List X) → list_any p xs ≡ true → position_or_len p xs < length xs
found_before p [] h = absurd (cc)
found_before p (x ∷ xs) h = by (p x) (found_before p xs) h
  where
    by : (b : Bool) → (list_any p xs ≡ true → position_or_len p xs < length xs) → (b || list_any p xs) ≡ true → cond (not b) (1 + position_or_len p xs) 0 < length (x ∷ xs)
    by true later h = omega arith
    by false later h = let below = later h in omega (arith, below)

named_alike : (name : List ℕ) (params : List Param) → list_any (bytes_eq name) (map (λ p. p.name) params) ≡ list_any (λ p. bytes_eq name p.name) params
named_alike name [] = refl
named_alike name (p ∷ ps) = ap (λ rest. bytes_eq name p.name || rest) (named_alike name ps)

-- a parameter that keeps the rules of its line breaks none of a space
param_passes : (params : List Param) (name : List ℕ) (values : List (List ℕ)) (default : List ℕ) → IsFormed (Parameter name values default) → first_broken (parameter_line_rules params name values default) ≡ None
    → param_fault (map (λ p. p.name) params) (length params) (numbered_param name values default) ≡ None
param_passes params name values default formed h =
    let kept = rules_hold (parameter_line_rules params name values default) h in
    let before = found_before (bytes_eq default) values kept.1.1.1.0 in
    let below : nat_lt (position_or_len (bytes_eq default) values) (length values) ≡ true = grind (arith, nat_tests, before) in
    let words = formed.1.1 in
    let some : nat_lt 0 (length values) ≡ true = grind (arith, nat_tests, words) in
    none_broken (param_rules (map (λ p. p.name) params) (length params) (numbered_param name values default))
    (kept.0, (and_from (is_word name) (list_all is_word values) formed.0 formed.1.0, (ap not (named_alike name params) ∙ kept.1.0, (some, (kept.1.1.0, (below, tt))))))

-- one more parameter without a fault
params_more : (params : List Param) (p : Param) (earlier : List (List ℕ)) (place : ℕ) → later_params_fault earlier place params ≡ None → param_fault (earlier ++ map (λ q. q.name) params) (place + length params) p ≡ None
    → later_params_fault earlier place (params ++ p ∷ []) ≡ None
params_more [] p earlier place h last =
    let here : param_fault earlier place p ≡ None = ap (λ names. param_fault names place p) (sym (append-nil earlier)) ∙ ap (λ n. param_fault (earlier ++ []) n p) (omega arith) ∙ last in
    rw here refl
params_more (q ∷ qs) p earlier place h last =
    let none = none_here part.Param place (param_fault earlier place q) (later_params_fault (earlier ++ q.name ∷ []) (place + 1) qs) h in
    let names = append_assoc earlier (q.name ∷ []) (map (λ r. r.name) qs) in
    let moved : param_fault ((earlier ++ q.name ∷ []) ++ map (λ r. r.name) qs) (place + 1 + length qs) p ≡ None =
    ap (λ ns. param_fault ns (place + 1 + length qs) p) names ∙ ap (λ n. param_fault (earlier ++ q.name ∷ map (λ r. r.name) qs) n p) (omega arith) ∙ last in
    rw (none.0, params_more qs p (earlier ++ q.name ∷ []) (place + 1) none.1 moved) refl

-- parameters without a fault are few
few_of : (params : List Param) → later_params_fault [] 0 params ≡ None → AreFew params
few_of [] h = record { count = omega arith; values = All-nil (λ p. length p.values ≤ Limits.max_values) }
few_of (p ∷ later) h = record { count = few_params (p ∷ later) h; values = λ i d below. few_values (p ∷ later) i d h below }

params_in-append : (xs ys : List Statement) → params_in (xs ++ ys) ≡ params_in xs ++ params_in ys
unfolding params_in
params_in-append [] ys = refl
params_in-append (Nothing ∷ xs) ys = params_in-append xs ys
params_in-append (Parameter name values default ∷ xs) ys = ap (λ ps. numbered_param name values default ∷ ps) (params_in-append xs ys)
params_in-append (Condition child parent values ∷ xs) ys = params_in-append xs ys
params_in-append (Clause picks ∷ xs) ys = params_in-append xs ys

-- statements without one more
module _ (stated : List (ℕ × Statement)) (line : ℕ) (s : Statement) where
  statements : map (λ x. x.1) (stated ++ (line, s) ∷ []) ≡ map (λ x. x.1) stated ++ s ∷ []
  statements = map-append (λ x. x.1) stated ((line, s) ∷ [])

  params_then : params_in (map (λ x. x.1) (stated ++ (line, s) ∷ [])) ≡ params_in (map (λ x. x.1) stated) ++ params_in (s ∷ [])
  params_then = ap params_in statements ∙ params_in-append (map (λ x. x.1) stated) (s ∷ [])

  count_then : (test : Statement → Bool) → length (filter test (map (λ x. x.1) (stated ++ (line, s) ∷ []))) ≡ length (filter test (map (λ x. x.1) stated)) + length (filter test (s ∷ []))
  count_then test = ap (λ ss. length (filter test ss)) statements ∙ ap length (filter-append test (map (λ x. x.1) stated) (s ∷ [])) ∙ length-append (filter test (map (λ x. x.1) stated)) (filter test (s ∷ []))

-- one more statement that keeps the rules of its line
passed_more : (stated : List (ℕ × Statement)) (line : ℕ) (s : Statement) → IsPassed stated → IsFormed s → statement_fault (map (λ x. x.1) stated) s ≡ None → IsPassed (stated ++ (line, s) ∷ [])
unfolding fault_after params_in
passed_more stated line Nothing passed formed h =
    let same : params_in (map (λ x. x.1) (stated ++ (line, Nothing) ∷ [])) ≡ params_in (map (λ x. x.1) stated) = params_then stated line Nothing ∙ append-nil (params_in (map (λ x. x.1) stated)) in
    record {
      params = ap (later_params_fault [] 0) same ∙ passed.params;
      each = All-push (λ x. IsGood x.1) stated (line, Nothing) passed.each tt;
      conditions = omega (arith, passed.conditions, count_then stated line Nothing is_condition);
      clauses = omega (arith, passed.clauses, count_then stated line Nothing is_clause);
    }
passed_more stated line (Parameter name values default) passed formed h =
    let s = Parameter name values default in
    let params = params_in (map (λ x. x.1) stated) in
    let last = param_passes params name values default formed h in
    record {
      params = ap (later_params_fault [] 0) (params_then stated line s) ∙ params_more params (numbered_param name values default) [] 0 passed.params (ap (λ n. param_fault (map (λ p. p.name) params) n (numbered_param name values default)) (omega arith) ∙ last);
      each = All-push (λ x. IsGood x.1) stated (line, s) passed.each tt;
      conditions = omega (arith, passed.conditions, count_then stated line s is_condition);
      clauses = omega (arith, passed.clauses, count_then stated line s is_clause);
    }
passed_more stated line (Condition child parent values) passed formed h =
    let s = Condition child parent values in
    let kept = rules_hold (condition_line_rules (length (filter is_condition (map (λ x. x.1) stated))) values) h in
    let first = kept.0 in
    let room : length (filter is_condition (map (λ x. x.1) stated)) < Limits.max_conditions = grind (arith, nat_tests, first) in
    let same : params_in (map (λ x. x.1) (stated ++ (line, s) ∷ [])) ≡ params_in (map (λ x. x.1) stated) = params_then stated line s ∙ append-nil (params_in (map (λ x. x.1) stated)) in
    record {
      params = ap (later_params_fault [] 0) same ∙ passed.params;
      each = All-push (λ x. IsGood x.1) stated (line, s) passed.each (formed, kept.1.0);
      conditions = omega (arith, room, count_then stated line s is_condition);
      clauses = omega (arith, passed.clauses, count_then stated line s is_clause);
    }
passed_more stated line (Clause picks) passed formed h =
    let s = Clause picks in
    let kept = rules_hold (clause_line_rules (length (filter is_clause (map (λ x. x.1) stated))) picks) h in
    let limits = and_parts (nat_lt (length (filter is_clause (map (λ x. x.1) stated))) Limits.max_clauses) (nat_le (length picks) Limits.max_picks) kept.0 in
    let room : length (filter is_clause (map (λ x. x.1) stated)) < Limits.max_clauses = ltb-true _ _ limits.0 in
    let short : length picks ≤ Limits.max_picks = leb-true _ _ limits.1 in
    let same : params_in (map (λ x. x.1) (stated ++ (line, s) ∷ [])) ≡ params_in (map (λ x. x.1) stated) = params_then stated line s ∙ append-nil (params_in (map (λ x. x.1) stated)) in
    record {
      params = ap (later_params_fault [] 0) same ∙ passed.params;
      each = All-push (λ x. IsGood x.1) stated (line, s) passed.each (formed, short, kept.1.0);
      conditions = omega (arith, passed.conditions, count_then stated line s is_condition);
      clauses = omega (arith, room, count_then stated line s is_clause);
    }

none_passed : IsPassed []
unfolding params_in
none_passed = record { params = refl; each = All-nil (λ s. IsGood s.1); conditions = omega arith; clauses = omega arith }

-- lines that are read keep that
lines_pass : (lines : List (ℕ × List ℕ)) (earlier stated : List (ℕ × Statement)) → IsPassed earlier → fold_lines with_line earlier lines ≡ Ok stated → IsPassed stated
unfolding fold_lines
lines_pass [] earlier stated passed h = subst IsPassed (same_ok earlier stated h) passed
  where
    same_ok : (x y : List (ℕ × Statement)) → ◌≡◌ {A = Result (List (ℕ × Statement)) (LineFault ParamWhat)} (Ok x) (Ok y) → x ≡ y
    same_ok x y e = cc
lines_pass ((number, line) ∷ later) earlier stated passed h =
    by (line_stated line) (line_formed line) (λ s none formed. lines_pass later (earlier ++ (number, s) ∷ []) stated (passed_more earlier number s passed formed none)) h
  where
    rest : Statement → Result (List (ℕ × Statement)) (LineFault ParamWhat)
    rest s = fold_lines with_line (earlier ++ (number, s) ∷ []) later

    at : (s : Statement) (o : Option SpaceWhat) → (o ≡ None → rest s ≡ Ok stated → IsPassed stated) → (in_line number (unless o s >>= λ x. Ok (earlier ++ (number, x) ∷ [])) >>= λ b. fold_lines with_line b later) ≡ Ok stated → IsPassed stated
    at s None go h = go refl h
    at s (Some what) go h = absurd (cc)

    by : (r : Result Statement ParamWhat) → ((s : Statement) → r ≡ Ok s → IsFormed s) → ((s : Statement) → statement_fault (map (λ x. x.1) earlier) s ≡ None → IsFormed s → rest s ≡ Ok stated → IsPassed stated)
        → (in_line number (r >>= statement_check (map (λ x. x.1) earlier) >>= λ x. Ok (earlier ++ (number, x) ∷ [])) >>= λ b. fold_lines with_line b later) ≡ Ok stated → IsPassed stated
    by (Err what) formed go h = absurd (cc)
    by (Ok s) formed go h = at s (statement_fault (map (λ x. x.1) earlier) s) (λ none. go s none (formed s refl)) h

-- ---- numbers

-- a condition by numbers breaks no rule of a space
condition_passes : (params : List Param) (child parent : List ℕ) (values : List (List ℕ)) (c : condition.Condition) (place : ℕ) → IsGood (Condition child parent values) → condition_numbered params child parent values ≡ Ok c → place < Limits.max_conditions
    → condition_fault params place c ≡ None
unfolding condition_numbered
condition_passes params child parent values c place good h room =
    by (param_number params child) (param_number params parent) (λ i. param_below params child i) (λ j. param_below params parent j) h
  where
    same_ok : (x y : condition.Condition) → ◌≡◌ {A = Result condition.Condition SpaceWhat} (Ok x) (Ok y) → x ≡ y
    same_ok x y e = cc

    made : (i j : ℕ) (vs : List ℕ) → nat_lt i (length params) ≡ true → nat_lt j (length params) ≡ true → all_some (value_number params j) values ≡ Some vs → condition_fault params place (record { child = i; parent = j; values = vs }) ≡ None
    made i j vs child_below parent_below read =
        let size = length-all_some (value_number params j) values vs read in
        let most : nat_lt place Limits.max_conditions ≡ true = grind (arith, nat_tests, room) in
        let first = good.0 in
        let some : nat_lt 0 (length vs) ≡ true = grind (arith, nat_tests, size, first) in
        none_broken (Faults.condition_rules params place (record { child = i; parent = j; values = vs }))
        (most, (some, (values_apart params j values vs read good.1, (and_from (nat_lt i (length params)) (nat_lt j (length params)) child_below parent_below, (list_all-all_some (value_number params j) (λ v. nat_lt v (value_count params j)) values vs (λ value n. value_below params j value n) read, tt)))))

    with_values : (i j : ℕ) (o : Option (List ℕ)) → nat_lt i (length params) ≡ true → nat_lt j (length params) ≡ true → all_some (value_number params j) values ≡ o
        → (ok_or o UnknownValue >>= λ vs. Ok (record { child = i; parent = j; values = vs })) ≡ Ok c → condition_fault params place c ≡ None
    with_values i j None a b read e = absurd (cc)
    with_values i j (Some vs) a b read e = subst (λ x. condition_fault params place x ≡ None) (same_ok (record { child = i; parent = j; values = vs }) c e) (made i j vs a b read)

    by : (o p : Option ℕ) → ((i : ℕ) → o ≡ Some i → nat_lt i (length params) ≡ true) → ((j : ℕ) → p ≡ Some j → nat_lt j (length params) ≡ true)
        → (ok_or o UnknownName >>= λ i. ok_or p UnknownName >>= λ j. ok_or (all_some (value_number params j) values) UnknownValue >>= λ vs. Ok (record { child = i; parent = j; values = vs })) ≡ Ok c → condition_fault params place c ≡ None
    by None p f g e = absurd (cc)
    by (Some i) None f g e = absurd (cc)
    by (Some i) (Some j) f g e = with_values i j (all_some (value_number params j) values) (f i refl) (g j refl) refl e

-- what a pick by numbers is
pick_known : (params : List Param) (k : NamedPick) (n : Pick) → pick_numbered params k ≡ Some n → (param_number params k.name ≡ Some n.param) × (value_number params n.param k.value ≡ Some n.value)
unfolding pick_numbered
pick_known params k n h = by (param_number params k.name) h
  where
    same_some : (x y : Pick) → Some x ≡ Some y → x ≡ y
    same_some x y e = cc

    at : (p : ℕ) (o : Option ℕ) → option_map (λ v. record { param = p; value = v }) o ≡ Some n → (p ≡ n.param) × (o ≡ Some n.value)
    at p None e = absurd (cc)
    at p (Some v) e = let same = same_some (record { param = p; value = v }) n e in (ap (λ x. x.param) same, ap (λ x. Some x.value) same)

    by : (o : Option ℕ) → pick_of params k.value o ≡ Some n → (o ≡ Some n.param) × (value_number params n.param k.value ≡ Some n.value)
    by None e = absurd (cc)
    by (Some p) e = let found = at p (value_number params p k.value) e in (ap Some found.0, ap (λ q. value_number params q k.value) (sym found.0) ∙ found.1)

-- a clause by numbers breaks no rule of a space
clause_passes : (params : List Param) (picks : List NamedPick) (f : Forbidden) (place : ℕ) → IsGood (Clause picks) → clause_numbered params picks ≡ Ok f → place < Limits.max_clauses → clause_fault params place f ≡ None
unfolding clause_numbered
clause_passes params picks f place good h room = by (all_some (λ k. param_number params k.name) picks) refl h
  where
    same_ok : (x y : Forbidden) → ◌≡◌ {A = Result Forbidden SpaceWhat} (Ok x) (Ok y) → x ≡ y
    same_ok x y e = cc

    made : (ns : List ℕ) (numbers : List Pick) → all_some (λ k. param_number params k.name) picks ≡ Some ns → all_some (pick_numbered params) picks ≡ Some numbers → clause_fault params place (record { picks = numbers }) ≡ None
    made ns numbers names read =
        let size = length-all_some (pick_numbered params) picks numbers read in
        let first = good.0 in
        let short = good.1 in
        let most : (nat_lt place Limits.max_clauses && nat_le (length numbers) Limits.max_picks) ≡ true = grind (arith, nat_tests, room, size, short) in
        let some : nat_lt 0 (length numbers) ≡ true = grind (arith, nat_tests, size, first) in
        let same : map (λ k. k.param) numbers ≡ ns = map-all_some (λ k. param_number params k.name) (pick_numbered params) (λ k. k.param) picks ns numbers (λ k n e. (pick_known params k n e).0) names read in
        none_broken (Faults.clause_rules params place (record { picks = numbers })) (
          most,
          (
            some,
            (
              ap numbers_differ same ∙ picks_apart params picks ns names good.2,
              (
                list_all-all_some (pick_numbered params) (λ k. nat_lt k.param (length params)) picks numbers (λ k n e. param_below params k.name n.param (pick_known params k n e).0) read,
                (list_all-all_some (pick_numbered params) (λ k. nat_lt k.value (value_count params k.param)) picks numbers (λ k n e. value_below params n.param k.value n.value (pick_known params k n e).1) read, tt),
              ),
            ),
          ),
        )

    with_values : (ns : List ℕ) (o : Option (List Pick)) → all_some (λ k. param_number params k.name) picks ≡ Some ns → all_some (pick_numbered params) picks ≡ o → (ok_or o UnknownValue >>= λ numbers. Ok (record { picks = numbers })) ≡ Ok f
        → clause_fault params place f ≡ None
    with_values ns None names read e = absurd (cc)
    with_values ns (Some numbers) names read e = subst (λ x. clause_fault params place x ≡ None) (same_ok (record { picks = numbers }) f e) (made ns numbers names read)

    by : (o : Option (List ℕ)) → all_some (λ k. param_number params k.name) picks ≡ o → (ok_or o UnknownName >>= λ _. ok_or (all_some (pick_numbered params) picks) UnknownValue >>= λ numbers. Ok (record { picks = numbers })) ≡ Ok f → clause_fault params place f ≡ None
    by None names e = absurd (cc)
    by (Some ns) names e = with_values ns (all_some (pick_numbered params) picks) names refl e

-- conditions and clauses by numbers, from a place on each, break no rule of a space
numbers_pass : (params : List Param) (stated : List (ℕ × Statement)) (numbered : NumberedRelations) (m n : ℕ) → All (λ s. IsGood s.1) stated
    → m + length (filter is_condition (map (λ s. s.1) stated)) ≤ Limits.max_conditions → n + length (filter is_clause (map (λ s. s.1) stated)) ≤ Limits.max_clauses → all_numbered params stated ≡ Ok numbered
    → (first_in part.Condition (condition_fault params) m numbered.conditions ≡ None) × (first_in part.Forbidden (clause_fault params) n numbered.clauses ≡ None)
unfolding all_numbered
numbers_pass params [] numbered m n good a b h =
    let same : numbered ≡ record { conditions = []; condition_lines = []; clauses = []; clause_lines = [] } = cc in
    (ap (λ x. first_in part.Condition (condition_fault params) m x.conditions) same, ap (λ x. first_in part.Forbidden (clause_fault params) n x.clauses) same)
numbers_pass params ((line, Nothing) ∷ later) numbered m n good a b h = numbers_pass params later numbered m n (All-tail (λ s. IsGood s.1) (line, Nothing) later good) a b h
numbers_pass params ((line, Parameter name values default) ∷ later) numbered m n good a b h =
    numbers_pass params later numbered m n (All-tail (λ s. IsGood s.1) (line, Parameter name values default) later good) a b h
numbers_pass params ((line, Condition child parent values) ∷ later) numbered m n good a b h =
    by (condition_numbered params child parent values) (all_numbered params later) refl (λ rest e. numbers_pass params later rest (m + 1) n (All-tail (λ s. IsGood s.1) (line, Condition child parent values) later good) (omega (arith, a)) b e) h
  where
    Passes : NumberedRelations → ℕ → Type 0
    Passes x k = (first_in part.Condition (condition_fault params) k x.conditions ≡ None) × (first_in part.Forbidden (clause_fault params) n x.clauses ≡ None)

    same_ok : (x y : NumberedRelations) → ◌≡◌ {A = Result NumberedRelations (LineFault ParamWhat)} (Ok x) (Ok y) → x ≡ y
    same_ok x y e = cc

    by : (r : Result condition.Condition SpaceWhat) (q : Result NumberedRelations (LineFault ParamWhat)) → condition_numbered params child parent values ≡ r → ((rest : NumberedRelations) → q ≡ Ok rest → Passes rest (m + 1))
        → (in_line line (of_space r) >>= λ c. q >>= λ x. Ok (with_condition line c x)) ≡ Ok numbered → Passes numbered m
    by (Err what) q is rest e = absurd (cc)
    by (Ok c) (Err fault) is rest e = absurd (cc)
    by (Ok c) (Ok x) is rest e =
        let here = condition_passes params child parent values c m (All-head (λ s. IsGood s.1) (line, Condition child parent values) later good) is (omega (arith, a)) in
        let after = rest x refl in
        subst (λ y. Passes y m) (same_ok (with_condition line c x) numbered e) (rw here after.0, after.1)
numbers_pass params ((line, Clause picks) ∷ later) numbered m n good a b h =
    by (clause_numbered params picks) (all_numbered params later) refl (λ rest e. numbers_pass params later rest m (n + 1) (All-tail (λ s. IsGood s.1) (line, Clause picks) later good) a (omega (arith, b)) e) h
  where
    Passes : NumberedRelations → ℕ → Type 0
    Passes x k = (first_in part.Condition (condition_fault params) m x.conditions ≡ None) × (first_in part.Forbidden (clause_fault params) k x.clauses ≡ None)

    same_ok : (x y : NumberedRelations) → ◌≡◌ {A = Result NumberedRelations (LineFault ParamWhat)} (Ok x) (Ok y) → x ≡ y
    same_ok x y e = cc

    by : (r : Result Forbidden SpaceWhat) (q : Result NumberedRelations (LineFault ParamWhat)) → clause_numbered params picks ≡ r → ((rest : NumberedRelations) → q ≡ Ok rest → Passes rest (n + 1))
        → (in_line line (of_space r) >>= λ f. q >>= λ x. Ok (with_clause line f x)) ≡ Ok numbered → Passes numbered n
    by (Err what) q is rest e = absurd (cc)
    by (Ok f) (Err fault) is rest e = absurd (cc)
    by (Ok f) (Ok x) is rest e =
        let here = clause_passes params picks f n (All-head (λ s. IsGood s.1) (line, Clause picks) later good) is (omega (arith, b)) in
        let after = rest x refl in
        subst (λ y. Passes y n) (same_ok (with_clause line f x) numbered e) (after.0, rw here after.1)

-- ---- the lists

-- what statements that were read and numbered make
module _ (lines : List (ℕ × List ℕ)) (stated : List (ℕ × Statement)) (read : fold_lines with_line [] lines ≡ Ok stated) where
  passed : IsPassed stated
  passed = lines_pass lines [] stated none_passed read

  -- there are few parameters, each with few values
  pub lines_few : AreFew (params_in (map (λ s. s.1) stated))
  lines_few = few_of (params_in (map (λ s. s.1) stated)) passed.params

  module _ (params : List Param) (some : some_params (params_in (map (λ s. s.1) stated)) ≡ Ok params) where
    params_pass : params_fault params ≡ None
    params_pass = by (params_in (map (λ s. s.1) stated)) passed.params some
      where
        same_ok : (x y : List Param) → ◌≡◌ {A = Result (List Param) (LineFault ParamWhat)} (Ok x) (Ok y) → x ≡ y
        same_ok x y e = cc

        by : (ps : List Param) → later_params_fault [] 0 ps ≡ None → some_params ps ≡ Ok params → params_fault params ≡ None
        by [] none e = absurd (cc)
        by (p ∷ ps) none e = subst (λ qs. params_fault qs ≡ None) (same_ok (p ∷ ps) params e) none

    module _ (numbered : NumberedRelations) (all : all_numbered params stated ≡ Ok numbered) where
      -- each of the lists by itself breaks no rule of a space
      pub lists_pass : AreFaultless (lists_of params numbered)
      lists_pass =
          let numbers = numbers_pass params stated numbered 0 0 passed.each (omega (arith, passed.conditions)) (omega (arith, passed.clauses)) all in
          record { params = params_pass; conditions = numbers.0; clauses = numbers.1 }

      -- it is left to look at the space as a whole
      pub whole_left : space_fault (lists_of params numbered) ≡ whole_fault (lists_of params numbered)
      whole_left = rw (lists_pass.params, lists_pass.conditions, lists_pass.clauses) refl
