-- Reading listed values one after another.
use Rattle.std.proofs.Common.{ℕ, ◌≡◌, ◌<◌, true, false, List, [], ◌∷◌, ◌++◌, Option, Some, None, length, refl, ap, sym, ◌∙◌, arith, append_assoc}
use Rattle.std.specs.Option.{option_map}
use Rattle.std.specs.Prelude.{codes}
use Rattle.plain_text.specs.Words.{is_word}
use Rattle.param_files.specs.Grammar.{value_list}
use Rattle.param_files.proofs.Fronts.{different}

-- these values before those that are listed
abbrev pub after_values : List (List ℕ) → Option (List (List ℕ) × List (List ℕ)) → Option (List (List ℕ) × List (List ℕ))
after_values values more = option_map (λ more. (values ++ more.0, more.1)) more

regrouped : (values : List (List ℕ)) (value : List ℕ) (more : Option (List (List ℕ) × List (List ℕ))) → after_values values (option_map (λ more. (value ∷ more.0, more.1)) more) ≡ after_values (values ++ value ∷ []) more
regrouped values value None = refl
regrouped values value (Some more) = ap (λ vs. Some (vs, more.1)) (sym (append_assoc values (value ∷ []) more.0))

module _ (tokens values rest : List (List ℕ)) (sofar : value_list tokens ≡ after_values values (value_list rest)) where
  -- too few tokens are left
  pub listed_short : length rest < 2 → None ≡ value_list tokens
  unfolding value_list
  listed_short h = sym (sofar ∙ ap (after_values values) (by rest h))
    where
      by : (rest : List (List ℕ)) → length rest < 2 → value_list rest ≡ None
      by [] h = refl
      by (t ∷ []) h = refl
      by (t ∷ u ∷ later) h = absurd (omega (arith, h))

  module _ (value mark : List ℕ) (later : List (List ℕ)) (is : rest ≡ value ∷ mark ∷ later) where
    whole : value_list tokens ≡ after_values values (value_list (value ∷ mark ∷ later))
    whole = sofar ∙ ap (λ r. after_values values (value_list r)) is

    -- a value that is no word
    pub listed_no_word : false ≡ is_word value → None ≡ value_list tokens
    unfolding value_list
    listed_no_word h = sym (whole ∙ rw (← h) refl)

    -- the last value
    pub listed_last : (done : List (List ℕ)) → done ≡ values ++ value ∷ [] → true ≡ is_word value → mark ≡ codes "}" → Some (done, later) ≡ value_list tokens
    unfolding value_list
    listed_last done e h m = ap (λ vs. Some (vs, later)) e ∙ sym (whole ∙ rw (← h, m) refl)

    -- another value
    pub listed_more : (done : List (List ℕ)) → done ≡ values ++ value ∷ [] → true ≡ is_word value → mark ≡ codes "," → value_list tokens ≡ after_values done (value_list later)
    unfolding value_list
    listed_more done e h m = whole ∙ rw (← h, m) (regrouped values value (value_list later)) ∙ ap (λ vs. after_values vs (value_list later)) (sym e)

    -- another mark
    pub listed_no_mark : true ≡ is_word value → (mark ≡ codes "}" → ⊥) → (mark ≡ codes "," → ⊥) → None ≡ value_list tokens
    unfolding value_list
    listed_no_mark h a b = sym (whole ∙ rw (← h, different mark (codes "}") a, different mark (codes ",") b) refl)
