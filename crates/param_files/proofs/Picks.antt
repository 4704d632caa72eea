-- Reading picks one after another.
use Rattle.std.proofs.Common.{ℕ, ◌≡◌, ◌<◌, true, false, List, [], ◌∷◌, ◌++◌, Option, Some, None, length, refl, ap, sym, ◌∙◌, arith, append_assoc}
use Rattle.std.specs.Option.{option_map}
use Rattle.std.specs.Prelude.{codes}
use Rattle.param_files.specs.declared.statements.NamedPick.{NamedPick}
use Rattle.param_files.specs.Grammar.{is_pick, pick_list}
use Rattle.param_files.proofs.Fronts.{different}

-- these picks before others
abbrev pub after_picks : List NamedPick → Option (List NamedPick × List (List ℕ)) → Option (List NamedPick × List (List ℕ))
after_picks picks more = option_map (λ more. (picks ++ more.0, more.1)) more

regrouped : (picks : List NamedPick) (pick : NamedPick) (more : Option (List NamedPick × List (List ℕ))) → after_picks picks (option_map (λ more. (pick ∷ more.0, more.1)) more) ≡ after_picks (picks ++ pick ∷ []) more
regrouped picks pick None = refl
regrouped picks pick (Some more) = ap (λ ps. Some (ps, more.1)) (sym (append_assoc picks (pick ∷ []) more.0))

-- one more pick, of texts that are equal
pub pushed : (picks done : List NamedPick) (name name' value value' : List ℕ) → done ≡ picks ++ record { name = name'; value = value' } ∷ [] → name' ≡ name → value' ≡ value → done ≡ picks ++ record { name = name; value = value } ∷ []
pushed picks done name name' value value' e n v = e ∙ ap (λ x. picks ++ record { name = x; value = value' } ∷ []) n ∙ ap (λ x. picks ++ record { name = name; value = x } ∷ []) v

module _ (tokens rest : List (List ℕ)) (picks : List NamedPick) (sofar : pick_list tokens ≡ after_picks picks (pick_list rest)) where
  -- too few tokens are left
  pub picked_short : length rest < 4 → None ≡ pick_list tokens
  unfolding pick_list
  picked_short h = sym (sofar ∙ ap (after_picks picks) (by rest h))
    where
      by : (rest : List (List ℕ)) → length rest < 4 → pick_list rest ≡ None
      by [] h = refl
      by (t ∷ []) h = refl
      by (t ∷ u ∷ []) h = refl
      by (t ∷ u ∷ v ∷ []) h = refl
      by (t ∷ u ∷ v ∷ w ∷ later) h = absurd (omega (arith, h))

  module _ (name equals value mark : List ℕ) (later : List (List ℕ)) (is : rest ≡ name ∷ equals ∷ value ∷ mark ∷ later) where
    abbrev pick : NamedPick
    pick = record { name = name; value = value }

    whole : pick_list tokens ≡ after_picks picks (pick_list (name ∷ equals ∷ value ∷ mark ∷ later))
    whole = sofar ∙ ap (λ r. after_picks picks (pick_list r)) is

    -- another form
    pub picked_no_pick : false ≡ is_pick name equals value → None ≡ pick_list tokens
    unfolding pick_list
    picked_no_pick h = sym (whole ∙ rw (← h) refl)

    -- the last pick
    pub picked_last : (done : List NamedPick) → done ≡ picks ++ pick ∷ [] → true ≡ is_pick name equals value → mark ≡ codes "}" → Some (done, later) ≡ pick_list tokens
    unfolding pick_list
    picked_last done e h m = ap (λ ps. Some (ps, later)) e ∙ sym (whole ∙ rw (← h, m) refl)

    -- another pick
    pub picked_more : (done : List NamedPick) → done ≡ picks ++ pick ∷ [] → true ≡ is_pick name equals value → mark ≡ codes "," → pick_list tokens ≡ after_picks done (pick_list later)
    unfolding pick_list
    picked_more done e h m = whole ∙ rw (← h, m) (regrouped picks pick (pick_list later)) ∙ ap (λ ps. after_picks ps (pick_list later)) (sym e)

    -- another mark
    pub picked_no_mark : true ≡ is_pick name equals value → (mark ≡ codes "}" → ⊥) → (mark ≡ codes "," → ⊥) → None ≡ pick_list tokens
    unfolding pick_list
    picked_no_mark h a b = sym (whole ∙ rw (← h, different mark (codes "}") a, different mark (codes ",") b) refl)
