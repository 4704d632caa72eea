-- Whether a key is that of a cell, setting by setting.
use Rattle.std.proofs.Common.{arith, ℕ, zero, suc, ◌≡◌, ◌<◌, ◌≤◌, ◌+◌, ◌&&◌, ◌==◌, ◌↔◌, Bool, true, false, List, [], ◌∷◌, length, map, get_or, drop, Some, IsTrue, bytes_eq, nat_eq, slice_get, refl, sym, ap, ◌∙◌, if◌then◌else◌}
use Rattle.std.specs.List.{slice_index_or}
use Rattle.std.proofs.lemmas.Bool.{false≢true}
use Rattle.std.proofs.lemmas.Bool.Decides.{Decides-and, Decides-eqb}
use Rattle.std.proofs.lemmas.List.{drop_more, drop_all, get_or_read}
use Rattle.std.proofs.lemmas.Option.{get_or_from_slice_get, same_Some, slice_get_read, slice_get_within}
use Rattle.std.proofs.lemmas.Slice.Eq.{bytes_eq-Decides}
use Rattle.param_space.specs.declared.lists.Param.{Param}
use Rattle.param_space.specs.Settings.{at_places, named_values}
use Rattle.param_space.specs.Space.{Belongs}
use Rattle.param_space.proofs.BelongsLemmas.{length-Belongs, read_value_in_range}
use Rattle.instance_pairs.specs.Pairs.{pair_at}
use Rattle.wrapper_lines.specs.declared.runs.Setting.{Setting}
use Rattle.wrapper_lines.specs.declared.runs.Key.{Key}
use Rattle.run_cache.specs.declared.cell.Cell.{Cell}
use Rattle.board_steps.specs.Problem.{Problem}
use Rattle.board_steps.specs.ProblemRuns.{key_of, setting_from, settings_at}

-- ---- one setting

-- a setting is the one with this name and this value exactly where both are
pub gives_exactly : (one : Setting) (name value : List ℕ) (result : Bool) → result ≡ (bytes_eq one.name name && bytes_eq one.value value)
    → IsTrue result ↔ (one ≡ setting_from (name, value))
gives_exactly one name value result is =
    let both = Decides-and _ _ (bytes_eq-Decides one.name name) (bytes_eq-Decides one.value value) in (
      λ e. let p = both.0 (sym is ∙ e) in λ i. record { name = p.0 i; value = p.1 i },
      λ same. is ∙ both.1 (ap (λ s. s.name) same, ap (λ s. s.value) same),
    )

-- the setting at a place that there is
pub gives_there : (settings : List Setting) (number : ℕ) (one : Setting) (name value : List ℕ) (result : Bool) → number < length settings
    → one ≡ get_or settings number one → result ≡ (bytes_eq one.name name && bytes_eq one.value value)
    → IsTrue result ↔ (slice_get settings number ≡ Some (setting_from (name, value)))
gives_there settings number one name value result here is given =
    let at : slice_get settings number ≡ Some one = slice_get_read settings (length settings) number one refl here is in
    let exactly = gives_exactly one name value result given in
    (λ e. at ∙ ap Some (exactly.0 e), λ same. exactly.1 (same_Some one (setting_from (name, value)) (sym at ∙ same)))

-- past the end there is none
pub gives_nowhere : (settings : List Setting) (number : ℕ) (own : Setting) → length settings ≤ number → IsTrue false ↔ (slice_get settings number ≡ Some own)
gives_nowhere settings number own past =
    (λ e. absurd (false≢true e), λ same. absurd (let within = slice_get_within settings number own same in omega (arith, within, past)))

-- ---- the settings of a configuration

-- the setting of a parameter with this value number
abbrev pub setting_of : Param → ℕ → Setting
setting_of p v = setting_from (p.name, slice_index_or p.values v [])

-- the settings of those of these parameters whose places pass, of which the first has this place
abbrev pub settings_from : (ℕ → Bool) → ℕ → List Param → List ℕ → List Setting
settings_from passes place params values = map setting_from (at_places passes place (named_values params values))

-- a parameter that a loop reads at a place, the number of its value and that value
pub record IsRead (params : List Param) (values : List ℕ) (place : ℕ) (p : Param) (texts : List (List ℕ)) (number : ℕ) (text : List ℕ) : Type 0 where
  pub here : place < length params
  pub is : p ≡ get_or params place p
  pub texts_are : texts ≡ p.values
  pub number_is : number ≡ get_or values place 0
  pub read : text ≡ get_or texts number text

-- it is the parameter's setting
read_setting : (params : List Param) (values : List ℕ) (place : ℕ) (p : Param) (texts : List (List ℕ)) (number : ℕ) (text : List ℕ) → Belongs params values
    → IsRead params values place p texts number text → setting_from (p.name, text) ≡ setting_of p (get_or values place 0)
read_setting params values place p texts number text belongs r =
    let v = get_or values place 0 in
    let below = read_value_in_range params values place p texts belongs r.here r.is r.texts_are in
    let read : text ≡ get_or texts v text = r.read ∙ ap (λ k. get_or texts k text) r.number_is in
    let value : text ≡ get_or p.values v [] = get_or_read texts v text below read [] ∙ ap (λ xs. get_or xs v []) r.texts_are in
    ap (λ t. setting_from (p.name, t)) value

-- a parameter whose place passes, and one whose doesn't
passing : (passes : ℕ → Bool) (place : ℕ) (p : Param) (ps : List Param) (v : ℕ) (vs : List ℕ) (b : Bool) → passes place ≡ b
    → settings_from passes place (p ∷ ps) (v ∷ vs) ≡ (if b then setting_of p v ∷ settings_from passes (place + 1) ps vs else settings_from passes (place + 1) ps vs)
passing passes place p ps v vs true is =
    ap (λ c. map setting_from (if c then (p.name, slice_index_or p.values v []) ∷ at_places passes (place + 1) (named_values ps vs) else at_places passes (place + 1) (named_values ps vs))) is
passing passes place p ps v vs false is =
    ap (λ c. map setting_from (if c then (p.name, slice_index_or p.values v []) ∷ at_places passes (place + 1) (named_values ps vs) else at_places passes (place + 1) (named_values ps vs))) is

-- so many of the settings were met at the parameters before this place: they are all exactly where the others are those that are left
pub record HaveMet (passes : ℕ → Bool) (params : List Param) (values : List ℕ) (settings : List Setting) (count place : ℕ) : Type 0 where
  pub within : count ≤ length settings
  pub same : (settings ≡ settings_from passes 0 params values) ↔ (drop count settings ≡ settings_from passes place (drop place params) (drop place values))

-- a list that is left begins with the element at its place
begins_at : {X : Type 0} (xs : List X) (k : ℕ) (y : X) (ys : List X) → drop k xs ≡ y ∷ ys → slice_get xs k ≡ Some y
begins_at [] zero y ys e = absurd (cc)
begins_at [] (suc k) y ys e = absurd (cc)
begins_at (x ∷ xs) zero y ys e = ap Some (let first : x ≡ y = cc in first)
begins_at (x ∷ xs) (suc k) y ys e = begins_at xs k y ys e

-- where nothing is left, the place is past the end
nothing_left : {X : Type 0} (xs : List X) (k : ℕ) → drop k xs ≡ [] → length xs ≤ k
nothing_left [] k e = omega arith
nothing_left (x ∷ xs) zero e = absurd (cc)
nothing_left (x ∷ xs) (suc k) e = let more = nothing_left xs k e in omega (arith, more)

module _ (passes : ℕ → Bool) (params : List Param) (values : List ℕ) (settings : List Setting) (belongs : Belongs params values) where
  -- none were met before the first parameter
  pub none_met : HaveMet passes params values settings 0 0
  none_met = record { within = omega arith; same = (λ e. e, λ e. e) }

  module _ (count place : ℕ) (p : Param) (met : HaveMet passes params values settings count place) (here : place < length params) (is : p ≡ get_or params place p) where
    abbrev own : Setting
    own = setting_of p (get_or values place 0)

    abbrev later : List Setting
    later = settings_from passes (place + 1) (drop (place + 1) params) (drop (place + 1) values)

    -- what is left from this parameter on
    left_here : (b : Bool) → passes place ≡ b → settings_from passes place (drop place params) (drop place values) ≡ (if b then own ∷ later else later)
    left_here b pass =
        let long : place < length values = omega (arith, here, length-Belongs params values belongs) in
        let first = drop_more params place p here ∙ ap (λ q. q ∷ drop (place + 1) params) (sym is) in
        let number = drop_more values place 0 long in
        (λ i. settings_from passes place (first i) (number i)) ∙ passing passes place p (drop (place + 1) params) (get_or values place 0) (drop (place + 1) values) b pass

    -- an inactive parameter
    pub met_none : passes place ≡ false → HaveMet passes params values settings count (place + 1)
    met_none pass =
        let e = left_here false pass in
        record { within = met.within; same = (λ all. met.same.0 all ∙ e, λ rest. met.same.1 (rest ∙ sym e)) }

    -- an active one, whose setting comes next
    pub met_one : passes place ≡ true → slice_get settings count ≡ Some own → HaveMet passes params values settings (count + 1) (place + 1)
    met_one pass next =
        let lt = slice_get_within settings count own next in
        let e = left_here true pass in
        let front : drop count settings ≡ own ∷ drop (count + 1) settings =
        drop_more settings count own lt ∙ ap (λ s. s ∷ drop (count + 1) settings) (get_or_from_slice_get settings count own own next) in
        record {
          within = omega (arith, lt);
          same = (
            λ all. let both : own ∷ drop (count + 1) settings ≡ own ∷ later = sym front ∙ met.same.0 all ∙ e in let rest : drop (count + 1) settings ≡ later = cc in rest,
            λ rest. met.same.1 (front ∙ ap (λ ss. own ∷ ss) rest ∙ sym e),
          );
        }

    -- an active one, whose setting doesn't
    pub met_another : passes place ≡ true → (slice_get settings count ≡ Some own → ⊥) → settings ≡ settings_from passes 0 params values → ⊥
    met_another pass other all = other (begins_at settings count own later (met.same.0 all ∙ left_here true pass))

    module _ (texts : List (List ℕ)) (number : ℕ) (text : List ℕ) (read : IsRead params values place p texts number text) (result : Bool)
        (given : IsTrue result ↔ (slice_get settings count ≡ Some (setting_from (p.name, text)))) where
      own_is : setting_from (p.name, text) ≡ own
      own_is = read_setting params values place p texts number text belongs read

      -- its setting comes next, as it is read
      pub met_next : passes place ≡ true → result ≡ true → HaveMet passes params values settings (count + 1) (place + 1)
      met_next pass e = met_one pass (given.0 e ∙ ap Some own_is)

      -- it doesn't
      pub met_other : passes place ≡ true → result ≡ false → settings ≡ settings_from passes 0 params values → ⊥
      met_other pass e all = met_another pass (λ next. false≢true (sym e ∙ given.1 (next ∙ ap Some (sym own_is)))) all

  -- after the last parameter
  pub all_met : (count place : ℕ) → HaveMet passes params values settings count place → length params ≤ place
      → (count ≡ length settings) ↔ (settings ≡ settings_from passes 0 params values)
  all_met count place met past =
      let no_params : drop place params ≡ [] = drop_all place params past in
      let none : settings_from passes place (drop place params) (drop place values) ≡ [] = ap (λ ps. settings_from passes place ps (drop place values)) no_params in (
        λ same. met.same.1 (drop_all count settings (omega (arith, same)) ∙ sym none),
        λ all. let within = met.within in let past_end = nothing_left settings count (met.same.0 all ∙ none) in let same : count ≡ length settings = omega (arith, within, past_end) in same,
      )

-- a test of two numbers, where that they are equal says something else
pub counted : (one other : ℕ) (P : Type 0) → (one ≡ other) ↔ P → IsTrue (nat_eq one other) ↔ P
counted one other P h = (λ e. h.0 ((Decides-eqb one other).0 e), λ p. (Decides-eqb one other).1 (h.1 p))

-- ---- the key of a cell

-- the key is of the cell's pair
abbrev pub is_paired : Problem → Key → Cell → Bool
is_paired problem key cell =
    let pair = pair_at problem.pairs cell.place in
    bytes_eq key.instance pair.instance.name && (bytes_eq key.specifics pair.instance.specifics && (key.seed == pair.seed))

-- a key that is of the cell's pair is the cell's exactly where the settings are
pub key_exactly : (key : Key) (problem : Problem) (cell : Cell) (paired : Bool)
    → paired ≡ is_paired problem key cell
    → paired ≡ true → (result : Bool) → IsTrue result ↔ (key.settings ≡ settings_at problem cell.config) → IsTrue result ↔ (key ≡ key_of problem cell)
unfolding key_of
key_exactly key problem cell paired is pair_same result settings =
    let pair = pair_at problem.pairs cell.place in
    let seed = Decides-and _ _ (bytes_eq-Decides key.specifics pair.instance.specifics) (Decides-eqb key.seed pair.seed) in
    let p = (Decides-and _ _ (bytes_eq-Decides key.instance pair.instance.name) seed).0 (sym is ∙ pair_same) in (
      λ e. let s = settings.0 e in λ i. record { instance = p.0 i; specifics = p.1.0 i; seed = p.1.1 i; settings = s i },
      λ same. settings.1 (ap (λ k. k.settings) same),
    )

-- a key of another pair isn't
pub key_of_another : (key : Key) (problem : Problem) (cell : Cell) (paired : Bool)
    → paired ≡ is_paired problem key cell
    → paired ≡ false → key ≡ key_of problem cell → ⊥
unfolding key_of
key_of_another key problem cell paired is other same =
    let pair = pair_at problem.pairs cell.place in
    let seed = Decides-and _ _ (bytes_eq-Decides key.specifics pair.instance.specifics) (Decides-eqb key.seed pair.seed) in
    let paired_same = (Decides-and _ _ (bytes_eq-Decides key.instance pair.instance.name) seed).1 (ap (λ k. k.instance) same, (ap (λ k. k.specifics) same, ap (λ k. k.seed) same)) in
    absurd (false≢true (sym other ∙ is ∙ paired_same))
