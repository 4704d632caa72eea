-- Counts that rise.
use Rattle.std.proofs.Common.{◌≡◌, ℕ, ◌≤◌, Bool, true, false, cond, Option, Some, bytes_eq, if◌then◌else◌, refl, sym, ◌∙◌, ap, subst, arith, max}
use Rattle.std.proofs.lemmas.Slice.Eq.{bytes_eq-Decides}
use Rattle.std.proofs.lemmas.Bool.{false≢true, false_from_ne_true}
use Rattle.std.specs.Ordering.{nat_cmp, eq_by_cmp}
use Rattle.std.specs.Cmp.Lexicographic.{slice_cmp, nat_list_cmp_total, texts_ties}
use Rattle.std.specs.FinMap as map
use Rattle.uncapped.specs.Procedure.{Settings}
use Rattle.uncapped.specs.Evaluation.{counts_after}
use Rattle.focused_ils.specs.Counts.{Counts, count_of, count_in, no_counts, raised}

-- ---- configurations

pub same_config : (φ θ : Settings) → bytes_eq φ θ ≡ true → φ ≡ θ
same_config φ θ e = (bytes_eq-Decides φ θ).0 e

pub is_itself : (θ : Settings) → bytes_eq θ θ ≡ true
is_itself θ = (bytes_eq-Decides θ θ).1 refl

pub other_way : (φ θ : Settings) → bytes_eq θ φ ≡ false → bytes_eq φ θ ≡ false
other_way φ θ e = false_from_ne_true (bytes_eq φ θ) (λ t. false≢true (sym e ∙ ap (bytes_eq θ) (same_config φ θ t) ∙ is_itself θ))

-- ---- one count rises

either_count : (b : Bool) (n : ℕ) (o : Option ℕ) → count_of (cond b (Some n) o) ≡ (if b then n else count_of o)
either_count true n o = refl
either_count false n o = refl

-- nothing counts before a reply
pub count-none : (θ : Settings) → count_in no_counts θ ≡ 0
count-none θ = ap count_of (map.get-empty (slice_cmp nat_cmp) θ)

module _ (counts : Counts) (θ : Settings) (n : ℕ) where
  -- a count rises as the procedure's does
  pub count-raised : (φ : Settings) → count_in (raised counts θ n) φ ≡ (if bytes_eq φ θ then max (count_in counts θ) n else count_in counts φ)
  count-raised φ =
      ap count_of (map.get-insert nat_list_cmp_total counts θ (max (count_in counts θ) n) φ)
      ∙ either_count (eq_by_cmp (slice_cmp nat_cmp) φ θ) (max (count_in counts θ) n) (map.get counts φ)
      ∙ ap (λ b. if b then max (count_in counts θ) n else count_in counts φ) (sym (texts_ties φ θ))

  pub raised-itself : count_in (raised counts θ n) θ ≡ max (count_in counts θ) n
  raised-itself = count-raised θ ∙ ap (λ b. if b then max (count_in counts θ) n else count_in counts θ) (is_itself θ)

  pub raised-other : (φ : Settings) → bytes_eq φ θ ≡ false → count_in (raised counts θ n) φ ≡ count_in counts φ
  raised-other φ e = count-raised φ ∙ ap (λ b. if b then max (count_in counts θ) n else count_in counts φ) e

  pub raised-new : n ≤ count_in (raised counts θ n) θ
  raised-new = let e = raised-itself in omega (arith, e)

  pub raised-grows : (φ : Settings) → count_in counts φ ≤ count_in (raised counts θ n) φ
  raised-grows φ = at_either (bytes_eq φ θ) refl
    where
      at_either : (b : Bool) → bytes_eq φ θ ≡ b → count_in counts φ ≤ count_in (raised counts θ n) φ
      at_either true e = rw (same_config φ θ e) (let r = raised-itself in omega (arith, r))
      at_either false e = let r = raised-other φ e in omega (arith, r)

  pub raised-most : (φ : Settings) (m : ℕ) → count_in counts φ ≤ m → n ≤ m → count_in (raised counts θ n) φ ≤ m
  raised-most φ m h k = at_either (bytes_eq φ θ) refl
    where
      at_either : (b : Bool) → bytes_eq φ θ ≡ b → count_in (raised counts θ n) φ ≤ m
      at_either true e = let g : count_in counts θ ≤ m = subst (λ ψ. count_in counts ψ ≤ m) (same_config φ θ e) h in
          let r = raised-itself in
          rw (same_config φ θ e) (omega (arith, g, k, r))
      at_either false e = let r = raised-other φ e in omega (arith, r, h)

  -- counts that are the procedure's stay so
  pub raised-same : (N : Settings → ℕ) → ((φ : Settings) → N φ ≡ count_in counts φ) → (φ : Settings) → counts_after N θ n φ ≡ count_in (raised counts θ n) φ
  raised-same N same φ = rw (same θ, same φ) (sym (count-raised φ))
