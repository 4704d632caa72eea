-- The entries and the incumbent at first, after one more entry, and as a comparison begins.
use Rattle.std.specs.Prelude.{ℕ, ◌-◌, ◌≡◌, ◌≤◌, ◌++◌, List, [], ◌∷◌, Option, Some, None, IfSome, length, get_or, refl}
use Rattle.std.specs.List.{last_or}
use Rattle.std.proofs.Common.{sym, subst, arith}
use Rattle.std.proofs.lemmas.List.Elements.{All-nil, All-push, All-weaker}
use Rattle.std.proofs.lemmas.List.Sorted.{IsNonDecreasingBy-short, IsNonDecreasingBy-push}
use Rattle.uncapped.specs.Procedure.{Settings, Incumbent}
use Rattle.ils_face.specs.Trajectories.{newest, IsNewest, IsTrajectory}

last_or-push : (o : Option Incumbent) (es : List Incumbent) (e : Incumbent) → last_or o (es ++ e ∷ []) ≡ Some e
last_or-push o [] e = refl
last_or-push o (x ∷ es) e = last_or-push (Some x) es e

-- the newest of one more entry is that entry
pub newest-push : (es : List Incumbent) (e : Incumbent) → newest (es ++ e ∷ []) ≡ Some e
newest-push = last_or-push _

module _ (n : ℕ) (allowed : Settings → Type 0) where
  -- without an entry
  pub trajectory-none : (last : Incumbent) → allowed last.config → last.runs ≤ n → IsTrajectory n allowed [] last
  trajectory-none last c r = record {
    config = c;
    runs = r;
    configs = All-nil (λ (e : Incumbent). allowed e.config);
    entry_runs = All-nil (λ (e : Incumbent). e.runs ≤ n);
    in_order = IsNonDecreasingBy-short (λ (e : Incumbent). e.compared) [] (omega arith);
    begun = All-nil (λ (e : Incumbent). e.compared ≤ last.compared);
    newest = tt;
  }

  -- one more entry, which is the incumbent
  pub trajectory-push : (es : List Incumbent) (last e : Incumbent) → IsTrajectory n allowed es last → last.compared ≤ e.compared → allowed e.config → e.runs ≤ n → IsTrajectory n allowed (es ++ e ∷ []) e
  trajectory-push es last e t later c r =
      let below : (a : Incumbent) → a.compared ≤ last.compared → a.compared ≤ e.compared = λ a h. omega (arith, h, later) in
      let same : IsNewest e e = record { config = refl; sum = λ s. refl } in
      record {
        config = c;
        runs = r;
        configs = All-push (λ (e : Incumbent). allowed e.config) es e t.configs c;
        entry_runs = All-push (λ (e : Incumbent). e.runs ≤ n) es e t.entry_runs r;
        in_order = IsNonDecreasingBy-push (λ (e : Incumbent). e.compared) es e t.in_order (λ d some. below (get_or es (length es - 1) d) (t.begun (length es - 1) d (omega (arith, some))));
        begun = All-push (λ (a : Incumbent). a.compared ≤ e.compared) es e (All-weaker (λ (a : Incumbent). a.compared ≤ last.compared) (λ a. a.compared ≤ e.compared) below es t.begun) (omega arith);
        newest = subst (λ o. IfSome o (IsNewest e)) (sym (newest-push es e)) same;
      }

  -- a later comparison
  pub trajectory-begin : (es : List Incumbent) (last : Incumbent) (m : ℕ) → IsTrajectory n allowed es last → last.compared ≤ m → IsTrajectory n allowed es (record last { compared = m })
  trajectory-begin es last m t later = record {
    config = t.config;
    runs = t.runs;
    configs = t.configs;
    entry_runs = t.entry_runs;
    in_order = t.in_order;
    begun = All-weaker (λ (a : Incumbent). a.compared ≤ last.compared) (λ a. a.compared ≤ m) (λ a h. omega (arith, h, later)) es t.begun;
    newest = still (newest es) t.newest;
  }
    where
      still : (o : Option Incumbent) → IfSome o (IsNewest last) → IfSome o (IsNewest (record last { compared = m }))
      still None h = tt
      still (Some a) h = record { config = h.config; sum = h.sum }
