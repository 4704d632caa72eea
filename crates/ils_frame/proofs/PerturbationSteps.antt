-- The steps of a perturbation, one after the other.
use Rattle.std.proofs.Common.{ℕ, suc, ◌≡◌, ◌+◌, ◌-◌, ◌≤◌, ◌<◌, refl, sym, ◌∙◌, ap, arith}
use Rattle.uncapped.specs.Procedure.{Settings}
use Rattle.uncapped.specs.Setup.{Setup}
use Rattle.ils_frame.specs.NextComparison.{Reached, random_step, perturbation}

perturbation-more : (setup : Setup) (n : ℕ) (θ : Settings) (e : ℕ) → perturbation setup (suc n) θ e ≡ perturbation setup n (random_step setup θ e) (e + 1)
unfolding perturbation
perturbation-more setup n θ e = refl

perturbation-none : (setup : Setup) (θ : Settings) (e : ℕ) → (perturbation setup 0 θ e).config ≡ θ
unfolding perturbation
perturbation-none setup θ e = refl

-- after one more step, fewer are left
pub perturbation-step : (setup : Setup) (n k : ℕ) (θ φ : Settings) (e : ℕ) (p : Reached) → k < n → φ ≡ random_step setup θ (e + k) → perturbation setup (n - k) θ (e + k) ≡ p → perturbation setup (n - (k + 1)) φ (e + (k + 1)) ≡ p
perturbation-step setup n k θ φ e p h s before =
    let more : n - k ≡ suc (n - (k + 1)) = omega (arith, h) in
    let later : e + (k + 1) ≡ e + k + 1 = omega arith in
    ap (λ m. perturbation setup (n - (k + 1)) φ m) later
    ∙ ap (λ c. perturbation setup (n - (k + 1)) c (e + k + 1)) s
    ∙ sym (perturbation-more setup (n - (k + 1)) θ (e + k))
    ∙ ap (λ m. perturbation setup m θ (e + k)) (sym more)
    ∙ before

-- where none are left, the configuration is reached
pub perturbation-done : (setup : Setup) (n k : ℕ) (θ : Settings) (e : ℕ) (p : Reached) → n ≤ k → perturbation setup (n - k) θ e ≡ p → θ ≡ p.config
perturbation-done setup n k θ e p h before =
    let none : n - k ≡ 0 = omega (arith, h) in
    sym (perturbation-none setup θ e) ∙ ap (λ m. (perturbation setup m θ e).config) (sym none) ∙ ap (λ r. r.config) before
