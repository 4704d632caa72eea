-- A stream's generator, word after word.
use Rattle.std.proofs.Common.{ℕ, zero, suc, ◌≡◌, ◌+◌, refl, sym, ap, ◌∙◌, add-one}
use Rattle.rand_pcg.specs.Lcg.{Lcg, next_state, state_after, next, advance, started, increment_of}
use Rattle.rand_pcg.specs.Pcg.{multiplier_64, pcg32}
use Rattle.seeded_order.specs.Draws.{generator_at, word_of}

-- one step more at the end is one step more at the start
step_later : (w m increment n state : ℕ) → state_after w m increment (suc n) state ≡ next_state w m increment (state_after w m increment n state)
unfolding state_after
step_later w m increment zero state = refl
step_later w m increment (suc n) state = step_later w m increment n (next_state w m increment state)

-- the generator before any word
pub first_generator : (seed stream : ℕ) → started 64 multiplier_64 seed (increment_of 64 stream) ≡ generator_at seed stream 0
unfolding generator_at state_after
first_generator seed stream = refl

-- the generator after k words gives word k, and then is the one after k + 1
pub next_generator : (seed stream k : ℕ) → pcg32 (generator_at seed stream k) ≡ (word_of seed stream k, generator_at seed stream (k + 1))
unfolding generator_at word_of
next_generator seed stream k =
    let start = started 64 multiplier_64 seed (increment_of 64 stream) in
    let later : next 64 multiplier_64 (advance 64 multiplier_64 k start) ≡ advance 64 multiplier_64 (k + 1) start =
    ap (λ s. record start { state = s }) (sym (step_later 64 multiplier_64 start.increment k start.state))
    ∙ ap (λ n. advance 64 multiplier_64 n start) (sym (add-one k)) in
    ap (λ g. ((pcg32 (advance 64 multiplier_64 k start)).0, g)) later

-- the same of a call that takes the next word
pub next_word_is : (seed stream k word : ℕ) (before after : Lcg) → (word, after) ≡ pcg32 before → before ≡ generator_at seed stream k → (word ≡ word_of seed stream k) × (after ≡ generator_at seed stream (k + 1))
next_word_is seed stream k word before after taken at =
    let step = taken ∙ ap pcg32 at ∙ next_generator seed stream k in
    (ap (λ p. p.0) step, ap (λ p. p.1) step)

-- after k steps at once comes word k
pub later_word : (seed stream k : ℕ) → (pcg32 (advance 64 multiplier_64 k (generator_at seed stream 0))).0 ≡ word_of seed stream k
unfolding generator_at word_of state_after
later_word seed stream k = refl
