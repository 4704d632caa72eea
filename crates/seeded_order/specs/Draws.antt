-- Draws of a tuning: each is a function of the seed and of a stream's number.
use Rattle.std.specs.Prelude.{ℕ, zero, suc, ◌+◌, ◌*◌, ◌%◌, Bool, true, false, ◌&&◌, ◌||◌, ◌==◌, nat_lt, List, [], ◌∷◌, length, map, if◌then◌else◌}
use Rattle.std.specs.List.{range_with_len}
use Rattle.rand_pcg.specs.Lcg.{Lcg, advance, started, increment_of}
use Rattle.rand_pcg.specs.Pcg.{multiplier_64, pcg32}
use Rattle.param_space.specs.declared.lists.Param.{Param}
use Rattle.param_space.specs.Space.{Lists, defaults}
use Rattle.param_space.specs.Configurations.{settled_config, is_allowed}
use Rattle.seeded_order.specs.Limits.{max_attempts}

-- the generator of a stream after so many words
unfoldable pub generator_at : ℕ → ℕ → ℕ → Lcg
generator_at seed stream k = advance 64 multiplier_64 k (started 64 multiplier_64 seed (increment_of 64 stream))

-- word k of a stream, from 0
unfoldable pub word_of : ℕ → ℕ → ℕ → ℕ
word_of seed stream k = (pcg32 (generator_at seed stream k)).0

-- a pair of a word and a number stands before another: by the word, ties by the number
abbrev pub stands_before : ℕ × ℕ → ℕ × ℕ → Bool
stands_before p q = nat_lt p.0 q.0 || ((p.0 == q.0) && nat_lt p.1 q.1)

-- a pair put into its place among sorted pairs
abbrev pub with_drawn_pair : ℕ × ℕ → List (ℕ × ℕ) → List (ℕ × ℕ)
with_drawn_pair p [] = p ∷ []
with_drawn_pair p (q ∷ later) = if stands_before p q then p ∷ q ∷ later else q ∷ with_drawn_pair p later

-- the pairs in order
abbrev pub sorted_pairs : List (ℕ × ℕ) → List (ℕ × ℕ)
sorted_pairs [] = []
sorted_pairs (p ∷ later) = with_drawn_pair p (sorted_pairs later)

-- the numbers below n, each with the word at it
abbrev pub numbered_words : ℕ → ℕ → ℕ → List (ℕ × ℕ)
numbered_words seed stream n = map (λ k. (word_of seed stream k, k)) (range_with_len 0 n)

-- the numbers below n, sorted by the word at each, ties by the number
unfoldable pub order_of : ℕ → ℕ → ℕ → List ℕ
order_of seed stream n = map (λ p. p.1) (sorted_pairs (numbered_words seed stream n))

-- one of the numbers below n
abbrev pub one_of : ℕ → ℕ → ℕ → ℕ
one_of seed stream n = word_of seed stream 0 % n

-- true in so many of 10,000 cases
abbrev pub coin_of : ℕ → ℕ → ℕ → Bool
coin_of seed stream per_ten_thousand = nat_lt (word_of seed stream 0 % 10000) per_ten_thousand

-- a value number for each parameter: the words from word k on, each modulo the number of values
abbrev pub values_of : ℕ → ℕ → ℕ → List Param → List ℕ
values_of seed stream k [] = []
values_of seed stream k (p ∷ later) = word_of seed stream k % length p.values ∷ values_of seed stream (k + 1) later

-- the configuration of an attempt, from 0: its words follow those of the attempts before it
unfoldable pub attempt_of : ℕ → ℕ → Lists → ℕ → List ℕ
attempt_of seed stream lists a = settled_config lists (values_of seed stream (a * length lists.params) lists.params)

-- the first allowed one of so many attempts from an attempt on; where none is allowed, the defaults
unfoldable pub first_allowed_config : ℕ → ℕ → Lists → ℕ → ℕ → List ℕ
first_allowed_config seed stream lists zero a = defaults lists.params
first_allowed_config seed stream lists (suc left) a = elim (is_allowed lists (attempt_of seed stream lists a)) [
  | true ↦ attempt_of seed stream lists a
  | false ↦ first_allowed_config seed stream lists left (a + 1)
]

-- a configuration drawn at random
unfoldable pub random_config_of : ℕ → ℕ → Lists → List ℕ
random_config_of seed stream lists = first_allowed_config seed stream lists max_attempts 0
