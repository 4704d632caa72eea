-- The streams of the seed 42, worked.
use Rattle.std.specs.Prelude.{◌≡◌, [], ◌∷◌, true, false, map, codes, refl}
use Rattle.rand_pcg.specs.Lcg.{state_after}
use Rattle.param_space.specs.declared.lists.Param.{Param}
use Rattle.param_space.specs.Configurations.{is_active_within}
use Rattle.seeded_order.specs.Draws.{generator_at, word_of, order_of, one_of, coin_of, attempt_of, first_allowed_config, random_config_of}

pub first_words : map (word_of 42 54) (0 ∷ 1 ∷ 2 ∷ 3 ∷ []) ≡ 0xa15c02b7 ∷ 0x7b47f409 ∷ 0xba1d3330 ∷ 0x83d2f293 ∷ []
unfolding word_of generator_at state_after
first_words = refl

pub order_of_three : order_of 42 54 3 ≡ 1 ∷ 0 ∷ 2 ∷ []
unfolding order_of word_of generator_at state_after
order_of_three = refl

pub one_of_ten : one_of 42 54 10 ≡ 3
unfolding word_of generator_at state_after
one_of_ten = refl

pub rare_coin : coin_of 42 54 100 ≡ false
unfolding word_of generator_at state_after
rare_coin = refl

pub coin_above_its_word : coin_of 42 54 1784 ≡ true
unfolding word_of generator_at state_after
coin_above_its_word = refl

pub coin_at_its_word : coin_of 42 54 1783 ≡ false
unfolding word_of generator_at state_after
coin_at_its_word = refl

-- `x {a, b, c} [a]`
abbrev x : Param
x = record { name = codes "x"; values = codes "a" ∷ codes "b" ∷ codes "c" ∷ []; default = 0 }

-- `y {1, 2} [1]`
abbrev y : Param
y = record { name = codes "y"; values = codes "1" ∷ codes "2" ∷ []; default = 0 }

-- x=a y=2
pub random_of_two : random_config_of 42 54 (record { params = x ∷ y ∷ []; conditions = []; forbidden = [] }) ≡ 0 ∷ 1 ∷ []
unfolding random_config_of first_allowed_config attempt_of word_of generator_at state_after is_active_within
random_of_two = refl
