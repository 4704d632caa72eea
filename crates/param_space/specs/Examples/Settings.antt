-- Configurations that are settled, and their settings as text.
use Rattle.std.specs.Prelude.{◌≡◌, [], ◌∷◌, refl, codes}
use Rattle.param_space.specs.Configurations.{is_active_within, settled_config}
use Rattle.param_space.specs.Settings.{named_values, active_values, settings_text}
use Rattle.param_space.specs.Examples.Spaces.{two_values, x, x_then_y}

pub first_setting : settings_text (named_values (x ∷ []) (0 ∷ [])) ≡ codes "x=a"
first_setting = refl

pub second_setting : settings_text (named_values (x ∷ []) (1 ∷ [])) ≡ codes "x=b"
second_setting = refl

pub two_settings : settings_text (named_values (x ∷ two_values (codes "y") 1 ∷ []) (0 ∷ 1 ∷ [])) ≡ codes "x=a y=b"
two_settings = refl

-- both values of y settle to one configuration where x is b
pub second_settles : settled_config x_then_y (1 ∷ 1 ∷ []) ≡ 1 ∷ 0 ∷ []
unfolding is_active_within
second_settles = refl

pub first_is_settled : settled_config x_then_y (1 ∷ 0 ∷ []) ≡ 1 ∷ 0 ∷ []
unfolding is_active_within
first_is_settled = refl

pub inactive_is_not_printed : settings_text (active_values x_then_y (1 ∷ 0 ∷ [])) ≡ codes "x=b"
unfolding is_active_within
inactive_is_not_printed = refl

pub active_is_printed : settings_text (active_values x_then_y (0 ∷ 1 ∷ [])) ≡ codes "x=a y=2"
unfolding is_active_within
active_is_printed = refl
