-- Small lists of parameters that break a rule.
use Rattle.std.specs.Prelude.{◌≡◌, [], ◌∷◌, Some, refl, codes}
use Rattle.param_space.specs.declared.lists.Part.TheVariants as part
use Rattle.param_space.specs.declared.lists.SpaceWhat.TheVariants.{NoParameters, BadWord, DoubleName, NoValues, DoubleValue, BadDefault}
use Rattle.param_space.specs.Faults.{params_fault}
use Rattle.param_space.specs.Examples.Spaces.{two_values, x}

pub no_parameters : params_fault [] ≡ Some (record { part = part.Whole; place = 0; what = NoParameters })
no_parameters = refl

pub double_name : params_fault (x ∷ x ∷ []) ≡ Some (record { part = part.Param; place = 1; what = DoubleName })
double_name = refl

pub bad_default : params_fault (two_values (codes "x") 2 ∷ []) ≡ Some (record { part = part.Param; place = 0; what = BadDefault })
bad_default = refl

pub bad_word : params_fault (two_values (codes "x y") 0 ∷ []) ≡ Some (record { part = part.Param; place = 0; what = BadWord })
bad_word = refl

pub no_values : params_fault (record { name = codes "x"; values = []; default = 0 } ∷ []) ≡ Some (record { part = part.Param; place = 0; what = NoValues })
no_values = refl

pub double_value : params_fault (record { name = codes "x"; values = codes "a" ∷ codes "a" ∷ []; default = 0 } ∷ []) ≡ Some (record { part = part.Param; place = 0; what = DoubleValue })
double_value = refl
