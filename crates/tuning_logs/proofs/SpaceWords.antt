-- What holds of each parameter of a space.
use Rattle.std.specs.Prelude.{ℕ, ◌≡◌, ◌+◌, ◌<◌, true, List, [], ◌∷◌, ◌++◌, None, length, All}
use Rattle.std.specs.List.{list_all}
use Rattle.std.proofs.lemmas.Bool.{and_parts, ltb-true}
use Rattle.std.proofs.lemmas.List.Elements.{All-nil, All-cons}
use Rattle.plain_text.specs.Words.{is_word}
use Rattle.plain_text.specs.Texts.{texts_differ}
use Rattle.param_space.specs.declared.lists.Param.{Param}
use Rattle.param_space.specs.declared.lists.Part.TheVariants as part
use Rattle.param_space.specs.Space.{Lists}
use Rattle.param_space.specs.Faults.{param_fault, later_params_fault, params_fault, param_rules, IsSpace}
use Rattle.param_space.proofs.RuleLemmas.{rules_hold, none_here}

-- a parameter whose name and values are words, and whose values differ
pub record IsOfWords (p : Param) : Type 0 where
  pub name : is_word p.name ≡ true
  pub values : list_all is_word p.values ≡ true
  pub differ : texts_differ p.values ≡ true
  pub default : p.default < length p.values

-- such is a parameter without a fault
of_words : (earlier : List (List ℕ)) (place : ℕ) (p : Param) → param_fault earlier place p ≡ None → IsOfWords p
of_words earlier place p h =
    let holds = rules_hold (param_rules earlier place p) h in
    let words = and_parts (is_word p.name) (list_all is_word p.values) holds.1.0 in
    record {
      name = words.0;
      values = words.1;
      differ = holds.1.1.1.1.0;
      default = ltb-true p.default (length p.values) holds.1.1.1.1.1.0;
    }

all_of_words : (earlier : List (List ℕ)) (place : ℕ) (params : List Param) → later_params_fault earlier place params ≡ None → All IsOfWords params
all_of_words earlier place [] h = All-nil IsOfWords
all_of_words earlier place (p ∷ later) h =
    let none = none_here part.Param place (param_fault earlier place p) (later_params_fault (earlier ++ p.name ∷ []) (place + 1) later) h in
    All-cons IsOfWords p later (of_words earlier place p none.0) (all_of_words (earlier ++ p.name ∷ []) (place + 1) later none.1)

from_faultless : (params : List Param) → params_fault params ≡ None → All IsOfWords params
from_faultless [] h = All-nil IsOfWords
from_faultless (p ∷ later) h = all_of_words [] 0 (p ∷ later) h

-- such are the parameters of a space
pub words_of_space : (space : Lists) → IsSpace space → All IsOfWords space.params
words_of_space space sound = from_faultless space.params sound.params
