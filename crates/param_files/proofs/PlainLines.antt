-- The lines of a printed space have no line feed and no carriage return.
use Rattle.std.specs.Prelude.{ℕ, ◌≡◌, Bool, true, ◌&&◌, ◌==◌, not, List, [], ◌∷◌, ◌++◌, map, codes, refl}
use Rattle.std.specs.List.{list_all, slice_index_or}
use Rattle.std.proofs.Common.{◌∙◌, arith}
use Rattle.std.proofs.lemmas.Bool.{and_parts, and_from}
use Rattle.std.proofs.lemmas.Bool.Decides.{nat_tests}
use Rattle.std.proofs.lemmas.List.Folds.{list_all-append}
use Rattle.plain_text.specs.Words.{is_word_byte, is_word}
use Rattle.plain_text.specs.Lines.{is_break}
use Rattle.plain_text.proofs.LineTexts.{fits_line, fits_line-plain}
use Rattle.param_space.specs.declared.lists.Param.{Param}
use Rattle.param_space.specs.declared.lists.Condition as condition
use Rattle.param_space.specs.declared.lists.Pick.{Pick}
use Rattle.param_space.specs.declared.lists.Forbidden.{Forbidden}
use Rattle.param_files.specs.PrintedLines.{with_commas, param_name, value_of, param_line, condition_line, pick_text, clause_line}
use Rattle.param_files.specs.StatementTokens.{are_values, is_form, is_pick_of_words}
use Rattle.param_files.proofs.WrittenStatements.{all_words, all_picks}
use Rattle.param_files.proofs.LineTokens.{param_stated, condition_stated, pick_stated, clause_stated}

-- no line feed and no carriage return
abbrev is_plain_byte : ℕ → Bool
is_plain_byte b = not (is_break b) && not (b == 13)

-- a text without these
abbrev is_plain : List ℕ → Bool
is_plain text = list_all is_plain_byte text

byte_plain : (b : ℕ) → is_word_byte b ≡ true → is_plain_byte b ≡ true
byte_plain b h = grind (arith, nat_tests, h)

bytes_plain : (w : List ℕ) → list_all is_word_byte w ≡ true → is_plain w ≡ true
bytes_plain [] h = refl
bytes_plain (b ∷ w) h =
    let parts = and_parts (is_word_byte b) (list_all is_word_byte w) h in
    and_from (is_plain_byte b) (is_plain w) (byte_plain b parts.0) (bytes_plain w parts.1)

word_plain : (w : List ℕ) → is_word w ≡ true → is_plain w ≡ true
word_plain w h = bytes_plain w (and_parts _ (list_all is_word_byte w) h).1

both_plain : (xs ys : List ℕ) → is_plain xs ≡ true → is_plain ys ≡ true → is_plain (xs ++ ys) ≡ true
both_plain xs ys h k = list_all-append is_plain_byte xs ys ∙ and_from (is_plain xs) (is_plain ys) h k

commas_plain : (texts : List (List ℕ)) → list_all is_plain texts ≡ true → is_plain (with_commas texts) ≡ true
commas_plain [] h = refl
commas_plain (t ∷ []) h = (and_parts (is_plain t) true h).0
commas_plain (t ∷ u ∷ later) h =
    let parts = and_parts (is_plain t) (list_all is_plain (u ∷ later)) h in
    both_plain t (codes ", " ++ with_commas (u ∷ later)) parts.0 (both_plain (codes ", ") (with_commas (u ∷ later)) refl (commas_plain (u ∷ later) parts.1))

words_plain : (values : List (List ℕ)) → list_all is_word values ≡ true → list_all is_plain values ≡ true
words_plain [] h = refl
words_plain (v ∷ later) h =
    let parts = and_parts (is_word v) (list_all is_word later) h in
    and_from (is_plain v) (list_all is_plain later) (word_plain v parts.0) (words_plain later parts.1)

values_plain : (values : List (List ℕ)) → are_values values ≡ true → is_plain (with_commas values) ≡ true
values_plain values h = commas_plain values (words_plain values (all_words values h))

picks_plain : (params : List Param) (picks : List Pick) → list_all is_pick_of_words (map (pick_stated params) picks) ≡ true → list_all is_plain (map (pick_text params) picks) ≡ true
picks_plain params [] h = refl
picks_plain params (k ∷ later) h =
    let name = param_name params k.param in
    let value = value_of params k.param k.value in
    let parts = and_parts (is_pick_of_words (pick_stated params k)) (list_all is_pick_of_words (map (pick_stated params) later)) h in
    let words = and_parts (is_word name) (is_word value) parts.0 in
    and_from (is_plain (pick_text params k)) (list_all is_plain (map (pick_text params) later))
    (both_plain name (codes "=" ++ value) (word_plain name words.0) (word_plain value words.1))
    (picks_plain params later parts.1)

-- the line of a parameter may stand on a line
pub param_fits : (p : Param) → is_form (param_stated p) ≡ true → fits_line (param_line p) ≡ true
unfolding param_line
param_fits p h =
    let default = slice_index_or p.values p.default [] in
    let parts = and_parts (is_word p.name) (are_values p.values && is_word default) h in
    let more = and_parts (are_values p.values) (is_word default) parts.1 in
    let ending = default ++ codes "]" in
    fits_line-plain (param_line p)
    (both_plain p.name (codes " {" ++ (with_commas p.values ++ (codes "} [" ++ ending))) (word_plain p.name parts.0)
    (both_plain (with_commas p.values) (codes "} [" ++ ending) (values_plain p.values more.0) (both_plain default (codes "]") (word_plain default more.1) refl)))

-- and so may that of a condition
pub condition_fits : (params : List Param) (c : condition.Condition) → is_form (condition_stated params c) ≡ true → fits_line (condition_line params c) ≡ true
unfolding condition_line
condition_fits params c h =
    let child = param_name params c.child in
    let parent = param_name params c.parent in
    let values = map (value_of params c.parent) c.values in
    let parts = and_parts (is_word child) (is_word parent && are_values values) h in
    let more = and_parts (is_word parent) (are_values values) parts.1 in
    let ending = with_commas values ++ codes "}" in
    fits_line-plain (condition_line params c)
    (both_plain child (codes " | " ++ (parent ++ (codes " in {" ++ ending))) (word_plain child parts.0)
    (both_plain parent (codes " in {" ++ ending) (word_plain parent more.0) (both_plain (with_commas values) (codes "}") (values_plain values more.1) refl)))

-- and that of a clause
pub clause_fits : (params : List Param) (f : Forbidden) → is_form (clause_stated params f) ≡ true → fits_line (clause_line params f) ≡ true
unfolding clause_line
clause_fits params f h =
    let texts = map (pick_text params) f.picks in
    fits_line-plain (clause_line params f)
    (both_plain (with_commas texts) (codes "}") (commas_plain texts (picks_plain params f.picks (all_picks (map (pick_stated params) f.picks) h))) refl)
