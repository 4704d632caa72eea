-- What parsing a text of digits gives.
use Rattle.std.proofs.Common.{ℕ, ◌≡◌, ◌<◌, ◌^◌, true, List, Some, None, Result, Ok, Err, length, arith, rules}
use Rattle.std.specs.Char.{is_ascii_digit}
use Rattle.std.specs.List.{list_all}
use Rattle.std.specs.Result.{result_ok, OkIff}
use Rattle.std.specs.Str.Parse.{digits_value, ParsesUnsigned}
use Rattle.std.specs.Str.{IsUtf8}
use Rattle.std.proofs.lemmas.Str.Parse.{IsNumeralModel, numerals_by_value, parse_digits}
use Rattle.std.proofs.lemmas.Str.{IsUtf8-from_ascii}
use Rattle.std.proofs.lemmas.Fmt.{IsAscii-from_digits}
use Rattle.std.proofs.lemmas.Bool.Decides.{nat_tests}
use Rattle.plain_text.specs.Decimals.{count_of}

-- digits and their number, as the lemmas on `parse` want them
pub digits_model : IsNumeralModel (λ ds. list_all is_ascii_digit ds ≡ true) (digits_value 10)
digits_model = numerals_by_value _ (search rules)

pub IsUtf8-digits : (text : List ℕ) → list_all is_ascii_digit text ≡ true → IsUtf8 text
IsUtf8-digits text h = IsUtf8-from_ascii text (IsAscii-from_digits text (digits_model.to text h))

count_in_range : (text : List ℕ) (x : ℕ) → list_all is_ascii_digit text ≡ true → (0 < length text) × (digits_value 10 text < 2 ^ 64) → x ≡ digits_value 10 text → Some x ≡ count_of text
count_in_range text x h p e = grind (arith, nat_tests, h, p.0, p.1, e)

count_out_of_range : (text : List ℕ) → list_all is_ascii_digit text ≡ true → ¬ ((0 < length text) × (digits_value 10 text < 2 ^ 64)) → None ≡ count_of text
count_out_of_range text h p = grind (arith, nat_tests, h)

pub count_of-parse : {E : Type 0} (text : List ℕ) (p : Result ℕ E) → list_all is_ascii_digit text ≡ true → ParsesUnsigned 64 10 text p → result_ok p ≡ count_of text
count_of-parse {E} text p h parsed =
    let Goal : Result ℕ E → Type 0 = λ r. OkIff r ((0 < length text) × (digits_value 10 text < 2 ^ 64)) (digits_value 10 text) → result_ok r ≡ count_of text in
    let cases : Goal p = elim p as Goal [ Ok x ↦ (λ q. count_in_range text x h q.0 q.1) | Err e ↦ (λ q. count_out_of_range text h q) ] in
    cases (parse_digits digits_model 64 text p parsed h)
