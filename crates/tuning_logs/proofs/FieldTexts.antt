-- The fields of a run log: as the CSV writer writes them, they are those of the definition.
use Rattle.std.proofs.Common.{ℕ, ◌≡◌, ◌<◌, ◌==◌, ◌^◌, ◌∙◌, Bool, true, false, List, [], ◌∷◌, ◌++◌, refl, ap, sym, append_assoc, arith, inl, inr}
use Rattle.std.specs.Prelude.{codes}
use Rattle.std.specs.Char.{is_ascii_digit}
use Rattle.std.specs.List.{list_all, list_any}
use Rattle.std.specs.Fmt.{decimal}
use Rattle.std.proofs.lemmas.Bool.{and_parts, cases_Bool, eqb-true}
use Rattle.std.proofs.lemmas.Bool.Decides.{nat_tests}
use Rattle.std.proofs.lemmas.Fmt.{digits_decimal}
use Rattle.std.proofs.lemmas.List.{append-nil}
use Rattle.csv.specs.Writing.{default_writer, needs_byte, escaped, field_text, fields_text, is_blank, row_text}
use Rattle.plain_text.specs.Decimals.{seconds}
use Rattle.plain_text.specs.Words.{is_word_byte}
use Rattle.plain_text.proofs.Digits.{digits_model}
use Rattle.plain_text.proofs.FirstPositions.{list_all-weaker}
use Rattle.plain_text.proofs.WrittenTimes.{is_time_byte, seconds-time_bytes}
use Rattle.tuning_logs.specs.FieldBytes.{is_plain, is_setting_byte}
use Rattle.tuning_logs.specs.RunLog.{is_quote, doubled, quoted}
use Rattle.tuning_logs.proofs.SettingsBytes.{PassesSettings}

-- two tests that agree on each byte of a text
same_any : (p q among : ℕ → Bool) → ((b : ℕ) → among b ≡ true → p b ≡ q b) → (text : List ℕ) → list_all among text ≡ true → list_any p text ≡ list_any q text
same_any p q among so [] h = refl
same_any p q among so (b ∷ text) h =
    let both = and_parts (among b) (list_all among text) h in
    rw (so b both.0, same_any p q among so text both.1) refl

none_needs : (text : List ℕ) → list_any (λ b. false) text ≡ false
none_needs [] = refl
none_needs (b ∷ text) = none_needs text

plain_byte : (b : ℕ) → is_plain b ≡ true → needs_byte default_writer b ≡ false
plain_byte b h = grind (arith, nat_tests, h)

setting_byte : (b : ℕ) → is_setting_byte b ≡ true → needs_byte default_writer b ≡ is_quote b
setting_byte b h = grind (arith, nat_tests, h)

escaped_is : (text : List ℕ) → escaped default_writer text ≡ doubled text
unfolding escaped
escaped_is [] = refl
escaped_is (b ∷ text) = elim (cases_Bool (b == 34)) [
  | inl e ↦ rw e (ap (λ x. x ∷ b ∷ escaped default_writer text) (sym (eqb-true b 34 e)) ∙ ap (λ t. b ∷ b ∷ t) (escaped_is text))
  | inr e ↦ rw e (ap (λ t. b ∷ t) (escaped_is text))
]

-- a field without marks of the format
plain_field : (text : List ℕ) → list_all is_plain text ≡ true → field_text default_writer text ≡ text
plain_field text h = rw (same_any (needs_byte default_writer) (λ b. false) is_plain plain_byte text h, none_needs text) refl

-- a field of settings
settings_field : (text : List ℕ) → list_all is_setting_byte text ≡ true → field_text default_writer text ≡ quoted text
settings_field text h = rw (same_any (needs_byte default_writer) is_quote is_setting_byte setting_byte text h, escaped_is text) refl

-- a record of five fields without marks and one of settings
pub record_is : (a b c d e f : List ℕ) → list_all is_plain a ≡ true → list_all is_plain b ≡ true → list_all is_plain c ≡ true → list_all is_plain d ≡ true
    → list_all is_plain e ≡ true → list_all is_setting_byte f ≡ true
    → row_text default_writer (a ∷ b ∷ c ∷ d ∷ e ∷ f ∷ [])
    ≡ a ++ (codes "," ++ (b ++ (codes "," ++ (c ++ (codes "," ++ (d ++ (codes "," ++ (e ++ (codes "," ++ (quoted f ++ codes "\n"))))))))))
unfolding fields_text is_blank
record_is a b c d e f pa pb pc pd pe pf =
    rw (plain_field a pa, plain_field b pb, plain_field c pc, plain_field d pd, plain_field e pe, settings_field f pf) (simp (append_assoc, append-nil))

digit_plain : (b : ℕ) → is_ascii_digit b ≡ true → is_plain b ≡ true
digit_plain b h = grind (arith, nat_tests, h)

time_plain : (b : ℕ) → is_time_byte b ≡ true → is_plain b ≡ true
unfolding is_time_byte
time_plain b h = grind (arith, nat_tests, h)

-- numbers and times are without marks
pub number_plain : (n : ℕ) → n < 2 ^ 64 → list_all is_plain (decimal n) ≡ true
number_plain n small = list_all-weaker is_ascii_digit is_plain digit_plain (decimal n) (digits_decimal digits_model n small)

pub seconds_plain : (n : ℕ) → n < 2 ^ 64 → list_all is_plain (seconds n) ≡ true
seconds_plain n small = list_all-weaker is_time_byte is_plain time_plain (seconds n) (seconds-time_bytes n small)

word_byte : (b : ℕ) → is_word_byte b ≡ true → is_setting_byte b ≡ true
word_byte b h = grind (arith, nat_tests, h)

-- settings hold no mark but double quotes
pub settings_unmarked : PassesSettings is_setting_byte
settings_unmarked = record { words = word_byte; equals = refl; space = refl }
