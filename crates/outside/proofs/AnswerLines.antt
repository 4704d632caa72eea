-- The line that shows an answer is read as that answer.
use Rattle.std.proofs.Common.{ℕ, ◌≡◌, ◌<◌, ◌≤◌, ◌+◌, ◌-◌, ◌^◌, ◌==◌, ◌&&◌, Bool, true, false, not, List, [], ◌∷◌, ◌++◌, length, take, drop, get_or, Some, None, Ok, codes, refl, sym, ap, ◌∙◌, arith, nat_le, if◌then◌else◌, append_assoc}
use Rattle.std.specs.Fmt.{digits}
use Rattle.std.specs.List.{list_all, last_or, filter_map, prefix_len, suffix_len}
use Rattle.std.proofs.lemmas.Bool.{not-true}
use Rattle.std.proofs.lemmas.Bool.Decides.{nat_tests}
use Rattle.std.proofs.lemmas.List.{take_all, append-nil}
use Rattle.std.proofs.lemmas.List.Elements.{All-nil, All-cons}
use Rattle.std.proofs.lemmas.List.Sums.{AllPass-from_list_all, suffix_len-take_no}
use Rattle.plain_text.specs.Decimals.{seconds}
use Rattle.plain_text.specs.Lines.{is_break, lines, lines_among}
use Rattle.plain_text.specs.Times.{micros_read}
use Rattle.plain_text.specs.Trimming.{end_trimmed, trimmed}
use Rattle.plain_text.specs.Words.{is_blank}
use Rattle.plain_text.proofs.FirstPositions.{list_all-weaker, list_all-joined, before_first-found}
use Rattle.plain_text.proofs.LineTexts.{fits_line, fits_line-plain, lines-ended}
use Rattle.plain_text.proofs.WrittenTimes.{is_time_byte, seconds-time_bytes, micros_read-seconds}
use Rattle.objective.specs.Costs.{seen}
use Rattle.objective.specs.declared.Micros.{Micros}
use Rattle.objective.specs.declared.Answer.{Answer}
use Rattle.objective.specs.declared.Answer.TheVariants.{Solved, Timeout, Crashed, Abort}
use Rattle.objective.specs.declared.Outcome.{Outcome}
use Rattle.objective.specs.declared.Outcome.TheVariants as outcome
use Rattle.wrapper_lines.specs.ResultLines.{answer_of, answer_after, answer_by, said_in, first_field, second_field, is_comma, solved_after}
use Rattle.outside.specs.AnswerLines.{answer_line, result_line}

-- ---- trimming

prefix_len-none : (xs : List ℕ) → list_all (λ b. not (is_blank b)) xs ≡ true → prefix_len is_blank xs ≡ 0
prefix_len-none [] h = refl
prefix_len-none (x ∷ xs) h = grind (arith, nat_tests, h)

end_trimmed-plain : (xs : List ℕ) → list_all (λ b. not (is_blank b)) xs ≡ true → end_trimmed xs ≡ xs
end_trimmed-plain [] h = refl
end_trimmed-plain (x ∷ xs) h =
    let text = x ∷ xs in
    let last : is_blank (get_or text (length text - 1) 0) ≡ false = not-true _ (AllPass-from_list_all (λ b. not (is_blank b)) text h (length text - 1) 0 (omega arith)) in
    let all : take (length text) text ≡ text = take_all (length text) text (omega arith) in
    let none : suffix_len is_blank text ≡ 0 = ap (suffix_len is_blank) (sym all) ∙ suffix_len-take_no is_blank text (length text) 0 (omega arith) (omega arith) last in
    take_all (length text - suffix_len is_blank text) text (omega (arith, none))

-- one blank before bytes that aren't blank
trimmed-blank : (xs : List ℕ) → list_all (λ b. not (is_blank b)) xs ≡ true → trimmed (32 ∷ xs) ≡ xs
trimmed-blank xs h =
    let front : drop (1 + prefix_len is_blank xs) (32 ∷ xs) ≡ xs = rw (prefix_len-none xs h) refl in
    ap end_trimmed front ∙ end_trimmed-plain xs h

-- ---- the bytes of a time

time_byte-no_blank : (b : ℕ) → is_time_byte b ≡ true → not (is_blank b) ≡ true
unfolding is_time_byte
time_byte-no_blank b h = grind (arith, nat_tests)

time_byte-no_comma : (b : ℕ) → is_time_byte b ≡ true → not (is_comma b) ≡ true
unfolding is_time_byte
time_byte-no_comma b h = grind (arith, nat_tests)

time_byte-on_line : (b : ℕ) → is_time_byte b ≡ true → (not (is_break b) && not (b == 13)) ≡ true
unfolding is_time_byte
time_byte-on_line b h = grind (arith, nat_tests)

-- ---- a line that says SAT and a time

-- what it says after its head
said : List ℕ → List ℕ
said time = codes " SAT, " ++ (time ++ codes ", 0, 0, 0")

line_of : List ℕ → List ℕ
line_of time = codes "Result for ParamILS:" ++ said time

result_line-ended : (t : ℕ) → result_line (codes "SAT") (seconds t) ≡ line_of (seconds t) ++ 10 ∷ []
unfolding line_of said
result_line-ended t = ap (λ rest. codes "Result for ParamILS: SAT, " ++ rest) (sym (append_assoc (seconds t) (codes ", 0, 0, 0") (10 ∷ [])))

line_of-plain : (time : List ℕ) → list_all is_time_byte time ≡ true → list_all (λ b. not (is_break b) && not (b == 13)) (line_of time) ≡ true
unfolding line_of said
line_of-plain time h =
    list_all-joined (λ b. not (is_break b) && not (b == 13)) time (codes ", 0, 0, 0")
    (list_all-weaker is_time_byte (λ b. not (is_break b) && not (b == 13)) time_byte-on_line time h)
    refl

lines-one : (line : List ℕ) → fits_line line ≡ true → lines (line ++ 10 ∷ []) ≡ line ∷ []
lines-one line h =
    ap lines (sym (append-nil (line ++ 10 ∷ []))) ∙ lines-ended (line ∷ []) (All-cons (λ t. fits_line t ≡ true) line [] h (All-nil (λ t. fits_line t ≡ true)))

said_in-line : (time : List ℕ) → said_in (line_of time) ≡ Some (said time)
unfolding line_of said
said_in-line time = refl

first_field-said : (time : List ℕ) → first_field (said time) ≡ codes "SAT"
unfolding said
first_field-said time = refl

second_field-said : (time : List ℕ) → list_all is_time_byte time ≡ true → second_field (said time) ≡ time
unfolding said
second_field-said time h =
    let plain : list_all (λ b. not (is_comma b)) (32 ∷ time) ≡ true = list_all-weaker is_time_byte (λ b. not (is_comma b)) time_byte-no_comma time h in
    ap trimmed (before_first-found is_comma (32 ∷ time) 44 (codes " 0, 0, 0") plain refl)
    ∙ trimmed-blank time (list_all-weaker is_time_byte (λ b. not (is_blank b)) time_byte-no_blank time h)

-- the answer of the last one of lines, of which there is one
answer_in : ℕ → List (List ℕ) → Answer
answer_in cutoff texts = answer_after cutoff (last_or None (filter_map said_in texts))

answer_in-one : (time : List ℕ) (cutoff : ℕ) → answer_in cutoff (line_of time ∷ []) ≡ answer_after cutoff (Some (said time))
unfolding answer_in line_of said
answer_in-one time cutoff = refl

answer_of-line_of : (time : List ℕ) (cutoff : ℕ) → list_all is_time_byte time ≡ true → answer_of (line_of time ++ 10 ∷ []) cutoff ≡ solved_after cutoff (micros_read time)
unfolding answer_in answer_of
answer_of-line_of time cutoff h =
    ap (answer_in cutoff) (lines-one (line_of time) (fits_line-plain (line_of time) (line_of-plain time h)))
    ∙ answer_in-one time cutoff
    ∙ (λ i. answer_by cutoff (first_field-said time i) (micros_read (second_field-said time h i)))

answer_of-SAT : (t cutoff : ℕ) → t < 2 ^ 64 → answer_of (result_line (codes "SAT") (seconds t)) cutoff ≡ solved_after cutoff (Ok (record { 0 = t }))
answer_of-SAT t cutoff small =
    ap (λ output. answer_of output cutoff) (result_line-ended t)
    ∙ answer_of-line_of (seconds t) cutoff (seconds-time_bytes t small)
    ∙ ap (solved_after cutoff) (micros_read-seconds t small)

-- ---- each answer

-- a time that an answer shows lies within the cutoff
pub IsShown : Answer → ℕ → Type 0
IsShown (Solved t) cutoff = t.0 ≤ cutoff
IsShown Timeout cutoff = Unit {0}
IsShown Crashed cutoff = Unit {0}
IsShown Abort cutoff = Unit {0}

solved_after-shown : (t : Micros) (cutoff : ℕ) → t.0 ≤ cutoff → solved_after cutoff (Ok t) ≡ Solved t
solved_after-shown t cutoff h = grind (arith, nat_tests)

pub answer_of-line : (a : Answer) (cutoff : ℕ) → cutoff < 2 ^ 64 → IsShown a cutoff → answer_of (answer_line a) cutoff ≡ a
unfolding IsShown answer_of lines_among digits
answer_of-line (Solved t) cutoff small h = answer_of-SAT t.0 cutoff (omega (arith, h, small)) ∙ solved_after-shown t cutoff h
answer_of-line Timeout cutoff small h = refl
answer_of-line Crashed cutoff small h = refl
answer_of-line Abort cutoff small h = refl

solved_shown : (b : Bool) (t : Micros) (cutoff : ℕ) → (b ≡ true → t.0 ≤ cutoff) → IsShown (if b then Solved t else Timeout) cutoff
unfolding IsShown
solved_shown true t cutoff h = h refl
solved_shown false t cutoff h = tt

otherwise_shown : (b : Bool) (a : Answer) (cutoff : ℕ) → IsShown a cutoff → IsShown (if b then a else Timeout) cutoff
unfolding IsShown
otherwise_shown true a cutoff h = h
otherwise_shown false a cutoff h = tt

IsShown-seen : (o : Outcome) (cutoff : ℕ) → IsShown (seen o cutoff) cutoff
unfolding IsShown
IsShown-seen (outcome.Solved t) cutoff = solved_shown (nat_le t.0 cutoff) t cutoff (λ h. grind (arith, nat_tests, h))
IsShown-seen outcome.Unsolved cutoff = tt
IsShown-seen (outcome.Crashed t) cutoff = otherwise_shown (nat_le t.0 cutoff) Crashed cutoff tt
IsShown-seen (outcome.Abort t) cutoff = otherwise_shown (nat_le t.0 cutoff) Abort cutoff tt

-- what a run with this outcome shows is read from its line
pub answer_of-seen : (o : Outcome) (cutoff : ℕ) → cutoff < 2 ^ 64 → answer_of (answer_line (seen o cutoff)) cutoff ≡ seen o cutoff
answer_of-seen o cutoff small = answer_of-line (seen o cutoff) cutoff small (IsShown-seen o cutoff)
