-- The first line of a text, and the others.
use Rattle.std.proofs.Common.{ℕ, suc, ◌≡◌, ◌<◌, ◌+◌, ◌-◌, ◌==◌, Bool, true, false, List, [], ◌∷◌, length, take, drop, refl, sym, ap, ◌∙◌, arith}
use Rattle.std.proofs.lemmas.Bool.{eqb-true}
use Rattle.std.proofs.lemmas.List.{length-take, length-drop}
use Rattle.std.proofs.lemmas.List.Splits.{slice_split_first, slice_split-cons_no, length-slice_split}
use Rattle.std.specs.List.{slice_split, onto_first, position_or_len}
use Rattle.plain_text.specs.declared.line_positions.Line.{Line}
use Rattle.plain_text.specs.LinePositions.{line_at, positions_of, IsFirstLine}
use Rattle.plain_text.specs.Lines.{is_break, without_return, lines_among, lines, numbered_from}
use Rattle.plain_text.proofs.KeptDigits.{drop_all}

-- an empty text has no lines
pub lines-none : (text : List ℕ) → length text ≡ 0 → lines text ≡ []
unfolding lines_among
lines-none [] e = refl
lines-none (b ∷ text) e = absurd (omega (arith, e))

-- a text without a line feed
unbroken : (text : List ℕ) → position_or_len is_break text ≡ length text → slice_split is_break text ≡ text ∷ []
unbroken [] e = refl
unbroken (b ∷ text) e = by (is_break b) refl (λ rest. unbroken text rest)
  where
    by : (t : Bool) → t ≡ is_break b → (position_or_len is_break text ≡ length text → slice_split is_break text ≡ text ∷ []) → slice_split is_break (b ∷ text) ≡ (b ∷ text) ∷ []
    by true t rest = absurd (let f : 0 ≡ suc (length text) = rw (sym t) at e in omega (arith, f))
    by false t rest =
        let f : 1 + position_or_len is_break text ≡ suc (length text) = rw (sym t) at e in
        slice_split-cons_no is_break b text (sym t) ∙ ap (λ parts. onto_first b parts) (rest (omega (arith, f)))

-- what no line feed ends is one line
pub lines-open : (text later : List ℕ) (position : ℕ) → 0 < length text → position ≡ position_or_len is_break text → position ≡ length text → later ≡ drop position text → lines text ≡ text ∷ lines later
unfolding lines_among
lines-open [] later position some first all rest = absurd (omega (arith, some))
lines-open (b ∷ text) later position some first all rest =
    let parts = unbroken (b ∷ text) (sym first ∙ all) in
    let none : later ≡ [] = rest ∙ drop_all position (b ∷ text) (omega (arith, all)) in
    ap lines_among parts ∙ ap (λ xs. (b ∷ text) ∷ lines xs) (sym none)

-- a part before others
among_more : (part : List ℕ) (parts : List (List ℕ)) → 0 < length parts → lines_among (part ∷ parts) ≡ without_return part ∷ lines_among parts
unfolding lines_among
among_more part [] some = absurd (omega (arith, some))
among_more part (next ∷ parts) some = refl

-- a line before a line feed, and the others
pub lines-ended : (text line later : List ℕ) (position : ℕ) → position ≡ position_or_len is_break text → position < length text → line ≡ without_return (take position text) → later ≡ drop (position + 1) text → lines text ≡ line ∷ lines later
lines-ended text line later position first inside ends rest =
    let parts : slice_split is_break text ≡ take position text ∷ slice_split is_break (drop (position + 1) text) =
    slice_split_first is_break text 0 (omega (arith, first, inside)) ∙ ap (λ k. take k text ∷ slice_split is_break (drop (k + 1) text)) (sym first) in
    ap lines_among parts
    ∙ among_more (take position text) (slice_split is_break (drop (position + 1) text)) (omega (arith, length-slice_split is_break (drop (position + 1) text)))
    ∙ (λ i. sym ends i ∷ lines (sym rest i))

-- numbered lines, of which the first is taken
pub numbered-first : (n : ℕ) (text line later : List ℕ) → lines text ≡ line ∷ lines later → numbered_from n (lines text) ≡ (n, line) ∷ numbered_from (n + 1) (lines later)
unfolding numbered_from
numbered-first n text line later e = ap (numbered_from n) e

-- no numbered lines are left of an empty text
pub numbered-none : (n : ℕ) (text : List ℕ) → length text ≡ 0 → numbered_from n (lines text) ≡ []
unfolding numbered_from
numbered-none n text e = ap (numbered_from n) (lines-none text e)

-- the same, from what the code's test says
pub numbered-none_by : (n : ℕ) (text : List ℕ) (seen : List (ℕ × List ℕ)) → true ≡ (length text == 0) → numbered_from n (lines text) ≡ seen → (seen ≡ []) × (seen ≡ [])
numbered-none_by n text seen test e =
    let size : length text ≡ 0 = eqb-true (length text) 0 (sym test) in
    let none : seen ≡ [] = sym e ∙ numbered-none n text size in (none, none)

-- ---- positions

-- what no line feed ends is one line, at its position
pub positions-open : (text later : List ℕ) (position : ℕ) → 0 < length text → position ≡ position_or_len is_break text → position ≡ length text → later ≡ drop position text → IsFirstLine text text later
unfolding positions_of
positions-open [] later position some first all rest given start = absurd (omega (arith, some))
positions-open (b ∷ text) later position some first all rest given start =
    let parts = unbroken (b ∷ text) (sym first ∙ all) in
    let none : later ≡ [] = rest ∙ drop_all position (b ∷ text) (omega (arith, all)) in
    ap (positions_of given start) parts
    ∙ ap (λ xs. line_at given start (length (b ∷ text)) ∷ positions_of (given + 1) (start + (length (b ∷ text) - length later)) (slice_split is_break xs)) (sym none)

-- a part before others
positions_more : (given start : ℕ) (part : List ℕ) (parts : List (List ℕ)) → 0 < length parts → positions_of given start (part ∷ parts) ≡ line_at given start (length (without_return part)) ∷ positions_of (given + 1) (start + length part + 1) parts
unfolding positions_of
positions_more given start part [] some = absurd (omega (arith, some))
positions_more given start part (next ∷ parts) some = refl

-- a line before a line feed, at its position
pub positions-ended : (text line later : List ℕ) (position : ℕ) → position ≡ position_or_len is_break text → position < length text → line ≡ without_return (take position text) → later ≡ drop (position + 1) text → IsFirstLine text line later
positions-ended text line later position first inside ends rest given start =
    let after = slice_split is_break (drop (position + 1) text) in
    let parts : slice_split is_break text ≡ take position text ∷ after =
    slice_split_first is_break text 0 (omega (arith, first, inside)) ∙ ap (λ k. take k text ∷ slice_split is_break (drop (k + 1) text)) (sym first) in
    let size : length later ≡ length text - (position + 1) = ap length rest ∙ length-drop (position + 1) text in
    let next : start + length (take position text) + 1 ≡ start + (length text - length later) = omega (arith, inside, size, length-take position text) in
    ap (positions_of given start) parts
    ∙ positions_more given start (take position text) after (omega (arith, length-slice_split is_break (drop (position + 1) text)))
    ∙ (λ i. line_at given start (length (sym ends i)) ∷ positions_of (given + 1) (next i) (slice_split is_break (sym rest i)))

-- no positions are left of an empty text
positions-none : (given start : ℕ) (text : List ℕ) → length text ≡ 0 → positions_of given start (slice_split is_break text) ≡ []
unfolding positions_of
positions-none given start [] e = refl
positions-none given start (b ∷ text) e = absurd (omega (arith, e))

-- the same, from what the code's test says
pub positions-none_by : (given start : ℕ) (text : List ℕ) (seen : List Line) → true ≡ (length text == 0) → positions_of given start (slice_split is_break text) ≡ seen → (seen ≡ []) × (seen ≡ [])
positions-none_by given start text seen test e =
    let none : seen ≡ [] = sym e ∙ positions-none given start text (eqb-true (length text) 0 (sym test)) in (none, none)
