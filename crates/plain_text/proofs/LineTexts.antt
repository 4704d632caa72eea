-- Texts that are read back from lines, and the lines of UTF-8 texts.
use Rattle.std.specs.Prelude.{ℕ, ◌≡◌, ◌<◌, ◌+◌, ◌-◌, Bool, true, false, ◌&&◌, ◌==◌, not, List, [], ◌∷◌, ◌++◌, length, take, drop, get_or, All, IsUtf8, refl}
use Rattle.std.specs.List.{flat_map, list_all, slice_split, join_with_byte}
use Rattle.std.proofs.Common.{ap, sym, ◌∙◌, subst, arith, cond}
use Rattle.std.proofs.lemmas.Bool.{and_parts, not-true, and_from, eqb-true}
use Rattle.std.proofs.lemmas.List.{append_assoc, length-append, get_or_at, drop_at, drop-drop}
use Rattle.std.proofs.lemmas.List.Elements.{All-nil, All-cons, All-head, All-tail, All-weaker}
use Rattle.std.proofs.lemmas.List.Splits.{slice_split_at, join_with_byte-slice_split}
use Rattle.std.proofs.lemmas.List.Sums.{AllPass-from_list_all, list_all-from_AllPass}
use Rattle.std.proofs.lemmas.Str.{IsUtf8-take, IsUtf8-drop, IsCharBoundary-before_ascii, IsCharBoundary-after_ascii}
use Rattle.std.proofs.Math.Seq.{take-append_seam}
use Rattle.plain_text.specs.Lines.{is_break, without_return, lines_among, lines, numbered_from, numbered_lines}

-- a text that may stand on a line: it has no line feed, and no carriage return at its end
abbrev pub fits_line : List ℕ → Bool
fits_line text = list_all (λ b. not (is_break b)) text && not (get_or text (length text - 1) 0 == 13)

split_ended : (texts : List (List ℕ)) → All (λ t. fits_line t ≡ true) texts → slice_split is_break (flat_map (λ t. t ++ 10 ∷ []) texts) ≡ texts ++ [] ∷ []
split_ended [] h = refl
split_ended (t ∷ texts) h =
    let plain = and_parts (list_all (λ b. not (is_break b)) t) (not (get_or t (length t - 1) 0 == 13)) (All-head (λ x. fits_line x ≡ true) t texts h) in
    ap (slice_split is_break) (append_assoc t (10 ∷ []) (flat_map (λ x. x ++ 10 ∷ []) texts))
    ∙ slice_split_at is_break t 10 (flat_map (λ x. x ++ 10 ∷ []) texts) (All-weaker (λ b. not (is_break b) ≡ true) (λ b. is_break b ≡ false) (λ b n. not-true (is_break b) n) t (AllPass-from_list_all (λ b. not (is_break b)) t plain.0)) refl
    ∙ ap (λ parts. t ∷ parts) (split_ended texts (All-tail (λ x. fits_line x ≡ true) t texts h))

-- a text that fits a line, before an empty part or other texts
among_fitting : (t next : List ℕ) (parts : List (List ℕ)) → fits_line t ≡ true → lines_among (t ∷ next ∷ parts) ≡ t ∷ lines_among (next ∷ parts)
unfolding lines_among
among_fitting t next parts h =
    let plain = and_parts (list_all (λ b. not (is_break b)) t) (not (get_or t (length t - 1) 0 == 13)) h in
    let last : (get_or t (length t - 1) 0 == 13) ≡ false = not-true (get_or t (length t - 1) 0 == 13) plain.1 in
    ap (λ b. cond b (take (length t - 1) t) t ∷ lines_among (next ∷ parts)) last

among_ended : (texts : List (List ℕ)) → All (λ t. fits_line t ≡ true) texts → lines_among (texts ++ [] ∷ []) ≡ texts
unfolding lines_among
among_ended [] h = refl
among_ended (t ∷ []) h = among_fitting t [] [] (All-head (λ x. fits_line x ≡ true) t [] h)
among_ended (t ∷ next ∷ texts) h =
    among_fitting t next (texts ++ [] ∷ []) (All-head (λ x. fits_line x ≡ true) t (next ∷ texts) h) ∙ ap (λ ts. t ∷ ts) (among_ended (next ∷ texts) (All-tail (λ x. fits_line x ≡ true) t (next ∷ texts) h))

-- texts that are written on lines are read back
pub lines-ended : (texts : List (List ℕ)) → All (λ t. fits_line t ≡ true) texts → lines (flat_map (λ t. t ++ 10 ∷ []) texts) ≡ texts
lines-ended texts h = ap lines_among (split_ended texts h) ∙ among_ended texts h

-- the same, numbered from 1
pub numbered_lines-ended : (texts : List (List ℕ)) → All (λ t. fits_line t ≡ true) texts → numbered_lines (flat_map (λ t. t ++ 10 ∷ []) texts) ≡ numbered_from 1 texts
unfolding numbered_lines
numbered_lines-ended texts h = ap (numbered_from 1) (lines-ended texts h)

-- a text with no line feed and no carriage return may stand on a line
pub fits_line-plain : (text : List ℕ) → list_all (λ b. not (is_break b) && not (b == 13)) text ≡ true → fits_line text ≡ true
fits_line-plain [] h = refl
fits_line-plain (first ∷ others) h =
    let text = first ∷ others in
    let plain = AllPass-from_list_all (λ b. not (is_break b) && not (b == 13)) text h in
    let unbroken = All-weaker (λ b. (not (is_break b) && not (b == 13)) ≡ true) (λ b. not (is_break b) ≡ true) (λ b both. (and_parts (not (is_break b)) (not (b == 13)) both).0) text plain in
    let last = get_or text (length text - 1) 0 in
    and_from (list_all (λ b. not (is_break b)) text) (not (last == 13))
    (list_all-from_AllPass (λ b. not (is_break b)) text unbroken)
    (and_parts (not (is_break last)) (not (last == 13)) (plain (length text - 1) 0 (omega arith))).1

-- what stands before and after a line feed
utf8_parts : (part rest : List ℕ) → IsUtf8 (part ++ 10 ∷ rest) → IsUtf8 part × IsUtf8 rest
utf8_parts part rest u =
    let text = part ++ 10 ∷ rest in
    let inside : length part < length text = omega (arith, length-append part (10 ∷ rest)) in
    let there : get_or text (length part) 0 ≡ 10 = get_or_at part 10 rest 0 (length part) refl in
    let ascii : get_or text (length part) 0 < 128 = omega (arith, there) in
    let front = IsUtf8-take text (length part) u (IsCharBoundary-before_ascii text (length part) inside ascii) in
    let back = IsUtf8-drop text (length part + 1) u (IsCharBoundary-after_ascii text (length part) u inside ascii) in
    let after : drop (length part + 1) text ≡ rest = sym (drop-drop 1 (length part) text) ∙ ap (drop 1) (drop_at part (10 ∷ rest) (length part) refl) in
    (subst IsUtf8 (take-append_seam part (10 ∷ rest)) front, subst IsUtf8 after back)

utf8_without_return : (part : List ℕ) → IsUtf8 part → IsUtf8 (without_return part)
utf8_without_return [] u = u
utf8_without_return (b ∷ bs) u = by (get_or part (length part - 1) 0 == 13) refl
  where
    part : List ℕ
    part = b ∷ bs

    by : (t : Bool) → t ≡ (get_or part (length part - 1) 0 == 13) → IsUtf8 (cond t (take (length part - 1) part) part)
    by false e = u
    by true e =
        let byte = eqb-true (get_or part (length part - 1) 0) 13 (sym e) in
        IsUtf8-take part (length part - 1) u (IsCharBoundary-before_ascii part (length part - 1) (omega arith) (omega (arith, byte)))

utf8_among : (parts : List (List ℕ)) → IsUtf8 (join_with_byte 10 parts) → All IsUtf8 (lines_among parts)
unfolding lines_among
utf8_among [] u = All-nil IsUtf8
utf8_among ([] ∷ []) u = All-nil IsUtf8
utf8_among ((b ∷ part) ∷ []) u = All-cons IsUtf8 (b ∷ part) [] u (All-nil IsUtf8)
utf8_among (part ∷ next ∷ parts) u =
    let both = utf8_parts part (join_with_byte 10 (next ∷ parts)) u in
    All-cons IsUtf8 (without_return part) (lines_among (next ∷ parts)) (utf8_without_return part both.0) (utf8_among (next ∷ parts) both.1)

utf8_numbered : (n : ℕ) (texts : List (List ℕ)) → All IsUtf8 texts → All (λ l. IsUtf8 l.1) (numbered_from n texts)
unfolding numbered_from
utf8_numbered n [] h = All-nil (λ (l : ℕ × List ℕ). IsUtf8 l.1)
utf8_numbered n (text ∷ texts) h = All-cons (λ (l : ℕ × List ℕ). IsUtf8 l.1) (n, text) (numbered_from (n + 1) texts) (All-head IsUtf8 text texts h) (utf8_numbered (n + 1) texts (All-tail IsUtf8 text texts h))

-- the lines of a UTF-8 text are UTF-8
pub numbered_lines-utf8 : (text : List ℕ) → IsUtf8 text → All (λ l. IsUtf8 l.1) (numbered_lines text)
unfolding numbered_lines
numbered_lines-utf8 text u = utf8_numbered 1 (lines text) (utf8_among (slice_split is_break text) (subst IsUtf8 (sym (join_with_byte-slice_split 10 text)) u))
