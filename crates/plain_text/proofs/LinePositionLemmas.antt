-- The lines of a text are what stands at their positions.
use Rattle.std.specs.Prelude.{ℕ, ◌≡◌, ◌≤◌, ◌+◌, ◌-◌, Bool, true, false, ◌==◌, List, [], ◌∷◌, ◌++◌, length, map, take, drop, get_or, refl}
use Rattle.std.specs.List.{slice_split, join_with_byte}
use Rattle.std.proofs.Common.{ap, sym, ◌∙◌, arith, cond}
use Rattle.std.proofs.lemmas.List.{length-append, length-drop, length-take, drop-drop, drop_at, take_all, take-append-le}
use Rattle.std.proofs.lemmas.List.Splits.{join_with_byte-slice_split}
use Rattle.std.proofs.Math.Seq.{take-append_seam}
use Rattle.plain_text.specs.declared.line_positions.Line.{Line}
use Rattle.plain_text.specs.LinePositions.{positions_of, line_positions}
use Rattle.plain_text.specs.Lines.{is_break, without_return, lines_among, numbered_from, numbered_lines}

-- a line's number and its bytes
abbrev pub numbered_bytes : List ℕ → Line → ℕ × List ℕ
numbered_bytes text line = (line.number, take (line.end - line.start) (drop line.start text))

-- a line stands before its carriage return
line_taken : (part rest : List ℕ) → take (length (without_return part)) (part ++ rest) ≡ without_return part
line_taken part rest = by (get_or part (length part - 1) 0 == 13)
  where
    by : (b : Bool) → take (length (cond b (take (length part - 1) part) part)) (part ++ rest) ≡ cond b (take (length part - 1) part) part
    by false = take-append_seam part rest
    by true =
        let size : length (take (length part - 1) part) ≡ length part - 1 = omega (arith, length-take (length part - 1) part) in
        ap (λ k. take k (part ++ rest)) size ∙ take-append-le (length part - 1) part rest (omega arith)

module _ (text : List ℕ) where
  numbered_of : (given start : ℕ) (parts : List (List ℕ)) → start ≤ length text → drop start text ≡ join_with_byte 10 parts → map (numbered_bytes text) (positions_of given start parts) ≡ numbered_from (given + 1) (lines_among parts)
  unfolding positions_of numbered_from lines_among
  numbered_of given start [] h e = refl
  numbered_of given start ([] ∷ []) h e = refl
  numbered_of given start ((b ∷ part) ∷ []) h e =
      let size : start + length (b ∷ part) - start ≡ length (b ∷ part) = omega arith in
      ap (λ xs. (given + 1, xs) ∷ []) (ap (λ k. take k (drop start text)) size ∙ ap (take (length (b ∷ part))) e ∙ take_all (length (b ∷ part)) (b ∷ part) (omega arith))
  numbered_of given start (part ∷ next ∷ parts) h e =
      let rest = join_with_byte 10 (next ∷ parts) in
      let total : length text ≡ start + length part + 1 + length rest = omega (arith, ap length e, length-drop start text, length-append part (10 ∷ rest)) in
      let after : drop (start + length part + 1) text ≡ rest =
      sym (drop-drop 1 (start + length part) text)
      ∙ ap (drop 1) (sym (drop-drop (length part) start text) ∙ ap (drop (length part)) e ∙ drop_at part (10 ∷ rest) (length part) refl) in
      let line = without_return part in
      let size : start + length line - start ≡ length line = omega arith in
      let first : take (start + length line - start) (drop start text) ≡ line = ap (λ k. take k (drop start text)) size ∙ ap (take (length line)) e ∙ line_taken part (10 ∷ rest) in
      let others = numbered_of (given + 1) (start + length part + 1) (next ∷ parts) (omega (arith, total)) after in
      (λ i. (given + 1, first i) ∷ others i)

  -- the numbered lines of a text are what stands at the positions of its lines
  pub numbered_lines-positions : numbered_lines text ≡ map (numbered_bytes text) (line_positions text)
  unfolding numbered_lines
  numbered_lines-positions = sym (numbered_of 0 0 (slice_split is_break text) (omega arith) (sym (join_with_byte-slice_split 10 text)))
