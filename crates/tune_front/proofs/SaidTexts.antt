-- Texts that are said one after another.
use Rattle.std.proofs.Common.{ℕ, suc, ◌≡◌, ◌≤◌, ◌<◌, ◌+◌, List, ◌∷◌, ◌++◌, length, get_or, take, drop, sym, ap, subst, ◌∙◌, arith, append_assoc, inl, inr, take_all}
use Rattle.std.specs.List.{flat_map}
use Rattle.std.proofs.lemmas.Bool.{cases_lt}
use Rattle.std.proofs.lemmas.List.{take-append-le, take-append-drop}
use Rattle.std.proofs.lemmas.List.Concat.{flat_map-append}
use Rattle.std.proofs.Math.Seq.{take-append_seam, take-append-add, drop-cons}
use Rattle.outside.specs.Changes.{after_taking}
use Rattle.outside.specs.WholePieces.{Took, TookPartOf, WroteBadly, failed, nothing_taken}
use Rattle.outside.specs.ToldStates.{SinkTold}
use Rattle.tune_front.specs.SaidTexts.{Said, Reported, made}
use Rattle.tune_front.specs.declared.status.Status.{Status}
use Rattle.outside.proofs.TakenParts.{after_taking-append}

-- a part of the second text, after the whole first
part_after : (before middle after : SinkTold) (first second : List ℕ) → Took before middle first → TookPartOf middle after second → TookPartOf before after (first ++ second)
part_after before middle after first second e p = record {
  length = length first + p.length;
  taken = p.taken ∙ ap (λ m. after_taking m (take p.length second)) e ∙ after_taking-append before.taken first (take p.length second)
      ∙ ap (after_taking before.taken) (sym (take-append-add first second p.length));
}

-- a part of the first text
part_before : (before after : SinkTold) (first second : List ℕ) → TookPartOf before after first → TookPartOf before after (first ++ second)
part_before before after first second p =
    elim (cases_lt (length first) p.length) as (λ _. TookPartOf before after (first ++ second)) [
      | inl over ↦ record {
        length = length first;
        taken = p.taken ∙ ap (after_taking before.taken) (take_all p.length first (omega arith) ∙ sym (take-append_seam first second));
      }
      | inr inside ↦ record {
        length = p.length;
        taken = p.taken ∙ ap (after_taking before.taken) (sym (take-append-le p.length first second inside));
      }
    ]

-- a count that rose after an earlier count rose
pub widened : (before middle after : SinkTold) → before.faults ≤ middle.faults → before.empties ≤ middle.empties → WroteBadly middle after → WroteBadly before after
widened before middle after low low' (failed rose) = failed (omega arith)
widened before middle after low low' (nothing_taken rose) = nothing_taken (omega arith)

-- a part of a line, after the whole lines before it
pub part_of_lines : {X : Type 0} (f : X → List ℕ) (xs : List X) (i : ℕ) (d : X) (before middle after : SinkTold) (line : List ℕ) → i < length xs
    → line ≡ f (get_or xs i d) → Took before middle (flat_map f (take i xs)) → TookPartOf middle after line → TookPartOf before after (flat_map f xs)
part_of_lines f xs i d before middle after line inside same taken part =
    let rest = drop (suc i) xs in
    let split : xs ≡ take i xs ++ get_or xs i d ∷ rest = sym (take-append-drop i xs) ∙ ap (λ ys. take i xs ++ ys) (drop-cons xs i d inside) in
    let whole : flat_map f xs ≡ (flat_map f (take i xs) ++ line) ++ flat_map f rest =
    ap (flat_map f) split ∙ flat_map-append f (take i xs) (get_or xs i d ∷ rest)
    ∙ ap (λ l. flat_map f (take i xs) ++ (l ++ flat_map f rest)) (sym same) ∙ sym (append_assoc (flat_map f (take i xs)) line (flat_map f rest)) in
    let P : List ℕ → Type 0 = λ t. TookPartOf before after t in
    subst P (sym whole) (part_before before after _ (flat_map f rest) (part_after before middle after (flat_map f (take i xs)) line taken part))

-- a text that is said is the one that was to be said
pub said_as : (out out' : SinkTold) (end result : Status) (line text : List ℕ) → line ≡ text → Said out out' end result line → Reported out out' result end text
said_as out out' end result line text e h = let P : List ℕ → Type 0 = λ t. Said out out' end result t in made (subst P e h)
