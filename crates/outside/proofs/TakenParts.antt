-- What a sink has taken of a piece while it is written.
use Rattle.std.proofs.Common.{ℕ, ◌≡◌, ◌-◌, subst, take_all, length-drop, List, [], ◌++◌, Option, Some, None, length, take, drop, refl, sym, ap, ◌∙◌, arith, append_assoc}
use Rattle.std.proofs.lemmas.List.{take-append-drop, append-nil}
use Rattle.std.proofs.Math.Seq.{take-append_seam}
use Rattle.outside.specs.Changes.{after_taking}
use Rattle.outside.specs.ToldStates.{SinkTold}
use Rattle.outside.specs.WholePieces.{Took, TookPartOf}

-- all of the piece but the rest was taken
pub record HasTaken (before after : SinkTold) (piece rest : List ℕ) : Type 0 where
  pub front : List ℕ
  pub split : piece ≡ front ++ rest
  pub taken : Took before after front

pub after_taking-append : (before : Option (List ℕ)) (xs ys : List ℕ) → after_taking (after_taking before xs) ys ≡ after_taking before (xs ++ ys)
after_taking-append None xs ys = refl
after_taking-append (Some bytes) xs ys = ap Some (append_assoc bytes xs ys)

pub after_taking-nil : (before : Option (List ℕ)) → after_taking before [] ≡ before
after_taking-nil None = refl
after_taking-nil (Some bytes) = ap Some (append-nil bytes)

pub none_taken : (before : SinkTold) (piece : List ℕ) → HasTaken before before piece piece
none_taken before piece = record { front = []; split = refl; taken = sym (after_taking-nil before.taken) }

pub more_taken : (before after after' : SinkTold) (piece rest : List ℕ) (n : ℕ) → HasTaken before after piece rest → Took after after' (take n rest) → HasTaken before after' piece (drop n rest)
more_taken before after after' piece rest n h e = record {
  front = h.front ++ take n rest;
  split = h.split ∙ ap (λ xs. h.front ++ xs) (sym (take-append-drop n rest)) ∙ sym (append_assoc h.front (take n rest) (drop n rest));
  taken = e ∙ ap (λ a. after_taking a (take n rest)) h.taken ∙ after_taking-append before.taken h.front (take n rest);
}

pub part_taken : (before after : SinkTold) (piece rest : List ℕ) → HasTaken before after piece rest → TookPartOf before after piece
part_taken before after piece rest h = record {
  length = length h.front;
  taken = h.taken ∙ ap (after_taking before.taken) (sym (ap (take (length h.front)) h.split ∙ take-append_seam h.front rest));
}

pub all_taken : (before after : SinkTold) (piece rest : List ℕ) → HasTaken before after piece rest → rest ≡ [] → Took before after piece
all_taken before after piece rest h none =
    h.taken ∙ ap (after_taking before.taken) (sym (h.split ∙ ap (λ r. h.front ++ r) none ∙ append-nil h.front))

-- a refusal takes nothing more
pub refused_part : (before after after' : SinkTold) (piece rest : List ℕ) → HasTaken before after piece rest → after'.taken ≡ after.taken → TookPartOf before after' piece
refused_part before after after' piece rest h e =
    let part = part_taken before after piece rest h in record { length = part.length; taken = e ∙ part.taken }

-- what a slice from n on reads
rest_from : (xs : List ℕ) (m n : ℕ) → m ≡ length xs → take (m - n) (drop n xs) ≡ drop n xs
rest_from xs m n e = take_all (m - n) (drop n xs) (omega (arith, length-drop n xs))

-- `more_taken` at a slice from n on
pub more_taken_from : (before after after' : SinkTold) (piece rest : List ℕ) (m n : ℕ) → m ≡ length rest → HasTaken before after piece rest → Took after after' (take n rest) → HasTaken before after' piece (take (m - n) (drop n rest))
more_taken_from before after after' piece rest m n e h f =
    let P : List ℕ → Type 0 = λ xs. HasTaken before after' piece xs in
    subst P (sym (rest_from rest m n e)) (more_taken before after after' piece rest n h f)
