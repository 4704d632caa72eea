-- What `strip_prefix` and `strip_suffix` give, in the words of `after_prefix` and `before_suffix`.
use Rattle.std.proofs.Common.{ℕ, ◌≡◌, ◌-◌, true, false, List, ◌++◌, Some, None, length, take, drop, sym, ap, ◌∙◌}
use Rattle.std.specs.Str.{bytes_eq}
use Rattle.std.proofs.lemmas.Bool.{false_from_ne_true}
use Rattle.std.proofs.lemmas.List.{take-append-drop}
use Rattle.std.proofs.lemmas.List.Prefix.{end_rest, front_rest}
use Rattle.std.proofs.lemmas.Slice.Eq.{bytes_eq-Decides}
use Rattle.std.proofs.Math.Seq.{take-append_seam}
use Rattle.plain_text.specs.Parts.{after_prefix, before_suffix}

pub after_prefix-missing : (p xs : List ℕ) → ((rest : List ℕ) → xs ≡ p ++ rest → ⊥) → None ≡ after_prefix p xs
after_prefix-missing p xs lacks =
    let differs : bytes_eq (take (length p) xs) p ≡ false =
    false_from_ne_true _ (λ same. lacks (drop (length p) xs)
    (let whole = take-append-drop (length p) xs in
    let front = (bytes_eq-Decides (take (length p) xs) p).0 same in
    sym (rw front at whole)))
    in rw differs

pub after_prefix-found : (p xs rest : List ℕ) → xs ≡ p ++ rest → Some rest ≡ after_prefix p xs
after_prefix-found p xs rest e =
    let front : take (length p) xs ≡ p = ap (take (length p)) e ∙ take-append_seam p rest in
    let same : bytes_eq (take (length p) xs) p ≡ true = (bytes_eq-Decides (take (length p) xs) p).1 front in
    let back : drop (length p) xs ≡ rest = front_rest xs p rest e in
    rw (same, back)

pub before_suffix-missing : (p xs : List ℕ) → ((front : List ℕ) → xs ≡ front ++ p → ⊥) → None ≡ before_suffix p xs
before_suffix-missing p xs lacks =
    let differs : bytes_eq (drop (length xs - length p) xs) p ≡ false =
    false_from_ne_true _ (λ same. lacks (take (length xs - length p) xs)
    (let whole = take-append-drop (length xs - length p) xs in
    let back = (bytes_eq-Decides (drop (length xs - length p) xs) p).0 same in
    sym (rw back at whole)))
    in rw differs

pub before_suffix-found : (p xs front : List ℕ) → xs ≡ front ++ p → Some (take (length xs - length p) xs) ≡ before_suffix p xs
before_suffix-found p xs front e =
    let same : bytes_eq (drop (length xs - length p) xs) p ≡ true = (bytes_eq-Decides (drop (length xs - length p) xs) p).1 (end_rest xs p front e) in rw same
