use Rattle.std.proofs.Common.{ℕ, ◌≡◌, true, List, Bor, take, bytes_eq}
use Rattle.std.specs.List.{list_any}
use Rattle.std.specs.Ordering.{nat_cmp}
use Rattle.std.specs.Cmp.Lexicographic.{slice_cmp}
use Rattle.std.specs.BTreeSet as tree
use Rattle.plain_text.specs.Texts.{texts_differ}
use Rattle.plain_text.proofs.texts.texts_differ.Given as goal

-- the texts so far differ, and they are those that were seen
abbrev pub invariant-loop-text : goal.invariant-loop-text
invariant-loop-text l = record {
  differ : texts_differ (take l.text-index l.texts) ≡ true;
  seen : (q : Bor (List ℕ)) → tree.contains (λ x y. slice_cmp nat_cmp x.now y.now) l.seen q ≡ list_any (λ t. bytes_eq t q.now) (take l.text-index l.texts);
}
