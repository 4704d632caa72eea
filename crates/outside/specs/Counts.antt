-- Counts, which rise by one at each call or at each failure and stand still at the greatest u64.
use Rattle.std.specs.Prelude.{ℕ, suc, ◌≤◌, ◌-◌, ◌^◌, ◌==◌, min, Bool, true, false, List}
use Rattle.std.specs.List.{list_any}

-- one more, where the number has room for it
abbrev pub next_count : ℕ → ℕ
next_count n = min (suc n) (2 ^ 64 - 1)

-- the count rose in a call: it is greater afterwards, or stands at the greatest number
abbrev pub Rose : ℕ → ℕ → Type 0
Rose before after = next_count before ≤ after

-- one more where the test is true
abbrev pub count_after : Bool → ℕ → ℕ
count_after true n = next_count n
count_after false n = n

-- the number stands among these
abbrev pub is_among : ℕ → List ℕ → Bool
is_among number numbers = list_any (λ n. n == number) numbers
