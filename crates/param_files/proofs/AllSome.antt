-- What each element of a list is read as, one element after another.
use Rattle.std.proofs.Common.{ℕ, ◌≡◌, ◌<◌, ◌+◌, true, false, List, [], ◌∷◌, ◌++◌, Option, Some, None, length, get_or, take, drop, refl, ap, sym, ◌∙◌}
use Rattle.std.specs.Option.{is_some}
use Rattle.std.proofs.lemmas.List.{take_more, take-append-drop, drop_more}
use Rattle.param_files.specs.Reading.{before, all_some}

same_some : {A : Type 0} (x y : A) → Some x ≡ Some y → x ≡ y
same_some x y e = cc

-- one more element that has a reading
all_some-push : {A B : Type 0} (f : A → Option B) (xs : List A) (x : A) (ys : List B) (y : B) → all_some f xs ≡ Some ys → f x ≡ Some y → all_some f (xs ++ x ∷ []) ≡ Some (ys ++ y ∷ [])
all_some-push f [] x ys y e h = rw h (ap (λ zs. Some (zs ++ y ∷ [])) (same_some [] ys e))
all_some-push {B = B} f (x' ∷ xs) x ys y e h = by (f x') (all_some f xs) refl e (all_some-push f xs x)
  where
    by : (o : Option B) (p : Option (List B)) → all_some f xs ≡ p → before o p ≡ Some ys → ((zs : List B) (z : B) → all_some f xs ≡ Some zs → f x ≡ Some z → all_some f (xs ++ x ∷ []) ≡ Some (zs ++ z ∷ [])) → before o (all_some f (xs ++ x ∷ [])) ≡ Some (ys ++ y ∷ [])
    by None p is e step = absurd (cc)
    by (Some z) None is e step = absurd (cc)
    by (Some z) (Some zs) is e step = ap (before (Some z)) (step zs y is h) ∙ ap (λ ws. Some (ws ++ y ∷ [])) (same_some (z ∷ zs) ys e)

no_value : {B : Type 0} (o : Option B) → before o None ≡ None
no_value None = refl
no_value (Some y) = refl

-- an element that has none
all_some-missing : {A B : Type 0} (f : A → Option B) (xs : List A) (x : A) (later : List A) → f x ≡ None → all_some f (xs ++ x ∷ later) ≡ None
all_some-missing f [] x later h = rw h refl
all_some-missing f (x' ∷ xs) x later h = ap (before (f x')) (all_some-missing f xs x later h) ∙ no_value (f x')

-- the step of a loop that reads an element x
pub all_some_more : {A B : Type 0} (f : A → Option B) (xs : List A) (i : ℕ) (d x : A) (ys zs : List B) (y : B) → i < length xs → x ≡ get_or xs i d → all_some f (take i xs) ≡ Some ys → Some y ≡ f x → zs ≡ ys ++ y ∷ [] → all_some f (take (i + 1) xs) ≡ Some zs
all_some_more f xs i d x ys zs y inside is e h done =
    ap (all_some f) (take_more xs i d inside) ∙ all_some-push f (take i xs) (get_or xs i d) ys y e (ap f (sym is) ∙ sym h) ∙ ap Some (sym done)

-- its exit at an element without a reading
pub all_some_stops : {A B : Type 0} (f : A → Option B) (xs : List A) (i : ℕ) (d x : A) → i < length xs → x ≡ get_or xs i d → None ≡ f x → None ≡ all_some f xs
all_some_stops f xs i d x inside is h =
    sym (ap (all_some f) (sym (take-append-drop i xs) ∙ ap (λ ys. take i xs ++ ys) (drop_more xs i d inside))
    ∙ all_some-missing f (take i xs) (get_or xs i d) (drop (i + 1) xs) (ap f (sym is) ∙ sym h))

-- the same where it is only told whether there is a reading
pub is_some_more : {A B : Type 0} (f : A → Option B) (xs : List A) (i : ℕ) (d x : A) → i < length xs → x ≡ get_or xs i d → is_some (all_some f (take i xs)) ≡ true → is_some (f x) ≡ true → is_some (all_some f (take (i + 1) xs)) ≡ true
is_some_more {B = B} f xs i d x inside is e h = by (all_some f (take i xs)) (f x) refl refl e h
  where
    by : (o : Option (List B)) (p : Option B) → all_some f (take i xs) ≡ o → p ≡ f x → is_some o ≡ true → is_some p ≡ true → is_some (all_some f (take (i + 1) xs)) ≡ true
    by None p a b e h = absurd (cc)
    by (Some ys) None a b e h = absurd (cc)
    by (Some ys) (Some y) a b e h = ap is_some (all_some_more f xs i d x ys (ys ++ y ∷ []) y inside is a b refl)

pub is_some_stops : {A B : Type 0} (f : A → Option B) (xs : List A) (i : ℕ) (d x : A) → i < length xs → x ≡ get_or xs i d → is_some (f x) ≡ false → false ≡ is_some (all_some f xs)
is_some_stops {B = B} f xs i d x inside is h = by (f x) refl h
  where
    by : (p : Option B) → p ≡ f x → is_some p ≡ false → false ≡ is_some (all_some f xs)
    by None b h = ap is_some (all_some_stops f xs i d x inside is b)
    by (Some y) b h = absurd (cc)
