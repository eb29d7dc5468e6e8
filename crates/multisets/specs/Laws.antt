-- The laws, each as one statement about the elements of one type.
use Rattle.std.specs.Prelude.{◌≡◌, ℕ, ◌+◌, Bool, false, List, ◌++◌, fold, filter, sum_by, if◌then◌else◌}
use Rattle.std.specs.Bool.{Decides}
use Rattle.std.specs.Cmp.{IsStrictWeakOrder}
use Rattle.std.specs.List.Sorted.{IsPermutation, IsSortedBy}
use Rattle.multisets.specs.Multisets.{IsExact, often, AreOne, DoCancel, are_one, do_cancel}

-- ---- counting

-- an element stands in two lists together as often as in the one and in the other
abbrev pub OftenAdds : Type 0 → Type 0
OftenAdds A = (same : A → A → Bool) (x : A) (xs ys : List A) → often same x (xs ++ ys) ≡ often same x xs + often same x ys

-- the tests tell the relations
abbrev pub OneTest : Type 0 → Type 0
OneTest A = (same : A → A → Bool) → IsExact same → (xs ys : List A) → Decides (are_one same xs ys) (AreOne same xs ys)

abbrev pub CancelTest : Type 0 → Type 0
CancelTest A = (same : A → A → Bool) → IsExact same → (a b c d : List A) → Decides (do_cancel same a b c d) (DoCancel same a b c d)

-- four lists cancel exactly where the first and the last together are the second and the third together
abbrev pub CancelIsOne : Type 0 → Type 0
CancelIsOne A = (same : A → A → Bool) → IsExact same → (a b c d : List A) → do_cancel same a b c d ≡ are_one same (a ++ d) (b ++ c)

-- ---- what depends on the multiset alone

-- a fold whose order doesn't matter
abbrev pub FoldOne : Type 0 → Type 0 → Type 0
FoldOne A B = (same : A → A → Bool) → IsExact same → (f : B → A → B) → ((b : B) (x y : A) → f (f b x) y ≡ f (f b y) x)
    → (b : B) (xs ys : List A) → AreOne same xs ys → fold f b xs ≡ fold f b ys

-- ---- order

-- two lists are one multiset exactly where they are permutations
abbrev pub PermutedOne : Type 0 → Type 0
PermutedOne A = (same : A → A → Bool) (xs ys : List A) → IsPermutation xs ys → AreOne same xs ys

abbrev pub OnePermuted : Type 0 → Type 0
OnePermuted A = (same : A → A → Bool) → IsExact same → (xs ys : List A) → AreOne same xs ys → IsPermutation xs ys

-- sorted lists that are one multiset are one list
abbrev pub SortedSame : Type 0 → Type 0
SortedSame A = (same : A → A → Bool) → IsExact same → (lt : A → A → Bool) → IsStrictWeakOrder lt → ((x y : A) → lt x y ≡ false → lt y x ≡ false → x ≡ y)
    → (xs ys : List A) → IsSortedBy lt xs → IsSortedBy lt ys → AreOne same xs ys → xs ≡ ys

-- ---- sums

-- how often an element stands in a list is a sum over the list
abbrev pub OftenSum : Type 0 → Type 0
OftenSum A = (same : A → A → Bool) (x : A) (xs : List A) → often same x xs ≡ sum_by (λ y. if same x y then 1 else 0) xs

-- a sum over the elements that a test picks is one over all, where the others give 0
abbrev pub PickedSum : Type 0 → Type 0
PickedSum A = (f : A → ℕ) (picks : A → Bool) (xs : List A) → sum_by f (filter picks xs) ≡ sum_by (λ x. if picks x then f x else 0) xs
