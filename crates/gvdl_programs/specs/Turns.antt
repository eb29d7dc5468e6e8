-- Going through a list from the left, one item after the other.
use Rattle.std.proofs.Common.{◌≡◌, ◌∙◌, ℕ, suc, ◌+◌, ◌-◌, ◌<◌, ◌≤◌, List, [], ◌∷◌, ◌++◌, length, drop, get_or, map, refl, sym, ap, arith, append_assoc, append-nil, Ok, Err}
use Rattle.std.specs.List.{range_with_len}
use Rattle.std.proofs.lemmas.List.{at_drop_more, drop_all}
use Rattle.gvdl_programs.specs.declared.refusal.Stop.{Stop}
use Rattle.gvdl_programs.specs.Judging.{Judged, ◌>>=◌, IfRefused, each, in_turn}
use Rattle.gvdl_programs.specs.JudgingLaws.{goes_on, stops, refused_as}

-- what is left from an item on
pub left_at : {A : Type 0} (xs : List A) (i : ℕ) (x : A) → i < length xs → x ≡ get_or xs i x → drop i xs ≡ x ∷ drop (i + 1) xs
left_at xs i x lt is = at_drop_more (λ l. l) xs i x lt ∙ ap (λ z. z ∷ drop (i + 1) xs) (sym is)

-- what is left of a range from a number on
pub range_at : (i n : ℕ) → i < n → range_with_len i (n - i) ≡ i ∷ range_with_len (i + 1) (n - (i + 1))
range_at i n lt = let e : n - i ≡ suc (n - (i + 1)) = omega arith in ap (λ k. range_with_len i k) e

module _ {A B : Type 0} (f : B → A → Judged B) where
  pub turn_on : (b c : B) (xs : List A) (i : ℕ) (x : A) → i < length xs → x ≡ get_or xs i x → f b x ≡ Ok c → in_turn f b (drop i xs) ≡ in_turn f c (drop (i + 1) xs)
  turn_on b c xs i x lt is e = ap (λ l. in_turn f b l) (left_at xs i x lt is) ∙ goes_on (f b x) c (λ d. in_turn f d (drop (i + 1) xs)) e

  pub turn_stops : (b : B) (xs : List A) (i : ℕ) (x : A) (e : Stop) → i < length xs → x ≡ get_or xs i x → IfRefused e (λ r. f b x ≡ Err r) → IfRefused e (λ r. in_turn f b (drop i xs) ≡ Err r)
  turn_stops b xs i x e lt is h = refused_as (in_turn f b (drop i xs)) (f b x >>= λ d. in_turn f d (drop (i + 1) xs)) e (ap (λ l. in_turn f b l) (left_at xs i x lt is)) (stops (f b x) (λ d. in_turn f d (drop (i + 1) xs)) e h)

  pub turn_done : (b : B) (xs : List A) (i : ℕ) → length xs ≤ i → in_turn f b (drop i xs) ≡ Ok b
  turn_done b xs i le = ap (λ l. in_turn f b l) (drop_all i xs le)

module _ {B : Type 0} (f : B → ℕ → Judged B) where
  pub range_on : (b c : B) (i n : ℕ) → i < n → f b i ≡ Ok c → in_turn f b (range_with_len i (n - i)) ≡ in_turn f c (range_with_len (i + 1) (n - (i + 1)))
  range_on b c i n lt e = ap (λ l. in_turn f b l) (range_at i n lt) ∙ goes_on (f b i) c (λ d. in_turn f d (range_with_len (i + 1) (n - (i + 1)))) e

  pub range_stops : (b : B) (i n : ℕ) (e : Stop) → i < n → IfRefused e (λ r. f b i ≡ Err r) → IfRefused e (λ r. in_turn f b (range_with_len i (n - i)) ≡ Err r)
  range_stops b i n e lt h = refused_as (in_turn f b (range_with_len i (n - i))) (f b i >>= λ d. in_turn f d (range_with_len (i + 1) (n - (i + 1)))) e (ap (λ l. in_turn f b l) (range_at i n lt)) (stops (f b i) (λ d. in_turn f d (range_with_len (i + 1) (n - (i + 1)))) e h)

  pub range_done : (b : B) (i n : ℕ) → n ≤ i → in_turn f b (range_with_len i (n - i)) ≡ Ok b
  range_done b i n le = let e : n - i ≡ 0 = omega arith in ap (λ k. in_turn f b (range_with_len i k)) e

-- ---- all items of a list

-- these, and then the others
abbrev pub behind : {A : Type 0} → List A → Judged (List A) → Judged (List A)
behind out said = said >>= λ more. Ok (out ++ more)

behind_one : {A : Type 0} (out : List A) (a : A) (said : Judged (List A)) → behind out (said >>= λ others. Ok (a ∷ others)) ≡ behind (out ++ a ∷ []) said
behind_one out a (Ok more) = ap Ok (sym (append_assoc out (a ∷ []) more))
behind_one out a (Err r) = refl

pub none_behind : {A : Type 0} (said : Judged (List A)) → said ≡ behind [] said
none_behind (Ok more) = refl
none_behind (Err r) = refl

module _ {X A : Type 0} (f : X → Judged A) where
  abbrev pub from : List X → Judged (List A)
  from xs = each (map f xs)

  pub each_on : (out new : List A) (xs : List X) (i : ℕ) (x : X) (a : A) → i < length xs → x ≡ get_or xs i x → f x ≡ Ok a → new ≡ out ++ a ∷ []
      → behind out (from (drop i xs)) ≡ behind new (from (drop (i + 1) xs))
  each_on out new xs i x a lt is e grown =
      ap (λ l. behind out (from l)) (left_at xs i x lt is) ∙ ap (λ s. behind out s) (goes_on (f x) a (λ b. from (drop (i + 1) xs) >>= λ others. Ok (b ∷ others)) e)
      ∙ behind_one out a (from (drop (i + 1) xs)) ∙ ap (λ l. behind l (from (drop (i + 1) xs))) (sym grown)

  pub each_stops : (out : List A) (xs : List X) (i : ℕ) (x : X) (e : Stop) → i < length xs → x ≡ get_or xs i x → IfRefused e (λ r. f x ≡ Err r) → IfRefused e (λ r. behind out (from (drop i xs)) ≡ Err r)
  each_stops out xs i x e lt is h =
      refused_as (behind out (from (drop i xs))) (behind out (f x >>= λ b. from (drop (i + 1) xs) >>= λ others. Ok (b ∷ others))) e (ap (λ l. behind out (from l)) (left_at xs i x lt is))
      (stops (f x >>= λ b. from (drop (i + 1) xs) >>= λ others. Ok (b ∷ others)) (λ more. Ok (out ++ more)) e (stops (f x) (λ b. from (drop (i + 1) xs) >>= λ others. Ok (b ∷ others)) e h))

  pub each_done : (out : List A) (xs : List X) (i : ℕ) → length xs ≤ i → behind out (from (drop i xs)) ≡ Ok out
  each_done out xs i le = ap (λ l. behind out (from l)) (drop_all i xs le) ∙ ap Ok (append-nil out)
