-- The messages that a node gets, arc by arc, and in any order of the arcs.
use Rattle.std.specs.Prelude.{◌≡◌, ℕ, ◌+◌, ◌==◌, Bool, true, false, cond, List, [], ◌∷◌, ◌++◌, map, filter, sum_by, All, Contains, if◌then◌else◌, refl}
use Rattle.std.specs.List.Sorted.{IsPermutation}
use Rattle.std.proofs.Common.{arith, ap, sym, subst, ◌∙◌, inl, inr}
use Rattle.std.proofs.lemmas.Bool.{eqb-true, eq-eqb, true≢false}
use Rattle.std.proofs.lemmas.List.Sums.{sum_by-cons}
use Rattle.std.proofs.lemmas.List.Sorted.{sum_by-IsPermutation}
use Rattle.std.proofs.lemmas.List.Elements.{Contains-append_left, Contains-append_right, Contains-append_cases, filter_passes}
use Rattle.graph_model.specs.declared.value.Val.{Val}
use Rattle.graph_model.specs.declared.value.Val.TheVariants.{Nil, Num}
use Rattle.graph_model.specs.GraphData.{GraphData}
use Rattle.multisets.specs.Multisets.{often, AreOne}
use Rattle.multisets.specs.SumLaws.{sum-same}
use Rattle.vertex_lang.specs.declared.arc.Arc.{Arc}
use Rattle.vertex_lang.specs.declared.program.Program.{Program}
use Rattle.vertex_lang.specs.Arcs.{outdeg, messages, is_sent}
use Rattle.vertex_lang.specs.Expressions.{sent_by}
use Rattle.vertex_lang.specs.Rounds.{value_at, carried, received}
use Rattle.vertex_lang.specs.Lone.{same_value}
use Rattle.vertex_lang.specs.ExtremeLaws.{contains-here, contains-there, contains-none, contains-cases}

-- a message as a list; none isn't sent
abbrev pub sent_of : Val → List Val
sent_of Nil = []
sent_of (Num z) = Num z ∷ []

abbrev brought_to : (Arc → Val) → ℕ → Arc → List Val
brought_to c v a = if a.head.0 == v then sent_of (c a) else []

-- ---- one arc more

first-sent : (w : Val) (ws : List Val) → filter is_sent (w ∷ ws) ≡ sent_of w ++ filter is_sent ws
first-sent Nil ws = refl
first-sent (Num z) ws = refl

arc-by : (c : Arc → Val) (b : Bool) (a : Arc) (rest : List Arc) → filter is_sent (map c (cond b (a ∷ rest) rest)) ≡ (if b then sent_of (c a) else []) ++ filter is_sent (map c rest)
arc-by c true a rest = first-sent (c a) (map c rest)
arc-by c false a rest = refl

pub messages-cons : (c : Arc → Val) (a : Arc) (arcs : List Arc) (v : ℕ) → messages c (a ∷ arcs) v ≡ (if a.head.0 == v then sent_of (c a) else []) ++ messages c arcs v
messages-cons c a arcs v = arc-by c (a.head.0 == v) a (filter (λ b. b.head.0 == v) arcs)

-- ---- counts of messages as sums over the arcs

map-append : {A B : Type 0} (f : A → B) (xs ys : List A) → map f (xs ++ ys) ≡ map f xs ++ map f ys
map-append f [] ys = refl
map-append f (x ∷ xs) ys = ap (λ zs. f x ∷ zs) (map-append f xs ys)

often-parts : {A : Type 0} (same : A → A → Bool) (x : A) (xs ys : List A) → often same x (xs ++ ys) ≡ often same x xs + often same x ys
often-parts same x [] ys = omega arith
often-parts same x (y ∷ xs) ys = omega (arith, often-parts same x xs ys)

pub messages-sum : {A : Type 0} (same : A → A → Bool) (f : Val → A) (x : A) (c : Arc → Val) (arcs : List Arc) (v : ℕ)
    → often same x (map f (messages c arcs v)) ≡ sum_by (λ a. often same x (map f (if a.head.0 == v then sent_of (c a) else []))) arcs
messages-sum same f x c [] v = refl
messages-sum same f x c (a ∷ arcs) v =
    ap (λ ms. often same x (map f ms)) (messages-cons c a arcs v)
    ∙ ap (often same x) (map-append f (brought_to c v a) (messages c arcs v))
    ∙ often-parts same x (map f (brought_to c v a)) (map f (messages c arcs v))
    ∙ omega (arith, messages-sum same f x c arcs v, sum_by-cons (λ b. often same x (map f (brought_to c v b))) a arcs)

map-itself : (ms : List Val) → map (λ (m : Val). m) ms ≡ ms
map-itself [] = refl
map-itself (m ∷ ms) = ap (λ ns. m ∷ ns) (map-itself ms)

values-sum : (m : Val) (c : Arc → Val) (arcs : List Arc) (v : ℕ) → often same_value m (messages c arcs v) ≡ sum_by (λ a. often same_value m (map (λ (w : Val). w) (if a.head.0 == v then sent_of (c a) else []))) arcs
values-sum m c arcs v = ap (often same_value m) (sym (map-itself (messages c arcs v))) ∙ messages-sum same_value (λ w. w) m c arcs v

-- ---- in any order of the arcs

pub outdeg-permuted : (xs ys : List Arc) (u : ℕ) → IsPermutation xs ys → outdeg xs u ≡ outdeg ys u
outdeg-permuted xs ys u s = sym (sum_by-IsPermutation (λ a. cond (a.tail.0 == u) 1 0) xs ys s)

messages-permuted : (c d : Arc → Val) (xs ys : List Arc) (v : ℕ) → ((a : Arc) → c a ≡ d a) → IsPermutation xs ys → AreOne same_value (messages c xs v) (messages d ys v)
messages-permuted c d xs ys v same s = record {
  counts = λ m.
      let f = λ (a : Arc). often same_value m (map (λ (w : Val). w) (if a.head.0 == v then sent_of (c a) else [])) in
      let g = λ (a : Arc). often same_value m (map (λ (w : Val). w) (if a.head.0 == v then sent_of (d a) else [])) in
      values-sum m c xs v
      ∙ sum-same f g xs (λ a. ap (λ k. often same_value m (map (λ (w : Val). w) (if a.head.0 == v then sent_of k else []))) (same a))
      ∙ sym (sum_by-IsPermutation g xs ys s)
      ∙ sym (values-sum m d ys v);
}

pub received-permuted : (p : Program) (graph : GraphData) (xs ys : List Arc) (values : List Val) (v : ℕ) → IsPermutation xs ys → AreOne same_value (received p graph xs values v) (received p graph ys values v)
received-permuted p graph xs ys values v s = messages-permuted (carried p graph xs values) (carried p graph ys values) xs ys v (λ a. ap (λ n. sent_by p graph a.tail.0 (value_at values a.tail.0) n a.edge.0) (outdeg-permuted xs ys a.tail.0 s)) s

-- ---- who sent a message

pub messages-sent : (c : Arc → Val) (arcs : List Arc) (v : ℕ) → All (λ m. is_sent m ≡ true) (messages c arcs v)
messages-sent c arcs v = filter_passes is_sent (map c (filter (λ a. a.head.0 == v) arcs))

sent-here : (b : Bool) (w m : Val) → Contains (if b then sent_of w else []) m → (b ≡ true) × (w ≡ m) × (is_sent m ≡ true)
sent-here true Nil m h = absurd (contains-none m h)
sent-here true (Num z) m h = elim (contains-cases (Num z) [] m h) [
  | inl e ↦ (refl, e, ap is_sent (sym e))
  | inr never ↦ absurd (contains-none m never)
]
sent-here false w m h = absurd (contains-none m h)

-- a message came along an arc
pub message-from : (c : Arc → Val) (arcs : List Arc) (v : ℕ) (m : Val) → Contains (messages c arcs v) m → (a : Arc) × Contains arcs a × (a.head.0 ≡ v) × (c a ≡ m) × (is_sent m ≡ true)
message-from c [] v m h = absurd (contains-none m h)
message-from c (a ∷ arcs) v m h = elim (Contains-append_cases (brought_to c v a) (messages c arcs v) m (subst (λ ms. Contains ms m) (messages-cons c a arcs v) h)) [
  | inl here ↦ let told = sent-here (a.head.0 == v) (c a) m here in (a, contains-here a arcs, eqb-true a.head.0 v told.0, told.1, told.2)
  | inr later ↦ let told = message-from c arcs v m later in (told.0, contains-there a arcs told.0 told.1, told.2, told.3, told.4)
]

sends-here : (b : Bool) (w : Val) → b ≡ true → is_sent w ≡ true → Contains (if b then sent_of w else []) w
sends-here true Nil e s = absurd (true≢false (sym s))
sends-here true (Num z) e s = contains-here (Num z) []
sends-here false w e s = absurd (true≢false (sym e))

-- what an arc carries comes to its head
pub message-to : (c : Arc → Val) (arcs : List Arc) (v : ℕ) (a : Arc) → Contains arcs a → a.head.0 ≡ v → is_sent (c a) ≡ true → Contains (messages c arcs v) (c a)
message-to c [] v a h e s = absurd (contains-none a h)
message-to c (b ∷ arcs) v a h e s = subst (λ ms. Contains ms (c a)) (sym (messages-cons c b arcs v)) (elim (contains-cases b arcs a h) [
  | inl here ↦ Contains-append_left (brought_to c v b) (messages c arcs v) (c a) (subst (λ x. Contains (brought_to c v x) (c a)) (sym here) (sends-here (a.head.0 == v) (c a) (eq-eqb a.head.0 v e) s))
  | inr later ↦ Contains-append_right (brought_to c v b) (messages c arcs v) (c a) (message-to c arcs v a later e s)
])
