-- One line more of a text, and the lines that are left.
use Rattle.std.proofs.Common.{◌≡◌, ◌∙◌, ◌<◌, ◌+◌, ◌-◌, ◌++◌, ℕ, zero, suc, List, [], refl, sym, ap, append_assoc, append-nil, arith}
use Rattle.sample_data.specs.Sample.{ids_from, id_line, edges_drawn, edge_drawn, state_after}

ids_more : (first n : ℕ) → 0 < n → ids_from first n ≡ id_line first ++ ids_from (first + 1) (n - 1)
unfolding ids_from
ids_more first zero lt = absurd (omega (arith, lt))
ids_more first (suc n) lt =
    let same : n ≡ suc n - 1 = omega arith in
    ap (λ (m : ℕ). id_line first ++ ids_from (first + 1) m) same

edges_more : (n x : ℕ) → 0 < n → edges_drawn n x ≡ edge_drawn x ++ edges_drawn (n - 1) (state_after 4 x)
unfolding edges_drawn
edges_more zero x lt = absurd (omega (arith, lt))
edges_more (suc n) x lt =
    let same : n ≡ suc n - 1 = omega arith in
    ap (λ (m : ℕ). edge_drawn x ++ edges_drawn m (state_after 4 x)) same

ids_none : (first : ℕ) → ids_from first 0 ≡ []
unfolding ids_from
ids_none first = refl

edges_none : (x : ℕ) → edges_drawn 0 x ≡ []
unfolding edges_drawn
edges_none x = refl

-- a line goes from what is left to what is written
moved : (written more line left all : List ℕ) → more ≡ written ++ line → written ++ (line ++ left) ≡ all → more ++ left ≡ all
moved written more line left all e k = ap (λ (xs : List ℕ). xs ++ left) e ∙ append_assoc written line left ∙ k

pub ids_moved : (written more all : List ℕ) (first n : ℕ) → 0 < n → more ≡ written ++ id_line first → written ++ ids_from first n ≡ all → more ++ ids_from (first + 1) (n - 1) ≡ all
ids_moved written more all first n lt e k = moved written more (id_line first) (ids_from (first + 1) (n - 1)) all e (ap (λ (xs : List ℕ). written ++ xs) (sym (ids_more first n lt)) ∙ k)

pub edges_moved : (written more all : List ℕ) (x n : ℕ) → 0 < n → more ≡ written ++ edge_drawn x → written ++ edges_drawn n x ≡ all → more ++ edges_drawn (n - 1) (state_after 4 x) ≡ all
edges_moved written more all x n lt e k = moved written more (edge_drawn x) (edges_drawn (n - 1) (state_after 4 x)) all e (ap (λ (xs : List ℕ). written ++ xs) (sym (edges_more n x lt)) ∙ k)

pub ids_left : (written all : List ℕ) (first : ℕ) → written ++ ids_from first 0 ≡ all → written ≡ all
ids_left written all first k = sym (append-nil written) ∙ ap (λ (xs : List ℕ). written ++ xs) (sym (ids_none first)) ∙ k

pub edges_left : (written all : List ℕ) (x : ℕ) → written ++ edges_drawn 0 x ≡ all → written ≡ all
edges_left written all x k = sym (append-nil written) ∙ ap (λ (xs : List ℕ). written ++ xs) (sym (edges_none x)) ∙ k
