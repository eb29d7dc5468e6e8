-- A program that is called holds the number -(2^63) only where an argument is that number.
use Rattle.std.proofs.Common.{◌≡◌, ◌≢◌, ◌∙◌, ◌++◌, ℕ, ℤ, zero, suc, pos, true, false, List, [], ◌∷◌, map, length, get_or, refl, sym, ap, subst, inl, inr, Ok}
use Rattle.std.specs.Prelude.{◌==◌, not, Contains}
use Rattle.std.specs.List.{list_all}
use Rattle.std.proofs.lemmas.Bool.{false≢true}
use Rattle.std.proofs.lemmas.Bool.Decides.{Decides-int_eq}
use Rattle.std.proofs.lemmas.List.Elements.{All-head, All-tail, All-contains, Contains-append_cases}
use Rattle.std.proofs.lemmas.List.Sums.{AllPass-from_list_all}
use Rattle.graph_model.specs.GraphData.{GraphData}
use Rattle.gvdl_tree.specs.declared.script.Arg.{Arg}
use Rattle.gvdl_tree.specs.declared.script.Arg.TheVariants as arg
use Rattle.vertex_lang.specs.declared.program.Expr.{Expr}
use Rattle.vertex_lang.specs.declared.program.Expr.TheVariants as expr
use Rattle.vertex_lang.specs.declared.program.Program.{Program}
use Rattle.vertex_lang.specs.Values.{lowest_number}
use Rattle.vertex_lang.specs.Leaves.{Leaf, HoldsNumber, leaves_of}
use Rattle.vertex_lang.specs.Trees.{leaves-Sum, leaves-Product, leaves-Number, leaves-Id, leaves-Value, leaves-Gathered, leaves-Outdeg, leaves-EdgeProp}
use Rattle.graph_algos.specs.Hops.{hops}
use Rattle.graph_algos.specs.HopsLaws.{start_leaves, update_leaves}
use Rattle.graph_algos.specs.Dist.{dist}
use Rattle.graph_algos.specs.Wcc.{wcc}
use Rattle.graph_algos.specs.PageRank.{pagerank, share}
use Rattle.gvdl_programs.specs.declared.refusal.Refusal.TheVariants as refusal
use Rattle.gvdl_programs.specs.declared.template.ProgramTemplate.{ProgramTemplate}
use Rattle.gvdl_programs.specs.declared.template.Callable.{Callable}
use Rattle.gvdl_programs.specs.declared.template.Callable.TheVariants as callable
use Rattle.gvdl_programs.specs.Judging.{◌>>=◌, expect, each}
use Rattle.gvdl_programs.specs.JudgingLaws.{through, same_value}
use Rattle.gvdl_programs.specs.Filled.{filled_program}
use Rattle.gvdl_programs.specs.Calls.{HasNoLowest, number_argument, weight_of, hops_called, dist_called, plain_called, written_called, called}
use Rattle.gvdl_programs.specs.Fits.{not_lowest, WritesNoLowest, ProgramFits}
use Rattle.gvdl_programs.specs.FitLaws.{both, other_number, pos_other}
use Rattle.gvdl_programs.specs.FillLaws.{filled_fits}

-- ---- leaves

-- among leaves that are all allowed each one is
allowed_each : (ls : List Leaf) (l : Leaf) → list_all not_lowest ls ≡ true → Contains ls l → not_lowest l ≡ true
allowed_each ls l h c = All-contains (λ (m : Leaf). not_lowest m ≡ true) ls l (AllPass-from_list_all not_lowest ls h) c

lowest_is_not : not_lowest (Leaf.number lowest_number) ≡ true → ⊥
lowest_is_not h = false≢true (sym (ap not ((Decides-int_eq lowest_number lowest_number).1 refl)) ∙ h)

-- a program whose expressions hold no such number
none_held : (p : Program) → list_all not_lowest (leaves_of p.start) ≡ true → list_all not_lowest (leaves_of p.send) ≡ true → list_all not_lowest (leaves_of p.update) ≡ true → HoldsNumber p lowest_number → ⊥
none_held p a b c h = elim (Contains-append_cases (leaves_of p.start) (leaves_of p.send ++ leaves_of p.update) (Leaf.number lowest_number) h) [
  | inl x ↦ lowest_is_not (allowed_each (leaves_of p.start) (Leaf.number lowest_number) a x)
  | inr y ↦ elim (Contains-append_cases (leaves_of p.send) (leaves_of p.update) (Leaf.number lowest_number) y) [
    | inl x ↦ lowest_is_not (allowed_each (leaves_of p.send) (Leaf.number lowest_number) b x)
    | inr z ↦ lowest_is_not (allowed_each (leaves_of p.update) (Leaf.number lowest_number) c z)
  ]
]

-- ---- the built-in programs

number_first : (n : ℕ) (ls : List Leaf) → list_all not_lowest ls ≡ true → list_all not_lowest (Leaf.number (pos n) ∷ ls) ≡ true
number_first n ls h = both (not_lowest (Leaf.number (pos n))) (list_all not_lowest ls) (other_number (pos n) (pos_other n)) h

-- value + more
added_leaves : (more : Expr) (l : Leaf) → leaves_of more ≡ l ∷ [] → leaves_of (expr.Sum expr.Value ((true, more) ∷ [])) ≡ Leaf.value ∷ l ∷ []
added_leaves more l is =
    leaves-Sum expr.Value ((true, more) ∷ [])
    ∙ ap (λ (ls : List Leaf). ls ++ (leaves_of more ++ [])) leaves-Value
    ∙ ap (λ (ls : List Leaf). (Leaf.value ∷ []) ++ (ls ++ [])) is

source_leaves : (s : ℤ) → s ≢ lowest_number → list_all not_lowest (leaves_of (hops s).start) ≡ true
source_leaves s other =
    ap (list_all not_lowest) (start_leaves s)
    ∙ both (not_lowest (Leaf.number s)) (list_all not_lowest (Leaf.number (pos 0) ∷ [])) (other_number s other) (number_first 0 [] refl)

hops_numbers : (s : ℤ) → s ≢ lowest_number → HoldsNumber (hops s) lowest_number → ⊥
hops_numbers s other = none_held (hops s) (source_leaves s other)
    (ap (list_all not_lowest) (added_leaves (expr.Number (pos 1)) (Leaf.number (pos 1)) (leaves-Number (pos 1))) ∙ number_first 1 [] refl)
    (ap (list_all not_lowest) (update_leaves s))

dist_numbers : (s : ℤ) (column : ℕ) → s ≢ lowest_number → HoldsNumber (dist s column) lowest_number → ⊥
dist_numbers s column other = none_held (dist s column) (source_leaves s other)
    (ap (list_all not_lowest) (added_leaves (expr.EdgeProp column) (Leaf.edge_property column) (leaves-EdgeProp column)))
    (ap (list_all not_lowest) (update_leaves s))

pub wcc_numbers : HoldsNumber wcc lowest_number → ⊥
wcc_numbers = none_held wcc (ap (list_all not_lowest) leaves-Id) (ap (list_all not_lowest) leaves-Value) (ap (list_all not_lowest) (update_leaves (pos 0)))

divided_leaves : leaves_of pagerank.send ≡ Leaf.value ∷ Leaf.outdeg ∷ []
divided_leaves =
    leaves-Product expr.Value ((false, expr.Outdeg) ∷ [])
    ∙ ap (λ (ls : List Leaf). ls ++ (leaves_of expr.Outdeg ++ [])) leaves-Value
    ∙ ap (λ (ls : List Leaf). (Leaf.value ∷ []) ++ (ls ++ [])) leaves-Outdeg

share_leaves : leaves_of share ≡ Leaf.gathered ∷ Leaf.number (pos 850000) ∷ Leaf.number (pos 1000000) ∷ []
share_leaves =
    leaves-Product expr.Gathered ((true, expr.Number (pos 850000)) ∷ (false, expr.Number (pos 1000000)) ∷ [])
    ∙ ap (λ (ls : List Leaf). ls ++ (leaves_of (expr.Number (pos 850000)) ++ (leaves_of (expr.Number (pos 1000000)) ++ []))) leaves-Gathered
    ∙ ap (λ (ls : List Leaf). (Leaf.gathered ∷ []) ++ (ls ++ (leaves_of (expr.Number (pos 1000000)) ++ []))) (leaves-Number (pos 850000))
    ∙ ap (λ (ls : List Leaf). (Leaf.gathered ∷ []) ++ ((Leaf.number (pos 850000) ∷ []) ++ (ls ++ []))) (leaves-Number (pos 1000000))

rank_leaves : leaves_of pagerank.update ≡ Leaf.number (pos 150000) ∷ Leaf.gathered ∷ Leaf.number (pos 850000) ∷ Leaf.number (pos 1000000) ∷ []
rank_leaves =
    leaves-Sum (expr.Number (pos 150000)) ((true, share) ∷ [])
    ∙ ap (λ (ls : List Leaf). ls ++ (leaves_of share ++ [])) (leaves-Number (pos 150000))
    ∙ ap (λ (ls : List Leaf). (Leaf.number (pos 150000) ∷ []) ++ (ls ++ [])) share_leaves

pub pagerank_numbers : HoldsNumber pagerank lowest_number → ⊥
pagerank_numbers = none_held pagerank
    (ap (list_all not_lowest) (leaves-Number (pos 1000000)) ∙ number_first 1000000 [] refl)
    (ap (list_all not_lowest) divided_leaves)
    (ap (list_all not_lowest) rank_leaves ∙ number_first 150000 (Leaf.gathered ∷ Leaf.number (pos 850000) ∷ Leaf.number (pos 1000000) ∷ []) (number_first 850000 (Leaf.number (pos 1000000) ∷ []) (number_first 1000000 [] refl)))

-- ---- calls

argument_other : (a : Arg) (z : ℤ) → a ≢ arg.Number lowest_number → number_argument a ≡ Ok z → z ≢ lowest_number
argument_other (arg.Number y) z other e = λ is. other (ap arg.Number (same_value y z e ∙ is))
argument_other (arg.Prop name) z other e = absurd cc

-- all numbers of a list, and the one that stands for what is behind it, are others
abbrev OthersOnly : List ℤ → Type 0
OthersOnly ns = (n : ℕ) → not_lowest (Leaf.number (get_or ns n (pos 0))) ≡ true

one_more : (z : ℤ) (ns : List ℤ) → z ≢ lowest_number → OthersOnly ns → OthersOnly (z ∷ ns)
one_more z ns other h zero = other_number z other
one_more z ns other h (suc n) = h n

-- the numbers that stand in place of parameters
given_other : (args : List Arg) (ns : List ℤ) → HasNoLowest args → each (map number_argument args) ≡ Ok ns → OthersOnly ns
given_other [] ns h e = subst OthersOnly (same_value [] ns e) (λ n. other_number (pos 0) (pos_other 0))
given_other (a ∷ more) ns h e =
    let others = each (map number_argument more) in
    let t = through (number_argument a) (λ z. others >>= λ zs. Ok (z ∷ zs)) ns e in
    let u = through others (λ zs. Ok (t.value ∷ zs)) ns t.rest in
    subst OthersOnly (same_value (t.value ∷ u.value) ns u.rest)
    (one_more t.value u.value (argument_other a t.value (All-head (λ (x : Arg). x ≢ arg.Number lowest_number) a more h) t.first)
    (given_other more u.value (All-tail (λ (x : Arg). x ≢ arg.Number lowest_number) a more h) u.first))

module _ (p : Program) where
  hops_called_numbers : (args : List Arg) → HasNoLowest args → hops_called args ≡ Ok p → HoldsNumber p lowest_number → ⊥
  hops_called_numbers [] h e = absurd cc
  hops_called_numbers (a ∷ []) h e =
      let t = through (number_argument a) (λ source. Ok (hops source)) p e in
      subst (λ (q : Program). HoldsNumber q lowest_number → ⊥) (same_value (hops t.value) p t.rest)
      (hops_numbers t.value (argument_other a t.value (All-head (λ (x : Arg). x ≢ arg.Number lowest_number) a [] h) t.first))
  hops_called_numbers (a ∷ b ∷ more) h e = absurd cc

  dist_called_numbers : (g : GraphData) (args : List Arg) → HasNoLowest args → dist_called g args ≡ Ok p → HoldsNumber p lowest_number → ⊥
  dist_called_numbers g [] h e = absurd cc
  dist_called_numbers g (a ∷ []) h e = absurd cc
  dist_called_numbers g (a ∷ b ∷ []) h e =
      let t = through (number_argument a) (λ source. weight_of g b >>= λ column. Ok (dist source column)) p e in
      let u = through (weight_of g b) (λ column. Ok (dist t.value column)) p t.rest in
      subst (λ (q : Program). HoldsNumber q lowest_number → ⊥) (same_value (dist t.value u.value) p u.rest)
      (dist_numbers t.value u.value (argument_other a t.value (All-head (λ (x : Arg). x ≢ arg.Number lowest_number) a (b ∷ []) h) t.first))
  dist_called_numbers g (a ∷ b ∷ c ∷ more) h e = absurd cc

  plain_called_numbers : (q : Program) (args : List Arg) → (HoldsNumber q lowest_number → ⊥) → plain_called q args ≡ Ok p → HoldsNumber p lowest_number → ⊥
  plain_called_numbers q [] h e = subst (λ (r : Program). HoldsNumber r lowest_number → ⊥) (same_value q p e) h
  plain_called_numbers q (a ∷ more) h e = absurd cc

  written_called_numbers : (t : ProgramTemplate) (args : List Arg) → WritesNoLowest t → HasNoLowest args → written_called t args ≡ Ok p → HoldsNumber p lowest_number → ⊥
  written_called_numbers t args h k e =
      let a = through (expect (length args == t.parameters) refusal.WrongArguments) (λ _. each (map number_argument args) >>= λ numbers. Ok (filled_program t numbers)) p e in
      let b = through (each (map number_argument args)) (λ numbers. Ok (filled_program t numbers)) p a.rest in
      let given = given_other args b.value k b.first in
      subst (λ (q : Program). HoldsNumber q lowest_number → ⊥) (same_value (filled_program t b.value) p b.rest)
      (none_held (filled_program t b.value) (filled_fits not_lowest b.value given t.start ∙ h.start) (filled_fits not_lowest b.value given t.send ∙ h.send) (filled_fits not_lowest b.value given t.update ∙ h.update))

-- a program that is called without this number doesn't hold it
pub called_numbers : (g : GraphData) (c : Callable) (args : List Arg) (p : Program) → ProgramFits g c → HasNoLowest args → called g c args ≡ Ok p → HoldsNumber p lowest_number → ⊥
called_numbers g callable.Hops args p h k e = hops_called_numbers p args k e
called_numbers g callable.Dist args p h k e = dist_called_numbers p g args k e
called_numbers g callable.Wcc args p h k e = plain_called_numbers p wcc args wcc_numbers e
called_numbers g callable.Pagerank args p h k e = plain_called_numbers p pagerank args pagerank_numbers e
called_numbers g (callable.Written t) args p h k e = written_called_numbers p t args h.numbers k e
