-- The properties among the arguments of a call are names of columns.
use Rattle.std.proofs.Common.{◌≡◌, ℕ, ◌+◌, ℤ, Bool, true, false, List, [], ◌∷◌, map, length, refl, subst, if◌then◌else◌, Ok}
use Rattle.std.specs.Prelude.{◌==◌, bytes_eq, All, Contains}
use Rattle.std.proofs.lemmas.Slice.Eq.{bytes_eq-Decides}
use Rattle.std.proofs.lemmas.List.Elements.{All-nil, All-cons, All-head, All-contains_itself, Contains-append_right}
use Rattle.graph_model.specs.declared.cell.Kind.{Kind}
use Rattle.graph_model.specs.declared.cell.Column.{Column}
use Rattle.graph_model.specs.GraphData.{GraphData, names_of}
use Rattle.gvdl_tree.specs.declared.script.Arg.{Arg}
use Rattle.gvdl_tree.specs.declared.script.Arg.TheVariants as arg
use Rattle.vertex_lang.specs.declared.program.Program.{Program}
use Rattle.vertex_lang.specs.Leaves.{is_int}
use Rattle.graph_algos.specs.Hops.{hops}
use Rattle.graph_algos.specs.Dist.{dist}
use Rattle.graph_algos.specs.Wcc.{wcc}
use Rattle.graph_algos.specs.PageRank.{pagerank}
use Rattle.gvdl_programs.specs.declared.refusal.Refusal.TheVariants as refusal
use Rattle.gvdl_programs.specs.declared.template.ProgramTemplate.{ProgramTemplate}
use Rattle.gvdl_programs.specs.declared.template.Callable.{Callable}
use Rattle.gvdl_programs.specs.declared.template.Callable.TheVariants as callable
use Rattle.gvdl_programs.specs.Judging.{◌>>=◌, ◌>>◌, expect, each}
use Rattle.gvdl_programs.specs.JudgingLaws.{through}
use Rattle.gvdl_programs.specs.Columns.{column_from, column_of}
use Rattle.gvdl_programs.specs.Filled.{filled_program}
use Rattle.gvdl_programs.specs.Calls.{ArgFits, number_argument, weight_of, hops_called, dist_called, plain_called, written_called, called}

first_contained : (name : List ℕ) (names : List (List ℕ)) → Contains (name ∷ names) name
first_contained name names = All-head (Contains (name ∷ names)) name names (All-contains_itself (name ∷ names))

-- a column that is found has the name
found_named : (n : ℕ) (columns : List Column) (name : List ℕ) (r : ℕ × Kind) → column_from n columns name ≡ Ok r → Contains (names_of columns) name
found_named n [] name r e = absurd cc
found_named n (column ∷ more) name r e = by (bytes_eq column.name name) (λ t. (bytes_eq-Decides column.name name).0 t) (found_named (n + 1) more name r) e where
  by : (b : Bool) → (b ≡ true → column.name ≡ name) → (column_from (n + 1) more name ≡ Ok r → Contains (names_of more) name) → (if b then Ok (n, column.kind) else column_from (n + 1) more name) ≡ Ok r → Contains (column.name ∷ names_of more) name
  by true same later e = subst (λ (x : List ℕ). Contains (column.name ∷ names_of more) x) (same refl) (first_contained column.name (names_of more))
  by false same later e = Contains-append_right (column.name ∷ []) (names_of more) name (later e)

module _ (g : GraphData) where
  number_fits : (a : Arg) (z : ℤ) → number_argument a ≡ Ok z → ArgFits g a
  number_fits (arg.Number y) z e = tt
  number_fits (arg.Prop name) z e = absurd cc

  weight_fits : (a : Arg) (column : ℕ) → weight_of g a ≡ Ok column → ArgFits g a
  weight_fits (arg.Number z) column e = absurd cc
  weight_fits (arg.Prop name) column e =
      let t = through (column_of g.edge_columns name) (λ (r : ℕ × Kind). expect (is_int r.1) refusal.WrongType >> Ok r.0) column e in
      found_named 0 g.edge_columns name t.value t.first

  numbers_fit : (args : List Arg) (ns : List ℤ) → each (map number_argument args) ≡ Ok ns → All (ArgFits g) args
  numbers_fit [] ns e = All-nil (ArgFits g)
  numbers_fit (a ∷ more) ns e =
      let others = each (map number_argument more) in
      let t = through (number_argument a) (λ z. others >>= λ zs. Ok (z ∷ zs)) ns e in
      let u = through others (λ zs. Ok (t.value ∷ zs)) ns t.rest in
      All-cons (ArgFits g) a more (number_fits a t.value t.first) (numbers_fit more u.value u.first)

  hops_arguments : (args : List Arg) (p : Program) → hops_called args ≡ Ok p → All (ArgFits g) args
  hops_arguments [] p e = absurd cc
  hops_arguments (a ∷ []) p e =
      let t = through (number_argument a) (λ source. Ok (hops source)) p e in
      All-cons (ArgFits g) a [] (number_fits a t.value t.first) (All-nil (ArgFits g))
  hops_arguments (a ∷ b ∷ more) p e = absurd cc

  dist_arguments : (args : List Arg) (p : Program) → dist_called g args ≡ Ok p → All (ArgFits g) args
  dist_arguments [] p e = absurd cc
  dist_arguments (a ∷ []) p e = absurd cc
  dist_arguments (a ∷ b ∷ []) p e =
      let t = through (number_argument a) (λ source. weight_of g b >>= λ column. Ok (dist source column)) p e in
      let u = through (weight_of g b) (λ column. Ok (dist t.value column)) p t.rest in
      All-cons (ArgFits g) a (b ∷ []) (number_fits a t.value t.first) (All-cons (ArgFits g) b [] (weight_fits b u.value u.first) (All-nil (ArgFits g)))
  dist_arguments (a ∷ b ∷ c ∷ more) p e = absurd cc

  plain_arguments : (q : Program) (args : List Arg) (p : Program) → plain_called q args ≡ Ok p → All (ArgFits g) args
  plain_arguments q [] p e = All-nil (ArgFits g)
  plain_arguments q (a ∷ more) p e = absurd cc

  written_arguments : (t : ProgramTemplate) (args : List Arg) (p : Program) → written_called t args ≡ Ok p → All (ArgFits g) args
  written_arguments t args p e =
      let a = through (expect (length args == t.parameters) refusal.WrongArguments) (λ _. each (map number_argument args) >>= λ numbers. Ok (filled_program t numbers)) p e in
      let b = through (each (map number_argument args)) (λ numbers. Ok (filled_program t numbers)) p a.rest in
      numbers_fit args b.value b.first

  -- the arguments of a call that means a program
  pub called_arguments : (c : Callable) (args : List Arg) (p : Program) → called g c args ≡ Ok p → All (ArgFits g) args
  called_arguments callable.Hops args p e = hops_arguments args p e
  called_arguments callable.Dist args p e = dist_arguments args p e
  called_arguments callable.Wcc args p e = plain_arguments wcc args p e
  called_arguments callable.Pagerank args p e = plain_arguments pagerank args p e
  called_arguments (callable.Written t) args p e = written_arguments t args p e
