-- The work of views over the edges that were there.
use Rattle.std.specs.Prelude.{ℕ, ◌≡◌, List, [], ◌∷◌, ◌++◌, map, Option, Some, None, IfSome}
use Rattle.std.specs.List.{sum_by}
use Rattle.std.proofs.Common.{◌∙◌, ap, ap₂, refl}
use Rattle.graph_model.specs.declared.value.Val.{Val}
use Rattle.graph_model.specs.GraphData.{GraphData}
use Rattle.vertex_lang.specs.declared.arc.Arc.{Arc}
use Rattle.vertex_lang.specs.declared.program.Program.{Program}
use Rattle.vertex_lang.specs.Expressions.{Answer}
use Rattle.vertex_lang.specs.Rounds.{lone, nodes_of, value_at}
use Rattle.lone_work.specs.Items.{Item}
use Rattle.lone_work.specs.Inputs.{input, input_in, input_under}
use Rattle.lone_work.specs.Work.{rounds_counted, work}
use Rattle.grown_graphs.specs.Growing.{AlongEdgesOf, GrowsTo}
use Rattle.grown_graphs.specs.RunLaws.{same-lone, same-messages, same-nodes, same-start}

module _ (g h : GraphData) (more : GrowsTo g h) (answer : Answer) (p : Program) where
  -- ---- what a node gets

  -- its items, by its start and its messages
  abbrev items : Val → Val → List Val → List Item
  items value start ms = (Item.start start ∷ Item.own value ∷ []) ++ map Item.message ms

  same-input : (arcs : List Arc) → AlongEdgesOf g arcs → (v r : ℕ) → input answer p h arcs v r ≡ input answer p g arcs v r
  same-input arcs old v r =
      let values = lone answer p g arcs r in
      ap (λ (vs : List Val). input_under p h arcs vs v) (same-lone g h more answer p arcs old r)
      ∙ ap₂ (items (value_at values v)) (same-start g h more p v) (same-messages g h more p arcs values v arcs old)

  input-at : (view : Option (List Arc)) → IfSome view (AlongEdgesOf g) → (v r : ℕ) → input_in answer p h view v r ≡ input_in answer p g view v r
  input-at None old v r = refl
  input-at (Some arcs) old v r = same-input arcs old v r

  inputs : (view : Option (List Arc)) → IfSome view (AlongEdgesOf g) → (v : ℕ) → input_in answer p h view v ≡ input_in answer p g view v
  inputs view old v = λ i r. input-at view old v r i

  -- ---- all nodes

  module _ (new : List Arc) (old : Option (List Arc)) (rounds : ℕ) (along : AlongEdgesOf g new) (before : IfSome old (AlongEdgesOf g)) where
    abbrev counted : GraphData → ℕ → ℕ
    counted graph v = rounds_counted (input_in answer p graph (Some new) v) (input_in answer p graph old v) rounds

    counted-at : (v : ℕ) → counted h v ≡ counted g v
    counted-at v = ap₂ (λ (a b : ℕ → List Item). rounds_counted a b rounds) (inputs (Some new) along v) (inputs old before v)

    pub same-work : work answer p h new old rounds ≡ work answer p g new old rounds
    unfolding work
    same-work = ap (λ f. sum_by f (nodes_of h)) (λ i v. counted-at v i) ∙ ap (sum_by (counted g)) (same-nodes g h more)
