-- What programs read of the edges that were there.
use Rattle.std.specs.List.{list_all, range_with_len}
use Rattle.std.specs.Prelude.{ℕ, zero, suc, ◌≡◌, ◌<◌, ◌==◌, Bool, true, false, IsTrue, List, [], ◌∷◌, ◌++◌, length, map, filter, get_or, nat_lt, cond, if◌then◌else◌}
use Rattle.std.proofs.Common.{◌∙◌, ap, sym, refl, subst, arith}
use Rattle.std.proofs.lemmas.Bool.Decides.{nat_tests}
use Rattle.graph_model.specs.declared.number.EdgeNo.{EdgeNo}
use Rattle.graph_model.specs.declared.value.Val.{Val}
use Rattle.graph_model.specs.declared.value.Val.TheVariants.{Nil}
use Rattle.graph_model.specs.GraphData.{GraphData, edge_cell_of, id_of}
use Rattle.vertex_lang.specs.declared.arc.Arc.{Arc}
use Rattle.vertex_lang.specs.declared.lone.Rounds.{Rounds}
use Rattle.vertex_lang.specs.declared.program.Along.{Along}
use Rattle.vertex_lang.specs.declared.program.Along.TheVariants as along
use Rattle.vertex_lang.specs.declared.program.Program.{Program}
use Rattle.vertex_lang.specs.Arcs.{arcs_between, arcs_of_edge, backward, forward, gathered_of, is_sent, messages, outdeg}
use Rattle.vertex_lang.specs.Expressions.{Answer, Environment, edge_value, no_property, node_value, sent_by, start_of, value_of}
use Rattle.vertex_lang.specs.Leaves.{IsChecked, in_send, in_start, leaves_of}
use Rattle.vertex_lang.specs.Lone.{answer_from, answer_of}
use Rattle.vertex_lang.specs.Rounds.{carried, lone, next, next_of, nodes_of, received, value_at}
use Rattle.vertex_lang.specs.Values.{value_of_cell}
use Rattle.grown_graphs.specs.Growing.{AlongEdgesOf, AreEdgesOf, GrowsTo}
use Rattle.grown_graphs.specs.ReadLaws.{same-arcs}

-- the arcs of edges of a graph run along edges of it
pub along-edges : (g h : GraphData) (way : Along) (edges : List EdgeNo) → AreEdgesOf g edges → AlongEdgesOf g (arcs_between way h edges)
along-edges g h way [] old = λ k d lt. absurd (omega arith)
along-edges g h way (e ∷ edges) old = cases way (along-edges g h way edges (λ k d lt. old (suc k) d (omega arith))) where
  here : e.0 < length g.ends
  here = old 0 e (omega arith)

  one : (a : Arc) (arcs : List Arc) → a.edge.0 < length g.ends → AlongEdgesOf g arcs → AlongEdgesOf g (a ∷ arcs)
  one a arcs p q zero d lt = p
  one a arcs p q (suc k) d lt = q k d (omega arith)

  cases : (way : Along) → AlongEdgesOf g (arcs_between way h edges) → AlongEdgesOf g (arcs_of_edge way h e ++ arcs_between way h edges)
  cases along.Out rest = one (forward h e) (arcs_between along.Out h edges) here rest
  cases along.In rest = one (backward h e) (arcs_between along.In h edges) here rest
  cases along.Both rest = one (forward h e) (backward h e ∷ arcs_between along.Both h edges) here (one (backward h e) (arcs_between along.Both h edges) here rest)

module _ (g h : GraphData) (more : GrowsTo g h) where
  -- ---- the words of a program

  node-at : (n column : ℕ) → node_value h n column ≡ node_value g n column
  node-at n column = rw (more.node_columns, more.node_cells) refl

  node-value : (n : ℕ) → node_value h n ≡ node_value g n
  node-value n = λ i column. node-at n column i

  edge-value : (e : ℕ) → e < length g.ends → edge_value h e ≡ edge_value g e
  edge-value e old = λ i column. at column i where
    cases : (column : ℕ) (t : Bool) → nat_lt column (length g.edge_columns) ≡ t
        → (if t then value_of_cell (edge_cell_of h e column) else Nil) ≡ (if t then value_of_cell (edge_cell_of g e column) else Nil)
    cases column true p = ap value_of_cell (more.cells e column old (grind (arith, nat_tests)))
    cases column false p = refl

    at : (column : ℕ) → edge_value h e column ≡ edge_value g e column
    at column = rw more.edge_columns (cases column (nat_lt column (length g.edge_columns)) refl)

  abbrev starting : ℕ → (ℕ → Val) → Environment
  starting id properties = record { id = id; start = Nil; value = Nil; gathered = Nil; count = 0; outdeg = 0; edge_property = no_property; node_property = properties }

  pub same-start : (p : Program) (n : ℕ) → start_of p h n ≡ start_of p g n
  same-start p n =
      ap (λ (f : ℕ → Val). value_of p.start (starting (id_of h n) f)) (node-value n)
      ∙ ap (λ (ids : List ℕ). value_of p.start (starting (get_or ids n 0) (node_value g n))) more.ids

  abbrev sending : ℕ → Val → ℕ → (ℕ → Val) → Environment
  sending id value outdeg properties = record { id = id; start = Nil; value = value; gathered = Nil; count = 0; outdeg = outdeg; edge_property = properties; node_property = no_property }

  pub same-sent : (p : Program) (tail outdeg e : ℕ) (value : Val) → e < length g.ends → sent_by p h tail value outdeg e ≡ sent_by p g tail value outdeg e
  same-sent p tail outdeg e value old =
      ap (λ (f : ℕ → Val). value_of p.send (sending (id_of h tail) value outdeg f)) (edge-value e old)
      ∙ ap (λ (ids : List ℕ). value_of p.send (sending (get_or ids tail 0) value outdeg (edge_value g e))) more.ids

  -- ---- rounds

  -- the messages of one arc, in front of those of others
  one-more : (p : Program) (all : List Arc) (values : List Val) (a : Arc) (arcs : List Arc) (t : Bool) → carried p h all values a ≡ carried p g all values a
      → filter is_sent (map (carried p h all values) arcs) ≡ filter is_sent (map (carried p g all values) arcs)
      → filter is_sent (map (carried p h all values) (cond t (a ∷ arcs) arcs)) ≡ filter is_sent (map (carried p g all values) (cond t (a ∷ arcs) arcs))
  one-more p all values a arcs false sent rest = rest
  one-more p all values a arcs true sent rest = rw sent (says (is_sent (carried p g all values a))) where
    says : (t : Bool) → cond t (carried p g all values a ∷ filter is_sent (map (carried p h all values) arcs)) (filter is_sent (map (carried p h all values) arcs))
        ≡ cond t (carried p g all values a ∷ filter is_sent (map (carried p g all values) arcs)) (filter is_sent (map (carried p g all values) arcs))
    says true = ap (λ l. carried p g all values a ∷ l) rest
    says false = rest

  pub same-messages : (p : Program) (all : List Arc) (values : List Val) (v : ℕ) (arcs : List Arc) → AlongEdgesOf g arcs → messages (carried p h all values) arcs v ≡ messages (carried p g all values) arcs v
  same-messages p all values v [] old = refl
  same-messages p all values v (a ∷ arcs) old =
      one-more p all values a (filter (λ (b : Arc). b.head.0 == v) arcs) (a.head.0 == v) (same-sent p a.tail.0 (outdeg all a.tail.0) a.edge.0 (value_at values a.tail.0) (old 0 a (omega arith)))
      (same-messages p all values v arcs (λ k d lt. old (suc k) d (omega arith)))

  pub same-nodes : nodes_of h ≡ nodes_of g
  same-nodes = ap (λ (ids : List ℕ). range_with_len 0 (length ids)) more.ids

  pub by-words : (answer : Answer) (p : Program) (value start other : Val) (id this : ℕ) (ms ns : List Val) → id ≡ this → start ≡ other → ms ≡ ns
      → answer p id start value (gathered_of p.gather ms) (length ms) ≡ answer p this other value (gathered_of p.gather ns) (length ns)
  by-words answer p value start other id this ms ns i s m = rw (i, s, m) refl

  next-same : (answer : Answer) (p : Program) (arcs : List Arc) → AlongEdgesOf g arcs → (values : List Val) → next_of answer p h arcs values ≡ next_of answer p g arcs values
  next-same answer p arcs old values = λ i v. at v i where
    at : (v : ℕ) → next_of answer p h arcs values v ≡ next_of answer p g arcs values v
    at v = by-words answer p (value_at values v) (start_of p h v) (start_of p g v) (id_of h v) (id_of g v) (received p h arcs values v) (received p g arcs values v)
        (ap (λ (ids : List ℕ). get_or ids v 0) more.ids) (same-start p v) (same-messages p arcs values v arcs old)

  pub same-lone : (answer : Answer) (p : Program) (arcs : List Arc) → AlongEdgesOf g arcs → (r : ℕ) → lone answer p h arcs r ≡ lone answer p g arcs r
  unfolding lone next
  same-lone answer p arcs old zero = ap (map (start_of p h)) same-nodes ∙ ap (λ f. map f (nodes_of g)) (λ i v. same-start p v i)
  same-lone answer p arcs old (suc r) =
      ap (λ (vs : List Val). map (next_of answer p h arcs vs) (nodes_of h)) (same-lone answer p arcs old r)
      ∙ ap (map (next_of answer p h arcs (lone answer p g arcs r))) same-nodes
      ∙ ap (λ f. map f (nodes_of g)) (next-same answer p arcs old (lone answer p g arcs r))

  pub same-answer : (answer : Answer) (p : Program) (edges : List EdgeNo) (limit : Rounds) → AreEdgesOf g edges
      → answer_of answer p h (arcs_between p.along h edges) limit ≡ answer_of answer p g (arcs_between p.along g edges) limit
  same-answer answer p edges limit old =
      let arcs = arcs_between p.along g edges in
      let rounds : lone answer p h arcs ≡ lone answer p g arcs = λ i r. same-lone answer p arcs (along-edges g g p.along edges old) r i in
      ap (λ l. answer_of answer p h l limit) (same-arcs g h more p.along edges old) ∙ ap (λ f. answer_from f limit) rounds

  pub same-checked : (p : Program) → IsChecked p g → IsChecked p h
  same-checked p c = record {
    start = subst (λ cs. IsTrue (list_all (in_start cs) (leaves_of p.start))) (sym more.node_columns) c.start;
    send = subst (λ cs. IsTrue (list_all (in_send cs) (leaves_of p.send))) (sym more.edge_columns) c.send;
    update = c.update;
  }

  pub same-checked-back : (p : Program) → IsChecked p h → IsChecked p g
  same-checked-back p c = record {
    start = subst (λ cs. IsTrue (list_all (in_start cs) (leaves_of p.start))) more.node_columns c.start;
    send = subst (λ cs. IsTrue (list_all (in_send cs) (leaves_of p.send))) more.edge_columns c.send;
    update = c.update;
  }
