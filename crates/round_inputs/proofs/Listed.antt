-- What the listed tails of arcs send is what these arcs bring.
use Rattle.std.proofs.Common.{◌≡◌, ◌∙◌, ◌<◌, ◌∷◌, [], sym, ap, subst, refl, ℕ, ℤ, Bool, true, List, length, get_or, map, filter}
use Rattle.std.specs.Prelude.{All, Contains}
use Rattle.std.proofs.lemmas.List.Elements.{All-head, All-tail, All-filter, All-weaker}
use Rattle.std.proofs.lemmas.Simd.{map-map}
use Rattle.graph_model.specs.declared.number.NodeNo.{NodeNo}
use Rattle.graph_model.specs.declared.value.Val.{Val}
use Rattle.graph_model.specs.GraphData.{GraphData}
use Rattle.vertex_lang.specs.declared.arc.Arc.{Arc}
use Rattle.vertex_lang.specs.declared.program.Program.{Program}
use Rattle.vertex_lang.specs.Arcs.{is_sent, IsArc}
use Rattle.vertex_lang.specs.ExtremeLaws.{contains-none}
use Rattle.vertex_lang.specs.Expressions.{sent_by, edge_value}
use Rattle.vertex_lang.specs.Ignoring.{IgnoresEdge}
use Rattle.vertex_lang.specs.Rounds.{value_at}
use Rattle.vertex_lang.specs.Values.{added}
use Rattle.message_forms.specs.declared.edge_step.Link.{Link}
use Rattle.round_inputs.specs.declared.movers.Movers.{Movers}
use Rattle.message_forms.specs.Codes.{number_at, value_in, code_of}
use Rattle.arc_rows.specs.Links.{tail_of, link_of}
use Rattle.round_inputs.specs.Links.{brought_over, values_over, sent_by_tail, sent_by_tails}
use Rattle.round_inputs.specs.StillLinks.{IsStillOver}
use Rattle.message_forms.specs.Forms.{AreProper, IsStep}
use Rattle.arc_rows.specs.Views.{in_view, IsTurned}
use Rattle.round_messages.specs.Sides.{brings, all_brought}
use Rattle.round_inputs.specs.Movers.{AreStill}
use Rattle.arc_rows.specs.ViewLaws.{same-or-turned}
use Rattle.round_inputs.specs.SourceLaws.{gated}
use Rattle.round_inputs.proofs.Leftovers.{brings-same}
use Rattle.round_messages.specs.SendingLaws.{any-edge}

-- the same of each
map-alike : {A B : Type 0} (f g : A → B) (xs : List A) → All (λ a. f a ≡ g a) xs → map f xs ≡ map g xs
map-alike f g [] each = refl
map-alike f g (x ∷ xs) each =
    ap (λ y. y ∷ map f xs) (All-head (λ a. f a ≡ g a) x xs each)
    ∙ ap (λ ys. g x ∷ ys) (map-alike f g xs (All-tail (λ a. f a ≡ g a) x xs each))

-- where no arc is told, each is in both views or in none
pub none-told : (edges others : List Bool) (told row : List Arc) → told ≡ [] → All (λ a. IsTurned edges others a → Contains told a) row → All (λ a. in_view edges a ≡ in_view others a) row
none-told edges others told row none each = λ k d low.
    let a = get_or row k d in
    same-or-turned (in_view edges a) (in_view others a) (λ t. contains-none a (subst (λ (ks : List Arc). Contains ks a) none (each k d low t)))

module _ (p : Program) (graph : GraphData) (degrees : List ℕ) (values : List Val) where
  -- the same arcs are in both views
  brought-alike : (edges others : List Bool) (row : List Arc) → All (λ a. in_view edges a ≡ in_view others a) row
      → all_brought p graph edges degrees values row ≡ all_brought p graph others degrees values row
  brought-alike edges others row each =
      ap (λ (ms : List Val). filter is_sent ms) (map-alike (brings p graph edges degrees values) (brings p graph others degrees values) row
      (λ k d low. brings-same p graph edges others degrees degrees values values (get_or row k d) (each k d low) refl))

  -- those of the arcs in a view
  pub tails-send : (edges : List Bool) (row : List Arc) (tails : List NodeNo) → IgnoresEdge p.send → tails ≡ map tail_of (filter (in_view edges) row)
      → sent_by_tails p graph degrees values tails ≡ all_brought p graph edges degrees values row
  tails-send edges row tails any e =
      let along : Arc → Val = λ a. sent_by p graph a.tail.0 (value_at values a.tail.0) (get_or degrees a.tail.0 0) a.edge.0 in
      let first : Arc → Val = λ a. sent_by_tail p graph degrees values (tail_of a) in
      let arcs = filter (in_view edges) row in
      ap (λ (ts : List NodeNo). sent_by_tails p graph degrees values ts) e
      ∙ ap (λ (ms : List Val). filter is_sent ms) (map-map (sent_by_tail p graph degrees values) tail_of arcs)
      ∙ ap (λ (ms : List Val). filter is_sent ms) (map-alike first along arcs (λ k d low.
      let a = get_or arcs k d in any-edge p graph a.tail.0 (get_or degrees a.tail.0 0) 0 a.edge.0 (value_at values a.tail.0) any))
      ∙ sym (gated (in_view edges) along row)

  -- and where no arc is told, those of the same arcs in another view
  pub tails-send-there : (edges others : List Bool) (told row : List Arc) (tails : List NodeNo) → IgnoresEdge p.send → tails ≡ map tail_of (filter (in_view edges) row)
      → told ≡ [] → All (λ a. IsTurned edges others a → Contains told a) row
      → sent_by_tails p graph degrees values tails ≡ all_brought p graph others degrees values row
  tails-send-there edges others told row tails any e none each = tails-send edges row tails any e ∙ brought-alike edges others row (none-told edges others told row none each)

  -- what an arc brings with its property
  link-sends : (column : ℕ) → IsStep p column → AreProper graph column → (a : Arc) → IsArc graph a
      → brought_over values (link_of graph column a) ≡ sent_by p graph a.tail.0 (value_at values a.tail.0) (get_or degrees a.tail.0 0) a.edge.0
  link-sends column step proper a arc =
      ap (λ (x : Val). added true (value_at values a.tail.0) x) (proper a.edge.0 arc.edge)
      ∙ sym (step graph a.tail.0 (value_at values a.tail.0) (get_or degrees a.tail.0 0) a.edge.0)

  pub links-send : (edges : List Bool) (column : ℕ) (row : List Arc) (links : List Link) → IsStep p column → AreProper graph column → All (IsArc graph) row → links ≡ map (link_of graph column) (filter (in_view edges) row)
      → values_over values links ≡ all_brought p graph edges degrees values row
  links-send edges column row links step proper each e =
      let along : Arc → Val = λ a. sent_by p graph a.tail.0 (value_at values a.tail.0) (get_or degrees a.tail.0 0) a.edge.0 in
      let first : Arc → Val = λ a. brought_over values (link_of graph column a) in
      let arcs = filter (in_view edges) row in
      ap (λ (ls : List Link). values_over values ls) e
      ∙ ap (λ (ms : List Val). filter is_sent ms) (map-map (brought_over values) (link_of graph column) arcs)
      ∙ ap (λ (ms : List Val). filter is_sent ms) (map-alike first along arcs (All-filter (in_view edges) (λ a. first a ≡ along a) row
      (All-weaker (IsArc graph) (λ a. first a ≡ along a) (link-sends column step proper) row each)))
      ∙ sym (gated (in_view edges) along row)

  pub links-send-there : (edges others : List Bool) (column : ℕ) (told row : List Arc) (links : List Link) → IsStep p column → AreProper graph column → All (IsArc graph) row → links ≡ map (link_of graph column) (filter (in_view edges) row)
      → told ≡ [] → All (λ a. IsTurned edges others a → Contains told a) row
      → values_over values links ≡ all_brought p graph others degrees values row
  links-send-there edges others column told row links step proper each e none turned = links-send edges column row links step proper each e ∙ brought-alike edges others row (none-told edges others told row none turned)

-- an arc is still by its numbers where its tail is still
pub still-over : (p : Program) (graph : GraphData) (movers : Movers) (degrees counts : List ℕ) (values vs : List Val) (numbers : List ℤ) (column : ℕ) → IsStep p column → AreProper graph column
    → ((u : ℕ) → u < length graph.ids → number_at numbers u ≡ value_at values u) → AreStill p graph movers degrees values counts vs
    → (a : Arc) → IsArc graph a → IsStillOver movers numbers vs (link_of graph column a)
still-over p graph movers degrees counts values vs numbers column step proper are still a arc = λ calm.
    ap (λ (x : Val). added true x (value_in (code_of (edge_value graph a.edge.0 column)))) (are a.tail.0 arc.tail)
    ∙ link-sends p graph degrees values column step proper a arc
    ∙ still a.tail.0 a.edge.0 arc.tail calm
    ∙ sym (link-sends p graph counts vs column step proper a arc)
