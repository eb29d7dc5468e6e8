-- The laws of the items of a view.
use Rattle.std.specs.Prelude.{◌≡◌, ℕ, ◌+◌, ◌<◌, ◌≤◌, ◌^◌, Bool, true, false, List, [], length, All, if◌then◌else◌}
use Rattle.std.specs.declared.cmp.Ordering.{Ordering}
use Rattle.std.specs.Cmp.{tied_itself}
use Rattle.std.proofs.Common.{arith, ap, refl}
use Rattle.weighted.specs.Alike.{Alike, Alike-is, Alike-trans}
use Rattle.reduce_theory.specs.Evaluated.{key_part}
use Rattle.reduce_theory.specs.ByKey.{at_each_key}
use Rattle.graph_model.specs.declared.value.Val.{Val}
use Rattle.graph_model.specs.declared.number.NodeNo.{NodeNo}
use Rattle.graph_model.specs.GraphData.{GraphData, node}
use Rattle.vertex_lang.specs.declared.arc.Arc.{Arc}
use Rattle.vertex_lang.specs.declared.program.Program.{Program}
use Rattle.vertex_lang.specs.Arcs.{IsArc, outdeg}
use Rattle.vertex_lang.specs.ByLeaves.{ignores-outdeg}
use Rattle.vertex_lang.specs.Expressions.{Answer, sent_by, send_words}
use Rattle.vertex_lang.specs.Named.{names_outdeg}
use Rattle.vertex_lang.specs.Rounds.{value_at, carried, lone}
use Rattle.view_items.specs.Collections.{InLoop, items, view_in_loop}
use Rattle.view_items.specs.ItemLaws.{items-are-input, no-items, items_respect}
use Rattle.view_items.specs.Prepared.{told_of, view_fed, prepared}
use Rattle.view_items.specs.PreparedLaws.{degree_few, view-prepared, prepared_respects}
use Rattle.view_items.specs.Laws.{IsOrder, ItemsAreInputs, ViewIsPrepared}

-- ---- the degree that is told is the degree, wherever the message depends on it

told_small_by : (b : Bool) (n m : ℕ) → n ≤ m → m < 2 ^ 32 → (if b then n else 0) < 2 ^ 32
told_small_by true n m h k = omega arith
told_small_by false n m h k = omega arith

told_right_by : (p : Program) (graph : GraphData) (tail : ℕ) (value : Val) (n edge : ℕ) (b : Bool) → names_outdeg p.send ≡ b → sent_by p graph tail value (if b then n else 0) edge ≡ sent_by p graph tail value n edge
told_right_by p graph tail value n edge true e = ap (λ m. sent_by p graph tail value m edge) refl
told_right_by p graph tail value n edge false e = ignores-outdeg p.send e (send_words graph tail value 0 edge) 0 n

told_right : (p : Program) (graph : GraphData) (arcs : List Arc) (values : List Val) (a : Arc) → sent_by p graph a.tail.0 (value_at values a.tail.0) (told_of p arcs a) a.edge.0 ≡ carried p graph arcs values a
told_right p graph arcs values a = told_right_by p graph a.tail.0 (value_at values a.tail.0) (outdeg arcs a.tail.0) a.edge.0 (names_outdeg p.send) refl

pub items-are-inputs : ItemsAreInputs
items-are-inputs ncmp o answer p graph arcs r all few fed is v =
    let values : List Val = lone answer p graph arcs r in
    let small = (λ (a : Arc). told_small_by (names_outdeg p.send) (outdeg arcs a.tail.0) (length arcs) (degree_few arcs a.tail.0) few) in
    let part : Alike (key_part ncmp v (items ncmp p graph fed)) (key_part ncmp v (items ncmp p graph (view_in_loop p graph (told_of p arcs) arcs values))) = at_each_key ncmp o.same (tied_itself o.total) (items ncmp p graph fed) (items ncmp p graph (view_in_loop p graph (told_of p arcs) arcs values)) (items_respect ncmp o.same (tied_itself o.total) p graph fed (view_in_loop p graph (told_of p arcs) arcs values) is) v in (
      (λ low. Alike-trans part (Alike-is (items-are-input ncmp o.same (tied_itself o.total) p graph (told_of p arcs) small arcs all values (told_right p graph arcs values) v.0 low))),
      (λ high. Alike-trans part (Alike-is (no-items ncmp o.same (tied_itself o.total) p graph (told_of p arcs) small arcs all values (told_right p graph arcs values) v.0 high))),
    )

pub view-is-prepared : ViewIsPrepared
view-is-prepared ncmp n acmp a answer p graph arcs all few fed is =
    Alike-trans (prepared_respects ncmp n.same (tied_itself n.total) graph acmp a.total a.same p fed (view_fed graph arcs) is) (view-prepared ncmp n.same (tied_itself n.total) graph acmp a.total a.same answer p arcs all few)
