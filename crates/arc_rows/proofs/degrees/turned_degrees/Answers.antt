use Rattle.std.proofs.Common.{ℕ, ◌≡◌, ◌∙◌, ◌<◌, Bool, false, List, length, get_or, sym, ap, subst, arith}
use Rattle.std.specs.Prelude.{All, ◌==◌, replicate}
use Rattle.std.proofs.lemmas.List.{get_or_read, length-replicate}
use Rattle.arc_rows.specs.Counts.{AreCounted}
use Rattle.std.proofs.lemmas.List.Elements.{All-filter, All-weaker}
use Rattle.std.proofs.lemmas.List.Sorted.{All-permutation}
use Rattle.std.proofs.lemmas.List.Sums.{length-filter, count_by-le-length}
use Rattle.std.proofs.lemmas.List.Sorted.{length_permutation}
use Rattle.vertex_lang.specs.declared.arc.Arc.{Arc}
use Rattle.vertex_lang.specs.Arcs.{IsArc}
use Rattle.arc_rows.specs.Views.{arcs_in}
use Rattle.arc_rows.proofs.Leaving.{leaving, turning-none, turning-next, turning-same, turning-end}
use Rattle.arc_rows.specs.ListLaws.{never}
use Rattle.arc_rows.proofs.degrees.turned_degrees.Goals as goal
use Rattle.arc_rows.proofs.degrees.turned_degrees.Goals.{then-not-index, else-not-index}

abbrev no_arc : Arc
no_arc = record { tail = record { 0 = 0 }; head = record { 0 = 0 }; edge = record { 0 = 0 }; back = false }

pub count_in_view-leaving-requires-clause-edges : goal.count_in_view-leaving-requires-clause-edges
count_in_view-leaving-requires-clause-edges c =
    let rows = c.args.views.now.rows.now in
    let new = c.args.views.now.new.now in
    let from : Arc → Bool = λ a. a.tail.0 == (get_or c.args.views.now.arcs.now c.loop-arc.arc-index no_arc).tail.0 in
    subst (λ (xs : List Arc). All (λ a. a.edge.0 < length new) xs) (sym c.out_of.ensures)
    (All-filter from (λ a. a.edge.0 < length new) rows.by_tail
    (All-weaker (IsArc c.args.views.now.graph.now) (λ a. a.edge.0 < length new) (λ a arc. omega (arith, arc.edge, c.requires.views.new)) rows.by_tail
    (All-permutation (IsArc c.args.views.now.graph.now) rows.by_head rows.by_tail c.requires.views.rows.same c.requires.views.rows.arcs)))

pub count_in_view-leaving-requires-clause-few : goal.count_in_view-leaving-requires-clause-few
count_in_view-leaving-requires-clause-few c =
    let rows = c.args.views.now.rows.now in
    let from : Arc → Bool = λ a. a.tail.0 == (get_or c.args.views.now.arcs.now c.loop-arc.arc-index no_arc).tail.0 in
    omega (
      arith,
      ap (λ (xs : List Arc). length xs) c.out_of.ensures,
      length-filter from rows.by_tail,
      count_by-le-length from rows.by_tail,
      length_permutation rows.by_head rows.by_tail c.requires.views.rows.same,
      c.requires.views.rows.few,
    )

pub loop-arc-init : goal.loop-arc-init
loop-arc-init c =
    let n = c.node_count.result in
    let made : c.in_ok-done.done.items ≡ replicate n false = c.in_ok-done.ensures.items_if_clones_equal (λ y e. e) in
    turning-none c.args.views.now.graph.now c.args.views.now.rows.now.by_head c.args.views.now.old.now c.args.views.now.new.now c.args.views.now.arcs.now c.in_ok-degrees.degrees.items c.in_ok-done.done.items
    (subst (λ (ds : List ℕ). AreCounted c.args.views.now.graph.now c.args.views.now.rows.now.by_head c.args.views.now.old.now ds) (sym c.in_ok-degrees.ensures.items) c.requires.known)
    (ap (λ (bs : List Bool). length bs) made ∙ length-replicate n false ∙ c.node_count.ensures.count)
    (λ u. ap (λ (bs : List Bool). get_or bs u false) made ∙ never n u)

pub loop-arc-preserved : goal.loop-arc-preserved
loop-arc-preserved c =
    let rows = c.args.views.now.rows.now in
    let new = c.args.views.now.new.now in
    let turned = c.args.views.now.arcs.now in
    let i = c.loop-arc.arc-index in
    let low = c.loop-arc-test.true in
    let t = (get_or turned i no_arc).tail.0 in
    let within = (c.requires.views.arcs i no_arc low).tail in
    let ds = c.loop-arc.degrees.items in
    let done = c.loop-arc.done.items in
    let inv = c.loop-arc.invariant in
    elim c.if-not-index.branch [
      | then-not-index w ↦ rw w.degrees-is (rw w.done-is (turning-next c.args.views.now.graph.now rows.by_head c.args.views.now.old.now new turned i no_arc low ds done inv w.count_in_view-leaving.result within
          (w.count_in_view-leaving.ensures ∙ ap (λ (xs : List Arc). length (arcs_in xs new)) w.out_of.ensures ∙ leaving new t rows.by_head rows.by_tail c.requires.views.rows.same)))
      | else-not-index w ↦ rw w.degrees-is (rw w.done-is (turning-same c.args.views.now.graph.now rows.by_head c.args.views.now.old.now new turned i no_arc low ds done inv
          (sym (get_or_read done t c.index.result.now (omega (arith, within, inv.done_size)) c.index.ensures false) ∙ w.if-not-index.false)))
    ]

pub returns : goal.returns
returns c = turning-end c.args.views.now.graph.now c.args.views.now.rows.now.by_head c.args.views.now.old.now c.args.views.now.new.now c.args.views.now.arcs.now c.loop-arc.arc-index c.loop-arc.degrees.items c.loop-arc.done.items (omega (arith, c.loop-arc-test.false)) c.requires.views.all_arcs c.loop-arc.invariant
