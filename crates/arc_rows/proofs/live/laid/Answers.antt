use Rattle.std.proofs.Common.{◌≡◌, ◌∙◌, ◌+◌, ◌∷◌, [], suc, List, length, ap, refl, arith}
use Rattle.std.proofs.lemmas.List.{length-append}
use Rattle.vertex_lang.specs.declared.arc.Arc.{Arc}
use Rattle.arc_rows.specs.declared.live.Place.{Place}
use Rattle.arc_rows.specs.RowLists.{begin_of}
use Rattle.arc_rows.proofs.Renewing.{row-size, laid-more, laid-out}
use Rattle.arc_rows.proofs.live.laid.Goals as goal

pub loop-node-init : goal.loop-node-init
loop-node-init g c = record {
  size = ap (λ (ps : List Place). length ps) c.in_ok-places.ensures.items;
  from = refl;
  each = λ v low. absurd (omega (arith, low));
}

pub overflow_cast-from : goal.overflow_cast-from
overflow_cast-from g c = omega (arith, c.loop-node.invariant.from, c.requires.grouped.rising c.loop-node.node c.loop-node-test.true, c.requires.grouped.within c.loop-node.node c.loop-node-test.true, c.requires.few)

pub overflow_add-from : goal.overflow_add-from
overflow_add-from g c =
    omega (
      arith,
      c.loop-node.invariant.from,
      row-size c.args.rows.now.by_head c.args.rows.now.head_ends c.args.count c.requires.grouped c.loop-node.node c.loop-node-test.true,
      ap (λ (xs : List Arc). length xs) c.into.ensures,
      c.requires.grouped.within c.loop-node.node c.loop-node-test.true,
      c.requires.few,
    )

pub loop-node-preserved : goal.loop-node-preserved
loop-node-preserved g c =
    let ends = c.args.rows.now.head_ends in
    let node = c.loop-node.node in
    let size = row-size c.args.rows.now.by_head ends c.args.count c.requires.grouped node c.loop-node-test.true in
    let more : suc node ≡ node + 1 = omega arith in
    record {
      size = omega (arith, ap (λ (ps : List Place). length ps) c.in_ok-push.ensures.items, length-append c.loop-node.places.items (record { from = c.loop-node.from; count = 0 } ∷ []), c.loop-node.invariant.size);
      from = omega (arith, c.loop-node.invariant.from, size, ap (λ (xs : List Arc). length xs) c.into.ensures, ap (begin_of ends) more);
      each = laid-more c.args.rows.now.by_head ends c.args.count c.requires.grouped c.loop-node.places.items c.push.new.self.items node c.loop-node.from c.loop-node.invariant.size c.loop-node.invariant.from c.loop-node.invariant.each c.in_ok-push.ensures.items;
    }

pub returns : goal.returns
returns g c =
    let all : c.loop-node.node ≡ c.args.count = omega (arith, c.loop-node.auto.node-end, c.loop-node-test.false) in
    laid-out c.args.rows.now.by_head c.args.rows.now.head_ends c.args.count c.requires.grouped _ (c.loop-node.invariant.size ∙ all)
    (omega (arith, c.in_ok-items.ensures.len, c.in_ok-items.items.ok, ap (λ (xs : List Arc). length xs) c.arcs.ensures))
    (λ v low. c.loop-node.invariant.each v (omega (arith, low, all)))
