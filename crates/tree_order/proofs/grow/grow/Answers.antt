-- The nearest view joins, and the links of the others are brought up to date.
use Rattle.std.proofs.Common.{◌≡◌, ◌∙◌, ◌+◌, ◌<◌, ◌++◌, ◌∷◌, [], ℕ, List, Option, length, take, drop, map, get_or, sym, ap, subst, arith, length-append}
use Rattle.std.specs.Prelude.{All}
use Rattle.std.specs.List.{remove}
use Rattle.std.proofs.Math.Seq.{take-append_seam}
use Rattle.std.proofs.lemmas.List.{length-map}
use Rattle.std.proofs.lemmas.List.Edits.{length-remove}
use Rattle.std.proofs.lemmas.List.Elements.{All-map}
use Rattle.graph_model.specs.declared.number.ViewNo.{ViewNo}
use Rattle.view_matrix.specs.Matrices.{distance_of, place_of, IsView}
use Rattle.view_order.specs.Greedy.{numbers}
use Rattle.tree_order.specs.declared.link.Link.{Link}
use Rattle.tree_order.specs.Links.{branches_of, brought, nearest_link, reached}
use Rattle.tree_order.specs.Trees.{Branch, tree, weight}
use Rattle.tree_order.proofs.Times.{once_distinct}
use Rattle.tree_order.proofs.Links.{AreLinks, all_left, all_within, links_at_first, links_more, next_distance, weight_more}
use Rattle.tree_order.proofs.grow.grow.Goals as goal

pub loop-outside-init : goal.loop-outside-init
loop-outside-init c =
    let m = c.args.matrix.now in
    let views : List ViewNo = c.args.views.now in
    let d : Option ℕ → ℕ → ℕ = distance_of m in
    let outside : List Link = c.in_ok-outside.outside.items in
    let none : c.new-links.result ≡ [] = c.new-links.ensures in
    let are : outside ≡ map (λ (v : ViewNo). reached d [] v.0) views = c.in_ok-outside.ensures in
    record {
      links = subst (λ (links : List Link). AreLinks d links outside (tree d (numbers views))) (sym none) (links_at_first d outside views are (once_distinct views c.requires.distinct));
      weight = ap (λ (links : List Link). weight d (branches_of links)) (sym none);
      views = subst (All (λ (link : Link). IsView m link.view)) (sym are) (All-map (λ (link : Link). IsView m link.view) (λ (v : ViewNo). reached d [] v.0) views c.requires.views);
      few = omega (arith, c.requires.few, ap (λ (links : List Link). length links) none, ap (λ (links : List Link). length links) are, length-map views (λ (v : ViewNo). reached d [] v.0));
      small = omega arith;
    }

pub loop-outside-preserved : goal.loop-outside-preserved
loop-outside-preserved c =
    let m = c.args.matrix.now in
    let d : Option ℕ → ℕ → ℕ = distance_of m in
    let all : List Branch = tree d (numbers c.args.views.now) in
    let invariant = c.loop-outside.invariant in
    let outside : List Link = c.loop-outside.outside.items in
    let links : List Link = c.loop-outside.links in
    let i : ℕ = c.nearest.result in
    let next : Link = c.remove-next.result in
    let rest : List Link = c.remove-next.new.self.items in
    let near : List Link = c.bring_nearer.new.links in
    let within : i < length outside = omega (arith, c.nearest.ensures.within, ap (λ (xs : List Link). length xs) c.as_slice.ensures.value) in
    let least : (e : Link) → get_or outside i e ≡ nearest_link (get_or outside 0 e) (drop 1 outside) =
    subst (λ (xs : List Link). (e : Link) → get_or xs i e ≡ nearest_link (get_or xs 0 e) (drop 1 xs)) c.as_slice.ensures.value c.nearest.ensures.nearest in
    let left : rest ≡ remove outside i = c.remove-next.ensures.items in
    let brings : near ≡ map (brought d next.view) (remove outside i) = c.bring_nearer.ensures ∙ ap (map (brought d next.view)) (c.as_mut_slice.ensures.value ∙ left) in
    let count : c.remove-next.new.self.len ≡ length near =
    omega (arith, c.remove-next.new.self.ok.0, ap (λ (xs : List Link). length xs) left, ap (λ (xs : List Link). length xs) brings, length-map (remove outside i) (brought d next.view)) in
    let written : take c.remove-next.new.self.len (near ++ drop (length near) rest) ≡ map (brought d next.view) (remove outside i) =
    ap (λ (n : ℕ). take n (near ++ drop (length near) rest)) count ∙ take-append_seam near (drop (length near) rest) ∙ brings in
    let grown : c.push.new.self ≡ links ++ next ∷ [] = c.in_ok-push.ensures.ok in
    let far : next.distance ≡ d (place_of next.parent) next.view.0 = next_distance d links outside all i next within c.remove-next.ensures.value invariant.links in
    let length_now : length c.push.new.self ≡ length links + 1 = ap (λ (xs : List Link). length xs) grown ∙ length-append links (next ∷ []) in
    record {
      links =
          subst (λ (xs : List Link). AreLinks d c.push.new.self xs all) (sym written)
          (subst (λ (xs : List Link). AreLinks d xs (map (brought d next.view) (remove outside i)) all) (sym grown)
          (links_more d links outside all i next within c.remove-next.ensures.value least invariant.links));
      weight =
          ap (λ (n : ℕ). c.loop-outside.weight + n) c.from-weight.ensures
          ∙ ap (λ (n : ℕ). n + next.distance) invariant.weight
          ∙ weight_more d links next far
          ∙ ap (λ (xs : List Link). weight d (branches_of xs)) (sym grown);
      views = subst (All (λ (link : Link). IsView m link.view)) (sym written) (all_within (length m.columns) d next.view (remove outside i) (all_left (length m.columns) outside i next within c.remove-next.ensures.value invariant.views));
      few = omega (arith, invariant.few, length_now, ap (λ (xs : List Link). length xs) written, length-map (remove outside i) (brought d next.view), length-remove outside i within);
      small = omega (arith, invariant.small, length_now, c.from-weight.ensures);
    }
