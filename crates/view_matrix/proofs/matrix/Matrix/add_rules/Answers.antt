-- Each column has a bit for each edge.
use Rattle.std.proofs.Common.{◌≡◌, ◌∙◌, ◌++◌, Bool, List, length, map, All, ap, sym, subst, arith, length-append}
use Rattle.std.proofs.lemmas.List.{length-map}
use Rattle.std.proofs.lemmas.List.Elements.{All-append}
use Rattle.view_matrix.specs.Matrices.{MatrixData, rule_column, rule_columns}
use Rattle.view_matrix.proofs.MatrixBits.{column_lengths}
use Rattle.view_matrix.proofs.matrix.Matrix.add_rules.Goals as goal

pub invariant_of-self-2 : goal.invariant_of-self-2
invariant_of-self-2 c =
    let g = c.args.graph.now in
    let views = map (λ (r : _). r.now) c.args.rules.now in
    let live = c.self.inside.live in
    let old = c.self.inside.columns.items in
    let grown : c.append.new.self.items ≡ old ++ rule_columns g views = c.in_ok-append.ensures.items ∙ ap (λ (columns : List (List Bool)). old ++ columns) c.in_ok-columns.ensures in
    let edges : length g.ends ≡ length live = c.requires.graph ∙ sym (ap (λ (m : MatrixData). length m.live) c.self.view_is) in
    record {
      few_edges = c.self.invariant.few_edges;
      few_views = omega (
        arith,
        ap (λ (columns : List (List Bool)). length columns) grown,
        length-append old (rule_columns g views),
        length-map views (rule_column g),
        length-map c.args.rules.now (λ (r : _). r.now),
        ap (λ (m : MatrixData). length m.columns) c.self.view_is,
        c.requires.few,
      );
      all = subst (λ (columns : List (List Bool)). All (λ (column : List Bool). length column ≡ length live) columns) (sym grown)
          (All-append (λ (column : List Bool). length column ≡ length live) old (rule_columns g views) c.self.invariant.all (column_lengths g views (length live) edges));
    }
