-- The entries of the present edges are those before and the changes'.
use Rattle.std.proofs.Common.{◌≡◌, ◌<◌, ◌≤◌, ◌^◌, ◌++◌, ◌∙◌, List, Bool, false, arith, ap, sym, subst, length, get_or, take, drop}
use Rattle.std.proofs.lemmas.List.{length-map}
use Rattle.flow_core.specs.Runs.{Every}
use Rattle.aggregate_views.specs.Changes.{changed, AreChanges}
use Rattle.aggregate_views.specs.Coding.{key_cell, IsKnown}
use Rattle.aggregate_views.specs.Inside.{GroupsData}
use Rattle.aggregate_views.specs.Rows.{present_edges}
use Rattle.aggregate_views.proofs.Applied.{fed_next}
use Rattle.aggregate_views.proofs.Turned.{came_back, each_changed, in_range, length-changed}
use Rattle.aggregate_views.proofs.groups.Groups.apply.Goals as goal

pub delta-requires-clause-edges : goal.delta-requires-clause-edges
delta-requires-clause-edges c = subst (λ n. Every (λ d. d.0.0 < n) c.args.changes.now) c.self.invariant.edges (in_range c.self.inside.present.items c.args.changes.now (subst (λ (d : GroupsData). AreChanges d.present c.args.changes.now) (sym c.self.view_is) c.requires.changes))

pub delta-requires-clause-groups : goal.delta-requires-clause-groups
delta-requires-clause-groups c = λ n low. subst (λ m. get_or c.self.inside.encoding.places.items n 0 < m) (length-map c.self.inside.keys.items key_cell ∙ sym c.self.invariant.groups) (c.self.invariant.codes.each n low).0

pub feed-requires-clause-fed : goal.feed-requires-clause-fed
feed-requires-clause-fed c = (_, c.self.invariant.fed (subst (λ (d : GroupsData). d.spent ≡ false) (sym c.self.view_is) c.requires.live))

pub feed-requires-clause-room : goal.feed-requires-clause-room
feed-requires-clause-room c =
    let few : c.self.inside.kept.at < 2 ^ 31 = subst (λ (d : GroupsData). d.applied < 2 ^ 31) (sym c.self.view_is) c.requires.few in
    omega (arith, few)

pub turn-requires : goal.turn-requires
turn-requires c = subst (λ v. AreChanges v c.args.changes.now) (sym c.as_mut_slice.ensures.value) (subst (λ (d : GroupsData). AreChanges d.present c.args.changes.now) (sym c.self.view_is) c.requires.changes)

pub invariant_of-self-2 : goal.invariant_of-self-2
invariant_of-self-2 c =
    let changes : AreChanges c.self.inside.present.items c.args.changes.now = subst (λ (d : GroupsData). AreChanges d.present c.args.changes.now) (sym c.self.view_is) c.requires.changes in
    let live : c.self.inside.spent ≡ false = ap (λ (d : GroupsData). d.spent) c.self.view_is ∙ c.requires.live in
    let now : c.turn.new.present ≡ changed c.self.inside.present.items c.args.changes.now = c.turn.ensures ∙ ap (λ v. changed v c.args.changes.now) c.as_mut_slice.ensures.value in
    let as_long : length c.turn.new.present ≡ length c.self.inside.present.items = ap (λ v. length v) now ∙ length-changed c.self.inside.present.items c.args.changes.now in
    let next : List Bool = take c.self.inside.present.len (c.turn.new.present ++ drop (length c.turn.new.present) c.self.inside.present.items) in
    let back : next ≡ changed c.self.inside.present.items c.args.changes.now = came_back c.turn.new.present c.self.inside.present.items c.self.inside.present.len as_long (omega (arith, c.self.inside.present.ok)) ∙ now in
    let long : length next ≡ length c.self.inside.present.items = ap (λ v. length v) back ∙ length-changed c.self.inside.present.items c.args.changes.now in
    record {
      column = c.self.invariant.column;
      sum = c.self.invariant.sum;
      codes = c.self.invariant.codes;
      groups = c.self.invariant.groups;
      edges = long ∙ c.self.invariant.edges;
      few = subst (λ n. n ≤ 4_000_000) (sym long) c.self.invariant.few;
      known = subst (λ v. Every (IsKnown c.self.inside.encoding.graph.now c.self.inside.encoding.sum) (present_edges v)) (sym back) (each_changed (IsKnown c.self.inside.encoding.graph.now c.self.inside.encoding.sum) c.self.inside.present.items c.args.changes.now c.in_ok-delta.ensures.known c.self.invariant.known);
      fed = λ _. fed_next _ _ _ _ _ _ _ c.self.inside.encoding.graph.now c.self.inside.encoding.places.items c.self.inside.encoding.sum c.self.inside.present.items next c.args.changes.now c.in_ok-delta.delta back changes c.in_ok-delta.ensures.entries (c.in_ok-feed.ensures.fed _ (c.self.invariant.fed live));
      function = c.feed.ensures.apply ∙ c.self.invariant.function;
    }
