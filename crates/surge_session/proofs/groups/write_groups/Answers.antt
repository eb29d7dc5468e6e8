-- All texts are written.
use Rattle.std.proofs.Common.{◌≡◌, ◌∙◌, ℕ, List, map, ap, subst, flat_map}
use Rattle.std.specs.Prelude.{OnOk, OnErr}
use Rattle.surge_outside.specs.Written.{appended, GrewByFront}
use Rattle.gvdl_check.specs.declared.plan.ViewPlan.{ViewPlan}
use Rattle.surge_session.specs.Aggregates.{aggregate_text}
use Rattle.surge_session.specs.State.{shown_graph}
use Rattle.surge_session.proofs.Grouping.{flat_texts}
use Rattle.surge_session.proofs.groups.write_groups.Goals as goal

all_written : (named : List ℕ → ViewPlan → List ℕ) (views : List ViewPlan) (written texts : List (List ℕ)) (a b : List ℕ) → written ≡ texts → texts ≡ map (named a) views → a ≡ b → flat_map (λ (t : List ℕ). t) written ≡ flat_map (named b) views
all_written named views written texts a b is made same =
    let each : written ≡ map (named b) views = is ∙ made ∙ ap (λ (name : List ℕ). map (named name) views) same in
    ap (flat_map (λ (t : List ℕ). t)) each ∙ flat_texts (named b) views

pub returns-in-Ok-clause-ok : goal.returns-in-Ok-clause-ok
returns-in-Ok-clause-ok g c =
    let named : List ℕ → ViewPlan → List ℕ = aggregate_text (shown_graph c.args.graph.now c.args.matrix.now) c.args.grouping.by c.args.grouping.sum in
    subst (λ (bytes : List ℕ). OnOk c.write_texts.result (g.O.Sink.written c.write_texts.new.out ≡ appended (g.O.Sink.written c.args.out.now) bytes))
    (all_written named c.args.views.now c.as_slice.result.now c.in-Ok.texts.items c.as_str.result.now c.args.collection.now c.as_slice.ensures.value c.in-Ok.ensures c.as_str.ensures) c.write_texts.ensures.ok

pub returns-in-Ok-clause-err : goal.returns-in-Ok-clause-err
returns-in-Ok-clause-err g c =
    let named : List ℕ → ViewPlan → List ℕ = aggregate_text (shown_graph c.args.graph.now c.args.matrix.now) c.args.grouping.by c.args.grouping.sum in
    subst (λ (bytes : List ℕ). OnErr c.write_texts.result (GrewByFront (g.O.Sink.written c.args.out.now) (g.O.Sink.written c.write_texts.new.out) bytes))
    (all_written named c.args.views.now c.as_slice.result.now c.in-Ok.texts.items c.as_str.result.now c.args.collection.now c.as_slice.ensures.value c.in-Ok.ensures c.as_str.ensures) c.write_texts.ensures.err
