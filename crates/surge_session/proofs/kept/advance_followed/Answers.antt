-- The changes are taken back in the matrix that they made.
use Rattle.std.proofs.Common.{◌≡◌, ◌∙◌, ◌+◌, ◌*◌, ◌≤◌, ℕ, List, Bool, length, Result, Ok, Err, refl, sym, ap, ap₂, subst, arith}
use Rattle.std.specs.Prelude.{OnOk}
use Rattle.graph_model.specs.declared.number.EdgeNo.{EdgeNo}
use Rattle.vertex_lang.specs.declared.lone.Rounds.{Rounds}
use Rattle.vertex_lang.specs.declared.program.Program.{Program}
use Rattle.vertex_lang.specs.Lone.{number_of}
use Rattle.view_matrix.specs.Matrices.{MatrixData}
use Rattle.view_order.specs.Greedy.{numbers}
use Rattle.view_segment.specs.Tasks.{task_over}
use Rattle.view_versions.specs.Edits.{AreEdits, taken_back}
use Rattle.view_versions.specs.Engines.{Stands}
use Rattle.view_versions.specs.Touched.{touched}
use Rattle.surge_session.proofs.kept.advance_followed.Goals as goal

all_ok : {A E : Type 0} (r : Result A E) {P Q R S : Type 0} → (P → Q → R → S) → OnOk r P → OnOk r Q → OnOk r R → OnOk r S
all_ok (Ok a) f p q r = f p q r
all_ok (Err e) f p q r = tt

pub advance-requires-clause-fresh : goal.advance-requires-clause-fresh
advance-requires-clause-fresh g c = c.requires.turns.2.fresh

pub advance-requires-clause-engine : goal.advance-requires-clause-engine
advance-requires-clause-engine g c = c.requires.turns.2.engine

pub advance-requires-clause-edits : goal.advance-requires-clause-edits
advance-requires-clause-edits g c =
    let cs = c.args.changes.now in
    let is = c.requires.turns.1 in
    let law = c.edits_are_taken_back.ensures c.requires.turns.0 cs is.within is.turns in
    subst (λ (m : MatrixData). AreEdits m cs) (sym is.gives) law.0

pub advance-requires-clause-stands : goal.advance-requires-clause-stands
advance-requires-clause-stands g c =
    let cs = c.args.changes.now in
    let is = c.requires.turns.1 in
    let law = c.edits_are_taken_back.ensures c.requires.turns.0 cs is.within is.turns in
    let back : taken_back c.args.matrix.now cs ≡ c.requires.turns.0 = ap (λ (m : MatrixData). taken_back m cs) is.gives ∙ law.1 in
    subst (λ (m : MatrixData). Stands g.U.Updater.answer m c.args.engine.now) (sym back) c.requires.turns.2.stands

pub returns-clause-has : goal.returns-clause-has
returns-clause-has g c =
    let has = c.requires.turns.2 in
    let run = c.advance.ensures.run in
    all_ok c.advance.result
    (λ engine fresh stands. record {
      engine = engine;
      fresh = fresh;
      stands = stands;
      order = refl;
      graph = ap (λ r. r.now) run.graph;
      program = ap (λ r. r.now) run.program ∙ has.program;
      rounds = run.rounds ∙ has.rounds;
      unphased = has.unphased;
    })
    c.advance.ensures.engine c.advance.ensures.fresh c.advance.ensures.stands

pub returns-clause-calls : goal.returns-clause-calls
returns-clause-calls g c =
    let answer = g.U.Updater.answer in
    let e = c.args.engine.now in
    let has = c.requires.turns.2 in
    let m = c.args.matrix.now in
    let cs = c.args.changes.now in
    let most : ℕ → Program → Rounds → ℕ = λ k p r. touched (task_over answer p e.graph.now r (taken_back m cs)) (task_over answer p e.graph.now r m) (numbers e.order) * (k * number_of r) in
    let same : most (length e.order) e.program.now e.rounds ≡ most (length e.order) c.args.run.now.program c.args.run.now.rounds = ap₂ (most (length e.order)) has.program has.rounds in
    subst (λ (k : ℕ). OnOk c.advance.result (g.U.Counted.calls c.advance.new.updater ≤ g.U.Counted.calls c.args.updater.now + k)) same c.advance.ensures.most
