-- The edges turn, then each matrix, and then each kept run.
use Rattle.std.proofs.Common.{◌≡◌, ◌∙◌, ◌+◌, ◌<◌, ◌≤◌, ℕ, List, Bool, Some, length, map, All, slice_get, flat_map, refl, sym, ap, subst, arith}
use Rattle.std.specs.Prelude.{OnOk, OnErr, fold, sum_by}
use Rattle.std.proofs.lemmas.List.{length-map}
use Rattle.surge_outside.specs.Written.{appended, GrewByFront}
use Rattle.graph_model.specs.declared.number.EdgeNo.{EdgeNo}
use Rattle.graph_model.specs.GraphData.{GraphData}
use Rattle.vertex_lang.specs.Expressions.{Answer}
use Rattle.gvdl_check.specs.declared.plan.Plan.{Plan}
use Rattle.view_matrix.specs.Matrices.{MatrixData, with_live, with_changes}
use Rattle.surge_session.specs.declared.kept.Kept.{Kept}
use Rattle.surge_session.specs.Changes.{AreEdited}
use Rattle.surge_session.specs.Live.{live_at}
use Rattle.surge_session.specs.Output.{followed_text, edit_text, kept_at}
use Rattle.surge_session.specs.Works.{touched_work}
use Rattle.surge_session.specs.State.{IsKept, IsAt, MatricesAt, places_of}
use Rattle.surge_session.proofs.Following.{all_within, are_edited, edited_at, kept_still, edit_work}
use Rattle.surge_session.proofs.Stating.{both_ok, came_back, step_work_is}
use Rattle.surge_session.proofs.Turning.{count_turned}
use Rattle.surge_session.proofs.edit.execute_edit.Goals as goal

-- what came back is what was lent
at_back : (answer : Answer) (g : GraphData) (p : Plan) (n : ℕ) (live l : List Bool) (made ms : List MatrixData) (kept ks : List Kept) → live ≡ l → made ≡ ms → kept ≡ ks → IsAt answer g p n l ms ks → IsAt answer g p n live made kept
at_back answer g p n live l made ms kept ks first second third at =
    subst (λ (x : List Bool). IsAt answer g p n x made kept) (sym first) (subst (λ (x : List MatrixData). IsAt answer g p n l x kept) (sym second) (subst (λ (x : List Kept). IsAt answer g p n l ms x) (sym third) at))

pub turn-requires : goal.turn-requires
turn-requires g c =
    subst (λ (l : List Bool). All (λ (change : EdgeNo × Bool). change.0.0 < length l) c.args.changes.now) (sym (c.deref_mut.ensures.value ∙ c.requires.at.live)) c.requires.changes.within

pub edit_all-requires : goal.edit_all-requires
edit_all-requires g c =
    let answer = g.U.Updater.answer in
    let graph = c.args.setting.graph.now in
    let p = c.args.setting.plan.now in
    let n = c.args.n in
    let s = c.requires.step in
    let cs = c.args.changes.now in
    let at = c.requires.at in
    let live = c.args.state.now.live in
    let made = c.args.state.now.made in
    let kept = c.args.state.now.kept in
    subst (λ (ms : List MatrixData). All (λ (m : MatrixData). All (λ (change : EdgeNo × Bool). change.0.0 < length m.live) cs) ms) (sym c.deref_mut-2.ensures.value) (all_within graph p n s.0 s.1 s.2 cs c.requires.changes made.items at.matrices)

pub follow_all-requires-clause-matrices : goal.follow_all-requires-clause-matrices
follow_all-requires-clause-matrices g c =
    let answer = g.U.Updater.answer in
    let graph = c.args.setting.graph.now in
    let p = c.args.setting.plan.now in
    let n = c.args.n in
    let s = c.requires.step in
    let cs = c.args.changes.now in
    let at = c.requires.at in
    let live = c.args.state.now.live in
    let made = c.args.state.now.made in
    let kept = c.args.state.now.kept in
    let live_there : c.deref_mut.result.now ≡ live_at graph p n = c.deref_mut.ensures.value ∙ at.live in
    let live_is : c.turn.new.live ≡ live_at graph p (n + 1) = c.turn.ensures ∙ ap (λ (l : List Bool). fold with_live l cs) live_there ∙ c.requires.changes.gives in
    let live_size : length c.turn.new.live ≡ length live.items = ap (λ (l : List Bool). length l) c.turn.ensures ∙ count_turned c.deref_mut.result.now cs ∙ ap (λ (l : List Bool). length l) c.deref_mut.ensures.value in
    let live_back = came_back c.turn.new.live live.items live.len live_size (omega arith) in
    let made_is : c.edit_all.new.made ≡ map (λ (m : MatrixData). with_changes m cs) made.items = c.edit_all.ensures ∙ ap (λ (ms : List MatrixData). map (λ (m : MatrixData). with_changes m cs) ms) c.deref_mut-2.ensures.value in
    let made_size : length c.edit_all.new.made ≡ length made.items = ap (λ (ms : List MatrixData). length ms) made_is ∙ length-map made.items (λ (m : MatrixData). with_changes m cs) in
    let made_back = came_back c.edit_all.new.made made.items made.len made_size (omega arith) in
    let now : c.deref.result.now ≡ map (λ (m : MatrixData). with_changes m cs) made.items = c.deref.ensures.value ∙ made_back ∙ made_is in
    subst (λ (ms : List MatrixData). MatricesAt graph p (n + 1) ms) (sym now) (edited_at graph p n s.0 s.1 s.2 cs c.requires.changes made.items at.matrices)

pub follow_all-requires-clause-turns : goal.follow_all-requires-clause-turns
follow_all-requires-clause-turns g c =
    let answer = g.U.Updater.answer in
    let graph = c.args.setting.graph.now in
    let p = c.args.setting.plan.now in
    let n = c.args.n in
    let s = c.requires.step in
    let cs = c.args.changes.now in
    let at = c.requires.at in
    let live = c.args.state.now.live in
    let made = c.args.state.now.made in
    let kept = c.args.state.now.kept in
    let live_there : c.deref_mut.result.now ≡ live_at graph p n = c.deref_mut.ensures.value ∙ at.live in
    let live_is : c.turn.new.live ≡ live_at graph p (n + 1) = c.turn.ensures ∙ ap (λ (l : List Bool). fold with_live l cs) live_there ∙ c.requires.changes.gives in
    let live_size : length c.turn.new.live ≡ length live.items = ap (λ (l : List Bool). length l) c.turn.ensures ∙ count_turned c.deref_mut.result.now cs ∙ ap (λ (l : List Bool). length l) c.deref_mut.ensures.value in
    let live_back = came_back c.turn.new.live live.items live.len live_size (omega arith) in
    let made_is : c.edit_all.new.made ≡ map (λ (m : MatrixData). with_changes m cs) made.items = c.edit_all.ensures ∙ ap (λ (ms : List MatrixData). map (λ (m : MatrixData). with_changes m cs) ms) c.deref_mut-2.ensures.value in
    let made_size : length c.edit_all.new.made ≡ length made.items = ap (λ (ms : List MatrixData). length ms) made_is ∙ length-map made.items (λ (m : MatrixData). with_changes m cs) in
    let made_back = came_back c.edit_all.new.made made.items made.len made_size (omega arith) in
    let now : c.deref.result.now ≡ map (λ (m : MatrixData). with_changes m cs) made.items = c.deref.ensures.value ∙ made_back ∙ made_is in (
      made.items,
      at.matrices,
      subst (λ (ms : List MatrixData). AreEdited made.items ms cs) (sym now) (are_edited graph p n s.0 s.1 s.2 cs c.requires.changes made.items at.matrices),
      subst (λ (ks : List Kept). All (IsKept answer graph p n made.items) ks) (sym c.deref_mut-3.ensures.value) at.each,
    )

pub returns-clause-at : goal.returns-clause-at
returns-clause-at g c =
    let answer = g.U.Updater.answer in
    let graph = c.args.setting.graph.now in
    let p = c.args.setting.plan.now in
    let n = c.args.n in
    let s = c.requires.step in
    let cs = c.args.changes.now in
    let at = c.requires.at in
    let live = c.args.state.now.live in
    let made = c.args.state.now.made in
    let kept = c.args.state.now.kept in
    let live_there : c.deref_mut.result.now ≡ live_at graph p n = c.deref_mut.ensures.value ∙ at.live in
    let live_is : c.turn.new.live ≡ live_at graph p (n + 1) = c.turn.ensures ∙ ap (λ (l : List Bool). fold with_live l cs) live_there ∙ c.requires.changes.gives in
    let live_size : length c.turn.new.live ≡ length live.items = ap (λ (l : List Bool). length l) c.turn.ensures ∙ count_turned c.deref_mut.result.now cs ∙ ap (λ (l : List Bool). length l) c.deref_mut.ensures.value in
    let live_back = came_back c.turn.new.live live.items live.len live_size (omega arith) in
    let made_is : c.edit_all.new.made ≡ map (λ (m : MatrixData). with_changes m cs) made.items = c.edit_all.ensures ∙ ap (λ (ms : List MatrixData). map (λ (m : MatrixData). with_changes m cs) ms) c.deref_mut-2.ensures.value in
    let made_size : length c.edit_all.new.made ≡ length made.items = ap (λ (ms : List MatrixData). length ms) made_is ∙ length-map made.items (λ (m : MatrixData). with_changes m cs) in
    let made_back = came_back c.edit_all.new.made made.items made.len made_size (omega arith) in
    let now : c.deref.result.now ≡ map (λ (m : MatrixData). with_changes m cs) made.items = c.deref.ensures.value ∙ made_back ∙ made_is in
    let new = c.follow_all.new.kept in
    both_ok c.follow_all.result
    (λ each places.
    let before : places_of new ≡ places_of kept.items = places ∙ ap places_of c.deref_mut-3.ensures.value in
    let size : length new ≡ length kept.items = omega (arith, ap (λ (ns : List ℕ). length ns) before, length-map new (λ (k : Kept). k.place), length-map kept.items (λ (k : Kept). k.place)) in
    let kept_back = came_back new kept.items kept.len size (omega arith) in
    let there : IsAt answer graph p (n + 1) c.turn.new.live c.edit_all.new.made new = record {
      live = live_is;
      matrices = subst (λ (ms : List MatrixData). MatricesAt graph p (n + 1) ms) (sym made_is) (edited_at graph p n s.0 s.1 s.2 cs c.requires.changes made.items at.matrices);
      places = before ∙ at.places ∙ sym (kept_still graph p n s.0 s.1 s.2);
      each = subst (λ (ms : List MatrixData). All (IsKept answer graph p (n + 1) ms) new) (c.deref.ensures.value ∙ made_back) each;
    } in
    at_back answer graph p (n + 1) _ c.turn.new.live _ c.edit_all.new.made _ new live_back made_back kept_back there)
    c.follow_all.ensures.kept c.follow_all.ensures.places

pub returns-clause-ok : goal.returns-clause-ok
returns-clause-ok g c =
    let answer = g.U.Updater.answer in
    let graph = c.args.setting.graph.now in
    let p = c.args.setting.plan.now in
    let n = c.args.n in
    let s = c.requires.step in
    let cs = c.args.changes.now in
    let at = c.requires.at in
    let live = c.args.state.now.live in
    let made = c.args.state.now.made in
    let kept = c.args.state.now.kept in
    let places : places_of c.deref_mut-3.result.now ≡ kept_at p n = ap places_of c.deref_mut-3.ensures.value ∙ at.places in
    let text : flat_map (followed_text answer c.args.setting.form graph p n) (places_of c.deref_mut-3.result.now) ≡ edit_text answer c.args.setting.form graph p n = ap (λ (ks : List ℕ). flat_map (followed_text answer c.args.setting.form graph p n) ks) places in
    subst (λ (t : List ℕ). OnOk c.follow_all.result (g.O.Sink.written c.follow_all.new.out ≡ appended (g.O.Sink.written c.args.out.now) t)) text c.follow_all.ensures.ok

pub returns-clause-err : goal.returns-clause-err
returns-clause-err g c =
    let answer = g.U.Updater.answer in
    let graph = c.args.setting.graph.now in
    let p = c.args.setting.plan.now in
    let n = c.args.n in
    let s = c.requires.step in
    let cs = c.args.changes.now in
    let at = c.requires.at in
    let live = c.args.state.now.live in
    let made = c.args.state.now.made in
    let kept = c.args.state.now.kept in
    let places : places_of c.deref_mut-3.result.now ≡ kept_at p n = ap places_of c.deref_mut-3.ensures.value ∙ at.places in
    let text : flat_map (followed_text answer c.args.setting.form graph p n) (places_of c.deref_mut-3.result.now) ≡ edit_text answer c.args.setting.form graph p n = ap (λ (ks : List ℕ). flat_map (followed_text answer c.args.setting.form graph p n) ks) places in
    subst (λ (t : List ℕ). OnErr c.follow_all.result (GrewByFront (g.O.Sink.written c.args.out.now) (g.O.Sink.written c.follow_all.new.out) t)) text c.follow_all.ensures.err

pub returns-clause-calls : goal.returns-clause-calls
returns-clause-calls g c =
    let answer = g.U.Updater.answer in
    let graph = c.args.setting.graph.now in
    let p = c.args.setting.plan.now in
    let n = c.args.n in
    let s = c.requires.step in
    let cs = c.args.changes.now in
    let at = c.requires.at in
    let live = c.args.state.now.live in
    let made = c.args.state.now.made in
    let kept = c.args.state.now.kept in
    let places : places_of c.deref_mut-3.result.now ≡ kept_at p n = ap places_of c.deref_mut-3.ensures.value ∙ at.places in
    let all = ap (λ (ks : List ℕ). sum_by (touched_work answer graph p n) ks) places ∙ sym (step_work_is answer graph p n s.0 s.1 ∙ edit_work answer graph p n s.0 s.2) in
    subst (λ (k : ℕ). OnOk c.follow_all.result (g.U.Counted.calls c.follow_all.new.updater ≤ g.U.Counted.calls c.args.updater.now + k)) all c.follow_all.ensures.calls
