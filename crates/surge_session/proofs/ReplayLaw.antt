-- The change text of a script's plan comes back as the tables of the script without what it shows.
use Rattle.std.proofs.Common.{◌≡◌, ◌∙◌, ◌<◌, ℕ, zero, suc, List, [], ◌∷◌, length, map, get_or, Option, Some, None, Ok, slice_get, refl, sym, ap, subst}
use Rattle.std.specs.Prelude.{All, sum}
use Rattle.std.proofs.lemmas.List.Elements.{All-get_or, All-cons, All-head, All-nil, All-tail}
use Rattle.std.proofs.lemmas.Option.{slice_get_within, get_or_from_slice_get}
use Rattle.graph_model.specs.GraphData.{GraphData, HasEdgeCells, HasNodeCells, IsGraphData}
use Rattle.graph_loader.specs.LoadLaws.{NamesProperties}
use Rattle.gvdl_tree.specs.declared.script.Script.{Script}
use Rattle.vertex_lang.specs.Expressions.{Answer}
use Rattle.vertex_lang.specs.Leaves.{HoldsNumber}
use Rattle.vertex_lang.specs.LowestGiven.{OnlyGiven}
use Rattle.vertex_lang.specs.Values.{lowest_number}
use Rattle.gvdl_check.specs.declared.plan.ViewPlan.{ViewPlan}
use Rattle.gvdl_check.specs.declared.plan.CollectionPlan.{CollectionPlan}
use Rattle.gvdl_check.specs.declared.plan.RunPlan.{RunPlan}
use Rattle.gvdl_check.specs.declared.plan.Plan.{Plan}
use Rattle.gvdl_check.specs.Continued.{unmarked}
use Rattle.gvdl_check.specs.Fits.{HoldsNoLowest, PlanFits, RunFits}
use Rattle.gvdl_check.specs.Laws.{plans_fit, plans_hold_no_lowest, plans_name_lines, plans_without_shows}
use Rattle.gvdl_check.specs.NameLines.{CallNamed, CollectionNamed, PlanNamed}
use Rattle.gvdl_check.specs.Plans.{plan}
use Rattle.gvdl_check.specs.Written.{IsWritten}
use Rattle.change_text.specs.Laws.{TablesAreBlocks, TablesComeBack}
use Rattle.surge_session.specs.Live.{LiveGraph}
use Rattle.surge_session.specs.Output.{view_shown}
use Rattle.surge_session.specs.Replays.{ChangesReplay, ComesBack, HasWords}
use Rattle.surge_session.proofs.BlockRuns.{Whole}
use Rattle.surge_session.proofs.CallLines.{head_is}
use Rattle.surge_session.proofs.ComingBack.{comes_back}
use Rattle.surge_session.proofs.Pieces.{stage_at}
use Rattle.surge_session.proofs.TableBlocks.{is_block}

-- a run that is told to be edited or not is one of the plan
marked : (runs : List RunPlan) (place : ℕ) (run : RunPlan) → slice_get (map unmarked runs) place ≡ Some run → (own : RunPlan) × (slice_get runs place ≡ Some own) × (unmarked own ≡ run)
marked [] place run e = absurd cc
marked (r ∷ runs) zero run e = (r, refl, (let same : Some (unmarked r) ≡ Some run = e in cc))
marked (r ∷ runs) (suc place) run e = marked runs place run e

holds_at : {X : Type 0} (P : X → Type 0) (xs : List X) (i : ℕ) (x : X) → slice_get xs i ≡ Some x → All P xs → P x
holds_at P xs i x e all = subst P (get_or_from_slice_get xs i x x e) (all i x (slice_get_within xs i x e))

module _ (answer : Answer) (only : OnlyGiven answer) (s : Script) (g : GraphData) (groups : List ℕ) (p : Plan) (written : IsWritten s) (is : IsGraphData g) (nodes : HasNodeCells g) (edges : HasEdgeCells g) (names : NamesProperties g)
    (all : sum groups ≡ length g.ends) (e : plan s g groups ≡ Ok p) (come_back : TablesComeBack) (are_blocks : TablesAreBlocks) (words : HasWords answer g p) where
  fits : PlanFits g p
  fits = (plans_fit s g groups p all e).0

  each : (n place other : ℕ) (run : RunPlan) (c : CollectionPlan) → slice_get (map unmarked p.runs) place ≡ Some run → slice_get p.collections other ≡ Some c
      → All (λ view. Whole g come_back are_blocks (view_shown answer (stage_at g p n).graph run c.name view)) c.views
  each n place other run c run_at c_at =
      let own = marked p.runs place run run_at in
      let named : PlanNamed p = plans_name_lines s g groups p written e in
      let collection : CollectionNamed c = holds_at CollectionNamed p.collections other c c_at named.collections in
      let call : CallNamed own.0.call = holds_at (λ (r : RunPlan). CallNamed r.call) p.runs place own.0 own.1 named.calls in
      let own_fits : RunFits g (length p.collections) own.0 = holds_at (RunFits g (length p.collections)) p.runs place own.0 own.1 fits.runs in
      let free : HoldsNumber own.0.program lowest_number → ⊥ = holds_at (λ (r : RunPlan). HoldsNumber r.program lowest_number → ⊥) p.runs place own.0 own.1 (plans_hold_no_lowest s g groups p written all e) in
      let w : LiveGraph = (stage_at g p n).graph in
      subst (λ (r : RunPlan). All (λ view. Whole g come_back are_blocks (view_shown answer w r c.name view)) c.views) own.2
      (λ i d lt.
      let view : ViewPlan = get_or c.views i d in
      record {
        head = refl;
        block = is_block answer only w is nodes edges own.0 (length p.collections) own_fits free view.rule (view_shown answer w own.0 c.name view).head
            (head_is g names c.name view.name own.0.call collection.name (collection.views i d lt) call own_fits.call) (words place own.0 w view.rule refl own.1);
      })

pub changes_replay : (answer : Answer) (only : OnlyGiven answer) (s : Script) (g : GraphData) (groups : List ℕ) (p : Plan) → IsWritten s → IsGraphData g → HasNodeCells g → HasEdgeCells g → NamesProperties g → sum groups ≡ length g.ends → plan s g groups ≡ Ok p
    → TablesComeBack → TablesAreBlocks → ChangesReplay answer s g groups p
changes_replay answer only s g groups p written is nodes edges names all e come_back are_blocks =
    let less = plans_without_shows s g groups p e in
    record {
      less = less.rest;
      planned = less.is;
      back = λ words. comes_back p less.rest less.less g answer come_back are_blocks (each answer only s g groups p written is nodes edges names all e come_back are_blocks words);
    }
