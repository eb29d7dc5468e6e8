-- A run whose work is shown has an engine that shares work.
use Rattle.std.proofs.Common.{◌≡◌, ◌∙◌, ◌<◌, ℕ, length, All, List, get_or, Some, None, slice_get, true, false, refl, sym, ap, subst}
use Rattle.std.proofs.lemmas.Option.{slice_get_within, get_or_from_slice_get}
use Rattle.graph_model.specs.declared.number.ViewNo.{ViewNo}
use Rattle.graph_model.specs.GraphData.{GraphData}
use Rattle.vertex_lang.specs.Expressions.{Answer}
use Rattle.gvdl_check.specs.declared.plan.ViewPlan.{ViewPlan}
use Rattle.gvdl_check.specs.declared.plan.RunPlan.{RunPlan}
use Rattle.gvdl_check.specs.declared.plan.Step.{Step}
use Rattle.gvdl_check.specs.declared.plan.Step.TheVariants as step
use Rattle.gvdl_check.specs.declared.plan.Plan.{Plan}
use Rattle.gvdl_check.specs.Fits.{PlanFits, ShowsWork}
use Rattle.view_matrix.specs.Matrices.{MatrixData}
use Rattle.view_segment.specs.declared.segment.Segment.{Segment}
use Rattle.view_engine.specs.declared.engine.Engine.{Engine}
use Rattle.view_engine.specs.Engines.{IsEngine, AreFinished, segments_in}
use Rattle.surge_session.specs.declared.kept.Kept.{Kept}
use Rattle.surge_session.specs.declared.kept.RunEngine.{RunEngine}
use Rattle.surge_session.specs.declared.kept.RunEngine.TheVariants as run_engine
use Rattle.surge_session.specs.Output.{made_at, work_text}
use Rattle.surge_session.specs.State.{HasRunIn, IsKept, MatricesAt, order_in}
use Rattle.surge_session.specs.WorkLines.{TellsWork, engine_text}
use Rattle.surge_session.proofs.Running.{in_segments}
use Rattle.surge_session.proofs.Stating.{its_phases, has_here, has_plain, below_first, work_shown}

-- no edge comes or goes behind it
unedited : (g : GraphData) (p : Plan) (n place : ℕ) (run : RunPlan) → PlanFits g p → slice_get p.steps n ≡ Some (step.ShowWork place) → slice_get p.runs place ≡ Some run → run.edited ≡ false
unedited g p n place run fits at run_at =
    let is : get_or p.steps n step.Nothing ≡ step.ShowWork place = get_or_from_slice_get p.steps n (step.ShowWork place) step.Nothing at in
    let shows : ShowsWork p (step.ShowWork place) = subst (λ (s : Step). ShowsWork p s) is (fits.works n step.Nothing (slice_get_within p.steps n (step.ShowWork place) at)) in
    shows run run_at

by_engine : (answer : Answer) (g : GraphData) (run : RunPlan) (m : MatrixData) (engine : RunEngine) → run.edited ≡ false → run.phases ≡ None → HasRunIn answer g run m engine → (e : Engine) × (engine ≡ run_engine.Plain e)
by_engine answer g run m (run_engine.Plain e) plain unphased has = (e, refl)
by_engine answer g run m (run_engine.Versions e) plain unphased has = absurd (let wrong : false ≡ true = sym plain ∙ has.0 in cc)
by_engine answer g run m (run_engine.Phased results) plain unphased has = absurd (let wrong : None ≡ Some has.0 = sym unphased ∙ has.1.phases in cc)

module _ (answer : Answer) (g : GraphData) (p : Plan) (n : ℕ) (made : List MatrixData) (k : Kept) (run : RunPlan) (kept : IsKept answer g p n made k) (run_at : slice_get p.runs k.place ≡ Some run) (fits : PlanFits g p) (at : slice_get p.steps n ≡ Some (step.ShowWork k.place))
    (m : MatrixData) (m_at : slice_get made run.collection ≡ Some m) where
  shares : (e : Engine) × (k.engine ≡ run_engine.Plain e)
  shares = by_engine answer g run m k.engine (unedited g p n k.place run fits at run_at) (its_phases answer g p n made k run kept run_at) (has_here answer g p n made k run kept run_at m m_at)

  module _ (e : Engine) (plain : k.engine ≡ run_engine.Plain e) where
    shown_engine : IsEngine e
    shown_engine = (has_plain answer g p n made k run kept run_at m m_at e plain).is.engine

    shown_finished : AreFinished e
    shown_finished = (has_plain answer g p n made k run kept run_at m m_at e plain).finished

    shown_views : (views : List ViewPlan) → views ≡ made_at p n run.collection → All (λ (s : Segment). All (λ (v : ViewNo). v.0 < length views) s.views) (segments_in e)
    shown_views views same =
        let order : order_in k.engine ≡ e.order = ap order_in plain in
        let below : All (λ (v : ViewNo). v.0 < length views) e.order =
        subst (λ (vs : List ViewNo). All (λ (v : ViewNo). v.0 < length views) vs) order
        (subst (λ (vs : List ViewPlan). All (λ (v : ViewNo). v.0 < length vs) (order_in k.engine)) (sym same) (below_first answer g p n made k run kept run_at)) in
        in_segments (λ (v : ViewNo). v.0 < length views) e shown_engine.assigned_views below

  module _ (views : List ViewPlan) (same : views ≡ made_at p n run.collection) where
    pub tells : TellsWork views k.engine
    tells = subst (λ (x : RunEngine). TellsWork views x) (sym shares.1) (shown_engine shares.0 shares.1, shown_finished shares.0 shares.1, shown_views shares.0 shares.1 views same)

    pub text_shown : MatricesAt g p n made → (name : List ℕ) → run.keep ≡ Some name → engine_text name views k.engine ≡ work_text answer g p n k.place
    text_shown is name named = ap (λ (x : RunEngine). engine_text name views x) shares.1 ∙ work_shown answer g p n made k run kept run_at m m_at shares.0 shares.1 is name views named same
