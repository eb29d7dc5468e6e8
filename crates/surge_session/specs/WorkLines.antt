-- Inside: the lines of an engine's segments.
use Rattle.std.specs.Prelude.{ℕ, ◌+◌, ◌<◌, List, [], ◌∷◌, ◌++◌, length, codes, All}
use Rattle.gvdl_check.specs.declared.plan.ViewPlan.{ViewPlan}
use Rattle.view_order.specs.Greedy.{numbers}
use Rattle.view_segment.specs.declared.segment.Segment.{Segment}
use Rattle.view_engine.specs.Engines.{IsEngine, AreFinished, segments_in}
use Rattle.result_tables.specs.TableText.{line_end}
use Rattle.surge_session.specs.declared.kept.RunEngine.{RunEngine}
use Rattle.surge_session.specs.declared.kept.RunEngine.TheVariants as run_engine
use Rattle.surge_session.specs.Output.{segment_lines}

-- the lines of segments, with the works that they hold; the first has this number
abbrev pub lines_of : List ViewPlan → ℕ → List Segment → List ℕ
lines_of views segment [] = []
lines_of views segment (s ∷ ss) = segment_lines views segment (numbers s.views) s.works ++ lines_of views (segment + 1) ss

-- it shares work, and has run views of these
abbrev pub TellsWork : List ViewPlan → RunEngine → Type 0
TellsWork views (run_engine.Plain e) = IsEngine e × AreFinished e × All (λ s. All (λ view. view.0 < length views) s.views) (segments_in e)
TellsWork views (run_engine.Versions e) = ⊥
TellsWork views (run_engine.Phased results) = ⊥

-- the text of its work under a name
abbrev pub engine_text : List ℕ → List ViewPlan → RunEngine → List ℕ
engine_text name views (run_engine.Plain e) = codes "work " ++ (name ++ (line_end ++ (lines_of views 1 (segments_in e) ++ (codes "end" ++ line_end))))
engine_text name views (run_engine.Versions e) = []
engine_text name views (run_engine.Phased results) = []
