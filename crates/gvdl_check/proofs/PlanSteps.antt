-- The plan, statement by statement.
use Rattle.std.proofs.Common.{◌≡◌, ◌∙◌, ℕ, ◌+◌, ◌<◌, ◌≤◌, List, length, get_or, drop, sym, ap, refl, inl, inr, Option, Result, Ok, Err}
use Rattle.std.proofs.lemmas.List.{drop_all}
use Rattle.graph_model.specs.GraphData.{GraphData}
use Rattle.gvdl_tree.specs.declared.script.Statement.{Statement}
use Rattle.gvdl_programs.specs.declared.refusal.Stop.{Stop}
use Rattle.gvdl_programs.specs.declared.refusal.Stop.TheVariants as stop
use Rattle.gvdl_check.specs.declared.known.Known.{Known}
use Rattle.gvdl_programs.specs.Judging.{Judged, ◌>>=◌, IfRefused}
use Rattle.gvdl_check.specs.Faults.{at, stop_at, Agrees}
use Rattle.gvdl_check.specs.declared.fault.CheckFault.{CheckFault}
use Rattle.gvdl_check.specs.declared.plan.Plan.{Plan}
use Rattle.gvdl_check.specs.Plans.{group_at, statement_judged, moment, plan_of, plan_from}
use Rattle.gvdl_programs.specs.Turns.{left_at}

-- moments are told apart by their parts
pub same_moment : (n m last seen group come : ℕ) → n ≡ m → last ≡ seen → group ≡ come → moment n last group ≡ moment m seen come
same_moment n m last seen group come a b c =
    ap (λ (i : ℕ). moment i last group) a ∙ ap (λ (i : ℕ). moment m i group) b ∙ ap (λ (i : ℕ). moment m seen i) c

module _ (form : Option ℕ) (g : GraphData) (groups : List ℕ) (last n : ℕ) (k : Known) (ss : List Statement) (i : ℕ) where
  abbrev Judging : Statement → Judged Known
  Judging s = statement_judged form g (moment n last (group_at groups k.files)) k s

  abbrev Rest : Known → Result Plan CheckFault
  Rest next = plan_from form g groups last (n + 1) next (drop (i + 1) ss)

  -- the rest of the plan, behind what is judged of the statement here
  rest_from : (s : Statement) → i < length ss → s ≡ get_or ss i s → plan_from form g groups last n k (drop i ss) ≡ (at n (Judging s) >>= Rest)
  rest_from s lt is = ap (λ (l : List Statement). plan_from form g groups last n k l) (left_at ss i s lt is)

  pub next_from : (next : Known) (s : Statement) → i < length ss → s ≡ get_or ss i s → statement_judged form g (moment n last (group_at groups k.files)) k s ≡ Ok next
      → plan_from form g groups last n k (drop i ss) ≡ plan_from form g groups last (n + 1) next (drop (i + 1) ss)
  next_from next s lt is e = rest_from s lt is ∙ ap (λ (said : Judged Known). at n said >>= Rest) e

  pub stops_from : (s : Statement) (e : Stop) → i < length ss → s ≡ get_or ss i s → IfRefused e (λ r. statement_judged form g (moment n last (group_at groups k.files)) k s ≡ Err r)
      → Agrees (plan_from form g groups last n k (drop i ss)) (Err (stop_at n e))
  stops_from s (stop.Refused r) lt is h = inl (sym (rest_from s lt is ∙ ap (λ (said : Judged Known). at n said >>= Rest) h))
  stops_from s stop.NoMemory lt is h = inr refl

  pub done_from : length ss ≤ i → plan_from form g groups last n k (drop i ss) ≡ Ok (plan_of last k)
  done_from le = ap (λ (l : List Statement). plan_from form g groups last n k l) (drop_all i ss le)
