-- One statement more.
use Rattle.std.proofs.Common.{◌≡◌, ◌∙◌, ℕ, ◌+◌, ◌<◌, List, length, get_or, drop, sym, ap, subst, refl, arith, Result, Ok, Err}
use Rattle.gvdl_tree.specs.declared.script.Statement.{Statement}
use Rattle.gvdl_check.specs.declared.statement.Moment.{Moment}
use Rattle.gvdl_programs.specs.Judging.{IfRefused}
use Rattle.gvdl_check.specs.declared.fault.CheckFault.{CheckFault}
use Rattle.gvdl_check.specs.declared.plan.Plan.{Plan}
use Rattle.gvdl_check.specs.Faults.{stop_at, Agrees}
use Rattle.gvdl_check.specs.Plans.{group_at, last_edit, moment, statement_judged, plan_from}
use Rattle.gvdl_check.specs.PlanLaws.{added_so, judged_grows}
use Rattle.gvdl_check.specs.LaterLaws.{come_next, statement_come}
use Rattle.gvdl_check.specs.SizeLaws.{few_statements}
use Rattle.gvdl_check.proofs.PlanSteps.{same_moment, next_from, stops_from}
use Rattle.gvdl_check.proofs.script.statements_judged.Goals as goal

pub last_edit-last_edit-requires : goal.last_edit-last_edit-requires
last_edit-last_edit-requires c =
    omega (arith, few_statements c.args.script.now c.requires.written, ap (λ (l : List Statement). length l) c.as_slice.ensures)

pub overflow_add-number : goal.overflow_add-number
overflow_add-number c =
    let few = few_statements c.args.script.now c.requires.written in
    let size = ap (λ (l : List Statement). length l) c.as_slice-statement-items.ensures in
    omega (arith, few, size, c.loop-statement.invariant.number, c.loop-statement-test.true)

-- no more edges come than the graph has
pub add_statement-requires : goal.add_statement-requires
add_statement-requires c =
    let few = few_statements c.args.script.now c.requires.written in
    let size = ap (λ (l : List Statement). length l) c.as_slice-statement-items.ensures in
    let inv = c.loop-statement.invariant in
    let lt = c.loop-statement-test.true in
    record {
      fits = inv.fits;
      small = record {
        singles = omega (arith, few, size, lt, inv.small.singles);
        collections = omega (arith, few, size, lt, inv.small.collections);
        runs = omega (arith, few, size, lt, inv.small.runs);
        files = omega (arith, few, size, lt, inv.small.files);
      };
      edges = omega (arith, come_next c.args.groups.now c.loop-statement.known inv.come, c.requires.groups, c.edge_count-edges.ensures.count, c.edge_count-edges.ensures.limit);
    }

pub loop-statement-preserved : goal.loop-statement-preserved
loop-statement-preserved c =
    let form = c.args.script.now.form in
    let g = c.args.graph.now in
    let groups = c.args.groups.now in
    let k = c.loop-statement.known in
    let next = c.add_statement.new.known in
    let ss = c.args.script.now.statements in
    let i = c.loop-statement.statement-index in
    let s = c.statement-item.result in
    let inv = c.loop-statement.invariant in
    let size = ap (λ (l : List Statement). length l) c.as_slice-statement-items.ensures in
    let lt : i < length ss = omega (arith, size, c.loop-statement-test.true) in
    let is : s ≡ get_or ss i s = cc (c.as_slice-statement-items.ensures, c.statement-item.is) in
    let m : Moment = moment (i + 2) (last_edit ss) (group_at groups k.files) in
    let number : c.loop-statement.number + 1 ≡ i + 2 = omega (arith, inv.number) in
    let told : moment (c.loop-statement.number + 1) c.last_edit-last_edit.result c.group_at-in-loop-statement.result ≡ m =
    same_moment (c.loop-statement.number + 1) (i + 2) c.last_edit-last_edit.result (last_edit ss) c.group_at-in-loop-statement.result (group_at groups k.files)
    number (c.last_edit-last_edit.ensures ∙ ap last_edit c.as_slice.ensures) c.group_at-in-loop-statement.ensures in
    let e : statement_judged form g m k s ≡ Ok next = ap (λ (at : Moment). statement_judged form g at k s) (sym told) ∙ c.in_default.ensures in
    let here : i + 2 ≡ length k.steps + 2 = omega (arith, inv.steps) in
    let grown = judged_grows form g m k inv.fits here next s e in
    let again : i + 2 + 1 ≡ i + 1 + 2 = omega arith in
    record {
      same = inv.same ∙ next_from form g groups (last_edit ss) (i + 2) k ss i next s lt is e ∙ ap (λ (n : ℕ). plan_from form g groups (last_edit ss) n next (drop (i + 1) ss)) again;
      number = omega (arith, inv.number);
      steps = omega (arith, grown.steps, inv.steps);
      small = record {
        singles = omega (arith, grown.singles, inv.small.singles);
        collections = omega (arith, grown.collections, inv.small.collections);
        runs = omega (arith, grown.runs, inv.small.runs);
        files = omega (arith, grown.files, inv.small.files);
      };
      fits = grown.fits;
      come = statement_come g groups m k inv.fits next s refl inv.come (added_so form g m k next s e);
    }

pub returns-in-Err-add_statement : goal.returns-in-Err-add_statement
returns-in-Err-add_statement c =
    let form = c.args.script.now.form in
    let g = c.args.graph.now in
    let groups = c.args.groups.now in
    let k = c.loop-statement.known in
    let ss = c.args.script.now.statements in
    let i = c.loop-statement.statement-index in
    let s = c.statement-item.result in
    let inv = c.loop-statement.invariant in
    let stop = c.in-Err-add_statement.stop in
    let size = ap (λ (l : List Statement). length l) c.as_slice-statement-items.ensures in
    let lt : i < length ss = omega (arith, size, c.loop-statement-test.true) in
    let is : s ≡ get_or ss i s = cc (c.as_slice-statement-items.ensures, c.statement-item.is) in
    let number : c.loop-statement.number + 1 ≡ i + 2 = omega (arith, inv.number) in
    let told : moment (c.loop-statement.number + 1) c.last_edit-last_edit.result c.group_at-in-loop-statement.result ≡ moment (i + 2) (last_edit ss) (group_at groups k.files) =
    same_moment (c.loop-statement.number + 1) (i + 2) c.last_edit-last_edit.result (last_edit ss) c.group_at-in-loop-statement.result (group_at groups k.files)
    number (c.last_edit-last_edit.ensures ∙ ap last_edit c.as_slice.ensures) c.group_at-in-loop-statement.ensures in
    let refused = subst (λ (at : Moment). IfRefused stop (λ r. statement_judged form g at k s ≡ Err r)) told c.in-Err-add_statement.ensures in
    let fault : c.stop_at-in-Err-add_statement.result ≡ stop_at (i + 2) stop = c.stop_at-in-Err-add_statement.ensures ∙ ap (λ (n : ℕ). stop_at n stop) number in
    subst (λ (said : Result Plan CheckFault). Agrees said (Err c.stop_at-in-Err-add_statement.result)) (sym inv.same)
    (subst (λ (x : CheckFault). Agrees (plan_from form g groups (last_edit ss) (i + 2) k (drop i ss)) (Err x)) (sym fault)
    (stops_from form g groups (last_edit ss) (i + 2) k ss i s stop lt is refused))
