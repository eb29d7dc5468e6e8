-- One more line.
use Rattle.std.proofs.Common.{◌≡◌, ◌∙◌, ◌<◌, ℕ, List, length, get_or, Some, slice_get, refl, sym, ap, subst, arith}
use Rattle.graph_model.specs.declared.number.ViewNo.{ViewNo}
use Rattle.gvdl_check.specs.declared.plan.ViewPlan.{ViewPlan}
use Rattle.view_order.specs.Greedy.{numbers}
use Rattle.view_order.specs.Places.{view}
use Rattle.surge_session.proofs.Texts.{found}
use Rattle.surge_session.proofs.WorkTexts.{no_lines, line_more}
use Rattle.surge_session.proofs.work.push_segment.Goals as goal

pub loop-i-init : goal.loop-i-init
loop-i-init c = record { text = no_lines c.args.views.now c.args.number (numbers c.args.segment.now.views) c.args.text.now.items }

pub loop-i-preserved : goal.loop-i-preserved
loop-i-preserved c =
    let views = c.args.views.now in
    let s = c.args.segment.now in
    let i = c.loop-i.i in
    let lt : i < length s.works = omega (arith, c.loop-i-test.true, ap (λ (ws : List ℕ). length ws) c.works-work-items.ensures) in
    let v : ViewNo = get_or c.views.result.now i (view 0) in
    let seen : v ≡ get_or s.views i (view 0) = ap (λ (vs : List ViewNo). get_or vs i (view 0)) c.views.ensures in
    let within : v.0 < length views = subst (λ (u : ViewNo). u.0 < length views) (sym seen) (c.requires.views i (view 0) (omega (arith, lt, c.requires.finished))) in
    let item = c.index-views-view.result in
    let at : slice_get views v.0 ≡ Some item = found views views v.0 item refl within c.index-views-view.is in
    record {
      text = line_more views c.args.number i (get_or c.works-work-items.result.now i 0) s.views s.works v item c.args.text.now.items c.loop-i.text.items c.push_line.new.text.items c.as_str.result.now
          c.requires.finished lt (ap (λ (ws : List ℕ). get_or ws i 0) c.works-work-items.ensures) seen at (c.as_str.ensures ∙ ap (λ (x : ViewPlan). x.name) (sym c.index-views-view.is)) c.loop-i.invariant.text c.in_ok-push_line.ensures;
    }
