-- One view more on the way down to the graph.
use Rattle.std.proofs.Common.{◌≡◌, ◌∙◌, ◌<◌, ◌≤◌, ◌++◌, ◌∷◌, [], List, Some, length, get_or, ap, sym, subst}
use Rattle.gvdl_check.specs.declared.singles.Single.{Single}
use Rattle.gvdl_check.specs.Singles.{chained, before}
use Rattle.gvdl_check.proofs.SingleFacts.{IsWalked, walked_on, walked_past}
use Rattle.gvdl_check.proofs.singles.Singles.rules.Goals as goal

pub loop-next-preserved-in_ok-push-in-Some-get : goal.loop-next-preserved-in_ok-push-in-Some-get
loop-next-preserved-in_ok-push-in-Some-get c =
    let all = c.self.inside.all.items in
    let at = c.in-Some.at in
    let single = c.in-Some-get.single.now in
    let found = c.in-Some-get.ensures.lookup in
    let walked = c.loop-next.rules.items in
    let h : IsWalked (chained all) c.args.place (Some at) walked = cc (c.loop-next.invariant, c.self.view_is, c.in-Some.is) in
    let is : single ≡ get_or all at single = found.1 ∙ ap (λ (l : List Single). get_or l at single) c.deref.ensures.value in
    let on = walked_on all c.args.place at single walked (subst (λ (l : List Single). at < length l) c.deref.ensures.value found.3.0) h in
    let next : IsWalked (chained all) c.args.place (before single.base at) (walked ++ single.pred ∷ []) =
    subst (λ (s : Single). IsWalked (chained all) c.args.place (before s.base at) (walked ++ s.pred ∷ [])) (sym is) on in
    cc (next, c.self.view_is, c.before-next.ensures, c.in_ok-push-in-Some-get.ensures.items, c.in_ok-copied_pred-in-Some-get.ensures)

pub loop-next-preserved : goal.loop-next-preserved
loop-next-preserved c =
    let all = c.self.inside.all.items in
    let at = c.in-Some.at in
    let walked = c.loop-next.rules.items in
    let h : IsWalked (chained all) c.args.place (Some at) walked = cc (c.loop-next.invariant, c.self.view_is, c.in-Some.is) in
    let past = walked_past all c.args.place at walked (subst (λ (l : List Single). length l ≤ at) c.deref.ensures.value c.in-None.ensures.lookup.3) h in
    cc (past, c.self.view_is)
