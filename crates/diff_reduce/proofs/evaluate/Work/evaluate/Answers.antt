-- What is given, less what was made before; and the bounds with the key's marks.
use Rattle.std.proofs.Common.{List, ◌≡◌, ◌∙◌, ◌++◌, ◌∷◌, [], map, ap, sym, subst, inl, inr}
use Rattle.std.specs.Cmp.{tied_itself}
use Rattle.std.specs.Prelude.{filter}
use Rattle.std.specs.List.{Contains}
use Rattle.std.specs.Ordering.{is_eq}
use Rattle.std.proofs.lemmas.List.Elements.{Contains-append_left, Contains-append_right, Contains-append_cases}
use Rattle.weighted.specs.Alike.{negated}
use Rattle.weighted.specs.Normal.{normal}
use Rattle.weighted.specs.WordLaws.{mapped}
use Rattle.trace_store.specs.Traces.{accumulated, values_of}
use Rattle.flow_core.specs.Runs.{Member}
use Rattle.diff_reduce.specs.Stands.{IsKept}
use Rattle.diff_reduce.specs.Later.{AreLater, later_of}
use Rattle.diff_reduce.proofs.Elements.{contains_member, member_contains}
use Rattle.diff_reduce.proofs.LaterLaws.{later_more}
use Rattle.diff_reduce.proofs.Outcomes.{OnOk-imply}
use Rattle.diff_reduce.proofs.Stepping.{due_key, key_due}
use Rattle.diff_reduce.proofs.evaluate.Work.evaluate.Goals as goal

pub returns-clause-made : goal.returns-clause-made
returns-clause-made g c = OnOk-imply c.push_later.result _ _ (λ _.
    let given = c.in_ok-eval.ensures.answer ∙ ap (g.G.KeyLogic.gives c.args.logic.now c.args.key) (c.as_slice.ensures ∙ c.in_ok-read.ensures.values) in
    let before = c.as_slice-2.ensures ∙ c.in_ok-read-2.ensures.values in
    c.in_ok-push_given.ensures
    ∙ ap (λ v. c.args.self.now.made.items ++ mapped (λ o. (c.args.key, o)) v)
    (c.as_slice-3.ensures ∙ c.in_ok-normalize.ensures.value
    ∙ ap (normal g.O.Ord.cmp)
    (c.in_ok-push_taken.ensures
    ∙ ap (λ v. v ++ negated c.as_slice-2.result.now) given
    ∙ ap (λ v. g.G.KeyLogic.gives c.args.logic.now c.args.key (normal g.V.Ord.cmp (values_of g.K.Ord.cmp c.args.key (accumulated g.T.Time.leq c.args.t c.args.input.now.items))) ++ negated v) before)))
    c.push_later.ensures

pub returns-clause-later : goal.returns-clause-later
returns-clause-later g c = OnOk-imply c.push_later.result _ _ (λ is ks are.
    let points : List g.row.T.Denot = map (λ p. p.1) (filter (λ p. is_eq (g.K.Ord.cmp p.0 c.args.key)) c.args.points.now) in
    let times : List g.row.T.Denot = map (λ e. e.0.1) c.read.new.self.entries in
    let marks_are : c.read_marks.new.marks ≡ points ++ times = c.in_ok-last.ensures.marks ∙ ap (λ v. points ++ map (λ e. e.0.1) v) c.as_slice-4.ensures in
    let all = is ∙ ap (λ xs. c.args.self.now.later.items ++ later_of g.T.Time.leq g.T.Time.lub g.T.Ord.cmp c.args.t c.in_ok-last.last c.args.key xs) c.as_slice-5.ensures in
    let point : (a : g.row.T.Denot) → Contains points a → Member (c.args.key, a) c.args.points.now = λ a m. key_due g.K.Ord.cmp g.met.K.Record.same (tied_itself g.met.K.Ord.total) c.args.key a c.args.points.now (contains_member points a m) in
    subst (λ v. AreLater g.T.Time.leq g.T.Time.lub (IsKept g.T.Ord.cmp g.K.Ord.cmp g.V.Ord.cmp c.args.input.now.items c.args.points.now) c.args.points.now c.args.t (ks ++ c.args.key ∷ []) v) (sym all)
    (later_more g.T.Time.leq g.T.Time.lub g.T.Ord.cmp c.args.t c.in_ok-last.last g.met.T.Record.same (tied_itself g.met.T.Ord.total) (IsKept g.T.Ord.cmp g.K.Ord.cmp g.V.Ord.cmp c.args.input.now.items c.args.points.now) c.args.points.now ks c.args.key c.read_marks.new.marks c.args.self.now.later.items
    (λ a e. point a (c.in_ok-last.ensures.last a e))
    (λ x kept. contains_member c.read_marks.new.marks x (subst (λ v. Contains v x) (sym marks_are) (elim kept [
      | inl m ↦ Contains-append_right points times x (c.in_ok-read.ensures.each x m)
      | inr p ↦ Contains-append_left points times x (member_contains points x (due_key g.K.Ord.cmp g.met.K.Record.same (tied_itself g.met.K.Ord.total) c.args.key x c.args.points.now p))
    ])))
    (λ x m. elim (Contains-append_cases points times x (subst (λ v. Contains v x) marks_are (member_contains c.read_marks.new.marks x m))) [
      | inl p ↦ inr (point x p)
      | inr t ↦ inl (c.in_ok-read.ensures.only x t)
    ])
    are))
    c.push_later.ensures
