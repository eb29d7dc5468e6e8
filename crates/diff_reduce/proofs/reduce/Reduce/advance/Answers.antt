-- A step that calls no key, and one that does.
use Rattle.std.proofs.Common.{◌≡◌, ◌∙◌, ◌==◌, true, [], ◌++◌, map, length, ap, sym, subst, refl}
use Rattle.std.specs.Prelude.{filter}
use Rattle.std.specs.Cmp.{tied_itself}
use Rattle.std.specs.List.{Contains}
use Rattle.std.specs.Ordering.{is_eq}
use Rattle.weighted.specs.Alike.{Alike-is, Alike-trans}
use Rattle.weighted.specs.Batches.{IsBatch, IsBatch-normal}
use Rattle.weighted.specs.Normal.{normal, normal-Alike}
use Rattle.trace_store.specs.Traces.{in_turn}
use Rattle.reduce_theory.specs.ByKey.{over}
use Rattle.reduce_theory.specs.MarkLaws.{empty}
use Rattle.diff_reduce.specs.Changes.{correction}
use Rattle.diff_reduce.specs.Later.{AreLater}
use Rattle.diff_reduce.specs.Stands.{IsKept}
use Rattle.diff_reduce.proofs.Rising.{IsBatch-over, over-alike}
use Rattle.diff_reduce.proofs.Stepping.{stepped, stepped_nothing}
use Rattle.diff_reduce.proofs.reduce.Reduce.advance.Goals as goal

pub returns-then-is_empty-clause-step : goal.returns-then-is_empty-clause-step
returns-then-is_empty-clause-step g c =
    let none : (length c.in_ok-keys.keys.items == 0) ≡ true = subst (λ n. (n == 0) ≡ true) c.in_ok-keys.keys.ok.0 (sym c.is_empty.ensures ∙ c.if-is_empty.true) in (
      [],
      rw c.empty.ensures (stepped_nothing g.T.Time.leq g.T.Time.lub g.T.Ord.cmp g.met.T.Record.same (tied_itself g.met.T.Ord.total) g.G.Key.Ord.cmp g.met.G.Key.Record.same (tied_itself g.met.G.Key.Ord.total) g.G.Value.Ord.cmp g.G.Output.Ord.cmp (g.G.KeyLogic.gives c.args.self.now.logic) _ _ c.args.t c.args.delta.now [] c.in_ok-keys.keys.items [] [] [] refl c.in_ok-insert.ensures.alike refl refl refl refl (empty c.in_ok-keys.keys.items none)
          (λ k h. c.in_ok-keys.ensures.each k (subst (λ v. Contains v k) (ap (λ es. map (λ e. e.0.0) es ++ map (λ d. d.1) (filter (λ d. is_eq (g.T.Ord.cmp d.0 c.args.t)) c.args.self.now.due)) (sym c.as_slice.ensures.value)) h))),
    )

pub from_rising-made-requires : goal.from_rising-made-requires
from_rising-made-requires g c =
    let parts_are : c.in_ok-entries.entries.items ≡ over (λ k. normal g.G.Output.Ord.cmp (correction g.T.Time.leq g.G.Key.Ord.cmp g.G.Value.Ord.cmp g.G.Output.Ord.cmp (g.G.KeyLogic.gives c.args.self.now.logic) c.args.t c.insert.new.self.items c.args.self.now.output.items k)) c.in_ok-keys.keys.items = rw c.as_slice-2.ensures.value at c.in_ok-entries.ensures.made in
    subst (λ es. IsBatch (in_turn g.G.Key.Ord.cmp g.G.Output.Ord.cmp) es) (sym (c.from_vec.ensures ∙ parts_are))
    (IsBatch-over g.G.Key.Ord.cmp (tied_itself g.met.G.Key.Ord.total) g.G.Output.Ord.cmp (λ k. normal g.G.Output.Ord.cmp (correction g.T.Time.leq g.G.Key.Ord.cmp g.G.Value.Ord.cmp g.G.Output.Ord.cmp (g.G.KeyLogic.gives c.args.self.now.logic) c.args.t c.insert.new.self.items c.args.self.now.output.items k)) (λ k. IsBatch-normal g.G.Output.Ord.cmp g.met.G.Output.Ord.total g.met.G.Output.Record.same (correction g.T.Time.leq g.G.Key.Ord.cmp g.G.Value.Ord.cmp g.G.Output.Ord.cmp (g.G.KeyLogic.gives c.args.self.now.logic) c.args.t c.insert.new.self.items c.args.self.now.output.items k)) c.in_ok-keys.keys.items c.in_ok-keys.ensures.rising)

pub returns-clause-step : goal.returns-clause-step
returns-clause-step g c =
    let parts_are : c.in_ok-entries.entries.items ≡ over (λ k. normal g.G.Output.Ord.cmp (correction g.T.Time.leq g.G.Key.Ord.cmp g.G.Value.Ord.cmp g.G.Output.Ord.cmp (g.G.KeyLogic.gives c.args.self.now.logic) c.args.t c.insert.new.self.items c.args.self.now.output.items k)) c.in_ok-keys.keys.items = rw c.as_slice-2.ensures.value at c.in_ok-entries.ensures.made in
    let names : map (λ e. e.0.0) c.as_slice.result.now ++ map (λ d. d.1) (filter (λ d. is_eq (g.T.Ord.cmp d.0 c.args.t)) c.args.self.now.due) ≡ map (λ e. e.0.0) c.args.delta.now ++ map (λ d. d.1) (filter (λ d. is_eq (g.T.Ord.cmp d.0 c.args.t)) c.args.self.now.due) = ap (λ es. map (λ e. e.0.0) es ++ map (λ d. d.1) (filter (λ d. is_eq (g.T.Ord.cmp d.0 c.args.t)) c.args.self.now.due)) c.as_slice.ensures.value in (
      c.in_ok-keys.keys.items,
      stepped g.T.Time.leq g.T.Time.lub g.T.Ord.cmp g.met.T.Record.same (tied_itself g.met.T.Ord.total) g.G.Key.Ord.cmp g.met.G.Key.Record.same (tied_itself g.met.G.Key.Ord.total) g.G.Value.Ord.cmp g.G.Output.Ord.cmp (g.G.KeyLogic.gives c.args.self.now.logic) _ _ c.args.t c.args.delta.now c.from_rising-made.result c.in_ok-keys.keys.items c.as_slice-4.result.now c.remove.new.self c.as_slice-5.result.now
          refl c.in_ok-insert.ensures.alike c.in_ok-insert-2.ensures.alike
          (Alike-trans (Alike-is (c.from_rising-made.ensures.value ∙ c.from_vec.ensures ∙ parts_are)) (over-alike (λ k. normal g.G.Output.Ord.cmp (correction g.T.Time.leq g.G.Key.Ord.cmp g.G.Value.Ord.cmp g.G.Output.Ord.cmp (g.G.KeyLogic.gives c.args.self.now.logic) c.args.t c.insert.new.self.items c.args.self.now.output.items k)) (correction g.T.Time.leq g.G.Key.Ord.cmp g.G.Value.Ord.cmp g.G.Output.Ord.cmp (g.G.KeyLogic.gives c.args.self.now.logic) c.args.t c.insert.new.self.items c.args.self.now.output.items) (λ k. normal-Alike g.G.Output.Ord.cmp g.met.G.Output.Ord.total g.met.G.Output.Record.same (correction g.T.Time.leq g.G.Key.Ord.cmp g.G.Value.Ord.cmp g.G.Output.Ord.cmp (g.G.KeyLogic.gives c.args.self.now.logic) c.args.t c.insert.new.self.items c.args.self.now.output.items k)) c.in_ok-keys.keys.items))
          (rw c.as_slice-2.ensures.value at c.in_ok-entries.ensures.count)
          c.in_ok-keys.ensures.rising
          (λ k h. c.in_ok-keys.ensures.each k (subst (λ v. Contains v k) (sym names) h))
          (λ k h. subst (λ v. Contains v k) names (c.in_ok-keys.ensures.only k h))
          (c.as_slice-4.ensures.value ∙ (rw c.as_slice-3.ensures.value at c.in_ok-points.ensures))
          c.in_ok-add.ensures.old c.in_ok-add.ensures.more c.in_ok-add.ensures.only
          c.in_ok-remove.ensures.rest
          (subst (λ v. AreLater g.T.Time.leq g.T.Time.lub (IsKept g.T.Ord.cmp g.G.Key.Ord.cmp g.G.Value.Ord.cmp c.insert.new.self.items c.args.self.now.points) c.args.self.now.points c.args.t c.in_ok-keys.keys.items v) (sym c.as_slice-5.ensures.value) (rw c.as_slice-2.ensures.value at c.in_ok-entries.ensures.later))
          c.in_ok-add-2.ensures.old c.in_ok-add-2.ensures.more c.in_ok-add-2.ensures.only,
    )
