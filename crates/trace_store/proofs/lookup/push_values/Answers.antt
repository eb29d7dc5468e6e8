-- An entry at or below the time adds its value, another adds nothing.
use Rattle.std.proofs.Common.{◌≡◌, ◌∙◌, ◌++◌, ◌∷◌, [], true, false, ap, sym, arith, append_assoc}
use Rattle.trace_store.proofs.Steps.{taken_between, passed_between}
use Rattle.trace_store.proofs.lookup.push_values.Goals as goal
use Rattle.trace_store.proofs.lookup.push_values.Goals.{then-leq+in_ok-push, else-leq}

pub loop-i-preserved : goal.loop-i-preserved
loop-i-preserved g c =
    elim c.if-leq.branch [
      | then-leq+in_ok-push w ↦
          let at : g.T.Time.leq c.get-entry.result.0.1 c.args.t.now ≡ true = sym c.leq.ensures ∙ w.if-leq.true in
          let more = taken_between (λ r. r.0.1) (λ r. g.T.Time.leq r.1 c.args.t.now) c.args.layer.now c.run_of-start.result.0 c.loop-i.i c.get-entry.result (omega arith) c.get-entry.ensures at in
          w.values-is ∙ w.in_ok-push.ensures.ok ∙ ap (λ v. v ++ (c.get-entry.result.0.0.1, c.get-entry.result.1) ∷ []) c.loop-i.invariant ∙ append_assoc c.args.values.now _ _ ∙ ap (λ v. c.args.values.now ++ v) (sym more)
      | else-leq w ↦
          let above : g.T.Time.leq c.get-entry.result.0.1 c.args.t.now ≡ false = sym c.leq.ensures ∙ w.if-leq.false in
          let more = passed_between (λ r. r.0.1) (λ r. g.T.Time.leq r.1 c.args.t.now) c.args.layer.now c.run_of-start.result.0 c.loop-i.i c.get-entry.result (omega arith) c.get-entry.ensures above in
          w.values-is ∙ c.loop-i.invariant ∙ ap (λ v. c.args.values.now ++ v) (sym more)
    ]
