-- The run goes on by this step.
use Rattle.std.proofs.Common.{◌∙◌, [], ◌∷◌, ◌++◌, ap, sym, subst}
use Rattle.flow_core.specs.Runs.{NoneAbove, continued}
use Rattle.flow_core.specs.RunLaws.{times_of-append}
use Rattle.flow_rows.proofs.drive.take_step.Goals as goal

pub returns : goal.returns
returns g c =
    let d = c.requires in
    let none = subst (λ ts. NoneAbove g.T.Time.leq c.args.t ts) (c.as_slice.ensures ∙ sym d.times_are) (c.may_step.ensures c.if-not-may_step.false) in
    record {
      run = continued d.run c.args.t c.args.delta.now c.in_ok-made.made _;
      stood = c.in_ok-made.ensures.runs d.run d.stood none;
      times_are = times_of-append d.run.steps (_ ∷ []) ∙ ap (λ ts. ts ++ c.args.t ∷ []) d.times_are ∙ sym c.in_ok-push.ensures.ok;
      sealed_at = c.in_ok-made.ensures.seal ∙ d.sealed_at;
      live = c.in_ok-made.ensures.live;
    }
