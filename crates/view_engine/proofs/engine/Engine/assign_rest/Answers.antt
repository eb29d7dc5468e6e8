-- One view more has its segment.
use Rattle.std.proofs.Common.{◌≡◌, ◌-◌, ◌<◌, ℕ, sym, ap, ◌∙◌, subst, All, length, arith}
use Rattle.view_matrix.specs.Matrices.{IsView}
use Rattle.view_engine.specs.Assigning.{IsAssigned}
use Rattle.view_engine.proofs.Filling.{ready_other, none_assigned, assigned_then}
use Rattle.view_engine.proofs.Refusing.{none_grown, grown_then, grown_still, on_err}
use Rattle.view_engine.proofs.engine.Engine.assign_rest.Goals as goal

pub loop-self-init : goal.loop-self-init
loop-self-init c = record {
  engine = c.requires.engine;
  grown = omega arith;
  more = none_assigned c.args.self.now (c.args.self.now.assigned - c.args.self.now.assigned) (omega arith);
  size = none_grown c.args.self.now;
  stands = λ answer is. is;
}

pub loop-self-preserved : goal.loop-self-preserved
loop-self-preserved c =
    let a = c.args.self.now in
    let b = c.loop-self.self in
    let n = c.assign.new.self in
    let inv = c.loop-self.invariant in
    record {
      engine = c.in_ok-assign.ensures.engine;
      grown = omega (arith, inv.grown, c.in_ok-assign.ensures.one.assigned);
      more = assigned_then a b n (b.assigned - a.assigned) (n.assigned - a.assigned) inv.more c.in_ok-assign.ensures.one (omega (arith, inv.grown, c.in_ok-assign.ensures.one.assigned));
      size = grown_then a b n inv.size c.in_ok-assign.ensures.grown;
      stands = λ answer is. c.in_ok-assign.ensures.stands answer (ready_other b.split b (λ auto. c.requires.split (sym inv.more.run.split ∙ auto))) (inv.stands answer is);
    }

pub loop-self-smaller : goal.loop-self-smaller
loop-self-smaller c =
    let b = c.loop-self.self in
    let n = c.assign.new.self in
    let h : length n.order - n.assigned < length b.order - b.assigned =
    omega (arith, ap length c.in_ok-assign.ensures.one.order, c.in_ok-assign.ensures.one.assigned, c.loop-self-test.true, c.len.ensures) in h

pub assign-requires : goal.assign-requires
assign-requires c = record {
  engine = c.loop-self.invariant.engine;
  left = omega (arith, c.loop-self-test.true, c.len.ensures);
  views = subst (All (IsView c.args.matrix.now)) (sym c.loop-self.invariant.more.order) c.requires.views;
}

pub returns : goal.returns
returns c =
    let a = c.args.self.now in
    let b = c.loop-self.self in
    let inv = c.loop-self.invariant in
    let all : b.assigned - a.assigned ≡ length a.order - a.assigned =
    omega (arith, ap length inv.more.order, inv.engine.within, c.loop-self-test.false, c.len.ensures) in
    record {
      engine = inv.engine;
      more = subst (λ (n : ℕ). IsAssigned n a b) all inv.more;
      stands = inv.stands;
      err = tt;
    }

pub returns-in_err-assign-clause-err : goal.returns-in_err-assign-clause-err
returns-in_err-assign-clause-err c = on_err c.from_residual.result (grown_still c.args.self.now c.loop-self.self c.assign.new.self c.loop-self.invariant.size c.in_err-assign.ensures.err)
