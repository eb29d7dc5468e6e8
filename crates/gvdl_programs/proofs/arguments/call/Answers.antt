-- The program of a call is checked against the graph, and holds no number -(2^63) that it was not given.
use Rattle.std.proofs.Common.{sym, subst}
use Rattle.vertex_lang.specs.declared.program.Program.{Program}
use Rattle.vertex_lang.specs.Values.{lowest_number}
use Rattle.vertex_lang.specs.Leaves.{HoldsNumber}
use Rattle.gvdl_programs.specs.declared.template.Callable.{Callable}
use Rattle.gvdl_programs.specs.Judging.{Tells}
use Rattle.gvdl_programs.specs.Calls.{called}
use Rattle.gvdl_programs.specs.NumberLaws.{wcc_numbers, pagerank_numbers}
use Rattle.gvdl_programs.proofs.CallFacts.{told_checked, told_numbers}
use Rattle.gvdl_programs.proofs.arguments.call.Goals as goal

pub returns-in-Hops-clause-checked : goal.returns-in-Hops-clause-checked
returns-in-Hops-clause-checked c =
    told_checked c.args.graph.now c.args.program.now c.args.args.now c.requires.fits c.hops_called.result
    (subst (λ (k : Callable). Tells (called c.args.graph.now k c.args.args.now) c.hops_called.result) (sym c.in-Hops.is) c.hops_called.ensures)

pub returns-in-Hops-clause-numbers : goal.returns-in-Hops-clause-numbers
returns-in-Hops-clause-numbers c =
    told_numbers c.args.graph.now c.args.program.now c.args.args.now c.requires.fits c.hops_called.result
    (subst (λ (k : Callable). Tells (called c.args.graph.now k c.args.args.now) c.hops_called.result) (sym c.in-Hops.is) c.hops_called.ensures)

pub returns-in-Dist-clause-checked : goal.returns-in-Dist-clause-checked
returns-in-Dist-clause-checked c =
    told_checked c.args.graph.now c.args.program.now c.args.args.now c.requires.fits c.dist_called.result
    (subst (λ (k : Callable). Tells (called c.args.graph.now k c.args.args.now) c.dist_called.result) (sym c.in-Dist.is) c.dist_called.ensures)

pub returns-in-Dist-clause-numbers : goal.returns-in-Dist-clause-numbers
returns-in-Dist-clause-numbers c =
    told_numbers c.args.graph.now c.args.program.now c.args.args.now c.requires.fits c.dist_called.result
    (subst (λ (k : Callable). Tells (called c.args.graph.now k c.args.args.now) c.dist_called.result) (sym c.in-Dist.is) c.dist_called.ensures)

pub returns-in_ok-wcc-in-empty-clause-checked : goal.returns-in_ok-wcc-in-empty-clause-checked
returns-in_ok-wcc-in-empty-clause-checked c = c.in_ok-wcc-in-empty.ensures.checked c.args.graph.now

pub returns-in_ok-pagerank-in-empty-args-clause-checked : goal.returns-in_ok-pagerank-in-empty-args-clause-checked
returns-in_ok-pagerank-in-empty-args-clause-checked c = c.in_ok-pagerank-in-empty-args.ensures.checked c.args.graph.now

pub returns-in-Written-clause-checked : goal.returns-in-Written-clause-checked
returns-in-Written-clause-checked c =
    told_checked c.args.graph.now c.args.program.now c.args.args.now c.requires.fits c.written_called.result
    (subst (λ (k : Callable). Tells (called c.args.graph.now k c.args.args.now) c.written_called.result) (sym c.in-Written.is) c.written_called.ensures)

pub returns-in-Written-clause-numbers : goal.returns-in-Written-clause-numbers
returns-in-Written-clause-numbers c =
    told_numbers c.args.graph.now c.args.program.now c.args.args.now c.requires.fits c.written_called.result
    (subst (λ (k : Callable). Tells (called c.args.graph.now k c.args.args.now) c.written_called.result) (sym c.in-Written.is) c.written_called.ensures)

pub returns-in_ok-wcc-in-empty-clause-numbers : goal.returns-in_ok-wcc-in-empty-clause-numbers
returns-in_ok-wcc-in-empty-clause-numbers c = λ h. subst (λ (p : Program). HoldsNumber p lowest_number → ⊥) (sym c.in_ok-wcc-in-empty.ensures.program) wcc_numbers

pub returns-in_ok-pagerank-in-empty-args-clause-numbers : goal.returns-in_ok-pagerank-in-empty-args-clause-numbers
returns-in_ok-pagerank-in-empty-args-clause-numbers c = λ h. subst (λ (p : Program). HoldsNumber p lowest_number → ⊥) (sym c.in_ok-pagerank-in-empty-args.ensures.program) pagerank_numbers
