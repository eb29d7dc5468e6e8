use Rattle.arc_rows.proofs.cached.CachedArcs.of.Goals as goal

pub returns-in-Nothing : goal.returns-in-Nothing
returns-in-Nothing c = λ graph arcs is counted. c.nothing.ensures graph arcs

pub returns-in-Err : goal.returns-in-Err
returns-in-Err c = λ graph arcs is counted. c.nothing-in-Err.ensures graph arcs
