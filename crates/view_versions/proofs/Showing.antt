-- The table that is shown of a view is that of the plain run.
use Rattle.std.proofs.Common.{◌≡◌, ℕ, ◌+◌, ◌<◌, ◌≤◌, List, sym, ◌∙◌, ap, arith}
use Rattle.graph_model.specs.declared.value.Val.{Val}
use Rattle.vertex_lang.specs.declared.lone.Lone.{Lone}
use Rattle.vertex_lang.specs.declared.lone.Outcome.{Outcome}
use Rattle.vertex_lang.specs.declared.lone.Outcome.TheVariants as outcome
use Rattle.vertex_lang.specs.declared.lone.Rounds.{Rounds}
use Rattle.vertex_lang.specs.declared.lone.Rounds.TheVariants as rounds
use Rattle.vertex_lang.specs.AnswerLaws.{answer_meets}
use Rattle.vertex_lang.specs.Lone.{OutcomeIs, IsAnswerFrom, number_of}
use Rattle.vertex_lang.specs.RoundLaws.{stays}
use Rattle.vertex_lang.specs.Rounds.{lone}
use Rattle.result_tables.specs.declared.table.Table.{Table}
use Rattle.result_tables.specs.Results.{shown}
use Rattle.result_tables.specs.TableText.{table_of}
use Rattle.view_segment.specs.Segments.{last_values}
use Rattle.view_segment.specs.Tasks.{Task, lone_of, view_arcs}

shown_within : (values : ℕ → List Val) (n : ℕ) → ((r k : ℕ) → values (r + 1) ≡ values r → r ≤ k → values k ≡ values r)
    → (o : Outcome) (last : List Val) → OutcomeIs values n o last → shown o (values n) ≡ last
shown_within values n rest (outcome.Settled r) last is = rest r n is.0.settled (let low : r < n = is.0.within in omega (arith, low)) ∙ sym is.1
shown_within values n rest (outcome.After r) last is = absurd is
shown_within values n rest (outcome.Phases r) last is = absurd is
shown_within values n rest outcome.Unsettled last is = sym is.1

shown_is : (values : ℕ → List Val) (limit : Rounds) → ((r k : ℕ) → values (r + 1) ≡ values r → r ≤ k → values k ≡ values r)
    → (l : Lone) → IsAnswerFrom values limit l → shown l.outcome (values (number_of limit)) ≡ l.values
shown_is values (rounds.Within n) rest l is = shown_within values n rest l.outcome l.values is
shown_is values (rounds.For n) rest l is = ap (λ (o : Outcome). shown o (values n)) is.0 ∙ sym is.1

pub shown_of : (task : Task) (v : ℕ) → shown (lone_of task v).outcome (last_values task v) ≡ (lone_of task v).values
shown_of task v =
    shown_is (lone task.answer task.program task.graph (view_arcs task v)) task.rounds (stays task.answer task.program task.graph (view_arcs task v))
    (lone_of task v) (answer_meets task.answer task.program task.graph (view_arcs task v) task.rounds)

pub its_table : (task : Task) (v : ℕ) (t : Table) → t ≡ record { outcome = (lone_of task v).outcome; values = shown (lone_of task v).outcome (last_values task v) } → t ≡ table_of (lone_of task v)
its_table task v t is = is ∙ ap (λ (vs : List Val). let x : Table = record { outcome = (lone_of task v).outcome; values = vs } in x) (shown_of task v)
