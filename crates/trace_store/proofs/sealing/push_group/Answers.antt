-- One time alone, or the sums of all times.
use Rattle.std.proofs.Common.{◌≡◌, ◌∙◌, ℕ, ◌-◌, ◌<◌, ◌≤◌, ◌++◌, ◌∷◌, [], length, take, drop, ap, sym, subst, arith}
use Rattle.std.proofs.lemmas.List.{length-take, length-drop}
use Rattle.std.proofs.lemmas.Map.Lookups.{exact_pairs}
use Rattle.weighted.specs.Normal.{normal}
use Rattle.weighted.specs.WordLaws.{mapped}
use Rattle.trace_store.specs.Traces.{in_turn}
use Rattle.trace_store.specs.TraceLaws.{in_turn-total}
use Rattle.trace_store.proofs.Groups.{group_alone}
use Rattle.trace_store.proofs.Lengths.{length-mapped, length-normal}
use Rattle.trace_store.proofs.Places.{read_at}
use Rattle.trace_store.proofs.sealing.push_group.Goals as goal

pub returns-then-end-start-eq1-clause-items : goal.returns-then-end-start-eq1-clause-items
returns-then-end-start-eq1-clause-items g c = λ e is.
    let x = c.get-pair.result in
    c.push.ensures.items
    ∙ ap (λ s. c.args.made.now.items ++ ((x.0.0, s), x.1) ∷ []) c.lub.ensures
    ∙ ap (λ v. c.args.made.now.items ++ v) (group_alone (in_turn g.K.Ord.cmp g.V.Ord.cmp) g.T.Ord.cmp (in_turn-total g.met.K.Ord.total g.met.V.Ord.total) (exact_pairs g.K.Ord.cmp g.V.Ord.cmp g.met.K.Record.same g.met.V.Record.same) g.T.Time.lub c.args.f.now g.met.T.Ord.total g.met.T.Record.same c.args.layer.now c.args.start (c.args.end - c.args.start) x e c.requires.batch.weighty c.get-pair.ensures (omega arith) is)

pub push_times-requires : goal.push_times-requires
push_times-requires g c =
    let es = take (c.args.end - c.args.start) (drop c.args.start c.args.layer.now) in
    let times = mapped (λ r. g.T.Time.lub r.1 c.args.f.now) es in
    let n : length c.as_slice.result.now ≡ length (normal g.T.Ord.cmp times) = ap length (c.as_slice.ensures ∙ c.in_ok-sum_times.ensures.value) in
    omega (arith, n, length-normal g.T.Ord.cmp times, length-mapped (λ r. g.T.Time.lub r.1 c.args.f.now) es, length-take (c.args.end - c.args.start) (drop c.args.start c.args.layer.now), length-drop c.args.start c.args.layer.now, c.requires.room)

pub returns-clause-items : goal.returns-clause-items
returns-clause-items g c = λ e is.
    let x = c.get-pair.result in
    let same : x ≡ e = sym (is ∙ read_at c.args.layer.now c.args.start x e c.get-pair.ensures) in
    c.push_times.ensures.items
    ∙ ap (λ v. c.args.made.now.items ++ mapped (λ s. (x.0.0, s)) v) (c.as_slice.ensures ∙ c.in_ok-sum_times.ensures.value)
    ∙ ap (λ (v : ((g.row.K.Denot × g.row.V.Denot) × g.row.T.Denot) × ℕ). c.args.made.now.items ++ mapped (λ s. (v.0.0, s)) (normal g.T.Ord.cmp (mapped (λ r. g.T.Time.lub r.1 c.args.f.now) (take (c.args.end - c.args.start) (drop c.args.start c.args.layer.now))))) same

pub returns-clause-room : goal.returns-clause-room
returns-clause-room g c =
    let es = take (c.args.end - c.args.start) (drop c.args.start c.args.layer.now) in
    let times = mapped (λ r. g.T.Time.lub r.1 c.args.f.now) es in
    let n : length c.as_slice.result.now ≡ length (normal g.T.Ord.cmp times) = ap length (c.as_slice.ensures ∙ c.in_ok-sum_times.ensures.value) in
    omega (arith, n, length-normal g.T.Ord.cmp times, length-mapped (λ r. g.T.Time.lub r.1 c.args.f.now) es, length-take (c.args.end - c.args.start) (drop c.args.start c.args.layer.now), length-drop c.args.start c.args.layer.now, c.requires.room, c.push_times.ensures.spare)
