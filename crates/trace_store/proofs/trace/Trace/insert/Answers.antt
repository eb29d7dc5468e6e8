-- The sum of what was kept and of the batch at its time.
use Rattle.std.proofs.Common.{◌≡◌, ◌∙◌, ◌≤◌, ◌<◌, ◌+◌, ◌-◌, ◌*◌, ℕ, [], ◌++◌, take, drop, length, get_or, List, ap, sym, subst, arith, length-append}
use Rattle.std.proofs.lemmas.List.{take_all, length-drop}
use Rattle.weighted.specs.Alike.{Alike, Alike-is, Alike-trans}
use Rattle.weighted.specs.Batches.{IsBatch, IsBatch-normal, joined}
use Rattle.weighted.specs.Normal.{normal}
use Rattle.weighted.specs.WordLaws.{mapped}
use Rattle.trace_store.specs.Layers.{AreHalving}
use Rattle.trace_store.specs.Stored.{Stored}
use Rattle.trace_store.specs.Traces.{at_time, trace_cmp}
use Rattle.trace_store.specs.TraceLaws.{trace_same, trace_total}
use Rattle.trace_store.proofs.Changes.{half_of, inserted, inserted_normal, inserted_sums, is_nothing, normal_alike, normal_is, same_value}
use Rattle.trace_store.proofs.Joined.{halving-take, halving-with, joined-shorter, joined-split, joined-with}
use Rattle.trace_store.proofs.Lengths.{length-mapped}
use Rattle.trace_store.proofs.trace.Trace.insert.Goals as goal

pub returns-then-is_empty-clause-value : goal.returns-then-is_empty-clause-value
returns-then-is_empty-clause-value g c =
    let cmp = trace_cmp g.K.Ord.cmp g.V.Ord.cmp g.T.Ord.cmp in
    let order = trace_total g.met.K.Ord.total g.met.V.Ord.total g.met.T.Ord.total in let same = trace_same g.met.K.Record.same g.met.V.Record.same g.met.T.Record.same in
    let none : c.args.batch.now ≡ [] = is_nothing c.args.batch.now (sym c.is_empty.ensures ∙ c.if-is_empty.true) in
    let is : IsBatch cmp c.args.self.now.items = subst (λ (v : Stored ((g.row.K.Denot × g.row.V.Denot) × g.row.T.Denot)). IsBatch cmp v.items) c.self.view_is (IsBatch-normal cmp order same (joined c.self.inside.layers.items)) in
    same_value g.T.Time.leq c.args.t c.args.self.now.items c.args.batch.now cmp order same is none

pub overflow_sub-entries : goal.overflow_sub-entries
overflow_sub-entries g c =
    let cmp = trace_cmp g.K.Ord.cmp g.V.Ord.cmp g.T.Ord.cmp in let ls = c.self.inside.layers.items in let kept = c.stay-kept.result.0 in let merged = c.in_ok-merged.merged in let st = mapped (at_time c.args.t) c.args.batch.now in
    let rest : take (length c.deref.result.now - kept) (drop kept c.deref.result.now) ≡ drop kept ls = take_all (length c.deref.result.now - kept) (drop kept c.deref.result.now) (omega (arith, length-drop kept c.deref.result.now)) ∙ ap (drop kept) c.deref.ensures.value in
    let sum : c.stay-kept.result.1 ≡ length (joined (drop kept ls)) + c.len-2.result = c.stay-kept.ensures.sum ∙ ap (λ v. length (joined (drop kept v)) + c.len-2.result) c.as_slice.ensures.value in
    let newest : length c.in_ok-newest.newest ≡ c.len.result = ap length c.in_ok-newest.ensures ∙ length-mapped (at_time c.args.t) c.args.batch.now ∙ sym c.len.ensures.value in
    let most : length merged ≤ c.stay-kept.result.1 = omega (arith, c.in_ok-merged.ensures.bound, ap (λ v. length (joined v)) rest, newest, sum, c.len.ensures.value, c.len-2.ensures.value) in
    let some : c.stay-kept.result.1 ≤ c.in-Some.total = omega (arith, sum, joined-shorter ls kept, c.self.invariant.0, c.in-Some.ensures, c.len.ensures.value, c.len-2.ensures.value) in
    some

pub overflow_add-entries : goal.overflow_add-entries
overflow_add-entries g c =
    let cmp = trace_cmp g.K.Ord.cmp g.V.Ord.cmp g.T.Ord.cmp in let ls = c.self.inside.layers.items in let kept = c.stay-kept.result.0 in let merged = c.in_ok-merged.merged in let st = mapped (at_time c.args.t) c.args.batch.now in
    let rest : take (length c.deref.result.now - kept) (drop kept c.deref.result.now) ≡ drop kept ls = take_all (length c.deref.result.now - kept) (drop kept c.deref.result.now) (omega (arith, length-drop kept c.deref.result.now)) ∙ ap (drop kept) c.deref.ensures.value in
    let sum : c.stay-kept.result.1 ≡ length (joined (drop kept ls)) + c.len-2.result = c.stay-kept.ensures.sum ∙ ap (λ v. length (joined (drop kept v)) + c.len-2.result) c.as_slice.ensures.value in
    let newest : length c.in_ok-newest.newest ≡ c.len.result = ap length c.in_ok-newest.ensures ∙ length-mapped (at_time c.args.t) c.args.batch.now ∙ sym c.len.ensures.value in
    let most : length merged ≤ c.stay-kept.result.1 = omega (arith, c.in_ok-merged.ensures.bound, ap (λ v. length (joined v)) rest, newest, sum, c.len.ensures.value, c.len-2.ensures.value) in
    let some : c.stay-kept.result.1 ≤ c.in-Some.total = omega (arith, sum, joined-shorter ls kept, c.self.invariant.0, c.in-Some.ensures, c.len.ensures.value, c.len-2.ensures.value) in
    record { fits = omega (arith, most, some, c.len-3.ensures.value, c.in-Some.ensures) }

pub invariant_of-self-2 : goal.invariant_of-self-2
invariant_of-self-2 g c =
    let cmp = trace_cmp g.K.Ord.cmp g.V.Ord.cmp g.T.Ord.cmp in let ls = c.self.inside.layers.items in let kept = c.stay-kept.result.0 in let merged = c.in_ok-merged.merged in let st = mapped (at_time c.args.t) c.args.batch.now in
    let rest : take (length c.deref.result.now - kept) (drop kept c.deref.result.now) ≡ drop kept ls = take_all (length c.deref.result.now - kept) (drop kept c.deref.result.now) (omega (arith, length-drop kept c.deref.result.now)) ∙ ap (drop kept) c.deref.ensures.value in
    let sum : c.stay-kept.result.1 ≡ length (joined (drop kept ls)) + c.len-2.result = c.stay-kept.ensures.sum ∙ ap (λ v. length (joined (drop kept v)) + c.len-2.result) c.as_slice.ensures.value in
    let newest : length c.in_ok-newest.newest ≡ c.len.result = ap length c.in_ok-newest.ensures ∙ length-mapped (at_time c.args.t) c.args.batch.now ∙ sym c.len.ensures.value in
    let most : length merged ≤ c.stay-kept.result.1 = omega (arith, c.in_ok-merged.ensures.bound, ap (λ v. length (joined v)) rest, newest, sum, c.len.ensures.value, c.len-2.ensures.value) in
    let some : c.stay-kept.result.1 ≤ c.in-Some.total = omega (arith, sum, joined-shorter ls kept, c.self.invariant.0, c.in-Some.ensures, c.len.ensures.value, c.len-2.ensures.value) in
    let made : joined c.put_layer.new.layers.items ≡ joined (take kept ls) ++ merged = ap joined c.in_ok-put_layer.ensures.ok ∙ joined-with (take kept ls) merged in
    let within : kept ≤ length ls = subst (λ v. kept ≤ length v) c.as_slice.ensures.value c.stay-kept.ensures.bound in
    let half : 0 < kept → (d : List (((g.row.K.Denot × g.row.V.Denot) × g.row.T.Denot) × ℕ)) → 2 * length merged ≤ length (get_or ls (kept - 1) d) = (λ low d. let h : 2 * c.stay-kept.result.1 ≤ length (get_or ls (kept - 1) d) = subst (λ v. 2 * c.stay-kept.result.1 ≤ length (get_or v (kept - 1) d)) c.as_slice.ensures.value (c.stay-kept.ensures.half low d) in omega (arith, h, most)) in (
      omega (arith, most, some, sum, ap length made, length-append (joined (take kept ls)) merged, ap length (joined-split ls kept), length-append (joined (take kept ls)) (joined (drop kept ls)), c.self.invariant.0, c.in-Some.ensures, c.len.ensures.value, c.len-2.ensures.value, c.len-3.ensures.value),
      subst (λ v. AreHalving v) (sym c.in_ok-put_layer.ensures.ok) (halving-with (take kept ls) merged (half_of cmp (trace_total g.met.K.Ord.total g.met.V.Ord.total g.met.T.Ord.total) (trace_same g.met.K.Record.same g.met.V.Record.same g.met.T.Record.same) ls kept merged within half) (halving-take ls kept c.self.invariant.1)),
    )

pub returns-clause-value : goal.returns-clause-value
returns-clause-value g c =
    let cmp = trace_cmp g.K.Ord.cmp g.V.Ord.cmp g.T.Ord.cmp in let ls = c.self.inside.layers.items in let kept = c.stay-kept.result.0 in let merged = c.in_ok-merged.merged in let st = mapped (at_time c.args.t) c.args.batch.now in
    let rest : take (length c.deref.result.now - kept) (drop kept c.deref.result.now) ≡ drop kept ls = take_all (length c.deref.result.now - kept) (drop kept c.deref.result.now) (omega (arith, length-drop kept c.deref.result.now)) ∙ ap (drop kept) c.deref.ensures.value in
    let order = trace_total g.met.K.Ord.total g.met.V.Ord.total g.met.T.Ord.total in let same = trace_same g.met.K.Record.same g.met.V.Record.same g.met.T.Record.same in
    let both : Alike merged (joined (drop kept ls) ++ st) = Alike-trans c.in_ok-merged.ensures.alike (Alike-is (λ i. joined (rest i) ++ c.in_ok-newest.ensures i)) in
    let all : Alike (joined c.put_layer.new.layers.items) (joined ls ++ st) = Alike-trans (Alike-is (ap joined c.in_ok-put_layer.ensures.ok)) (inserted cmp order same ls kept merged st both) in
    let was : normal cmp (joined ls) ≡ c.args.self.now.items = ap (λ (v : Stored ((g.row.K.Denot × g.row.V.Denot) × g.row.T.Denot)). v.items) c.self.view_is in
    let full : Alike (joined c.put_layer.new.layers.items) (c.args.self.now.items ++ st) = inserted_normal cmp order same ls c.put_layer.new.layers.items c.args.self.now.items st was all in
    normal_is cmp order same (joined c.put_layer.new.layers.items) (c.args.self.now.items ++ st) full

pub returns-clause-alike : goal.returns-clause-alike
returns-clause-alike g c =
    let cmp = trace_cmp g.K.Ord.cmp g.V.Ord.cmp g.T.Ord.cmp in let ls = c.self.inside.layers.items in let kept = c.stay-kept.result.0 in let merged = c.in_ok-merged.merged in let st = mapped (at_time c.args.t) c.args.batch.now in
    let rest : take (length c.deref.result.now - kept) (drop kept c.deref.result.now) ≡ drop kept ls = take_all (length c.deref.result.now - kept) (drop kept c.deref.result.now) (omega (arith, length-drop kept c.deref.result.now)) ∙ ap (drop kept) c.deref.ensures.value in
    let order = trace_total g.met.K.Ord.total g.met.V.Ord.total g.met.T.Ord.total in let same = trace_same g.met.K.Record.same g.met.V.Record.same g.met.T.Record.same in
    let both : Alike merged (joined (drop kept ls) ++ st) = Alike-trans c.in_ok-merged.ensures.alike (Alike-is (λ i. joined (rest i) ++ c.in_ok-newest.ensures i)) in
    let all : Alike (joined c.put_layer.new.layers.items) (joined ls ++ st) = Alike-trans (Alike-is (ap joined c.in_ok-put_layer.ensures.ok)) (inserted cmp order same ls kept merged st both) in
    let was : normal cmp (joined ls) ≡ c.args.self.now.items = ap (λ (v : Stored ((g.row.K.Denot × g.row.V.Denot) × g.row.T.Denot)). v.items) c.self.view_is in
    let full : Alike (joined c.put_layer.new.layers.items) (c.args.self.now.items ++ st) = inserted_normal cmp order same ls c.put_layer.new.layers.items c.args.self.now.items st was all in
    normal_alike cmp order same (joined c.put_layer.new.layers.items) (c.args.self.now.items ++ st) full

pub returns-clause-sums : goal.returns-clause-sums
returns-clause-sums g c =
    let cmp = trace_cmp g.K.Ord.cmp g.V.Ord.cmp g.T.Ord.cmp in let ls = c.self.inside.layers.items in let kept = c.stay-kept.result.0 in let merged = c.in_ok-merged.merged in let st = mapped (at_time c.args.t) c.args.batch.now in
    let rest : take (length c.deref.result.now - kept) (drop kept c.deref.result.now) ≡ drop kept ls = take_all (length c.deref.result.now - kept) (drop kept c.deref.result.now) (omega (arith, length-drop kept c.deref.result.now)) ∙ ap (drop kept) c.deref.ensures.value in
    let order = trace_total g.met.K.Ord.total g.met.V.Ord.total g.met.T.Ord.total in let same = trace_same g.met.K.Record.same g.met.V.Record.same g.met.T.Record.same in
    let both : Alike merged (joined (drop kept ls) ++ st) = Alike-trans c.in_ok-merged.ensures.alike (Alike-is (λ i. joined (rest i) ++ c.in_ok-newest.ensures i)) in
    let all : Alike (joined c.put_layer.new.layers.items) (joined ls ++ st) = Alike-trans (Alike-is (ap joined c.in_ok-put_layer.ensures.ok)) (inserted cmp order same ls kept merged st both) in
    let was : normal cmp (joined ls) ≡ c.args.self.now.items = ap (λ (v : Stored ((g.row.K.Denot × g.row.V.Denot) × g.row.T.Denot)). v.items) c.self.view_is in
    let full : Alike (joined c.put_layer.new.layers.items) (c.args.self.now.items ++ st) = inserted_normal cmp order same ls c.put_layer.new.layers.items c.args.self.now.items st was all in
    inserted_sums g.T.Time.leq c.args.t c.args.self.now.items c.args.batch.now (normal cmp (joined c.put_layer.new.layers.items)) (normal_alike cmp order same (joined c.put_layer.new.layers.items) (c.args.self.now.items ++ st) full)

pub returns-clause-entries : goal.returns-clause-entries
returns-clause-entries g c =
    let cmp = trace_cmp g.K.Ord.cmp g.V.Ord.cmp g.T.Ord.cmp in let ls = c.self.inside.layers.items in let kept = c.stay-kept.result.0 in let merged = c.in_ok-merged.merged in let st = mapped (at_time c.args.t) c.args.batch.now in
    let rest : take (length c.deref.result.now - kept) (drop kept c.deref.result.now) ≡ drop kept ls = take_all (length c.deref.result.now - kept) (drop kept c.deref.result.now) (omega (arith, length-drop kept c.deref.result.now)) ∙ ap (drop kept) c.deref.ensures.value in
    let sum : c.stay-kept.result.1 ≡ length (joined (drop kept ls)) + c.len-2.result = c.stay-kept.ensures.sum ∙ ap (λ v. length (joined (drop kept v)) + c.len-2.result) c.as_slice.ensures.value in
    let newest : length c.in_ok-newest.newest ≡ c.len.result = ap length c.in_ok-newest.ensures ∙ length-mapped (at_time c.args.t) c.args.batch.now ∙ sym c.len.ensures.value in
    let most : length merged ≤ c.stay-kept.result.1 = omega (arith, c.in_ok-merged.ensures.bound, ap (λ v. length (joined v)) rest, newest, sum, c.len.ensures.value, c.len-2.ensures.value) in
    let some : c.stay-kept.result.1 ≤ c.in-Some.total = omega (arith, sum, joined-shorter ls kept, c.self.invariant.0, c.in-Some.ensures, c.len.ensures.value, c.len-2.ensures.value) in
    let held : c.self.inside.entries ≡ c.args.self.now.entries = ap (λ (v : Stored ((g.row.K.Denot × g.row.V.Denot) × g.row.T.Denot)). v.entries) c.self.view_is in
    omega (arith, most, some, held, c.in-Some.ensures, c.len.ensures.value, c.len-2.ensures.value, c.len-3.ensures.value)
