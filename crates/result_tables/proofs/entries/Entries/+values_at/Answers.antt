-- The values on the way to an entry.
use Rattle.std.proofs.Common.{◌≡◌, ◌∙◌, List, length, sym, ap, arith}
use Rattle.graph_model.specs.declared.value.Val.{Val}
use Rattle.result_tables.specs.Results.{assigned}
use Rattle.result_tables.specs.ResultsInside.{values_at}
use Rattle.result_tables.proofs.Holding.{its_size, its_difference, full_values, over_values, within, written}
use Rattle.result_tables.proofs.entries.Entries.+values_at.Goals as goal

pub assign-requires : goal.assign-requires
assign-requires t c =
    let es = c.args.self.now in
    let d = c.in-Over.difference in
    let it = its_difference es c.args.place c.index.result.now d c.requires.entries c.requires.place c.index.ensures c.in-Over.is in
    let size : length c.deref_mut.result.now ≡ es.nodes =
    ap length (c.deref_mut.ensures.value ∙ c.in_ok-values-in-Over.ensures) ∙ its_size es d.base c.requires.entries (omega (arith, it.0, c.requires.place)) in
    within es.nodes c.deref_mut.result.now d.change c.as_slice-in-Over.result.now size c.as_slice-in-Over.ensures it.1

pub returns-in_ok-from_slice-in-Full : goal.returns-in_ok-from_slice-in-Full
returns-in_ok-from_slice-in-Full t c =
    c.in_ok-from_slice-in-Full.ensures.items ∙ c.as_slice.ensures
    ∙ sym (full_values c.args.self.now c.args.place c.index.result.now c.in-Full.values c.requires.entries c.requires.place c.index.ensures c.in-Full.is)

pub returns-in_ok-values-in-Over : goal.returns-in_ok-values-in-Over
returns-in_ok-values-in-Over t c =
    let es = c.args.self.now in
    let d = c.in-Over.difference in
    let base : c.deref_mut.result.now ≡ values_at es.list.items d.base = c.deref_mut.ensures.value ∙ c.in_ok-values-in-Over.ensures in
    written c.in_ok-values-in-Over.values.len c.assign.new.values c.in_ok-values-in-Over.values.items c.in_ok-values-in-Over.values.ok.0
    (c.assign.auto.values ∙ ap length c.deref_mut.ensures.value)
    ∙ c.assign.ensures
    ∙ ap (λ (vs : List Val). assigned vs c.as_slice-in-Over.result.now) base
    ∙ ap (assigned (values_at es.list.items d.base)) c.as_slice-in-Over.ensures
    ∙ sym (over_values es c.args.place c.index.result.now d c.requires.entries c.requires.place c.index.ensures c.in-Over.is)
