-- What differs, or all values.
use Rattle.std.proofs.Common.{◌≡◌, ◌∙◌, List, length, refl, ap}
use Rattle.graph_model.specs.declared.value.Val.{Val}
use Rattle.result_tables.specs.Results.{assigned}
use Rattle.result_tables.specs.ResultsInside.{values_at}
use Rattle.result_tables.proofs.Holding.{its_size, keeps_full, keeps_over, size_assigned, within, written}
use Rattle.result_tables.proofs.entries.Entries.keep_over.Goals as goal

pub returns-then-since-self : goal.returns-then-since-self
returns-then-since-self c =
    keeps_over c.args.self.now c.args.base c.saturating_add-since.result c.args.change.now c.from_vec-change.result c.requires.entries c.requires.base c.requires.change
    (c.from_vec-change.ensures ∙ c.in_ok-from_slice.ensures.items)

pub assign-requires : goal.assign-requires
assign-requires c =
    let size : length c.deref_mut.result.now ≡ c.args.self.now.nodes =
    ap length (c.deref_mut.ensures.value ∙ c.in_ok-values.ensures) ∙ its_size c.args.self.now c.args.base c.requires.entries c.requires.base in
    within c.args.self.now.nodes c.deref_mut.result.now c.args.change.now c.args.change.now size refl c.requires.change

pub returns : goal.returns
returns c =
    let es = c.args.self.now in
    let base : c.deref_mut.result.now ≡ values_at es.list.items c.args.base = c.deref_mut.ensures.value ∙ c.in_ok-values.ensures in
    let is : c.from_vec.result ≡ assigned (values_at es.list.items c.args.base) c.args.change.now =
    c.from_vec.ensures
    ∙ written c.in_ok-values.values.len c.assign.new.values c.in_ok-values.values.items c.in_ok-values.values.ok.0 (c.assign.auto.values ∙ ap length c.deref_mut.ensures.value)
    ∙ c.assign.ensures ∙ ap (λ (vs : List Val). assigned vs c.args.change.now) base in
    keeps_full es (assigned (values_at es.list.items c.args.base) c.args.change.now) c.from_vec.result is
    (size_assigned (values_at es.list.items c.args.base) c.args.change.now ∙ its_size es c.args.base c.requires.entries c.requires.base)
