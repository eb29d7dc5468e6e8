use Rattle.std.proofs.Common.{◌≡◌, ◌∙◌, ◌<◌, length, get_or, set, true, false, refl, inl, inr, length-set, arith, Bool}
use Rattle.std.proofs.lemmas.Bool.{cases_eq}
use Rattle.std.proofs.lemmas.Grind.{get_or-set_at}
use Rattle.std.proofs.lemmas.List.{get_or-set_other}
use Rattle.vertex_lang.specs.declared.arc.Arc.{Arc}
use Rattle.arc_rows.specs.ListLaws.{more-of}
use Rattle.round_kernel.proofs.frame.watch.Goals as goal

abbrev no_arc : Arc
no_arc = record { tail = record { 0 = 0 }; head = record { 0 = 0 }; edge = record { 0 = 0 }; back = false }

pub loop-arc-preserved : goal.loop-arc-preserved
loop-arc-preserved c =
    let i = c.loop-arc.arc-index in
    let arcs = c.args.turned.now in
    let low = c.loop-arc-test.true in
    let ws = c.loop-arc.watched.items in
    let t = (get_or arcs i no_arc).tail.0 in
    let within : t < length ws = omega (arith, c.requires i no_arc low, c.loop-arc.invariant.size) in
    record {
      size = omega (arith, c.loop-arc.invariant.size, length-set {A = Bool});
      tails = more-of (λ (a : Arc). get_or ws a.tail.0 false ≡ true) (λ (a : Arc). get_or (set ws t true) a.tail.0 false ≡ true) arcs i no_arc low
          (λ a h. elim (cases_eq a.tail.0 t) [
            | inl same ↦ get_or-set_at ws t a.tail.0 true false same within
            | inr other ↦ get_or-set_other ws t a.tail.0 true false other ∙ h
          ]) c.loop-arc.invariant.tails (get_or-set_at ws t t true false refl within);
    }
