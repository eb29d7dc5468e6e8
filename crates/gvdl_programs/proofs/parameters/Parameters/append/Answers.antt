-- A new parameter comes last, and its place is their number.
use Rattle.std.proofs.Common.{◌≡◌, ◌∙◌, None, ap, string_bytes, length}
use Rattle.std.proofs.lemmas.List.{length-map}
use Rattle.indexmap.specs.IndexMap.{insert_entry}
use Rattle.gvdl_programs.specs.Expressions.{place_of}
use Rattle.gvdl_programs.proofs.ParameterFacts.{named, same_key, named_new}
use Rattle.gvdl_programs.proofs.parameters.Parameters.append.Goals as goal
use Rattle.gvdl_programs.proofs.parameters.Parameters.append.Goals.{in-Ok, in-Err}

pub returns : goal.returns
returns c =
    let key = c.in_ok-name.name in
    let place = c.len-place.result in
    let es = c.self.inside.table.entries in
    let free : place_of (named string_bytes es) (string_bytes key) ≡ None = cc (c.requires, c.self.view_is, c.in_ok-name.ensures.ok) in
    let count : length (named string_bytes es) ≡ length es = length-map es (λ e. (string_bytes e.0, e.1)) in
    let size : place ≡ length es = c.len-place.ensures.len in
    elim c.match-insert.branch [
      | in-Ok w ↦
          let entries : c.insert.new.self.entries ≡ insert_entry (same_key string_bytes) es key place = w.in-Ok.ensures.entries in
          let grown = ap (named string_bytes) entries ∙ named_new string_bytes key place es free in
          rw w.result-is (cc (grown, count, size, c.self.view_is, c.in_ok-name.ensures.ok))
      | in-Err w ↦ rw w.result-is tt
    ]
