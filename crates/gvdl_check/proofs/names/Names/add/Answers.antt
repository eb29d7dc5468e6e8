-- A new name comes last.
use Rattle.std.proofs.Common.{◌≡◌, ◌∙◌, None, ap, string_bytes}
use Rattle.indexmap.specs.IndexMap.{insert_entry}
use Rattle.gvdl_check.specs.Names.{meaning_of}
use Rattle.gvdl_check.proofs.NameFacts.{named, same_key, named_new}
use Rattle.gvdl_check.proofs.names.Names.add.Goals as goal

pub returns-in-Ok : goal.returns-in-Ok
returns-in-Ok c =
    let key = c.in_ok-name.name in
    let es = c.self.inside.table.entries in
    let free : meaning_of (named string_bytes es) (string_bytes key) ≡ None = cc (c.requires, c.self.view_is, c.in_ok-name.ensures.ok) in
    let entries : c.insert.new.self.entries ≡ insert_entry (same_key string_bytes) es key c.args.meaning = c.in-Ok.ensures.entries in
    let grown = ap (named string_bytes) entries ∙ named_new string_bytes key c.args.meaning es free in
    cc (grown, c.self.view_is, c.in_ok-name.ensures.ok)
