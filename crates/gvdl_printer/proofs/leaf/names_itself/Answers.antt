use Rattle.std.proofs.Common.{◌↔◌, ℕ, List, subst}
use Rattle.std.specs.Prelude.{IsTrue}
use Rattle.gvdl_tokens.specs.Spelling.{IsName}
use Rattle.gvdl_printer.proofs.NameTests.{same_test}
use Rattle.gvdl_printer.proofs.leaf.names_itself.Goals as goal

pub returns : goal.returns
returns c = same_test c.is_name.result c.args.text.now (subst (λ (x : List ℕ). IsTrue c.is_name.result ↔ IsName x) c.as_str.ensures c.is_name.ensures)
