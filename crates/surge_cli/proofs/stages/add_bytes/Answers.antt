-- The edges of a file behind those that are there.
use Rattle.std.proofs.Common.{◌-◌, length, Ok, ap}
use Rattle.graph_loader.specs.DataFiles.{extended}
use Rattle.surge_cli.specs.Expected.{loaded, longer}
use Rattle.surge_cli.specs.Stages.{seen}
use Rattle.surge_cli.proofs.Inserting.{grouping, grouped_longer, counted}
use Rattle.surge_cli.proofs.Saying.{bind_ok, bind_err}
use Rattle.surge_cli.proofs.stages.add_bytes.Goals as goal

pub returns-in-Ok-push-clause-said : goal.returns-in-Ok-push-clause-said
returns-in-Ok-push-clause-said c =
    let w = seen c.args.loaded.now in
    let h = c.extend_graph.new.graph in
    bind_ok (loaded (extended c.args.statement c.args.bytes.now w.graph)) (λ x. Ok (longer w x)) h (Ok (grouping h c.push.new.self)) c.in-Ok.ensures.said
    (ap Ok (grouped_longer w h c.in-Ok.count c.push.new.self c.in-Ok.ensures.count c.in-Ok-push.ensures.ok))

pub returns-in-Ok-push-clause-groups : goal.returns-in-Ok-push-clause-groups
returns-in-Ok-push-clause-groups c =
    counted c.args.loaded.now.groups c.push.new.self (length c.args.loaded.now.graph.ends) (length c.extend_graph.new.graph.ends) c.in-Ok.count c.requires c.in-Ok.ensures.count c.in-Ok-push.ensures.ok

pub returns-in-Err-clause-said : goal.returns-in-Err-clause-said
returns-in-Err-clause-said c =
    let w = seen c.args.loaded.now in
    bind_err (loaded (extended c.args.statement c.args.bytes.now w.graph)) (λ x. Ok (longer w x)) c.in-Err.status c.in-Err.ensures.said
