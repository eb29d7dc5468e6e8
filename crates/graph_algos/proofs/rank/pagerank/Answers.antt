use Rattle.std.proofs.Common.{refl}
use Rattle.graph_algos.specs.PageRank.{pagerank}
use Rattle.graph_algos.specs.PageRankLaws.{pagerank_checked}
use Rattle.graph_algos.proofs.SameParts.{same_parts}
use Rattle.graph_algos.proofs.rank.pagerank.Goals as goal

pub returns-clause-checked : goal.returns-clause-checked
returns-clause-checked c = λ graph. same_parts pagerank graph _ _ _ _ _ refl c.in_ok-equal_share.ensures c.in_ok-next_rank.ensures (pagerank_checked graph)
