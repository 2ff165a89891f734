use Rattle.std.proofs.Common.{◌∙◌, ap}
use Rattle.net_build.proofs.MadeLemmas.{as_node, split-made}
use Rattle.net_build.proofs.parts.split_node.Goals as goal
use Rattle.net_kinds.specs.NodeKind.{ASplit}

pub returns : goal.returns
returns c =
    ap (as_node ASplit)
    (c.in_ok-boxed.ensures
    ∙ split-made c.args.source.now.plan.now c.args.source.now.traffic.now c.args.number c.link_into-upper.result c.link_out_of-lower.result c.new-node.result c.link_into-upper.ensures
    c.link_out_of-lower.ensures c.new-node.ensures)
