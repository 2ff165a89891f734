use Rattle.std.proofs.Common.{rules, ◌≡◌, ◌+◌, ◌||◌, ◌∙◌, true, false}
use Rattle.std.specs.Prelude.{nat_lt}
use Rattle.topology.specs.Refused.{has_too_many}
use Rattle.topology.proofs.SizeLemmas.{size-next, too_large-is}
use Rattle.topology.proofs.size.grown.Goals as goal

pub returns-then-is_past-clause-large : goal.returns-then-is_past-clause-large
returns-then-is_past-clause-large c =
    let few : has_too_many c.args.nodes.now c.args.place ≡ false = search rules in
    let past : (nat_lt 1024 (c.args.size.nodes + c.plan_nodes_at.result) || nat_lt 4096 (c.args.size.links + c.plan_links_at.result)) ≡ true = search rules in
    too_large-is c.args.nodes.now c.args.place c.args.size c.plan_nodes_at.result c.plan_links_at.result c.requires.size c.plan_nodes_at.ensures.nodes c.plan_links_at.ensures.links few ∙ past

pub returns-else-is_past-clause-small : goal.returns-else-is_past-clause-small
returns-else-is_past-clause-small c =
    let few : has_too_many c.args.nodes.now c.args.place ≡ false = search rules in
    let past : (nat_lt 1024 (c.args.size.nodes + c.plan_nodes_at.result) || nat_lt 4096 (c.args.size.links + c.plan_links_at.result)) ≡ false = search rules in
    too_large-is c.args.nodes.now c.args.place c.args.size c.plan_nodes_at.result c.plan_links_at.result c.requires.size c.plan_nodes_at.ensures.nodes c.plan_links_at.ensures.links few ∙ past

pub returns-else-is_past-clause-next : goal.returns-else-is_past-clause-next
returns-else-is_past-clause-next c =
    let past : (nat_lt 1024 (c.args.size.nodes + c.plan_nodes_at.result) || nat_lt 4096 (c.args.size.links + c.plan_links_at.result)) ≡ false = search rules in
    size-next c.args.nodes.now c.args.place c.args.size c.plan_nodes_at.result c.plan_links_at.result c.requires.size c.plan_nodes_at.ensures.nodes c.plan_links_at.ensures.links past
