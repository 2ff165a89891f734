use Rattle.std.proofs.Common.{List, sym, ◌∙◌, subst}
use Rattle.plain_text.specs.Lines.{lines}
use Rattle.plan_traffic.specs.Accepted.{IsTraffic}
use Rattle.plan_traffic.specs.Traffic.{TrafficItem}
use Rattle.plan_traffic.proofs.KnownLemmas.{accepted_suits_all}
use Rattle.plan_traffic.proofs.read.read_lines.Goals as goal

pub from_items-requires : goal.from_items-requires
from_items-requires c =
    (c.args.nodes.now, subst (λ (items : List TrafficItem). IsTraffic c.args.nodes.now items) (sym c.in-Some.ensures.items) (accepted_suits_all c.args.nodes.now (lines c.args.text.now) c.in-Some.ensures.accepted))

pub returns-in-Some-clause-known : goal.returns-in-Some-clause-known
returns-in-Some-clause-known c =
    subst (λ (items : List TrafficItem). IsTraffic c.args.nodes.now items) (sym (c.from_items.ensures ∙ c.in-Some.ensures.items))
    (accepted_suits_all c.args.nodes.now (lines c.args.text.now) c.in-Some.ensures.accepted)
