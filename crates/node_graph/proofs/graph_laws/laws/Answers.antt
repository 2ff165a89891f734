use Rattle.node_graph.proofs.Ways.{depths-are_small, links-lead_deeper}
use Rattle.node_graph.proofs.Levels.{deeper-stands_later, orders-are_whole, orders-lead_down}
use Rattle.node_graph.proofs.graph_laws.laws.Goals as goal

pub returns-clause-deeper : goal.returns-clause-deeper
returns-clause-deeper c = links-lead_deeper

pub returns-clause-small : goal.returns-clause-small
returns-clause-small c = depths-are_small

pub returns-clause-whole : goal.returns-clause-whole
returns-clause-whole c = orders-are_whole

pub returns-clause-down : goal.returns-clause-down
returns-clause-down c = orders-lead_down

pub returns-clause-later : goal.returns-clause-later
returns-clause-later c = deeper-stands_later
