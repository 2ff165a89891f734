use Rattle.elaborate.proofs.Orders.{managers-stand_first, plan-order_is_whole, plan-order_leads_down}
use Rattle.elaborate.proofs.path_laws.laws_of_order.Goals as goal

pub returns-clause-whole : goal.returns-clause-whole
returns-clause-whole c = plan-order_is_whole

pub returns-clause-down : goal.returns-clause-down
returns-clause-down c = plan-order_leads_down

pub returns-clause-managers : goal.returns-clause-managers
returns-clause-managers c = managers-stand_first
