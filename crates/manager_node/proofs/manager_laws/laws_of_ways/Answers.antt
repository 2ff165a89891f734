use Rattle.manager_node.proofs.WayLemmas.{manager-cuts_fit, manager-goes_below, manager-has_way, manager-origins_fit, manager-ways_suit}
use Rattle.manager_node.proofs.manager_laws.laws_of_ways.Goals as goal

pub returns : goal.returns
returns c = record {
  has_way = manager-has_way (Unit {0});
  goes_below = manager-goes_below (Unit {0});
  origins_fit = manager-origins_fit (Unit {0});
  cuts_fit = manager-cuts_fit (Unit {0});
  ways_suit = manager-ways_suit (Unit {0});
}
