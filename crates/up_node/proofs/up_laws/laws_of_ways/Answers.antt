use Rattle.up_node.proofs.WayLemmas.{up-cuts_fit, up-goes_below, up-has_way, up-origins_fit, up-ways_suit}
use Rattle.up_node.proofs.up_laws.laws_of_ways.Goals as goal

pub returns : goal.returns
returns c = record {
  has_way = up-has_way (Unit {0});
  goes_below = up-goes_below (Unit {0});
  origins_fit = up-origins_fit (Unit {0});
  cuts_fit = up-cuts_fit (Unit {0});
  ways_suit = up-ways_suit (Unit {0});
}
