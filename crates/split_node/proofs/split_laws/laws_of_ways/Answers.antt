use Rattle.split_node.proofs.WayLemmas.{split-cuts_fit, split-goes_below, split-has_way, split-origins_fit, split-ways_suit}
use Rattle.split_node.proofs.split_laws.laws_of_ways.Goals as goal

pub returns : goal.returns
returns c = record {
  has_way = split-has_way (Unit {0});
  goes_below = split-goes_below (Unit {0});
  origins_fit = split-origins_fit (Unit {0});
  cuts_fit = split-cuts_fit (Unit {0});
  ways_suit = split-ways_suit (Unit {0});
}
