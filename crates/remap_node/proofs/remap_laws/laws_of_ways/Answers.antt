use Rattle.remap_node.proofs.WayLemmas.{remap-cuts_fit, remap-goes_below, remap-has_way, remap-origins_fit, remap-ways_suit}
use Rattle.remap_node.proofs.remap_laws.laws_of_ways.Goals as goal

pub returns : goal.returns
returns c = record {
  has_way = remap-has_way (Unit {0});
  goes_below = remap-goes_below (Unit {0});
  origins_fit = remap-origins_fit (Unit {0});
  cuts_fit = remap-cuts_fit (Unit {0});
  ways_suit = remap-ways_suit (Unit {0});
}
