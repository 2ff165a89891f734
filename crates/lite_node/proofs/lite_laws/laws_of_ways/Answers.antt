use Rattle.lite_node.proofs.WayLemmas.{lite-cuts_fit, lite-goes_below, lite-has_way, lite-origins_fit, lite-ways_suit}
use Rattle.lite_node.proofs.lite_laws.laws_of_ways.Goals as goal

pub returns : goal.returns
returns c = record {
  has_way = lite-has_way (Unit {0});
  goes_below = lite-goes_below (Unit {0});
  origins_fit = lite-origins_fit (Unit {0});
  cuts_fit = lite-cuts_fit (Unit {0});
  ways_suit = lite-ways_suit (Unit {0});
}
