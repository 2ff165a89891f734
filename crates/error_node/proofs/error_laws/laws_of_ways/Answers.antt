use Rattle.error_node.proofs.WayLemmas.{error-cuts_fit, error-goes_below, error-has_way, error-origins_fit, error-ways_suit}
use Rattle.error_node.proofs.error_laws.laws_of_ways.Goals as goal

pub returns : goal.returns
returns c = record {
  has_way = error-has_way (Unit {0});
  goes_below = error-goes_below (Unit {0});
  origins_fit = error-origins_fit (Unit {0});
  cuts_fit = error-cuts_fit (Unit {0});
  ways_suit = error-ways_suit (Unit {0});
}
