use Rattle.mux_node.proofs.WayLemmas.{mux-cuts_fit, mux-goes_below, mux-has_way, mux-origins_fit, mux-ways_suit}
use Rattle.mux_node.proofs.mux_laws.laws_of_ways.Goals as goal

pub returns : goal.returns
returns c = record {
  has_way = mux-has_way (Unit {0});
  goes_below = mux-goes_below (Unit {0});
  origins_fit = mux-origins_fit (Unit {0});
  cuts_fit = mux-cuts_fit (Unit {0});
  ways_suit = mux-ways_suit (Unit {0});
}
