use Rattle.slice_node.proofs.WayLemmas.{slice-cuts_fit, slice-goes_below, slice-has_way, slice-origins_fit, slice-ways_suit}
use Rattle.slice_node.proofs.slice_laws.laws_of_ways.Goals as goal

pub returns : goal.returns
returns c = record {
  has_way = slice-has_way (Unit {0});
  goes_below = slice-goes_below (Unit {0});
  origins_fit = slice-origins_fit (Unit {0});
  cuts_fit = slice-cuts_fit (Unit {0});
  ways_suit = slice-ways_suit (Unit {0});
}
