use Rattle.demux_node.proofs.WayLemmas.{demux-cuts_fit, demux-goes_below, demux-has_way, demux-origins_fit, demux-ways_suit}
use Rattle.demux_node.proofs.demux_laws.laws_of_ways.Goals as goal

pub returns : goal.returns
returns c = record {
  has_way = demux-has_way (Unit {0});
  goes_below = demux-goes_below (Unit {0});
  origins_fit = demux-origins_fit (Unit {0});
  cuts_fit = demux-cuts_fit (Unit {0});
  ways_suit = demux-ways_suit (Unit {0});
}
