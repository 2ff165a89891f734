use Rattle.memory_node.proofs.WayLemmas.{memory-cuts_fit, memory-goes_below, memory-has_way, memory-origins_fit, memory-ways_suit}
use Rattle.memory_node.proofs.memory_laws.laws_of_ways.Goals as goal

pub returns : goal.returns
returns c = record { has_way = memory-has_way; goes_below = memory-goes_below; origins_fit = memory-origins_fit; cuts_fit = memory-cuts_fit; ways_suit = memory-ways_suit }
