use Rattle.lite_memory_node.proofs.WayLemmas.{lite_memory-cuts_fit, lite_memory-goes_below, lite_memory-has_way, lite_memory-origins_fit, lite_memory-ways_suit}
use Rattle.lite_memory_node.proofs.lite_memory_laws.laws_of_ways.Goals as goal

pub returns : goal.returns
returns c = record { has_way = lite_memory-has_way; goes_below = lite_memory-goes_below; origins_fit = lite_memory-origins_fit; cuts_fit = lite_memory-cuts_fit; ways_suit = lite_memory-ways_suit }
