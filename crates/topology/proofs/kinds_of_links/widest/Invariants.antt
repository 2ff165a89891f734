use Rattle.std.proofs.Common.{◌≡◌, drop, map, max}
use Rattle.topology.specs.Document.{widest}
use Rattle.topology.specs.Links.{known_link}
use Rattle.topology.proofs.kinds_of_links.widest.Given as goal

abbrev pub invariant-loop-upper : goal.invariant-loop-upper
invariant-loop-upper l = max l.most (widest (map (known_link l.links) (drop l.upper-index l.uppers))) ≡ widest (map (known_link l.links) l.uppers)
