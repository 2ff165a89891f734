use Rattle.std.proofs.Common.{◌≡◌, None, map, take}
use Rattle.flight.specs.Entries.{place_of}
use Rattle.flight.proofs.entries.Flight.oldest.Given as goal

abbrev pub invariant-loop-place : goal.invariant-loop-place
invariant-loop-place g l = place_of l.key (map g.T.Filed.key_of (take l.place l.entry-items)) ≡ None
