use Rattle.net_ways.proofs.WayLemmas.{ways-are_around, ways-keep_bytes}
use Rattle.net_ways.proofs.sound_laws.laws_of_ways.Goals as goal

pub returns : goal.returns
returns g c = record {
  around = ways-are_around g.K.AnyKind.kind g.K.AnyKind.holds;
  bytes = ways-keep_bytes g.K.AnyKind.kind g.K.AnyKind.holds;
}
