use Rattle.std.proofs.Common.{refl}
use Rattle.node_graph.specs.Graph.{handed_in, has_way, numbers}
use Rattle.topology.proofs.known.known_documents.Goals as goal

pub returns : goal.returns
unfolding handed_in has_way numbers
returns c = record {
  pair = refl;
  ring = refl;
  touching = refl;
  overlapping = refl;
  half_page = refl;
  crossed = refl;
  wide = refl;
  too_wide = refl;
  system = refl;
  slice = refl;
  twice = refl;
  unknown = refl;
  above_manager = refl;
  two_above = refl;
  loose = refl;
  bus = refl;
  bridge = refl;
  wide_bridge = refl;
  no_lite_memory = refl;
}
