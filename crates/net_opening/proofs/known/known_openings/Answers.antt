use Rattle.std.proofs.Common.{refl}
use Rattle.node_graph.specs.Graph.{handed_in, has_way, numbers}
use Rattle.elaborate.specs.Path.{path_from}
use Rattle.net_opening.proofs.known.known_openings.Goals as goal

pub returns : goal.returns
unfolding handed_in has_way numbers path_from
returns c = record {
  inputs = refl;
  ports = refl;
  first = refl;
  touched = refl;
  touched_nowhere = refl;
  nodes = refl;
  lite_bus = refl;
}
