use Rattle.std.proofs.Common.{refl}
use Rattle.node_graph.specs.Graph.{handed_in, has_way, numbers}
use Rattle.elaborate.specs.Path.{path_from}
use Rattle.elaborate.proofs.known.known_plans.Goals as goal

pub returns : goal.returns
unfolding handed_in has_way numbers path_from
returns c = record {
  page_nodes = refl;
  page_links = refl;
  page_path = refl;
  wide_links = refl;
  crossing_path = refl;
  direct_path = refl;
  crossbar_nodes = refl;
  crossbar_links = refl;
  crossbar_path = refl;
  small_nodes = refl;
  small_links = refl;
  small_bound = refl;
  small_target = refl;
}
