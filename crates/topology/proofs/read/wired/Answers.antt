use Rattle.std.proofs.Common.{◌≡◌, map, rules}
use Rattle.topology.specs.Document.{graph_of}
use Rattle.topology.specs.Links.{AreLinks}
use Rattle.topology.specs.Refused.{IsAccepted}
use Rattle.topology.specs.Wiring.{region_lists, regions_of}
use Rattle.topology.proofs.LinkWidths.{accepted-are_exact}
use Rattle.topology.proofs.read.wired.Goals as goal

pub new-requires : goal.new-requires
new-requires c =
    let accepted : IsAccepted c.args.nodes.items = search rules in
    let joined : c.in_ok-graph.field-0.graph ≡ graph_of c.args.nodes.items = search rules in
    let links : AreLinks c.args.nodes.items c.in_ok-links.links.items = search rules in
    let regions : region_lists c.in_ok-graph.field-0.regions.items ≡ map (regions_of c.args.nodes.items) c.args.nodes.items = search rules in
    record {
      accepted = accepted;
      formed = c.requires.formed;
      joined_so = joined;
      links_are = accepted-are_exact c.args.nodes.items c.in_ok-links.links.items accepted c.requires.formed links;
      regions_are = regions;
    }
