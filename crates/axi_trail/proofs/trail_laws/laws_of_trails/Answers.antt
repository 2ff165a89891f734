use Rattle.axi_trail.proofs.TrailFacts.{trails_grow, links_are_queues, taken_was_put_before, heads_are_behind, behind_is_transitive}
use Rattle.axi_trail.proofs.trail_laws.laws_of_trails.Goals as goal

pub returns : goal.returns
returns c = record {
  grow = trails_grow;
  queues = links_are_queues;
  before = taken_was_put_before;
  heads = heads_are_behind;
  row = behind_is_transitive;
}
