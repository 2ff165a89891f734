use Rattle.std.proofs.Common.{◌≡◌, ◌<◌, ℕ, List, ap, arith, length, subst, true, get_or, sym}
use Rattle.node_graph.specs.Graph.{is_in}
use Rattle.node_graph.proofs.Uppers.{get-in}
use Rattle.topology.specs.Document.{node_at}
use Rattle.topology.proofs.AcceptedFacts.{target-known}
use Rattle.elaborate.specs.Plan.{targets}
use Rattle.elaborate.proofs.crossbar.push_target.Goals as goal

pub entrance-requires-clause-inside : goal.entrance-requires-clause-inside
entrance-requires-clause-inside c =
    target-known c.args.wiring.now (node_at c.args.wiring.now c.args.place) _
    (subst (λ (list : List ℕ). is_in (targets c.args.wiring.now c.args.place) (get_or list c.args.port 0) ≡ true) (sym c.targets.ensures)
    (get-in (targets c.args.wiring.now c.args.place) c.args.port c.requires.port))
