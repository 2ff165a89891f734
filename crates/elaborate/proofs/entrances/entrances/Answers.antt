use Rattle.std.proofs.Common.{◌≡◌, ℕ, List, arith, subst, true, get_or}
use Rattle.node_graph.specs.Graph.{is_in}
use Rattle.node_graph.proofs.Uppers.{get-in}
use Rattle.topology.specs.Document.{node_at}
use Rattle.topology.proofs.AcceptedFacts.{target-known}
use Rattle.elaborate.proofs.entrances.entrances.Goals as goal

pub entrance-requires-clause-inside : goal.entrance-requires-clause-inside
entrance-requires-clause-inside c =
    target-known c.args.wiring.now (node_at c.args.wiring.now c.args.place) _
    (subst (λ (list : List ℕ). is_in list (get_or c.targets-targets.result.now c.loop-target.target-index 0) ≡ true) c.targets-targets.ensures
    (get-in c.targets-targets.result.now c.loop-target.target-index (omega (arith, c.loop-target-test.true))))
