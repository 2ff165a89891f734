use Rattle.std.proofs.Common.{get_or, subst, List, ℕ, arith}
use Rattle.node_graph.specs.Search.{PassesSome}
use Rattle.node_graph.proofs.Searched.{some-begin, some-done, some-more}
use Rattle.node_graph.proofs.Uppers.{get-in}
use Rattle.node_graph.proofs.Visited.{taken-whole}
use Rattle.node_graph.proofs.graph.NodeGraph.pass.Goals as goal

pub loop-lower-init : goal.loop-lower-init
loop-lower-init c = some-begin c.args.self.now c.args.search.now

pub note-requires : goal.note-requires
note-requires c =
    omega (
      arith,
      c.below-lower-items.ensures.known (get_or c.below-lower-items.result.now c.loop-lower.lower-index 0) (get-in c.below-lower-items.result.now c.loop-lower.lower-index c.loop-lower-test.true),
      c.loop-lower.invariant.long,
      c.requires.marks,
    )

pub loop-lower-preserved : goal.loop-lower-preserved
loop-lower-preserved c =
    some-more c.args.self.now c.below-lower-items.result.now c.loop-lower.lower-index c.args.search.now c.loop-lower.search c.note.new.self c.loop-lower-test.true
    c.loop-lower.invariant c.in_ok-note.ensures

pub returns : goal.returns
returns c =
    some-done c.args.self.now c.args.node c.below-lower-items.result.now c.args.search.now c.loop-lower.search c.below-lower-items.ensures.nodes c.below-lower-items.ensures.known
    (subst (λ (lowers : List ℕ). PassesSome c.args.self.now lowers c.args.search.now c.loop-lower.search)
    (taken-whole c.loop-lower.lower-index c.below-lower-items.result.now (omega (arith, c.loop-lower-test.false))) c.loop-lower.invariant)
