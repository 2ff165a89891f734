use Rattle.std.proofs.Common.{◌≡◌, ◌<◌, ℕ, List, arith, subst, true, get_or}
use Rattle.node_graph.specs.Graph.{is_in}
use Rattle.node_graph.proofs.Uppers.{get-in}
use Rattle.elaborate.proofs.Sizes.{upper-inside}
use Rattle.elaborate.proofs.entrances.input_link.Goals as goal

pub link-requires : goal.link-requires
link-requires c =
    upper-inside c.args.wiring.now c.args.place _
    (subst (λ (list : List ℕ). is_in list (get_or c.uppers-uppers.result.now c.args.input 0) ≡ true) c.uppers-uppers.ensures
    (get-in c.uppers-uppers.result.now c.args.input (omega (arith, c.if-input-uppers.true))))
