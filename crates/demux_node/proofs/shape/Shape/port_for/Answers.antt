use Rattle.std.proofs.Common.{◌<◌, ◌∙◌, sym, length, subst, arith}
use Rattle.demux_node.specs.DemuxInside.{demux_shape_view}
use Rattle.demux_node.specs.DemuxState.{DemuxShape}
use Rattle.demux_node.proofs.PortLemmas.{served-within}
use Rattle.demux_node.proofs.shape.Shape.port_for.Goals as goal

pub overflow_cast-result : goal.overflow_cast-result
overflow_cast-result c =
    let shape = demux_shape_view c.self.inside in
    let small : c.in-Some.port < length shape.lowers = served-within shape c.self.invariant c.args.address c.in-Some.port (sym c.find.ensures ∙ c.in-Some.is) in
    omega (arith, small, c.self.invariant.most)

pub returns-in-Some-clause-within : goal.returns-in-Some-clause-within
returns-in-Some-clause-within c =
    subst (λ (shape : DemuxShape). c.in-Some.port < length shape.lowers) c.self.view_is
    (served-within (demux_shape_view c.self.inside) c.self.invariant c.args.address c.in-Some.port (sym c.find.ensures ∙ c.in-Some.is))
