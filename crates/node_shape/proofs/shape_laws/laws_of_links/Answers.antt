use Rattle.node_shape.proofs.CarryLemmas.{answered_is_carried, asked_is_carried}
use Rattle.node_shape.proofs.FormLemmas.{carried-alike}
use Rattle.node_shape.proofs.shape_laws.laws_of_links.Goals as goal

pub returns : goal.returns
returns c = record { asked = asked_is_carried; answered = answered_is_carried; alike = carried-alike }
