use Rattle.std.proofs.Common.{◌≡◌, ◌∙◌, ap, ap₂, sym}
use Rattle.std.specs.Prelude.{slice_get}
use Rattle.elaborate.specs.Path.{port_by_part}
use Rattle.elaborate.specs.Plan.{PlanNode}
use Rattle.elaborate.proofs.PathFacts.{onward}
use Rattle.elaborate.proofs.PathSteps.{next-at, next-known}
use Rattle.elaborate.proofs.plan.Plan.next.Goals as goal

is-next : (c : goal.After-at_port) → c.at_port.result ≡ onward c.args.self.now c.args.addr c.args.node
is-next c =
    c.at_port.ensures
    ∙ ap₂ slice_get (c.lower.ensures ∙ ap (λ (x : PlanNode). x.lower) c.node.ensures)
    (c.port-port.ensures ∙ ap₂ (port_by_part c.args.self.now c.args.addr) c.document-document.ensures.document c.part-part.ensures)
    ∙ sym (next-at c.args.self.now c.args.addr c.args.node c.requires)

pub returns-clause-next : goal.returns-clause-next
returns-clause-next c = is-next c

pub returns-clause-known : goal.returns-clause-known
returns-clause-known c = next-known c.args.self.now c.args.addr c.args.node c.at_port.result (is-next c)
