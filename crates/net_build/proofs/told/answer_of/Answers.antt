use Rattle.std.proofs.Common.{◌<◌, ap, length, subst, sym, ◌∙◌}
use Rattle.manager_node.specs.ManagerState.{ManagerState, answer_of}
use Rattle.net_build.proofs.told.answer_of.Goals as goal
use Rattle.net_build.specs.Noted.{HasPlace, answer_by}
use Rattle.net_kinds.specs.NodeKind.{node_view}
use Rattle.net_kinds.specs.declared.node.Node.{Node}
use Rattle.node_core.specs.Acted.{Acted}

pub answer-requires : goal.answer-requires
answer-requires c =
    subst (λ (m : Acted ManagerState). c.args.place < length m.state.script) (sym c.deref.ensures)
    (subst (λ (n : Node). HasPlace (node_view n).state.kind (node_view n).state.state c.args.place) c.in-Manager.is c.requires)

pub returns-in-Manager : goal.returns-in-Manager
returns-in-Manager c =
    c.answer.ensures ∙ ap (λ (m : Acted ManagerState). answer_of m.state c.args.place) c.deref.ensures
    ∙ ap (λ (n : Node). answer_by (node_view n).state.kind (node_view n).state.state c.args.place) (sym c.in-Manager.is)
