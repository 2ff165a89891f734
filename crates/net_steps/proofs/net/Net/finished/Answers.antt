use Rattle.std.proofs.Common.{◌==◌, ℕ, ap, ◌∙◌}
use Rattle.net_kinds.specs.NodeKind.{node_kind}
use Rattle.net_model.specs.Network.{is_finished}
use Rattle.net_steps.proofs.PhaseLemmas.{none-unfinished}
use Rattle.net_steps.proofs.net.Net.finished.Goals as goal
use Rattle.net_steps.specs.NetView.{NetView, network_of}

pub returns : goal.returns
returns c =
    ap (λ (n : ℕ). n == 0) c.self.invariant.unfinished ∙ none-unfinished c.self.inside.nodes.items ∙ ap (λ (v : NetView). is_finished node_kind (network_of v)) c.self.view_is
