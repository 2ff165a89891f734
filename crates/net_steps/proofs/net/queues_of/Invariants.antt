use Rattle.std.proofs.Common.{◌≡◌, map, take}
use Rattle.axi_link.specs.LinkView.{empty_link}
use Rattle.net_model.specs.declared.net_link.NetLink.{NetLink}
use Rattle.net_steps.proofs.net.queues_of.Given as goal

-- a queue for each link before this one
abbrev pub invariant-loop-link : goal.invariant-loop-link
invariant-loop-link l = l.queues.items ≡ map (λ (link : NetLink). empty_link link.depth) (take l.link-index l.links)
