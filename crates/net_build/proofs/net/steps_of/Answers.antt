use Rattle.std.proofs.Common.{◌≡◌, ◌∙◌, List, ap, arith, length, refl, subst, sym}
use Rattle.std.specs.Prelude.{All}
use Rattle.std.proofs.lemmas.List.{length-map}
use Rattle.std.proofs.lemmas.Result.{IfOk-weaker}
use Rattle.net_build.proofs.LinkLemmas.{have-depths, opening-long}
use Rattle.net_build.proofs.NetLemmas.{stands-new}
use Rattle.net_build.proofs.net.steps_of.Goals as goal
use Rattle.net_build.specs.Source.{IsSource}
use Rattle.net_build.specs.Stands.{IsOpened}
use Rattle.net_kinds.specs.NodeKind.{node_view}
use Rattle.net_opening.specs.Opening.{opening}
use Rattle.net_opening.specs.PlanLinks.{net_link_of}
use Rattle.net_steps.specs.NetView.{HasDepth, NetView, opened_net}
use Rattle.elaborate.proofs.Sizes.{links-few, parts-few}
use Rattle.elaborate.specs.Plan.{plan_links}
use Rattle.topology.specs.Document.{DocumentNode}
use Rattle.topology.specs.Refused.{IsAccepted}
use Rattle.topology_text.specs.Formed.{AreFormed}

pub net_nodes-requires : goal.net_nodes-requires
net_nodes-requires c =
    subst (λ (nodes : List DocumentNode). IsSource nodes c.args.traffic.now c.deref.result.now) (sym c.in_ok-linked.ensures) (record {
      accepted = subst IsAccepted c.wiring.ensures c.count.ensures.accepted;
      formed = subst AreFormed c.wiring.ensures c.count.ensures.formed;
      traffic = c.requires.traffic;
      sound = c.requires.sound;
      ends = c.deref.ensures.value ∙ c.in_ok-targets.ensures;
    })

pub new-requires-2-clause-few_nodes : goal.new-requires-2-clause-few_nodes
new-requires-2-clause-few_nodes c =
    omega (
      arith,
      length-map c.in_ok-nodes.nodes.items node_view,
      ap length (c.in_ok-nodes.ensures ∙ ap (λ (nodes : List DocumentNode). (opening nodes c.args.traffic.now).nodes) c.in_ok-linked.ensures),
      opening-long c.args.plan.now c.args.traffic.now,
      parts-few c.args.plan.now (subst IsAccepted c.wiring.ensures c.count.ensures.accepted),
    )

pub new-requires-2-clause-few_links : goal.new-requires-2-clause-few_links
new-requires-2-clause-few_links c =
    omega (
      arith,
      length-map (plan_links c.args.plan.now) net_link_of,
      ap length c.in_ok-links.ensures,
      links-few c.args.plan.now (subst IsAccepted c.wiring.ensures c.count.ensures.accepted),
    )

pub new-requires-2-clause-depths : goal.new-requires-2-clause-depths
new-requires-2-clause-depths c =
    subst (All HasDepth) (sym c.in_ok-links.ensures)
    (have-depths c.args.plan.now c.args.traffic.now (subst AreFormed c.wiring.ensures c.count.ensures.formed) c.requires.sound.wired)

pub returns : goal.returns
returns c =
    IfOk-weaker c.new-2.result (λ (net : NetView). net ≡ opened_net c.in_ok-nodes.nodes.items c.in_ok-links.links.items) (IsOpened c.args.plan.now c.args.traffic.now)
    (λ net made. subst (IsOpened c.args.plan.now c.args.traffic.now) (sym made) (record {
      stands_at = stands-new c.args.plan.now c.args.traffic.now c.in_ok-nodes.nodes.items c.in_ok-links.links.items
          (c.in_ok-nodes.ensures ∙ ap (λ (nodes : List DocumentNode). (opening nodes c.args.traffic.now).nodes) c.in_ok-linked.ensures) c.in_ok-links.ensures;
      rounds = refl;
      decided = refl;
    }))
    c.new-2.ensures
