-- In every round of a network that can be run its nodes may decide, and then its links can move.
use Rattle.std.proofs.Common.{◌≡◌, ◌<◌, ◌+◌, ℕ, suc, List, ap, length, map, refl, sym, subst, arith, ◌∙◌}
use Rattle.std.specs.Prelude.{All}
use Rattle.std.proofs.lemmas.List.{length-map}
use Rattle.axi_link.specs.LinkWords.{link_of}
use Rattle.net_kinds.specs.NodeHolds.{node_holds}
use Rattle.net_kinds.specs.NodeKind.{NodeState, node_kind, node_view}
use Rattle.net_model.specs.Network.{CanMoveQueue, Network, after_rounds, lower_node, node_next, upper_node}
use Rattle.net_model.specs.Wired.{lowers_at, uppers_at}
use Rattle.net_model.specs.declared.net_link.NetLink.{NetLink}
use Rattle.net_runs.proofs.RoundLemmas.{links-stay, lowers-stay, queues-long, uppers-stay}
use Rattle.net_steps.proofs.PhaseLemmas.{nodes-decided}
use Rattle.net_steps.specs.NetView.{AreJoined, NetView, SoundNetsCommit, SoundNetsDecide, network_of}
use Rattle.net_ways.specs.Sound.{IsSound}
use Rattle.node_shape.specs.LinkForm.{LinkForm}
use Rattle.plain_lists.proofs.NumberedLemmas.{all_numbered-at}
use Rattle.net_ways.proofs.SoundLemmas.{sound-runs_go_on}
use Rattle.node_core.specs.Acted.{Acted}
use Rattle.plain_lists.specs.Numbered.{AllNumbered}

-- a network is joined as it was when it was wired
sound-is_joined :
    (opening : Network NodeState) (forms : ℕ → LinkForm) → IsSound node_kind opening forms → (net : NetView) →
    network_of net ≡ after_rounds node_kind net.rounds opening → AreJoined net
sound-is_joined opening forms sound net stands =
    let after = after_rounds node_kind net.rounds opening in
    let on = sound-runs_go_on node_kind node_holds opening forms sound net.rounds in
    let links : net.links ≡ opening.links = ap (λ (m : Network NodeState). m.links) stands ∙ links-stay node_kind opening net.rounds in
    let queues : net.queues ≡ after.queues = ap (λ (m : Network NodeState). m.queues) stands in
    let nodes : map node_view net.nodes ≡ after.nodes = ap (λ (m : Network NodeState). m.nodes) stands in
    let many : length net.queues ≡ length opening.queues = ap length queues ∙ queues-long node_kind opening net.rounds in
    let long : length net.queues ≡ length net.links = many ∙ sound.wired.long ∙ sym (ap length links) in
    let count : length after.nodes ≡ length net.nodes = sym (ap length nodes) ∙ length-map net.nodes node_view in
    record {
      long = long;
      ends = λ link within.
          let here : link < length after.queues = subst (λ (n : ℕ). link < n) (ap length queues) within in
          let can = all_numbered-at (CanMoveQueue opening.links (map (node_next node_kind (suc net.rounds) after.queues) after.nodes)) 0 after.queues link (link_of after.queues link) here on.commit in
          let far : length (map (node_next node_kind (suc net.rounds) after.queues) after.nodes) ≡ length net.nodes = length-map after.nodes _ ∙ count in
          let plain : 0 + link ≡ link = omega arith in
          record {
            upper =
                subst (λ (ls : List NetLink). upper_node ls link < length net.nodes) (sym links)
                (subst (λ (n : ℕ). upper_node opening.links link < n) far (subst (λ (l : ℕ). upper_node opening.links l < length (map (node_next node_kind (suc net.rounds) after.queues) after.nodes)) plain can.upper));
            lower =
                subst (λ (ls : List NetLink). lower_node ls link < length net.nodes) (sym links)
                (subst (λ (n : ℕ). lower_node opening.links link < n) far (subst (λ (l : ℕ). lower_node opening.links l < length (map (node_next node_kind (suc net.rounds) after.queues) after.nodes)) plain can.lower));
          };
      uppers = λ node.
          subst (λ (ls : List NetLink). All (λ link. (link < length ls) × (lower_node ls link ≡ node)) (uppers_at node_kind (map node_view net.nodes) node)) (sym links)
          (subst (λ (ns : List (Acted NodeState)). All (λ link. (link < length opening.links) × (lower_node opening.links link ≡ node)) (uppers_at node_kind ns node)) (sym nodes)
          (subst (λ (ls : List ℕ). All (λ link. (link < length opening.links) × (lower_node opening.links link ≡ node)) ls)
          (sym (uppers-stay node_kind node_holds opening net.rounds node)) (sound.wired.uppers node)));
      lowers = λ node.
          subst (λ (ls : List NetLink). All (λ link. (link < length ls) × (upper_node ls link ≡ node)) (lowers_at node_kind (map node_view net.nodes) node)) (sym links)
          (subst (λ (ns : List (Acted NodeState)). All (λ link. (link < length opening.links) × (upper_node opening.links link ≡ node)) (lowers_at node_kind ns node)) (sym nodes)
          (subst (λ (ls : List ℕ). All (λ link. (link < length opening.links) × (upper_node opening.links link ≡ node)) ls)
          (sym (lowers-stay node_kind node_holds opening net.rounds node)) (sound.wired.lowers node)));
    }

pub sound-nets_decide : SoundNetsDecide
sound-nets_decide opening forms sound net undecided room stands =
    let on = sound-runs_go_on node_kind node_holds opening forms sound net.rounds in
    let next : suc net.rounds ≡ net.rounds + 1 = omega arith in
    record {
      undecided = undecided;
      room = room;
      nodes =
          subst (λ (round : ℕ). All (λ (a : Acted NodeState). node_kind.can round net.queues a.state) (map node_view net.nodes)) next
          (subst (λ (m : Network NodeState). All (λ (a : Acted NodeState). node_kind.can (suc net.rounds) m.queues a.state) m.nodes) (sym stands) on.decide);
      joined = sound-is_joined opening forms sound net stands;
    }

pub sound-nets_commit : SoundNetsCommit
sound-nets_commit opening forms sound net stands =
    let on = sound-runs_go_on node_kind node_holds opening forms sound net.rounds in
    let next : suc net.rounds ≡ net.rounds + 1 = omega arith in
    let after = after_rounds node_kind net.rounds opening in
    let own = subst (λ (links : List NetLink). AllNumbered (CanMoveQueue links (map (node_next node_kind (suc net.rounds) after.queues) after.nodes)) 0 after.queues)
    (sym (links-stay node_kind opening net.rounds)) on.commit in
    let here = subst (λ (m : Network NodeState). AllNumbered (CanMoveQueue m.links (map (node_next node_kind (suc net.rounds) m.queues) m.nodes)) 0 m.queues) (sym stands) own in
    record {
      decided = refl;
      queues =
          subst (λ (nodes : List (Acted NodeState)). AllNumbered (CanMoveQueue net.links nodes) 0 net.queues) (sym (nodes-decided (net.rounds + 1) net.queues net.nodes))
          (subst (λ (round : ℕ). AllNumbered (CanMoveQueue net.links (map (node_next node_kind round net.queues) (map node_view net.nodes))) 0 net.queues) next here);
    }
