use Rattle.std.proofs.Common.{◌≡◌, ◌≤◌, ◌<◌, ◌-◌, ℕ, List, Some, length, sym, ap, ap₂, subst, ◌∙◌}
use Rattle.std.specs.Prelude.{slice_get}
use Rattle.std.specs.Option.{option_map}
use Rattle.axi_program.proofs.LineLemmas.{manager-is, manager-known, node_name-short}
use Rattle.plan_traffic.specs.Traffic.{TrafficItem}
use Rattle.topology_text.specs.Document.{DocumentNode, node_at}
use Rattle.axi_program.proofs.run.manager_name.Goals as goal

-- the manager as it is found in the traffic of the network
manager-in : (items own : List TrafficItem) (place manager : ℕ) → own ≡ items → option_map (λ (item : TrafficItem). item.manager) (slice_get own place) ≡ Some manager →
    option_map (λ (item : TrafficItem). item.manager) (slice_get items place) ≡ Some manager
manager-in items own place manager same is = ap (λ (xs : List TrafficItem). option_map (λ (item : TrafficItem). item.manager) (slice_get xs place)) (sym same) ∙ is

pub name-requires : goal.name-requires
name-requires c =
    let is = manager-in c.args.net.now.items c.traffic.result.now (c.args.number - 1) c.manager.result c.traffic.ensures.items c.manager.ensures in
    let known = manager-known c.args.net.now.items (c.args.number - 1) c.manager.result is c.args.net.now.nodes c.traffic.ensures.suits.suit in
    subst (λ (nodes : List DocumentNode). c.manager.result < length nodes) (sym (c.wiring-wiring.ensures ∙ c.plan.ensures)) known

pub returns-clause-name : goal.returns-clause-name
returns-clause-name c =
    let is = manager-in c.args.net.now.items c.traffic.result.now (c.args.number - 1) c.manager.result c.traffic.ensures.items c.manager.ensures in
    c.name.ensures
    ∙ ap₂ (λ (nodes : List DocumentNode) (n : ℕ). (node_at nodes n).name) (c.wiring-wiring.ensures ∙ c.plan.ensures) (sym (manager-is c.args.net.now.items (c.args.number - 1) c.manager.result is))

pub returns-clause-short : goal.returns-clause-short
returns-clause-short c =
    let is = manager-in c.args.net.now.items c.traffic.result.now (c.args.number - 1) c.manager.result c.traffic.ensures.items c.manager.ensures in
    let known = manager-known c.args.net.now.items (c.args.number - 1) c.manager.result is c.args.net.now.nodes c.traffic.ensures.suits.suit in
    let within = subst (λ (nodes : List DocumentNode). c.manager.result < length nodes) (sym (c.wiring-wiring.ensures ∙ c.plan.ensures)) known in
    subst (λ (name : List ℕ). length name ≤ 32) (sym c.name.ensures) (node_name-short c.wiring-wiring.result.now c.manager.result c.count.ensures.formed within)
