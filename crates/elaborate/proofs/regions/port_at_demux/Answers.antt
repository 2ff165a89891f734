use Rattle.std.proofs.Common.{◌≡◌, ◌∙◌, ℕ, List, None, Some, ap, arith, length, sym}
use Rattle.address_map.specs.Regions.{serving_port}
use Rattle.address_map.specs.declared.region.Region.{Region}
use Rattle.node_graph.specs.Order.{place_in}
use Rattle.topology.specs.Document.{node_at}
use Rattle.topology.specs.Wiring.{regions_of}
use Rattle.elaborate.proofs.PathSteps.{served-none, served-some}
use Rattle.elaborate.proofs.Sizes.{small}
use Rattle.elaborate.proofs.regions.port_at_demux.Goals as goal

pub place_in-requires : goal.place_in-requires
place_in-requires c = omega (arith, ap length c.targets-targets.ensures, (small c.args.wiring.now c.requires.accepted c.args.document c.requires.inside).targets)

pub returns-in-Some : goal.returns-in-Some
returns-in-Some c =
    let served : serving_port (regions_of c.args.wiring.now (node_at c.args.wiring.now c.args.document)) c.args.addr ≡ Some c.in-Some.target =
    ap (λ (xs : List Region). serving_port xs c.args.addr) (sym c.regions.ensures) ∙ sym c.serving_port.ensures ∙ c.in-Some.is in
    c.place_in.ensures.place ∙ ap (λ (xs : List ℕ). place_in xs c.in-Some.target) c.targets-targets.ensures
    ∙ sym (served-some c.args.wiring.now (node_at c.args.wiring.now c.args.document) c.args.addr c.in-Some.target served)

pub returns-in-None : goal.returns-in-None
returns-in-None c =
    let served : serving_port (regions_of c.args.wiring.now (node_at c.args.wiring.now c.args.document)) c.args.addr ≡ None =
    ap (λ (xs : List Region). serving_port xs c.args.addr) (sym c.regions.ensures) ∙ sym c.serving_port.ensures ∙ c.in-None.is in
    c.target_count.ensures.count ∙ sym (served-none c.args.wiring.now (node_at c.args.wiring.now c.args.document) c.args.addr served)
