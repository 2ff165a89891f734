use Rattle.std.proofs.Common.{◌≡◌, ◌∙◌, ℕ, List, ap, ap₂, arith, length, map}
use Rattle.std.proofs.lemmas.Result.{IfOk-weaker}
use Rattle.std.proofs.lemmas.Simd.{map-map}
use Rattle.address_map.specs.declared.region.Region.{Region}
use Rattle.elaborate.proofs.Sizes.{small}
use Rattle.elaborate.specs.Path.{ported_regions}
use Rattle.net_build.proofs.ranges.ported_regions.Goals as goal
use Rattle.node_graph.specs.Order.{place_in}
use Rattle.topology.specs.Document.{named, node_at, targets_of}
use Rattle.topology.specs.Joined.{placed_region}

pub with_places-requires : goal.with_places-requires
with_places-requires c = omega (arith, ap length c.targets.ensures, (small c.args.wiring.now c.requires.accepted c.args.document c.requires.known).targets)

pub returns : goal.returns
returns c =
    let with_place : List ℕ → Region → Region = λ targets region. record region { port = place_in targets region.port } in
    IfOk-weaker c.with_places.result (λ placed. placed.items ≡ map (with_place c.targets.result.now) c.regions.result.now)
    (λ regions. regions.items ≡ ported_regions c.args.wiring.now (node_at c.args.wiring.now c.args.document))
    (λ placed are.
    are ∙ ap₂ (λ (targets : List ℕ) (regions : List Region). map (with_place targets) regions) c.targets.ensures c.regions.ensures
    ∙ map-map (with_place (targets_of c.args.wiring.now (node_at c.args.wiring.now c.args.document))) (placed_region (named c.args.wiring.now)) (node_at c.args.wiring.now c.args.document).region)
    c.with_places.ensures
