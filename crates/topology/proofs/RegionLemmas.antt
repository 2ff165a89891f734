-- Regions of nodes, and their targets.
use Rattle.std.proofs.Common.{◌≡◌, ◌<◌, ◌||◌, ℕ, Bool, true, false, List, [], ◌∷◌, None, length, map, refl, ap, ap₂, ◌∙◌}
use Rattle.std.specs.Prelude.{find, unwrap_or}
use Rattle.std.specs.List.{list_any}
use Rattle.address_map.specs.Regions.{has_overlap, is_bad_region, is_bad_span, share_address}
use Rattle.address_map.specs.declared.region.Region.{Region}
use Rattle.topology.specs.Document.{DocumentNode, NamedRegion, named, node_at}
use Rattle.topology.specs.Refused.{has_bad_region, regions_overlap, span_of}
use Rattle.topology.specs.Wiring.{regions_of}
use Rattle.node_graph.proofs.Members.{numbers-in}
use Rattle.node_graph.specs.Graph.{numbers}
use Rattle.topology.proofs.AcceptedFacts.{find-none}

module _ (port : NamedRegion → ℕ) where
  abbrev placed : NamedRegion → Region
  placed region = record { base = region.base; size = region.size; port = port region }

  pub bad-placed : (regions : List NamedRegion) → list_any is_bad_region (map placed regions) ≡ list_any (λ (region : NamedRegion). is_bad_span region.base region.size) regions
  bad-placed [] = refl
  bad-placed (region ∷ regions) = ap (λ (rest : Bool). is_bad_span region.base region.size || rest) (bad-placed regions)

  shares-placed : (one : NamedRegion) (regions : List NamedRegion) → list_any (share_address (placed one)) (map placed regions) ≡ list_any (share_address (span_of one)) (map span_of regions)
  shares-placed one [] = refl
  shares-placed one (region ∷ regions) = ap (λ (rest : Bool). share_address (span_of one) (span_of region) || rest) (shares-placed one regions)

  pub overlap-placed : (regions : List NamedRegion) → has_overlap (map placed regions) ≡ has_overlap (map span_of regions)
  overlap-placed [] = refl
  overlap-placed (region ∷ regions) = ap₂ (λ (a b : Bool). a || b) (shares-placed region regions) (overlap-placed regions)

-- ---- the regions of a node

or-left : (a b : Bool) → (a || b) ≡ false → a ≡ false
or-left true b e = absurd cc
or-left false b e = refl

pub overlap-known : (nodes : List DocumentNode) (place : ℕ) (regions : List Region) → regions ≡ regions_of nodes (node_at nodes place) → has_overlap regions ≡ regions_overlap nodes place
overlap-known nodes place regions are = ap has_overlap are ∙ overlap-placed (λ region. unwrap_or (named nodes region.to) 0) (node_at nodes place).region

pub good-known : (nodes : List DocumentNode) (place : ℕ) (regions : List Region) → place < length nodes → find (has_bad_region nodes) (numbers (length nodes)) ≡ None → regions ≡ regions_of nodes (node_at nodes place) →
    list_any is_bad_region regions ≡ false
good-known nodes place regions less none are =
    let good : has_bad_region nodes place ≡ false = find-none (has_bad_region nodes) (numbers (length nodes)) none place (numbers-in (length nodes) place less) in
    ap (list_any is_bad_region) are ∙ bad-placed (λ region. unwrap_or (named nodes region.to) 0) (node_at nodes place).region ∙ first good
  where
    bad : Bool
    bad = list_any (λ (region : NamedRegion). is_bad_span region.base region.size) (node_at nodes place).region

    first : has_bad_region nodes place ≡ false → bad ≡ false
    first e = by bad refl
      where
        by : (b : Bool) → bad ≡ b → bad ≡ false
        by true f = absurd cc
        by false f = f
