use Rattle.std.proofs.Common.{◌≡◌, ◌++◌, drop}
use Rattle.std.specs.Prelude.{filter_map}
use Rattle.toml.specs.View.{view}
use Rattle.topology_text.specs.Shape.{region_of}
use Rattle.topology_text.proofs.node.copy_regions.Given as goal

abbrev pub invariant-loop-value : goal.invariant-loop-value
invariant-loop-value l =
    l.regions.items ++ filter_map (λ value. region_of (view value)) (drop l.value-index l.values)
    ≡ filter_map (λ value. region_of (view value)) l.values
