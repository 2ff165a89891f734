use Rattle.std.proofs.Common.{◌∙◌, sym, ap, Some, map, option_map}
use Rattle.toml.specs.View.{view}
use Rattle.topology_text.specs.Shape.{elements}
use Rattle.topology_text.proofs.ValueLemmas.{elements-items_of}
use Rattle.topology_text.proofs.value.elements.Goals as goal

pub returns : goal.returns
returns c =
    rw c.as_slice.ensures.value
    (ap Some (sym (elements-items_of (map view c.in_ok-array.array.now.items)))
    ∙ ap (option_map elements) c.in_ok-array.ensures)
