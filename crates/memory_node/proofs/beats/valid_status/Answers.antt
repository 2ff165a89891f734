use Rattle.std.proofs.Common.{◌∙◌, sym, ap}
use Rattle.memory_node.specs.Status.{read_status}
use Rattle.memory_node.proofs.BeatLemmas.{valid-beat}
use Rattle.memory_node.proofs.beats.valid_status.Goals as goal

pub returns : goal.returns
returns c =
    c.read_status.ensures
    ∙ ap (read_status c.args.area.now) c.requires.address
    ∙ sym (valid-beat c.args.area.now c.args.entry.now.request c.args.entry.now.put c.requires.area)
