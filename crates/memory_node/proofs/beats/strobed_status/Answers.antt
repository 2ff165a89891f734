use Rattle.std.proofs.Common.{◌∙◌, sym, ap}
use Rattle.memory_node.specs.Status.{write_status}
use Rattle.memory_node.proofs.BeatLemmas.{strobed-beat}
use Rattle.memory_node.proofs.beats.strobed_status.Goals as goal

pub returns : goal.returns
returns c =
    c.write_status.ensures
    ∙ ap (write_status c.args.area.now) c.requires.address
    ∙ sym (strobed-beat c.args.area.now c.args.entry.now.request c.args.entry.now.taken c.requires.area c.args.beat.now c.if-beat-eq0.false c.requires.strobe)
