use Rattle.up_node.proofs.ShiftLemmas.{strobe-moved}
use Rattle.up_node.proofs.beats.widened_strobe.Goals as goal

pub returns : goal.returns
returns c = strobe-moved c.args.strobe c.args.narrow c.args.shift c.requires.narrow c.requires.within
