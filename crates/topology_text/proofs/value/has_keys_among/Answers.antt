use Rattle.std.proofs.Common.{◌∙◌}
use Rattle.topology_text.proofs.ValueLemmas.{keys-among}
use Rattle.topology_text.proofs.value.has_keys_among.Goals as goal

pub returns : goal.returns
returns c = c.keys_are_among.ensures ∙ keys-among c.args.names.now c.args.table.now.entries
