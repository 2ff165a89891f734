use Rattle.remap_node.proofs.LocalLemmas.{remap-awaits_data, remap-entries_stay, remap-takes_addresses, remap-takes_answers}
use Rattle.remap_node.proofs.remap_laws.local_laws.Goals as goal

pub returns : goal.returns
returns c = record {
  answers_taken = remap-takes_answers (Unit {0});
  addresses_taken = remap-takes_addresses (Unit {0});
  data_awaited = remap-awaits_data (Unit {0});
  entries_stay = remap-entries_stay (Unit {0});
}
