use Rattle.demux_node.proofs.LocalLemmas.{demux-awaits_data, demux-entries_stay, demux-takes_addresses, demux-takes_answers}
use Rattle.demux_node.proofs.demux_laws.local_laws.Goals as goal

pub returns : goal.returns
returns c = record {
  answers_taken = demux-takes_answers (Unit {0});
  addresses_taken = demux-takes_addresses (Unit {0});
  data_awaited = demux-awaits_data (Unit {0});
  entries_stay = demux-entries_stay (Unit {0});
}
