use Rattle.mux_node.proofs.LocalLemmas.{mux-awaits_data, mux-entries_stay, mux-takes_addresses, mux-takes_answers}
use Rattle.mux_node.proofs.mux_laws.local_laws.Goals as goal

pub returns : goal.returns
returns c = record {
  answers_taken = mux-takes_answers (Unit {0});
  addresses_taken = mux-takes_addresses (Unit {0});
  data_awaited = mux-awaits_data (Unit {0});
  entries_stay = mux-entries_stay (Unit {0});
}
