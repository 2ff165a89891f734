use Rattle.link_ports.proofs.ExampleFacts.{example_port, hasty_port, example_keeps_contracts, port_with_ids, word_schedule_is_legal}
use Rattle.link_ports.proofs.port_laws.example_of_ports.Goals as goal

pub returns : goal.returns
returns c = record { port = example_port; hasty = hasty_port; contracts = example_keeps_contracts; ids = port_with_ids; words = word_schedule_is_legal }
