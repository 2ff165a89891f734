-- All channels together, and all rounds.
use Rattle.std.proofs.Common.{zero, suc, List, refl, ◌∙◌}
use Rattle.axi_history.specs.declared.port.PortRound.{PortRound}
use Rattle.axi_history.specs.PortRules.{write_address_rules, write_data_rules, write_response_rules, read_address_rules, read_data_rules}
use Rattle.axi_history.proofs.HistoryLemmas.{channels_kept, fault_anew}
use Rattle.link_ports.specs.PortLaws.{RoundsAreLegal, LinksAreLegal}
use Rattle.link_ports.specs.PortView.{port_round, port_history}
use Rattle.link_ports.proofs.ChannelFacts.{write_addresses_are_legal, write_data_is_legal, write_responses_are_legal, read_addresses_are_legal, read_data_is_legal}

pub rounds_are_legal : RoundsAreLegal
rounds_are_legal schedule now number kind links uppers lowers run legal n asks answers =
    let earlier : List PortRound = port_history number kind links uppers lowers n in
    let next : PortRound = port_round number kind links uppers lowers n in
    channels_kept (write_address_rules kind.bus earlier next) (write_data_rules kind.bus earlier next) (write_response_rules earlier next) (read_address_rules kind.bus earlier next) (read_data_rules earlier next)
    (write_addresses_are_legal schedule now number kind links uppers lowers run legal n asks)
    (write_data_is_legal schedule now number kind links uppers lowers run legal n asks)
    (write_responses_are_legal schedule now number kind links uppers lowers run n answers)
    (read_addresses_are_legal schedule now number kind links uppers lowers run legal n asks)
    (read_data_is_legal schedule now number kind links uppers lowers run n answers)

pub links_are_legal : LinksAreLegal
links_are_legal schedule now number kind links uppers lowers run legal asks answers zero = refl
links_are_legal schedule now number kind links uppers lowers run legal asks answers (suc n) =
    fault_anew kind.bus (port_history number kind links uppers lowers n) (port_round number kind links uppers lowers n)
    (links_are_legal schedule now number kind links uppers lowers run legal asks answers n)
    ∙ rounds_are_legal schedule (now n) number kind links uppers lowers run legal n (asks n) (answers n)
