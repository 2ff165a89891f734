use Rattle.link_ports.proofs.ChannelFacts.{write_data_is_legal, write_addresses_are_legal, read_addresses_are_legal, write_responses_are_legal, read_data_is_legal}
use Rattle.link_ports.proofs.channel_laws.laws_of_channels.Goals as goal

pub returns-clause-aw : goal.returns-clause-aw
returns-clause-aw c = write_addresses_are_legal

pub returns-clause-ar : goal.returns-clause-ar
returns-clause-ar c = read_addresses_are_legal

pub returns-clause-w : goal.returns-clause-w
returns-clause-w c = write_data_is_legal

pub returns-clause-b : goal.returns-clause-b
returns-clause-b c = write_responses_are_legal

pub returns-clause-r : goal.returns-clause-r
returns-clause-r c = read_data_is_legal
