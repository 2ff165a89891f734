use Rattle.lite_rules.proofs.LiteTraceLemmas.{handshakes, addresses, write_data, responses, read_data}
use Rattle.lite_rules.proofs.known.known_lite_traces.Goals as goal

pub returns-clause-handshakes : goal.returns-clause-handshakes
returns-clause-handshakes c = handshakes

pub returns-clause-addresses : goal.returns-clause-addresses
returns-clause-addresses c = addresses

pub returns-clause-write_data : goal.returns-clause-write_data
returns-clause-write_data c = write_data

pub returns-clause-responses : goal.returns-clause-responses
returns-clause-responses c = responses

pub returns-clause-read_data : goal.returns-clause-read_data
returns-clause-read_data c = read_data
