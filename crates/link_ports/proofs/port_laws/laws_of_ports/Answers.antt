use Rattle.link_ports.proofs.PortFacts.{rounds_are_legal, links_are_legal}
use Rattle.link_ports.proofs.WordFacts.{links_keep_their_rules, words_are_shown}
use Rattle.link_ports.proofs.port_laws.laws_of_ports.Goals as goal

pub returns : goal.returns
returns c = record {
  round = rounds_are_legal;
  history = links_are_legal;
  words = words_are_shown;
  kinds = links_keep_their_rules;
}
