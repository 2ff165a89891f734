use Rattle.port_rules.proofs.LegalLemmas.{longest_legal, whole_beginning}
use Rattle.port_rules.proofs.UnansweredLemmas.{answers_follow}
use Rattle.port_rules.proofs.rule_laws.laws.Goals as goal

pub returns-clause-beginning : goal.returns-clause-beginning
returns-clause-beginning c = longest_legal

pub returns-clause-whole : goal.returns-clause-whole
returns-clause-whole c = whole_beginning

pub returns-clause-answers : goal.returns-clause-answers
returns-clause-answers c = answers_follow
