use Rattle.lite_rules.proofs.LawLemmas.{words_lite}
use Rattle.lite_rules.proofs.rule_laws.words_are_lite.Goals as goal

pub returns : goal.returns
returns c = words_lite
