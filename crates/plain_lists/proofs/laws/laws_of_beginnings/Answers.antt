use Rattle.plain_lists.proofs.PrefixLemmas.{agree_prefix, prefix_agree, Agree_fronts}
use Rattle.plain_lists.proofs.RoundLemmas.{over-through}
use Rattle.plain_lists.proofs.laws.laws_of_beginnings.Goals as goal

pub returns : goal.returns
returns c = record {
  agreeing = agree_prefix;
  agree = λ xs ys us vs. (λ p. prefix_agree p, λ p q agree. Agree_fronts p q agree);
  rounds = over-through;
}
