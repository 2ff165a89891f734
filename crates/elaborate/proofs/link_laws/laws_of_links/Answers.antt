use Rattle.elaborate.proofs.LinkFacts.{links-are_carried_on, managers-begin_links}
use Rattle.elaborate.proofs.MuxFacts.{muxes-have_few_inputs}
use Rattle.elaborate.proofs.link_laws.laws_of_links.Goals as goal

pub returns-clause-carried : goal.returns-clause-carried
returns-clause-carried c = links-are_carried_on

pub returns-clause-begins : goal.returns-clause-begins
returns-clause-begins c = managers-begin_links

pub returns-clause-few : goal.returns-clause-few
returns-clause-few c = muxes-have_few_inputs
