use Rattle.address_map.proofs.ApartLemmas.{at_most_one, apart-of_one}
use Rattle.address_map.proofs.PairLemmas.{overlap-of_pair}
use Rattle.address_map.proofs.PortLemmas.{port-of_holder, page-port}
use Rattle.address_map.proofs.map_laws.laws.Goals as goal

pub returns-clause-apart : goal.returns-clause-apart
returns-clause-apart c = λ regions. (λ apart address. at_most_one regions address apart, apart-of_one regions)

pub returns-clause-pair : goal.returns-clause-pair
returns-clause-pair c = λ regions first second o. overlap-of_pair regions first second o.ordered o.shared

pub returns-clause-holder : goal.returns-clause-holder
returns-clause-holder c = port-of_holder

pub returns-clause-page : goal.returns-clause-page
returns-clause-page c = page-port
