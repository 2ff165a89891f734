use Rattle.axi_trail.proofs.ExampleFacts.{example_keeps_contracts}
use Rattle.axi_trail.proofs.contract_laws.example_of_contracts.Goals as goal

pub returns : goal.returns
returns c = example_keeps_contracts
