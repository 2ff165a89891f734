use Rattle.manager_node.proofs.DataLaws.{data-strobes_valid_lanes, data-strobes_within, data-writes_its_bytes}
use Rattle.manager_node.proofs.manager_laws.laws_of_bursts.Goals as goal

pub returns-clause-bytes : goal.returns-clause-bytes
returns-clause-bytes c = data-writes_its_bytes

pub returns-clause-strobes : goal.returns-clause-strobes
returns-clause-strobes c = data-strobes_within

pub returns-clause-valid : goal.returns-clause-valid
returns-clause-valid c = data-strobes_valid_lanes
