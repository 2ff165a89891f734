use Rattle.axi_trail.proofs.WholeFacts.{answered_after_data, bytes_of_one_more, none_lacks_data, oldest_has_its_data}
use Rattle.axi_trail.proofs.data_laws.laws_of_data.Goals as goal

pub returns : goal.returns
returns c = record { oldest = oldest_has_its_data; after = answered_after_data; none = none_lacks_data; bytes = bytes_of_one_more }
