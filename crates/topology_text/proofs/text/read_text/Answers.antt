use Rattle.std.proofs.Common.{◌≡◌, Ok}
use Rattle.std.proofs.lemmas.Result.{IfOk-weaker}
use Rattle.toml.specs.View.{table_view}
use Rattle.topology_text.specs.Formed.{AreFormed}
use Rattle.topology_text.specs.Shape.{document_in}
use Rattle.topology_text.specs.Text.{or_bad_key}
use Rattle.topology_text.proofs.FormedLemmas.{document-formed}
use Rattle.topology_text.proofs.text.read_text.Goals as goal

pub returns-in-Ok-clause-formed : goal.returns-in-Ok-clause-formed
returns-in-Ok-clause-formed c =
    IfOk-weaker c.read_document.result (λ nodes. or_bad_key (document_in (table_view c.in-Ok.top)) ≡ Ok nodes.items) (λ nodes. AreFormed nodes.items)
    (λ nodes e. document-formed (table_view c.in-Ok.top) nodes.items e) c.read_document.ensures.nodes
