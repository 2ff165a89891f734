use Rattle.std.proofs.Common.{◌∙◌, sym}
use Rattle.demux_node.proofs.MoveLemmas.{no_open_port, open_port_at}
use Rattle.demux_node.proofs.rows.open_port.Goals as goal

pub returns-in-Some : goal.returns-in-Some
returns-in-Some c = sym (open_port_at c.get.result.now c.args.writes.now c.in-Some.place (sym c.oldest_open.ensures.place ∙ c.in-Some.is) c.get.ensures)

pub returns-in-None : goal.returns-in-None
returns-in-None c = sym (no_open_port c.args.writes.now (sym c.oldest_open.ensures.place ∙ c.in-None.is))
