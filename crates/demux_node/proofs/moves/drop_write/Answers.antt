use Rattle.std.proofs.Common.{◌∙◌, sym}
use Rattle.flight.proofs.EntryFacts.{remove-first_place}
use Rattle.demux_node.specs.DemuxTable.{id_of_write}
use Rattle.demux_node.proofs.MoveLemmas.{no_oldest}
use Rattle.demux_node.proofs.moves.drop_write.Goals as goal

pub returns-in-Some : goal.returns-in-Some
returns-in-Some c =
    c.take.ensures.rest ∙ remove-first_place id_of_write c.args.id c.args.writes.now c.in-Some.place (sym c.oldest.ensures.oldest ∙ c.in-Some.is)

pub returns-in_default : goal.returns-in_default
returns-in_default c = sym (no_oldest id_of_write c.args.id c.args.writes.now (sym c.oldest.ensures.oldest ∙ c.in_default.is))
