use Rattle.burst_cuts.proofs.ByteLemmas.{parts-are_as_many_as_beats, parts-have_its_bytes, parts-have_its_lanes, parts-write_its_bytes}
use Rattle.burst_cuts.proofs.LegalLemmas.{part-legal, part-page, part-small}
use Rattle.burst_cuts.proofs.part_laws.laws_of_parts.Goals as goal

pub returns : goal.returns
returns c = record {
  legal = part-legal;
  page = part-page;
  small = part-small;
  many = parts-are_as_many_as_beats;
  lanes = parts-have_its_lanes;
  bytes = parts-have_its_bytes;
  written = parts-write_its_bytes;
}
