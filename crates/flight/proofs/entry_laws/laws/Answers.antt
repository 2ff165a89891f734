use Rattle.flight.proofs.EntryFacts.{remove-first_place, of_key-no_place}
use Rattle.flight.proofs.entry_laws.laws.Goals as goal

pub returns : goal.returns
returns c = record {
  place = remove-first_place;
  absent = of_key-no_place;
}
