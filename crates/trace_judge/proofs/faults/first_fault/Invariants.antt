-- The links so far are those below the number, and what they break first is kept.
use Rattle.std.proofs.Common.{◌≡◌, ℕ, List, length}
use Rattle.axi_history.specs.declared.port.PortRound.{PortRound}
use Rattle.trace_judge.specs.Entries.{EntryStands}
use Rattle.trace_judge.specs.Histories.{greatest_round}
use Rattle.trace_judge.specs.Table.{link_entry}
use Rattle.trace_judge.proofs.FaultLemmas.{broken_below}
use Rattle.trace_judge.proofs.faults.first_fault.Given as goal

abbrev pub invariant-loop-entry : goal.invariant-loop-entry
invariant-loop-entry l = record {
  can : (goal.iterator-loop-entry).can_next l.entry-iterator;
  finite : (goal.iterator-loop-entry).is_finite l.entry-iterator;
  count : l.link ≡ length l.yielded;
  first : (lines : List PortRound) → greatest_round lines ≡ l.last → ((link : ℕ) → EntryStands (link_entry l.fn.links.items link) lines link) → l.first ≡ broken_below lines l.link;
}
