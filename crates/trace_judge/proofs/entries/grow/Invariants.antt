-- Places without a link are added up to the one that is wanted.
use Rattle.std.proofs.Common.{◌≡◌, ◌≤◌, ◌+◌, ◌-◌, ℕ, length, max}
use Rattle.trace_judge.specs.Table.{link_entry}
use Rattle.trace_judge.proofs.entries.grow.Given as goal

abbrev pub invariant-loop-links : goal.invariant-loop-links
invariant-loop-links l = record {
  least : length l.initial.links.items ≤ length l.links.items;
  most : length l.links.items ≤ max (length l.initial.links.items) (l.link + 1);
  entries : (k : ℕ) → link_entry l.links.items k ≡ link_entry l.initial.links.items k;
}

abbrev pub decreases-loop-links : goal.decreases-loop-links
decreases-loop-links l = l.link + 1 - length l.links.items
