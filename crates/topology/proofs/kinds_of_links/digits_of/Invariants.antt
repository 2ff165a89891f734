use Rattle.std.proofs.Common.{◌≡◌, ◌≤◌, ◌+◌, ◌-◌}
use Rattle.topology.specs.Document.{digits_up_to}
use Rattle.topology.proofs.kinds_of_links.digits_of.Given as goal

abbrev pub invariant-loop-digit : goal.invariant-loop-digit
invariant-loop-digit l = (l.digits ≤ l._digit) × (l.digits + digits_up_to (32 - l._digit) l.rest ≡ digits_up_to 32 l.number)
