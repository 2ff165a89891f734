-- The transactions so far.
use Rattle.std.proofs.Common.{◌≡◌, take}
use Rattle.plan_traffic.specs.Scripts.{script_of}
use Rattle.plan_traffic.proofs.transactions.Traffic.script.Given as goal

abbrev pub invariant-loop-item : goal.invariant-loop-item
invariant-loop-item l = l.script ≡ script_of (take l.item-index l.self) l.manager
