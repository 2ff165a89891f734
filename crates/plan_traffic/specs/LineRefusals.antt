-- Why lines are refused.
use Rattle.std.specs.Prelude.{ℕ, ◌+◌, ◌-◌, ◌^◌, nat_lt, List, [], ◌∷◌, Option, None, Some, is_some, option_map, if◌then◌else◌}
use Rattle.axi_beats.specs.declared.beat.Addr.{Addr}
use Rattle.burst_address.specs.Legal.{broken_rule}
use Rattle.burst_address.specs.declared.rule.BurstRule.{BurstRule}
use Rattle.burst_address.specs.declared.rule.BurstRule.TheVariants.{Size, Length, WrapAlign, Page}
use Rattle.refusals.specs.Refusal.{refused_at, refused_burst}
use Rattle.refusals.specs.declared.cause.Cause.TheVariants.{BadLine, UnknownManager, BadId}
use Rattle.refusals.specs.declared.refusal.Refusal.{Refusal}
use Rattle.plan_traffic.specs.Line.{Access, Line, Passed, Waits, Asks, line_said}
use Rattle.plan_traffic.specs.Ports.{named_manager}
use Rattle.topology_text.specs.Document.{DocumentNode}

-- the request for a burst; one of over 256 beats, whose `len` is no byte, is of no legal length
abbrev pub request_said : Access → Addr
request_said access = record {
  id = access.start.id;
  addr = access.start.addr;
  len = access.beats - 1;
  size = access.start.size;
  burst = access.start.burst;
  tag = record { txn = 0; low = 0; high = 0 };
}

-- the numbers of the rules that a burst can break
abbrev pub rule_number : BurstRule → ℕ
rule_number Size = 1
rule_number Length = 2
rule_number WrapAlign = 3
rule_number Page = 4

-- why a burst is refused, where line `number` asks it of this manager
abbrev pub burst_refusal : ℕ → Access → Option DocumentNode → Option Refusal
burst_refusal number access None = Some (refused_at UnknownManager number)
burst_refusal number access (Some manager) =
    if nat_lt access.start.id (2 ^ manager.id_width)
    then option_map (λ rule. refused_burst number (rule_number rule)) (broken_rule (request_said access) manager.bus)
    else Some (refused_at BadId number)

-- why line `number` is refused, given what it says
abbrev pub refusal_by : List DocumentNode → ℕ → Option Line → Option Refusal
refusal_by nodes number None = Some (refused_at BadLine number)
refusal_by nodes number (Some Passed) = None
refusal_by nodes number (Some (Waits name)) = if is_some (named_manager nodes name) then None else Some (refused_at UnknownManager number)
refusal_by nodes number (Some (Asks access)) = burst_refusal number access (named_manager nodes access.start.manager)

-- why line `number` is refused
abbrev pub line_refusal : List DocumentNode → ℕ → List ℕ → Option Refusal
line_refusal nodes number line = refusal_by nodes number (line_said line)

-- the one with the lesser code, and of two with one code the first
abbrev pub lesser : Refusal → Refusal → Refusal
lesser first other = if nat_lt other.code first.code then other else first

-- the same of refusals that may be missing
abbrev pub lesser_of : Option Refusal → Option Refusal → Option Refusal
lesser_of None other = other
lesser_of (Some first) None = Some first
lesser_of (Some first) (Some other) = Some (lesser first other)

-- of the refusals of all lines, where the first line has this number, the one with the least code, and of those with
-- one code the first
abbrev pub least_refusal : List DocumentNode → ℕ → List (List ℕ) → Option Refusal
least_refusal nodes number [] = None
least_refusal nodes number (line ∷ more) = lesser_of (line_refusal nodes number line) (least_refusal nodes (number + 1) more)
