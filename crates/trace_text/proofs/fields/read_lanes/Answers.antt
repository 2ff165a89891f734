use Rattle.std.proofs.Common.{◌≡◌, ℕ, ◌<◌, ◌+◌, ◌*◌, None, length, rules, arith, sym, subst}
use Rattle.trace_text.specs.Reading.{lanes_in}
use Rattle.trace_text.proofs.LanesLaws.{IsReading, IsReading-none, IsReading-more, IsReading-fails, IsReading-ends, lanes_in-other_length, bus_within}
use Rattle.trace_text.proofs.fields.read_lanes.Goals as goal

pub returns-then-word-from : goal.returns-then-word-from
returns-then-word-from c = sym (lanes_in-other_length c.args.bus c.args.word.now (search rules))

pub loop-lane-init : goal.loop-lane-init
loop-lane-init c = rw c.zero.ensures (IsReading-none c.args.word.now)

pub returns-in_err-byte : goal.returns-in_err-byte
returns-in_err-byte c =
    let inside : 2 * c.loop-lane.lane + 1 < length c.args.word.now = omega (arith, c.if-word-from.false, c.from.ensures) in
    let none : lanes_in c.args.bus c.args.word.now ≡ None = IsReading-fails c.args.word.now c.loop-lane.lane c.args.bus c.loop-lane.lanes c.loop-lane.invariant inside (search rules) in
    search (rules, sym none)

pub loop-lane-preserved : goal.loop-lane-preserved
loop-lane-preserved c =
    let inside : 2 * c.loop-lane.lane + 1 < length c.args.word.now = omega (arith, c.if-word-from.false, c.from.ensures) in
    let below : c.loop-lane.lane < 128 = omega (arith, bus_within c.args.bus c.requires) in
    rw c.set.ensures.byte (IsReading-more c.args.word.now c.loop-lane.lane c.loop-lane.lanes c.in_ok-byte.byte c.loop-lane.invariant below inside (search rules))

pub returns : goal.returns
returns c =
    let ended : c.loop-lane.lane ≡ c.args.bus = omega arith in
    let reading = subst (λ (n : ℕ). IsReading c.args.word.now n c.loop-lane.lanes) ended c.loop-lane.invariant in
    sym (IsReading-ends c.args.word.now c.args.bus c.loop-lane.lanes reading (bus_within c.args.bus c.requires) (omega (arith, c.if-word-from.false, c.from.ensures)))
