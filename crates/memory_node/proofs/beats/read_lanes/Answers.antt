use Rattle.std.proofs.Common.{◌≡◌, ◌+◌, ◌-◌, ◌∙◌, ℕ, false, true, sym, ap, arith}
use Rattle.std.proofs.lemmas.Nat.{div-add-mod'}
use Rattle.axi_beats.specs.declared.beat.Addr.{Addr}
use Rattle.burst_address.proofs.LaneBytes.{lanes-ordered}
use Rattle.burst_address.specs.Formulas.{beat_at}
use Rattle.burst_address.specs.Lanes.{first_lane, lane_count, last_lane, word_address}
use Rattle.memory_node.specs.MemoryArea.{MemoryArea}
use Rattle.memory_node.specs.Status.{is_okay, may_read}
use Rattle.memory_node.specs.Store.{lanes_between}
use Rattle.memory_node.proofs.BeatLemmas.{answered-okay, answered-refused}
use Rattle.memory_node.proofs.beats.read_lanes.Goals as goal

pub returns-then-not-is_okay : goal.returns-then-not-is_okay
returns-then-not-is_okay c =
    let area : MemoryArea = c.args.area.now in
    let bad : may_read area (beat_at c.args.entry.now.request c.args.entry.now.put) ≡ false =
    sym (ap (may_read area) c.requires.address) ∙ sym (ap is_okay c.read_status.ensures) ∙ sym c.is_okay.ensures ∙ c.if-not-is_okay.true in
    c.zero.ensures ∙ sym (answered-refused area c.args.entry.now.request c.args.entry.now.put c.requires.area c.args.store.now bad)

pub read_word-requires-clause-order : goal.read_word-requires-clause-order
read_word-requires-clause-order c =
    let ordered = lanes-ordered c.args.entry.now.request c.args.entry.now.put c.args.area.now.bus c.requires.area.bus c.requires.entry.request.legal in
    let low : c.lanes-low.result.0 ≡ first_lane c.args.entry.now.request c.args.entry.now.put c.args.area.now.bus =
    c.lanes-low.ensures.lower ∙ ap (λ n. first_lane c.args.entry.now.request n c.bus.result) c.from.ensures ∙ ap (first_lane c.args.entry.now.request c.args.entry.now.put) c.bus.ensures in
    let high : c.lanes-low.result.1 ≡ last_lane c.args.entry.now.request c.args.entry.now.put c.args.area.now.bus =
    c.lanes-low.ensures.upper ∙ ap (λ n. last_lane c.args.entry.now.request n c.bus.result) c.from.ensures ∙ ap (last_lane c.args.entry.now.request c.args.entry.now.put) c.bus.ensures in
    omega (arith, ordered, low, high)

pub returns : goal.returns
returns c =
    let area : MemoryArea = c.args.area.now in
    let request : Addr = c.args.entry.now.request in
    let n : ℕ = c.args.entry.now.put in
    let bus : ℕ = c.args.area.now.bus in
    let low : c.lanes-low.result.0 ≡ first_lane request n bus =
    c.lanes-low.ensures.lower ∙ ap (λ k. first_lane request k c.bus.result) c.from.ensures ∙ ap (first_lane request n) c.bus.ensures in
    let high : c.lanes-low.result.1 ≡ last_lane request n bus =
    c.lanes-low.ensures.upper ∙ ap (λ k. last_lane request k c.bus.result) c.from.ensures ∙ ap (last_lane request n) c.bus.ensures in
    let ordered = lanes-ordered request n bus c.requires.area.bus c.requires.entry.request.legal in
    let split : word_address request n bus + first_lane request n bus ≡ beat_at request n = div-add-mod' (beat_at request n) bus in
    let word : c.args.address - c.lanes-low.result.0 ≡ word_address request n bus = omega (arith, low, split, c.requires.address) in
    let end : c.lanes-low.result.1 + 1 ≡ first_lane request n bus + lane_count request n bus = omega (arith, ordered, high) in
    let okay : may_read area (beat_at request n) ≡ true =
    sym (ap (may_read area) c.requires.address) ∙ sym (ap is_okay c.read_status.ensures) ∙ sym c.is_okay.ensures ∙ c.if-not-is_okay.false in
    c.read_word.ensures
    ∙ ap (λ w. lanes_between c.args.store.now w c.lanes-low.result.0 (c.lanes-low.result.1 + 1)) (ap (λ k. c.args.address - k) c.from-2.ensures ∙ word)
    ∙ ap (λ k. lanes_between c.args.store.now (word_address request n bus) k (c.lanes-low.result.1 + 1)) low
    ∙ ap (λ k. lanes_between c.args.store.now (word_address request n bus) (first_lane request n bus) k) end
    ∙ sym (answered-okay area request n c.requires.area c.args.store.now okay)
