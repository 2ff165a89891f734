use Rattle.std.proofs.Common.{◌≡◌, ◌∙◌, ◌*◌, ◌/◌, ℕ, true, false, sym, ap}
use Rattle.burst_address.specs.Formulas.{beat_at}
use Rattle.burst_address.specs.Lanes.{lane_bytes, strobed_lanes, word_address}
use Rattle.memory_node.specs.Beats.{with_bytes}
use Rattle.memory_node.specs.MemoryArea.{MemoryArea}
use Rattle.memory_node.specs.Status.{is_okay, may_write}
use Rattle.memory_node.proofs.BeatLemmas.{written-okay, written-refused}
use Rattle.memory_node.proofs.beats.write_beat.Goals as goal

pub returns-then-is_okay : goal.returns-then-is_okay
returns-then-is_okay c =
    let area : MemoryArea = c.args.area.now in
    let okay : may_write area (beat_at c.args.entry.now.request c.args.entry.now.taken) ≡ true =
    sym (ap (may_write area) c.requires.address) ∙ sym (ap is_okay c.write_status.ensures) ∙ sym c.is_okay.ensures ∙ c.if-is_okay.true in
    let width : c.from-width.result ≡ c.args.area.now.bus = c.from-width.ensures ∙ c.bus-bus.ensures in
    let word : c.args.address / c.from-width.result * c.from-width.result ≡ word_address c.args.entry.now.request c.args.entry.now.taken c.args.area.now.bus =
    ap (λ bus. c.args.address / bus * bus) width ∙ ap (λ address. address / c.args.area.now.bus * c.args.area.now.bus) c.requires.address in
    c.write_word.ensures
    ∙ ap (λ (word : ℕ). with_bytes c.args.store.now (lane_bytes word c.args.beat.now (strobed_lanes c.bus-bus.result c.args.beat.now))) word
    ∙ ap (λ (bus : ℕ). with_bytes c.args.store.now (lane_bytes (word_address c.args.entry.now.request c.args.entry.now.taken c.args.area.now.bus) c.args.beat.now (strobed_lanes bus c.args.beat.now))) c.bus-bus.ensures
    ∙ ap (with_bytes c.args.store.now) (sym (written-okay area c.args.entry.now.request c.args.entry.now.taken c.requires.area c.args.beat.now okay))

pub returns-else-is_okay : goal.returns-else-is_okay
returns-else-is_okay c =
    let area : MemoryArea = c.args.area.now in
    let bad : may_write area (beat_at c.args.entry.now.request c.args.entry.now.taken) ≡ false =
    sym (ap (may_write area) c.requires.address) ∙ sym (ap is_okay c.write_status.ensures) ∙ sym c.is_okay.ensures ∙ c.if-is_okay.false in
    ap (with_bytes c.args.store.now) (sym (written-refused area c.args.entry.now.request c.args.entry.now.taken c.requires.area c.args.beat.now bad))
