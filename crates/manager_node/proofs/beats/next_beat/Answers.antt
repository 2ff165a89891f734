use Rattle.std.proofs.Common.{◌≡◌, ◌+◌, ◌-◌, ◌==◌, ℕ, List, Some, arith, length, ap, ◌∙◌, subst}
use Rattle.std.specs.Option.{option_map}
use Rattle.std.specs.Prelude.{All}
use Rattle.axi_beats.specs.declared.beat.Addr.{Addr}
use Rattle.axi_beats.specs.declared.beat.WBeat.{WBeat}
use Rattle.burst_address.specs.Bytes.{beat_bytes}
use Rattle.burst_address.specs.Legal.{IsLegal}
use Rattle.manager_node.specs.Beats.{data_beat}
use Rattle.manager_node.specs.Script.{ScriptItem}
use Rattle.manager_node.specs.declared.script.WriteByte.{WriteByte}
use Rattle.manager_node.specs.declared.sending.Sending.{Sending}
use Rattle.manager_node.proofs.BurstLemmas.{beat-within, bytes-most, lane-count, lane-order}
use Rattle.manager_node.proofs.SendingLemmas.{NextData, beat-is, next-data, txn-is}
use Rattle.manager_node.proofs.beats.next_beat.Goals as goal
use Rattle.plain_lists.proofs.PlaceLemmas.{at-all}

-- the request is legal on the bus
legal-next : (sending : Sending) (script : List ScriptItem) (place bus : ℕ) (request : Addr) (bytes : List WriteByte) → NextData sending script place request bytes → All (λ (item : ScriptItem). IsLegal item.txn.request bus) script → IsLegal request bus
legal-next sending script place bus request bytes next legal =
    subst (λ (a : Addr). IsLegal a bus) next.same (at-all (λ (item : ScriptItem). IsLegal item.txn.request bus) script place next.item legal next.at)

pub overflow_sub-high : goal.overflow_sub-high
overflow_sub-high c =
    let next = (next-data c.args.sending.now c.args.script.now c.args.place c.request-request.result.now c.bytes-bytes.result.now c.request-request.ensures.value c.bytes-bytes.ensures.value c.bytes-bytes.ensures.count c.requires.within)
    in let legal = legal-next c.args.sending.now c.args.script.now c.args.place c.args.bus c.request-request.result.now c.bytes-bytes.result.now next c.requires.legal
    in omega (arith, c.lanes-low.ensures.lower, c.lanes-low.ensures.upper, lane-order c.request-request.result.now c.args.bus c.args.sending.now.beats c.requires.bus legal)

pub overflow_add-end : goal.overflow_add-end
overflow_add-end c =
    let next = (next-data c.args.sending.now c.args.script.now c.args.place c.request-request.result.now c.bytes-bytes.result.now c.request-request.ensures.value c.bytes-bytes.ensures.value c.bytes-bytes.ensures.count c.requires.within)
    in omega (arith, next.start, bytes-most c.request-request.result.now c.args.sending.now.beats c.request-request.ensures.legal)

pub overflow_add-end-2 : goal.overflow_add-end-2
overflow_add-end-2 c =
    let next = (next-data c.args.sending.now c.args.script.now c.args.place c.request-request.result.now c.bytes-bytes.result.now c.request-request.ensures.value c.bytes-bytes.ensures.value c.bytes-bytes.ensures.count c.requires.within)
    in omega (arith, next.start, bytes-most c.request-request.result.now c.args.sending.now.beats c.request-request.ensures.legal)

pub part-requires-clause-within : goal.part-requires-clause-within
part-requires-clause-within c =
    let next = (next-data c.args.sending.now c.args.script.now c.args.place c.request-request.result.now c.bytes-bytes.result.now c.request-request.ensures.value c.bytes-bytes.ensures.value c.bytes-bytes.ensures.count c.requires.within)
    in let legal = legal-next c.args.sending.now c.args.script.now c.args.place c.args.bus c.request-request.result.now c.bytes-bytes.result.now next c.requires.legal
    in let within = beat-within c.request-request.result.now c.args.sending.now.beats next.beats
    in let count = lane-count c.request-request.result.now c.args.bus c.args.sending.now.beats c.requires.bus legal
    in omega (arith, next.start, next.long, within, count, c.from.ensures, c.lanes-low.ensures.lower, c.lanes-low.ensures.upper)

pub returns : goal.returns
returns c =
    let next = (next-data c.args.sending.now c.args.script.now c.args.place c.request-request.result.now c.bytes-bytes.result.now c.request-request.ensures.value c.bytes-bytes.ensures.value c.bytes-bytes.ensures.count c.requires.within)
    in let legal = legal-next c.args.sending.now c.args.script.now c.args.place c.args.bus c.request-request.result.now c.bytes-bytes.result.now next c.requires.legal
    in let count = lane-count c.request-request.result.now c.args.bus c.args.sending.now.beats c.requires.bus legal
    in let size : c.args.sending.now.bytes + c.from.result + 1 - c.args.sending.now.bytes ≡ length (beat_bytes c.request-request.result.now c.args.sending.now.beats) = omega (arith, count, c.from.ensures, c.lanes-low.ensures.lower, c.lanes-low.ensures.upper)
    in let made = beat-is next.item c.request-request.result.now c.txn.result.now c.bytes-bytes.result.now c.part.result.now c.args.bus c.args.sending.now.beats c.lanes-low.result.0 c.args.sending.now.bytes (c.args.sending.now.bytes + c.from.result + 1) _ _ _ _ next.same next.same_bytes
    (txn-is c.args.script.now c.args.place next.item c.txn.result.now next.at c.txn.ensures) c.lanes-low.ensures.lower next.start size c.part.ensures c.on_lanes-lanes.ensures.lanes c.on_lanes-lanes.ensures.strobe
    (ap (λ (len : ℕ). c.args.sending.now.beats == len) c.from-2.ensures) c.tag.ensures
    in ap (option_map (λ (item : ScriptItem). data_beat item c.args.bus c.args.sending.now.beats)) next.at ∙ ap (λ (beat : WBeat). Some beat) made
