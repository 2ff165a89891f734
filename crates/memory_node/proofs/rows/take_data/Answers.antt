use Rattle.std.proofs.Common.{◌≡◌, ◌∙◌, ◌<◌, ℕ, Option, Some, None, refl, sym, ap, arith, lit<}
use Rattle.std.specs.Prelude.{is_some, slice_set}
use Rattle.std.specs.Option.{option_map}
use Rattle.std.proofs.lemmas.Option.{slice_get-map, slice_get_within}
use Rattle.std.proofs.lemmas.Bool.{ltb-true}
use Rattle.axi_beats.specs.declared.response.Resp.{Resp}
use Rattle.burst_address.specs.Formulas.{beats_of}
use Rattle.memory_node.specs.MemoryState.{IsWriteEntry}
use Rattle.memory_node.specs.MemoryTable.{memory_service}
use Rattle.plain_lists.proofs.PlaceLemmas.{at-has}
use Rattle.subordinate.specs.SubordinateTable.{kept_with, oldest_lacking, with_beat}
use Rattle.subordinate.specs.declared.entry.WriteEntry.{WriteEntry}
use Rattle.subordinate.proofs.EntryLemmas.{IsOldestLacking, oldest_lacking-at, with_data-none}
use Rattle.memory_node.proofs.rows.take_data.Goals as goal

none-of : (o : Option ℕ) (p : Option WriteEntry) → is_some o ≡ is_some p → o ≡ None → p ≡ None
none-of None None same none = refl
none-of None (Some e) same none = absurd (cc)
none-of (Some k) p same none = absurd (cc)

pub returns-in_default-clause-entries : goal.returns-in_default-clause-entries
returns-in_default-clause-entries c =
    sym (with_data-none (memory_service c.args.area.now) c.args.beat.now c.args.entries.now (none-of c.lacking.result (oldest_lacking c.args.entries.now) c.lacking.ensures.some c.in_default.is))

pub beat_address-address-requires-clause-request : goal.beat_address-address-requires-clause-request
beat_address-address-requires-clause-request c =
    (at-has (IsWriteEntry c.args.area.now c.args.store.now.lines) c.args.entries.now c.in-Some.place c.get.result.now c.get.ensures c.requires.writes).request

pub beat_address-address-requires-clause-beat : goal.beat_address-address-requires-clause-beat
beat_address-address-requires-clause-beat c =
    let oldest : IsOldestLacking (memory_service c.args.area.now) c.args.entries.now c.in-Some.place c.get.result.now =
    oldest_lacking-at (memory_service c.args.area.now) c.args.entries.now c.in-Some.place c.get.result.now (sym c.lacking.ensures.place ∙ c.in-Some.is) c.get.ensures in
    let more : c.get.result.now.taken < beats_of c.get.result.now.request = ltb-true c.get.result.now.taken (beats_of c.get.result.now.request) oldest.lacks in
    omega arith

pub with_status-requires : goal.with_status-requires
with_status-requires c =
    (oldest_lacking-at (memory_service c.args.area.now) c.args.entries.now c.in-Some.place c.get.result.now (sym c.lacking.ensures.place ∙ c.in-Some.is) c.get.ensures).lacks

pub set-requires : goal.set-requires
set-requires c =
    let key_of : WriteEntry → ℕ = λ entry. entry.request.id in (
      lit< tt,
      (
        slice_get_within c.args.entries.now c.in-Some.place c.get.result.now c.get.ensures,
        slice_get-map key_of c.args.entries.now c.in-Some.place
            ∙ ap (option_map key_of) c.get.ensures
            ∙ sym (ap (λ (entry : WriteEntry). Some entry.request.id) c.with_status.ensures),
      ),
    )

pub returns-clause-entries : goal.returns-clause-entries
returns-clause-entries c =
    let oldest : IsOldestLacking (memory_service c.args.area.now) c.args.entries.now c.in-Some.place c.get.result.now =
    oldest_lacking-at (memory_service c.args.area.now) c.args.entries.now c.in-Some.place c.get.result.now (sym c.lacking.ensures.place ∙ c.in-Some.is) c.get.ensures in
    c.set.ensures.entry
    ∙ ap (slice_set c.args.entries.now c.in-Some.place) (c.with_status.ensures ∙ ap (λ (status : Resp). with_beat status c.get.result.now) c.strobed_status-status.ensures)
    ∙ sym (oldest.taken c.args.beat.now)

pub returns-clause-store : goal.returns-clause-store
returns-clause-store c =
    let oldest : IsOldestLacking (memory_service c.args.area.now) c.args.entries.now c.in-Some.place c.get.result.now =
    oldest_lacking-at (memory_service c.args.area.now) c.args.entries.now c.in-Some.place c.get.result.now (sym c.lacking.ensures.place ∙ c.in-Some.is) c.get.ensures in
    c.write_beat.ensures ∙ sym (ap (λ (o : Option WriteEntry). kept_with (memory_service c.args.area.now) c.args.beat.now o c.args.store.now) oldest.oldest)
