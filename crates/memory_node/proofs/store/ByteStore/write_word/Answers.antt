use Rattle.std.proofs.Common.{◌≡◌, ◌+◌, ◌*◌, ◌%◌, ◌<◌, ◌∙◌, ℕ, List, Some, None, sym, ap, arith, subst}
use Rattle.std.specs.Prelude.{fold, slice_set, slice_index}
use Rattle.std.specs.List.{AllByRecursion}
use Rattle.std.specs.Vec.{with_items}
use Rattle.std.proofs.lemmas.List.{with_items_is}
use Rattle.flight.specs.Entries.{place_of}
use Rattle.memory_node.specs.Store.{Store, line_number}
use Rattle.memory_node.specs.StoreInside.{store_view}
use Rattle.memory_node.specs.Beats.{with_bytes}
use Rattle.memory_node.proofs.StoreLemmas.{all_written-kept, all_written-lost}
use Rattle.plain_lists.proofs.RangeLemmas.{filter-range-below}
use Rattle.burst_address.specs.Lanes.{is_strobed, lane_bytes, strobed_lanes}
use Rattle.memory_node.proofs.store.ByteStore.write_word.Goals as goal

pub returns-in-Some : goal.returns-in-Some
returns-in-Some c =
    let lanes : List ℕ = strobed_lanes c.args.bus c.args.beat.now in
    let view : Store = store_view c.self.inside in
    let place : place_of (line_number c.args.word) view.lines ≡ Some c.in-Some.place =
    sym (ap (place_of (line_number c.args.word)) c.deref.ensures.value) ∙ sym c.line_place.ensures.place ∙ c.in-Some.is in
    let below : AllByRecursion (λ k. k < c.args.bus) lanes = filter-range-below (is_strobed c.args.beat.now) 0 c.args.bus c.args.bus (omega arith) in
    let new : (with_items c.self.inside.bytes c.write_lanes.new.bytes).items ≡ c.write_lanes.new.bytes =
    with_items_is c.self.inside.bytes c.write_lanes.new.bytes (c.write_lanes.auto.bytes ∙ c.deref_mut.ensures.len) in
    let step : List ℕ → ℕ → List ℕ = λ written lane. slice_set written (128 * c.in-Some.place + c.args.word % 128 + lane) (slice_index c.args.beat.now.lanes lane) in
    let bytes : (with_items c.self.inside.bytes c.write_lanes.new.bytes).items ≡ fold step view.bytes lanes =
    new ∙ c.write_lanes.ensures ∙ ap (λ bs. fold step bs lanes) c.deref_mut.ensures.value in
    let done : record { lines = view.lines; bytes = (with_items c.self.inside.bytes c.write_lanes.new.bytes).items; fill = view.fill } ≡ with_bytes view (lane_bytes c.args.word c.args.beat.now lanes) =
    ap (λ bs. record { lines = view.lines; bytes = bs; fill = view.fill }) bytes
    ∙ sym (all_written-kept view c.args.word c.args.bus c.in-Some.place c.args.beat.now lanes c.requires place below) in
    done ∙ ap (λ s. with_bytes s (lane_bytes c.args.word c.args.beat.now lanes)) c.self.view_is

pub returns-in_default : goal.returns-in_default
returns-in_default c =
    let lanes : List ℕ = strobed_lanes c.args.bus c.args.beat.now in
    let view : Store = store_view c.self.inside in
    let place : place_of (line_number c.args.word) view.lines ≡ None =
    sym (ap (place_of (line_number c.args.word)) c.deref.ensures.value) ∙ sym c.line_place.ensures.place ∙ c.in_default.is in
    let below : AllByRecursion (λ k. k < c.args.bus) lanes = filter-range-below (is_strobed c.args.beat.now) 0 c.args.bus c.args.bus (omega arith) in
    let done : view ≡ with_bytes view (lane_bytes c.args.word c.args.beat.now lanes) =
    sym (all_written-lost view c.args.word c.args.bus c.args.beat.now lanes c.requires place below) in
    subst (λ (s : Store). s ≡ with_bytes s (lane_bytes c.args.word c.args.beat.now lanes)) c.self.view_is done
