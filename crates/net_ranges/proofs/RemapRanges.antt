-- The answers that a remapper gives back are in range, where those below are: their IDs are those of requests that came to it.
use Rattle.std.proofs.Common.{◌≡◌, ◌<◌, ◌^◌, ℕ, List, map, sym, subst}
use Rattle.std.specs.Prelude.{All, Contains}
use Rattle.std.proofs.lemmas.List.Elements.{All-contains, All-map, All-weaker}
use Rattle.axi_beats.specs.declared.beat.Addr.{Addr}
use Rattle.axi_beats.specs.declared.beat.BBeat.{BBeat}
use Rattle.axi_beats.specs.declared.beat.RBeat.{RBeat}
use Rattle.axi_trail.proofs.IdFacts.{answers_have_requests}
use Rattle.axi_trail.specs.Schedule.{Schedule}
use Rattle.axi_trail.specs.Trail.{Beats}
use Rattle.axi_trail.specs.Words.{Asked, Reply, read_reply, write_reply}
use Rattle.net_ranges.proofs.BeatRanges.{IsAddressInRange, IsReadDataInRange, IsResponseInRange}
use Rattle.plain_lists.proofs.CutLemmas.{all-unmap}
use Rattle.remap_node.specs.RemapState.{RemapState, ids_below}
use Rattle.remap_node.specs.RemapTable.{Renamed, address_as, read_data_as, response_as}
use Rattle.remap_node.specs.RemapTrail.{AreRenamed, PairsAreHeld, RemapKeeps, burst_later, none_later, old_beat, shown_above}
use Rattle.remap_node.specs.declared.pair.IdPair.{IdPair}

-- an answer above has the ID of a request above
ids-small : (later : ℕ → ℕ) (ids : ℕ) (moved : List (Renamed Addr)) (pairs : List IdPair) (above below : List Reply) → PairsAreHeld later ids moved pairs above below → (addresses under : List Addr) →
    AreRenamed address_as moved addresses under → All IsAddressInRange addresses → All (λ (p : Reply). p.id < 2 ^ 32) above
ids-small later ids moved pairs above below has addresses under are all =
    let came : All (λ (m : Renamed Addr). m.beat.id < 2 ^ 32) moved =
    all-unmap (λ (a : Addr). a.id < 2 ^ 32) old_beat moved
    (subst (λ (xs : List Addr). All (λ (a : Addr). a.id < 2 ^ 32) xs) are.from_is (All-weaker IsAddressInRange (λ (a : Addr). a.id < 2 ^ 32) (λ a is. is.id) addresses all)) in
    let small : All (λ (a : Asked). a.id < 2 ^ 32) (map (shown_above later) moved) = All-map (λ (a : Asked). a.id < 2 ^ 32) (shown_above later) moved came in
    All-weaker (λ (p : Reply). (a : Asked) × Contains (map (shown_above later) moved) a × (a.id ≡ p.id) × (a.number ≡ p.number)) (λ (p : Reply). p.id < 2 ^ 32)
    (λ p its. subst (λ (n : ℕ). n < 2 ^ 32) its.2 (All-contains (λ (a : Asked). a.id < 2 ^ 32) (map (shown_above later) moved) its.0 small its.1)) above
    (answers_have_requests (map (shown_above later) moved) above has.order_above)

responses-small : (moved : List (Renamed BBeat)) (from to : List BBeat) → AreRenamed response_as moved from to → All IsResponseInRange from → All (λ (p : Reply). p.id < 2 ^ 32) (map write_reply to) →
    All IsResponseInRange to
responses-small moved from to are below ids =
    let own : All (λ (m : Renamed BBeat). IsResponseInRange m.beat) moved = all-unmap IsResponseInRange old_beat moved (subst (All IsResponseInRange) are.from_is below) in
    let id : All (λ (m : Renamed BBeat). m.id < 2 ^ 32) moved =
    all-unmap (λ (b : BBeat). b.id < 2 ^ 32) response_as moved (subst (All (λ (b : BBeat). b.id < 2 ^ 32)) are.to_is (all-unmap (λ (p : Reply). p.id < 2 ^ 32) write_reply to ids)) in
    subst (All IsResponseInRange) (sym are.to_is)
    (All-map IsResponseInRange response_as moved (λ k d within. let is = own k d within in record { id = id k d within; resp = is.resp; tag = is.tag }))

read_data-small : (bus : ℕ) (moved : List (Renamed RBeat)) (from to : List RBeat) → AreRenamed read_data_as moved from to → All (IsReadDataInRange bus) from →
    All (λ (p : Reply). p.id < 2 ^ 32) (map read_reply to) → All (IsReadDataInRange bus) to
read_data-small bus moved from to are below ids =
    let own : All (λ (m : Renamed RBeat). IsReadDataInRange bus m.beat) moved = all-unmap (IsReadDataInRange bus) old_beat moved (subst (All (IsReadDataInRange bus)) are.from_is below) in
    let id : All (λ (m : Renamed RBeat). m.id < 2 ^ 32) moved =
    all-unmap (λ (r : RBeat). r.id < 2 ^ 32) read_data_as moved (subst (All (λ (r : RBeat). r.id < 2 ^ 32)) are.to_is (all-unmap (λ (p : Reply). p.id < 2 ^ 32) read_reply to ids)) in
    subst (All (IsReadDataInRange bus)) (sym are.to_is)
    (All-map (IsReadDataInRange bus) read_data_as moved (λ k d within. let is = own k d within in record { id = id k d within; lanes = is.lanes; resp = is.resp; tag = is.tag }))

pub remap-gives_back : (schedules : ℕ → Schedule) (s : RemapState) (upper lower : Beats) → RemapKeeps schedules s upper lower → (bus : ℕ) → All IsAddressInRange upper.aw → All IsAddressInRange upper.ar →
    All IsResponseInRange lower.b → All (IsReadDataInRange bus) lower.r → All IsResponseInRange upper.b × All (IsReadDataInRange bus) upper.r
remap-gives_back schedules s upper lower keeps bus writes reads responses read_data = (
  responses-small keeps.responses lower.b upper.b keeps.b responses
      (ids-small none_later (ids_below s.shape) keeps.writes s.writes (map write_reply upper.b) (map write_reply lower.b) keeps.write_ids upper.aw lower.aw keeps.aw writes),
  read_data-small bus keeps.read_data lower.r upper.r keeps.r read_data
      (ids-small burst_later (ids_below s.shape) keeps.reads s.reads (map read_reply upper.r) (map read_reply lower.r) keeps.read_ids upper.ar lower.ar keeps.ar reads),
)
