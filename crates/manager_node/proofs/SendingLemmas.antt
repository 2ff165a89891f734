-- The data place within a write.
use Rattle.std.proofs.Common.{◌≡◌, ◌≤◌, ◌-◌, ◌*◌, ◌^◌, ◌==◌, take, ℕ, Bool, cond, List, Option, Some, None, length, refl, sym, ◌∙◌, ap, subst}
use Rattle.std.specs.Option.{option_map}
use Rattle.std.specs.Prelude.{IfSome, drop, slice_get}
use Rattle.std.proofs.lemmas.Option.{same_Some}
use Rattle.axi_beats.specs.declared.beat.Addr.{Addr}
use Rattle.axi_beats.specs.declared.beat.Tag.{Tag}
use Rattle.axi_beats.specs.declared.beat.WBeat.{WBeat}
use Rattle.axi_beats.specs.declared.lanes.Lanes.{Lanes}
use Rattle.burst_address.specs.Bytes.{beat_bytes, burst_bytes, bytes_before}
use Rattle.burst_address.specs.Lanes.{first_lane}
use Rattle.manager_node.specs.Beats.{beat_data, data_beat, lanes_from, strobe_of}
use Rattle.manager_node.specs.ManagerInside.{IsWithin}
use Rattle.manager_node.specs.Placed.{placed}
use Rattle.manager_node.specs.Script.{ScriptItem, sent_bytes}
use Rattle.manager_node.specs.declared.script.Txn.{Txn}
use Rattle.manager_node.specs.declared.script.WriteByte.{WriteByte}
use Rattle.manager_node.specs.declared.sending.Sending.{Sending}

-- the write at a place of the script
pub placed-item : (script : List ScriptItem) (o : Option ℕ) (place : ℕ) (request : Addr) → o ≡ Some place → option_map (λ (item : ScriptItem). item.txn.request) (slice_get script place) ≡ Some request →
    (item : ScriptItem) × (slice_get script place ≡ Some item) × (item.txn.request ≡ request) × (placed script o ≡ Some (place, item))
placed-item script o place request is at =
    let go : (i : Option ScriptItem) → slice_get script place ≡ i → option_map (λ (item : ScriptItem). item.txn.request) i ≡ Some request → (item : ScriptItem) × (slice_get script place ≡ Some item) × (item.txn.request ≡ request) × (placed script o ≡ Some (place, item)) =
    elim [
      | None ↦ λ none there. absurd (cc)
      | Some item ↦ λ some there. (item, some, same_Some item.txn.request request there, ap (placed script) is ∙ ap (option_map (λ (i : ScriptItem). (place, i))) some)
    ]
    in go (slice_get script place) refl at

pub placed-within : (sending : Sending) (script : List ScriptItem) (o : Option ℕ) (place : ℕ) (request : Addr) → o ≡ Some place → option_map (λ (item : ScriptItem). item.txn.request) (slice_get script place) ≡ Some request →
    IfSome (placed script o) (λ (next : ℕ × ScriptItem). IsWithin sending next.1) → (sending.beats ≤ request.len) × (sending.bytes ≡ length (bytes_before request sending.beats))
placed-within sending script o place request is at within =
    let item = placed-item script o place request is at
    in let own : IsWithin sending item.0 = subst (λ (p : Option (ℕ × ScriptItem)). IfSome p (λ (next : ℕ × ScriptItem). IsWithin sending next.1)) item.3 within
    in (
      subst (λ (a : Addr). sending.beats ≤ a.len) item.2 own.beats,
      subst (λ (a : Addr). sending.bytes ≡ length (bytes_before a sending.beats)) item.2 own.bytes,
    )

-- The write whose data is sent, as the script has it.
pub record NextData (sending : Sending) (script : List ScriptItem) (place : ℕ) (request : Addr) (bytes : List WriteByte) : Type 0 where
  pub item : ScriptItem
  pub at : slice_get script place ≡ Some item
  pub same : item.txn.request ≡ request
  pub same_bytes : item.bytes ≡ bytes
  pub beats : sending.beats ≤ request.len
  pub start : sending.bytes ≡ length (bytes_before request sending.beats)
  pub long : length bytes ≡ length (burst_bytes request)

pub next-data : (sending : Sending) (script : List ScriptItem) (place : ℕ) (request : Addr) (bytes : List WriteByte) → option_map (λ (item : ScriptItem). item.txn.request) (slice_get script place) ≡ Some request →
    option_map (λ (item : ScriptItem). item.bytes) (slice_get script place) ≡ Some bytes → option_map (λ (item : ScriptItem). sent_bytes item.txn) (slice_get script place) ≡ Some (length bytes) →
    IfSome (slice_get script place) (IsWithin sending) → NextData sending script place request bytes
next-data sending script place request bytes at has counts within =
    let go : (i : Option ScriptItem) → slice_get script place ≡ i → option_map (λ (item : ScriptItem). item.txn.request) i ≡ Some request → option_map (λ (item : ScriptItem). item.bytes) i ≡ Some bytes →
    option_map (λ (item : ScriptItem). sent_bytes item.txn) i ≡ Some (length bytes) → IfSome i (IsWithin sending) → NextData sending script place request bytes =
    elim [
      | None ↦ λ none there bytes_there count_there own. absurd (cc)
      | Some item ↦ λ some there bytes_there count_there own.
          let same : item.txn.request ≡ request = same_Some item.txn.request request there
          in let count : sent_bytes item.txn ≡ length bytes = same_Some (sent_bytes item.txn) (length bytes) count_there
          in let sent : sent_bytes item.txn ≡ length (burst_bytes item.txn.request) = ap (λ (b : Bool). cond b (length (burst_bytes item.txn.request)) 0) own.write
          in record {
            item = item;
            at = some;
            same = same;
            same_bytes = same_Some item.bytes bytes bytes_there;
            beats = subst (λ (a : Addr). sending.beats ≤ a.len) same own.beats;
            start = subst (λ (a : Addr). sending.bytes ≡ length (bytes_before a sending.beats)) same own.bytes;
            long = sym count ∙ sent ∙ ap (λ (a : Addr). length (burst_bytes a)) same;
          }
    ]
    in go (slice_get script place) refl at has counts within

-- the beat that is made is the next one
pub beat-is : (item : ScriptItem) (request : Addr) (txn : Txn) (bytes part : List WriteByte) (bus beats low start end : ℕ) (lanes : Lanes) (strobe : ℕ) (last : Bool) (tag : Tag) → item.txn.request ≡ request → item.bytes ≡ bytes → item.txn ≡ txn →
    low ≡ first_lane request beats bus → start ≡ length (bytes_before request beats) → end - start ≡ length (beat_bytes request beats) → part ≡ take (end - start) (drop start bytes) →
    lanes ≡ lanes_from low part → strobe ≡ strobe_of part * 2 ^ low → last ≡ (beats == request.len) → tag ≡ record { txn = txn.number; low = 0; high = 0 } →
    data_beat item bus beats ≡ record { lanes = lanes; strobe = strobe; last = last; tag = tag }
beat-is item request txn bytes part bus beats low start end lanes strobe last tag same same_bytes same_txn lows starts size parts on_lanes strobes lasts tags =
    let own : beat_data item beats ≡ part =
    ap (λ (a : Addr). take (length (beat_bytes a beats)) (drop (length (bytes_before a beats)) item.bytes)) same
    ∙ ap (λ (bs : List WriteByte). take (length (beat_bytes request beats)) (drop (length (bytes_before request beats)) bs)) same_bytes
    ∙ ap (λ (k : ℕ). take k (drop (length (bytes_before request beats)) bytes)) (sym size) ∙ ap (λ (k : ℕ). take (end - start) (drop k bytes)) (sym starts) ∙ sym parts
    in let first : first_lane item.txn.request beats bus ≡ low = ap (λ (a : Addr). first_lane a beats bus) same ∙ sym lows
    in w-same _ lanes _ strobe _ last _ tag
    (ap (lanes_from (first_lane item.txn.request beats bus)) own ∙ ap (λ (k : ℕ). lanes_from k part) first ∙ sym on_lanes)
    (ap (λ (b : List WriteByte). strobe_of b * 2 ^ first_lane item.txn.request beats bus) own ∙ ap (λ (k : ℕ). strobe_of part * 2 ^ k) first ∙ sym strobes)
    (ap (λ (a : Addr). beats == a.len) same ∙ sym lasts)
    (ap (λ (t : Txn). record { txn = t.number; low = 0; high = 0 }) same_txn ∙ sym tags)
  where
    w-same : (a b : Lanes) (s t : ℕ) (l m : Bool) (g h : Tag) → a ≡ b → s ≡ t → l ≡ m → g ≡ h → ◌≡◌ {A = WBeat} (record { lanes = a; strobe = s; last = l; tag = g }) (record { lanes = b; strobe = t; last = m; tag = h })
    w-same a b s t l m g h lanes strobes lasts tags = cc

-- the transaction at the place of an item
pub txn-is : (script : List ScriptItem) (place : ℕ) (item : ScriptItem) (txn : Txn) → slice_get script place ≡ Some item → option_map (λ (item : ScriptItem). item.txn) (slice_get script place) ≡ Some txn → item.txn ≡ txn
txn-is script place item txn at is = same_Some item.txn txn (ap (option_map (λ (i : ScriptItem). i.txn)) (sym at) ∙ is)

-- the request of a transaction at a place
pub request-is : (script : List ScriptItem) (place : ℕ) (txn : Txn) (request : Addr) → option_map (λ (item : ScriptItem). item.txn) (slice_get script place) ≡ Some txn → option_map (λ (item : ScriptItem). item.txn.request) (slice_get script place) ≡ Some request → txn.request ≡ request
request-is script place txn request is at =
    let go : (o : Option ScriptItem) → option_map (λ (item : ScriptItem). item.txn) o ≡ Some txn → option_map (λ (item : ScriptItem). item.txn.request) o ≡ Some request → txn.request ≡ request =
    elim [
      | None ↦ λ none there. absurd (cc)
      | Some item ↦ λ some there. ap (λ (t : Txn). t.request) (sym (same_Some item.txn txn some)) ∙ same_Some item.txn.request request there
    ]
    in go (slice_get script place) is at
