-- What a memory keeps stays sound from round to round.
use Rattle.std.proofs.Common.{◌≡◌, ◌≢◌, ℕ, ◌+◌, ◌*◌, ◌<◌, ◌==◌, Bool, true, false, cond, List, [], ◌∷◌, Option, Some, None, length, refl, sym, ◌∙◌, ap, subst, arith, eq-eqb, true≢false}
use Rattle.std.specs.Prelude.{All, AllPairs, IfSome, option_map}
use Rattle.std.proofs.lemmas.Bool.{ltb-true}
use Rattle.std.proofs.lemmas.List.{length-set}
use Rattle.std.proofs.lemmas.List.Elements.{All-append, All-cons, All-drop, All-head, All-nil, All-tail}
use Rattle.axi_beats.specs.declared.beat.Addr.{Addr}
use Rattle.axi_beats.specs.declared.beat.BBeat.{BBeat}
use Rattle.axi_beats.specs.declared.beat.WBeat.{WBeat}
use Rattle.axi_beats.specs.declared.response.Resp.{Resp}
use Rattle.axi_beats.specs.declared.response.Resp.TheVariants.{Okay}
use Rattle.axi_link.specs.LinkView.{LinkView}
use Rattle.axi_link.specs.LinkWords.{head_of, link_of}
use Rattle.burst_address.specs.Bytes.{Byte}
use Rattle.burst_address.specs.Formulas.{beats_of}
use Rattle.memory_node.specs.Beats.{stored_bytes, with_bytes}
use Rattle.memory_node.specs.MemoryArea.{MemoryArea}
use Rattle.memory_node.specs.MemoryState.{AreLinesAmong, IsMemory, IsReadEntry, IsRequest, IsWriteEntry, MemoryState}
use Rattle.memory_node.specs.MemoryTable.{CanMemory, memory_next, memory_service}
use Rattle.memory_node.specs.Store.{IsStore, Store, byte_place, with_byte, with_byte_at}
use Rattle.node_core.specs.Rows.{beat_where}
use Rattle.node_core.proofs.RowLemmas.{beat_where-has}
use Rattle.subordinate.specs.SubordinateTable.{after_ar, after_aw, after_b, after_r, after_w, its_rows, kept_after_w, kept_with, lacks_data, moved_ar, moved_aw, moved_b, moved_r, moved_w, next_beat, oldest_lacking, with_beat, with_data}
use Rattle.subordinate.specs.declared.entry.ReadEntry.{ReadEntry}
use Rattle.subordinate.specs.declared.entry.WriteEntry.{WriteEntry}

-- bytes are written over, and nothing else changes
pub record Keeps (before after : Store) : Type 0 where
  pub lines : after.lines ≡ before.lines
  pub size : length after.bytes ≡ length before.bytes

pub with_byte_at-keeps : (store : Store) (place : Option ℕ) (value : ℕ) → Keeps store (with_byte_at store place value)
with_byte_at-keeps store None value = record { lines = refl; size = refl }
with_byte_at-keeps store (Some place) value = record { lines = refl; size = length-set store.bytes place value }

with_bytes-keeps : (bytes : List Byte) (store : Store) → Keeps store (with_bytes store bytes)
with_bytes-keeps [] store = record { lines = refl; size = refl }
with_bytes-keeps (byte ∷ bytes) store =
    let first : Keeps store (with_byte store byte.address byte.value) = with_byte_at-keeps store (byte_place store byte.address) byte.value in
    let rest : Keeps (with_byte store byte.address byte.value) (with_bytes (with_byte store byte.address byte.value) bytes) = with_bytes-keeps bytes (with_byte store byte.address byte.value) in
    record { lines = rest.lines ∙ first.lines; size = rest.size ∙ first.size }

kept_with-keeps : (area : MemoryArea) (o : Option WriteEntry) (w : WBeat) (store : Store) → Keeps store (kept_with (memory_service area) w o store)
kept_with-keeps area None w store = record { lines = refl; size = refl }
kept_with-keeps area (Some entry) w store = with_bytes-keeps (stored_bytes area entry.request entry.taken w) store

pub kept_after_w-keeps : (area : MemoryArea) (o : Option WBeat) (entries : List WriteEntry) (store : Store) → Keeps store (kept_after_w (memory_service area) o entries store)
kept_after_w-keeps area None entries store = record { lines = refl; size = refl }
kept_after_w-keeps area (Some w) entries store = kept_with-keeps area (oldest_lacking entries) w store

pub store-stays : (before after : Store) → Keeps before after → IsStore before → IsStore after
store-stays before after same is = record {
  ascending = subst (λ (lines : List ℕ). AllPairs (λ a b. a < b) lines) (sym same.lines) is.ascending;
  whole = same.size ∙ is.whole ∙ ap (λ lines. 128 * length lines) (sym same.lines);
}

module _ (area : MemoryArea) (lines : List ℕ) where
  pub after_b-stays : (o : Option BBeat) (entries : List WriteEntry) → All (IsWriteEntry area lines) entries → All (IsWriteEntry area lines) (after_b o entries)
  after_b-stays None entries all = all
  after_b-stays (Some beat) entries all = All-drop (IsWriteEntry area lines) 1 entries all

  with_beat-stays : (status : Resp) (entry : WriteEntry) → lacks_data entry ≡ true → IsWriteEntry area lines entry → IsWriteEntry area lines (with_beat status entry)
  with_beat-stays status entry lacks is =
      let more : entry.taken < beats_of entry.request = ltb-true entry.taken (beats_of entry.request) lacks in
      record { request = is.request; lines_kept = is.lines_kept; taken = omega arith }

  with_data-stays : (w : WBeat) (entries : List WriteEntry) → All (IsWriteEntry area lines) entries → All (IsWriteEntry area lines) (with_data (memory_service area) w entries)
  with_data-stays w [] all = all
  with_data-stays w (e ∷ es) all =
      let P : WriteEntry → Type 0 = IsWriteEntry area lines in
      let changed : WriteEntry = with_beat ((memory_service area).data_status e.request e.taken w) e in
      let head : P e = All-head P e es all in
      let tail : All P es = All-tail P e es all in
      let go : (b : Bool) → lacks_data e ≡ b → All P (cond b (changed ∷ es) (e ∷ with_data (memory_service area) w es)) =
      elim [
        | true ↦ λ is. All-cons P changed es (with_beat-stays ((memory_service area).data_status e.request e.taken w) e is head) tail
        | false ↦ λ is. All-cons P e (with_data (memory_service area) w es) head (with_data-stays w es tail)
      ]
      in go (lacks_data e) refl

  after_w-stays : (o : Option WBeat) (entries : List WriteEntry) → All (IsWriteEntry area lines) entries → All (IsWriteEntry area lines) (after_w (memory_service area) o entries)
  after_w-stays None entries all = all
  after_w-stays (Some w) entries all = with_data-stays w entries all

  after_aw-stays : (o : Option Addr) (entries : List WriteEntry) → IfSome o (IsRequest area.bus) → IfSome o (AreLinesAmong area lines) → All (IsWriteEntry area lines) entries → All (IsWriteEntry area lines) (after_aw o entries)
  after_aw-stays None entries word kept all = all
  after_aw-stays (Some request) entries word kept all =
      let P : WriteEntry → Type 0 = IsWriteEntry area lines in
      let new : WriteEntry = record { request = request; taken = 0; worst = Okay } in
      All-append P entries (new ∷ []) all (All-cons P new [] record { request = word; lines_kept = kept; taken = omega arith } (All-nil P))

module _ (area : MemoryArea) where
  after_r-stays : (store : Store) (done : Bool) (entries : List ReadEntry) → All (IsReadEntry area) entries →
      All (IsReadEntry area) (after_r (beat_where done (option_map (next_beat (memory_service area) store) (head_of entries))) entries)
  after_r-stays store false entries all = all
  after_r-stays store true [] all = all
  after_r-stays store true (e ∷ es) all =
      let P : ReadEntry → Type 0 = IsReadEntry area in
      let head : P e = All-head P e es all in
      let tail : All P es = All-tail P e es all in
      let step : (last : Bool) → (e.put == e.request.len) ≡ last → All P (cond last es (record { request = e.request; put = e.put + 1 } ∷ es)) =
      elim [
        | true ↦ λ is. tail
        | false ↦ λ is.
            let other : e.put ≢ e.request.len = λ same. true≢false (sym (eq-eqb e.put e.request.len same) ∙ is) in
            All-cons P record { request = e.request; put = e.put + 1 } es record { request = head.request; put = omega (arith, head.put) } tail
      ] in
      step (e.put == e.request.len) refl

  after_ar-stays : (o : Option Addr) (entries : List ReadEntry) → IfSome o (IsRequest area.bus) → All (IsReadEntry area) entries → All (IsReadEntry area) (after_ar o entries)
  after_ar-stays None entries word all = all
  after_ar-stays (Some request) entries word all =
      let P : ReadEntry → Type 0 = IsReadEntry area in
      let new : ReadEntry = record { request = request; put = 0 } in
      All-append P entries (new ∷ []) all (All-cons P new [] record { request = word; put = omega arith } (All-nil P))

pub memory-stays : (links : List LinkView) (s : MemoryState) → IsMemory s → CanMemory links s → IsMemory (memory_next links s)
memory-stays links s is can =
    let service = memory_service s.area in
    let lines : List ℕ = s.inner.kept.lines in
    let rows = its_rows service links s.inner in
    let link : LinkView = link_of links s.inner.upper in
    let answered : List WriteEntry = after_b (moved_b service links s.inner) s.inner.writes in
    let filled : List WriteEntry = after_w service (moved_w service links s.inner) answered in
    let kept : Store = kept_after_w service (moved_w service links s.inner) answered s.inner.kept in
    let keeps : Keeps s.inner.kept kept = kept_after_w-keeps s.area (moved_w service links s.inner) answered s.inner.kept in
    let writes : All (IsWriteEntry s.area lines) (after_aw (moved_aw service links s.inner) filled) =
    after_aw-stays s.area lines (moved_aw service links s.inner) filled
    (beat_where-has (IsRequest s.area.bus) rows.aw (head_of link.aw) can.aw)
    (beat_where-has (AreLinesAmong s.area lines) rows.aw (head_of link.aw) can.aw_lines)
    (after_w-stays s.area lines (moved_w service links s.inner) answered (after_b-stays s.area lines (moved_b service links s.inner) s.inner.writes is.writes)) in
    record {
      area = is.area;
      store = store-stays s.inner.kept kept keeps is.store;
      writes = subst (λ (lines : List ℕ). All (IsWriteEntry s.area lines) (after_aw (moved_aw service links s.inner) filled)) (sym keeps.lines) writes;
      reads =
          after_ar-stays s.area (moved_ar service links s.inner) (after_r (moved_r service links s.inner) s.inner.reads)
          (beat_where-has (IsRequest s.area.bus) rows.ar (head_of link.ar) can.ar)
          (after_r-stays s.area s.inner.kept rows.r s.inner.reads is.reads);
    }
