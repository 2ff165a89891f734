-- A beat of write data that is taken: what is written for it.
use Rattle.std.proofs.Common.{◌≡◌, ◌≢◌, ℕ, ◌<◌, ◌≤◌, ◌==◌, suc, Bool, true, false, cond, List, [], ◌∷◌, ◌++◌, length, map, drop, refl, sym, ◌∙◌, ap, subst, arith, inl, inr, append-nil, length-append, eq-eqb}
use Rattle.std.specs.Prelude.{Contains, filter}
use Rattle.std.specs.List.{AllByRecursion}
use Rattle.std.proofs.lemmas.Bool.{cases_eq, ne_eqb}
use Rattle.std.proofs.lemmas.List.{map-append}
use Rattle.axi_beats.specs.declared.beat.Addr.{Addr}
use Rattle.axi_beats.specs.declared.beat.RBeat.{RBeat}
use Rattle.axi_beats.specs.declared.beat.WBeat.{WBeat}
use Rattle.axi_trail.specs.LinkContracts.{without_id}
use Rattle.axi_trail.specs.Schedule.{ComesBefore, Schedule}
use Rattle.axi_trail.specs.Words.{number_of_data, number_of_read_data}
use Rattle.subordinate.specs.Parts.{BeatOf, beats_with_data}
use Rattle.memory_node.specs.Accesses.{accesses_of, due_writes, writes_at}
use Rattle.memory_node.specs.Beats.{with_bytes, stored_bytes}
use Rattle.memory_node.specs.Events.{Access, accesses}
use Rattle.memory_node.specs.MemoryState.{AreLinesAmong}
use Rattle.memory_node.specs.Status.{may_write}
use Rattle.memory_node.specs.Store.{IsStore, Store, byte_at, byte_place, with_byte, line_number}
use Rattle.memory_node.specs.MemoryArea.{IsMemoryArea, MemoryArea, is_in_some, is_inside}
use Rattle.memory_node.proofs.AccessLemmas.{accesses_of-append, accesses_of-opposite, accesses_of-other, accesses_of-own, bytes-of_accesses, nil-of_map, order-more, order-other, stands_among}
use Rattle.memory_node.specs.MemoryTrail.{HasAccessedOn}
use Rattle.memory_node.specs.WantedReads.{wanted_before}
use Rattle.axi_beats.specs.Lanes.{Span}
use Rattle.memory_node.proofs.LaneLemmas.{inside-of_lane, okay-inside, written-without_id}
use Rattle.memory_node.proofs.ReadLemmas.{reads-others, reads-written}
use Rattle.memory_node.proofs.StayLemmas.{Keeps, store-stays, with_byte_at-keeps}
use Rattle.plain_lists.proofs.KeyLemmas.{of_key-push, of_key-push_other}
use Rattle.plain_lists.specs.Keys.{of_key}
use Rattle.plain_lists.proofs.RangeLemmas.{filter-range-below}
use Rattle.plain_lists.proofs.PartLemmas.{flat_map_next, split_append}
use Rattle.burst_address.proofs.LaneBytes.{words-in_lines}
use Rattle.burst_address.specs.Accesses.{answered_bytes, value_after}
use Rattle.burst_address.specs.Bytes.{Byte}
use Rattle.burst_address.specs.Lanes.{is_strobed, lane_address, lane_bytes, strobed_lanes, word_address}
use Rattle.burst_address.proofs.AccessValues.{value_after-append}

-- bytes on lines that are kept are left in the store
left-written : (number address : ℕ) (lines : List ℕ) (bytes : List Byte) (store : Store) → IsStore store → store.lines ≡ lines → AllByRecursion (λ (b : Byte). Contains lines (line_number b.address)) bytes →
    value_after (writes_at address) (λ (a : Access). a.byte.value) (byte_at store address) (accesses number true bytes) ≡ byte_at (with_bytes store bytes) address
left-written number address lines [] store is same kept = refl
left-written number address lines (b ∷ bytes) store is same kept =
    let keeps : Keeps store (with_byte store b.address b.value) = with_byte_at-keeps store (byte_place store b.address) b.value in
    let here : Contains store.lines (line_number b.address) = subst (λ (ls : List ℕ). Contains ls (line_number b.address)) (sym same) kept.0 in
    let one : cond (b.address == address) b.value (byte_at store address) ≡ byte_at (with_byte store b.address b.value) address = elim (cases_eq b.address address) [
      | inl own ↦
          ap (λ c. cond c b.value (byte_at store address)) (eq-eqb b.address address own)
          ∙ sym (subst (λ (n : ℕ). byte_at (with_byte store b.address b.value) n ≡ b.value) own (reads-written store b.address b.value is here))
      | inr ne ↦
          ap (λ c. cond c b.value (byte_at store address)) (ne_eqb b.address address ne)
          ∙ sym (reads-others store b.address address b.value is (λ h. ne (sym h)))
    ] in
    ap (λ v. value_after (writes_at address) (λ (a : Access). a.byte.value) v (accesses number true bytes)) one
    ∙ left-written number address lines bytes (with_byte store b.address b.value) (store-stays store (with_byte store b.address b.value) keeps is) (keeps.lines ∙ same) kept.1

-- the bytes of a beat are on lines that are kept
pub lines-written : (area : MemoryArea) (lines : List ℕ) (a : Addr) (n : ℕ) (x : WBeat) → IsMemoryArea area → AreLinesAmong area lines a → n ≤ a.len →
    AllByRecursion (λ (b : Byte). Contains lines (line_number b.address)) (stored_bytes area a n x)
lines-written area lines a n x is among le = on (strobed_lanes area.bus x) (filter-range-below (is_strobed x) 0 area.bus area.bus (omega arith))
  where
    on : (lanes : List ℕ) → AllByRecursion (λ k. k < area.bus) lanes →
        AllByRecursion (λ (b : Byte). Contains lines (line_number b.address)) (lane_bytes (word_address a n area.bus) x (filter (λ lane. may_write area (lane_address a n area.bus lane)) lanes))
    on [] below = tt
    on (k ∷ lanes) below =
        let rest : AllByRecursion (λ (b : Byte). Contains lines (line_number b.address)) (lane_bytes (word_address a n area.bus) x (filter (λ lane. may_write area (lane_address a n area.bus lane)) lanes)) = on lanes below.1 in
        let go : (b : Bool) → may_write area (lane_address a n area.bus k) ≡ b →
        AllByRecursion (λ (b : Byte). Contains lines (line_number b.address))
        (lane_bytes (word_address a n area.bus) x (cond b (k ∷ filter (λ lane. may_write area (lane_address a n area.bus lane)) lanes) (filter (λ lane. may_write area (lane_address a n area.bus lane)) lanes))) =
        elim [
          | true ↦ λ may.
              let inside : is_inside area (lane_address a n area.bus k) ≡ true =
              okay-inside (is_inside area (lane_address a n area.bus k)) (is_in_some area.read_only (lane_address a n area.bus k)) may in
              let word : is_inside area (word_address a n area.bus) ≡ true = sym (inside-of_lane area a n k is below.0) ∙ inside in
              (subst (λ (l : ℕ). Contains lines l) (sym (words-in_lines a n area.bus k is.bus below.0)) (among n le word), rest)
          | false ↦ λ may. rest
        ]
        in go (may_write area (lane_address a n area.bus k)) refl

module _ (wanted : BeatOf → Span) (schedule : Schedule) (area : MemoryArea) (store : Store) (a : Addr) (n : ℕ) (x : WBeat) (w : List WBeat) (r : List RBeat) (all : List Access) where
  abbrev t : ℕ
  t = a.tag.txn

  abbrev bytes_written : List Byte
  bytes_written = stored_bytes area a n x

  abbrev new : List Access
  new = accesses a.tag.txn true (stored_bytes area a n x)

  abbrev so_far : ℕ
  so_far = length (of_key number_of_data a.tag.txn w)

  -- what the beat is of its transaction, and that nothing has come of later ones
  pub record IsNextWrite : Type 0 where
    pub is_store : IsStore store
    pub lines : AllByRecursion (λ (b : Byte). Contains store.lines (line_number b.address)) (stored_bytes area a n x)
    pub own : x.tag.txn ≡ a.tag.txn
    pub rest : List (BeatOf × WBeat)
    pub place : drop (length (of_key number_of_data a.tag.txn w)) (beats_with_data (schedule.writes a.tag.txn)) ≡ (record { request = without_id a; beat = n }, x) ∷ rest
    pub none_later : (after : ℕ) → ComesBefore schedule.writes a.tag.txn after → length (of_key number_of_data after w) ≡ 0

  own-accesses : accesses_of true t (all ++ new) ≡ accesses_of true t all ++ new
  own-accesses = accesses_of-append true t all new ∙ ap (λ xs. accesses_of true t all ++ xs) (accesses_of-own true t bytes_written)

  other-accesses : (number : ℕ) → t ≢ number → accesses_of true number (all ++ new) ≡ accesses_of true number all
  other-accesses number ne = accesses_of-append true number all new ∙ ap (λ xs. accesses_of true number all ++ xs) (accesses_of-other true true number t bytes_written ne) ∙ append-nil (accesses_of true number all)

  reads-same : (number : ℕ) → accesses_of false number (all ++ new) ≡ accesses_of false number all
  reads-same number = accesses_of-append false number all new ∙ ap (λ xs. accesses_of false number all ++ xs) (accesses_of-opposite true number t bytes_written) ∙ append-nil (accesses_of false number all)

  module _ (is : HasAccessedOn wanted schedule area store w r all) (next : IsNextWrite) where
    own-count : length (of_key number_of_data t (w ++ x ∷ [])) ≡ suc so_far
    own-count = omega (arith, ap length (of_key-push number_of_data t w x next.own), length-append (of_key number_of_data t w) (x ∷ []))

    due-more : due_writes area (schedule.writes t) (suc so_far) ≡ due_writes area (schedule.writes t) so_far ++ bytes_written
    due-more =
        flat_map_next (λ (b : BeatOf × WBeat). stored_bytes area b.0.request b.0.beat b.1) so_far (beats_with_data (schedule.writes t)) (record { request = without_id a; beat = n }, x) next.rest next.place
        ∙ ap (λ xs. due_writes area (schedule.writes t) so_far ++ xs) (written-without_id area a n x)

    written-own : map (λ (a : Access). a.byte) (accesses_of true t (all ++ new)) ≡ due_writes area (schedule.writes t) (length (of_key number_of_data t (w ++ x ∷ [])))
    written-own =
        ap (map (λ (a : Access). a.byte)) own-accesses
        ∙ map-append (λ (a : Access). a.byte) (accesses_of true t all) new
        ∙ ap (λ xs. xs ++ map (λ (a : Access). a.byte) new) (is.written t)
        ∙ ap (λ xs. due_writes area (schedule.writes t) so_far ++ xs) (bytes-of_accesses t true bytes_written)
        ∙ sym due-more
        ∙ ap (due_writes area (schedule.writes t)) (sym own-count)

    written-more : (number : ℕ) → map (λ (a : Access). a.byte) (accesses_of true number (all ++ new)) ≡ due_writes area (schedule.writes number) (length (of_key number_of_data number (w ++ x ∷ [])))
    written-more number = elim (cases_eq t number) [
      | inl own ↦ subst (λ (m : ℕ). map (λ (a : Access). a.byte) (accesses_of true m (all ++ new)) ≡ due_writes area (schedule.writes m) (length (of_key number_of_data m (w ++ x ∷ [])))) own written-own
      | inr ne ↦
          ap (map (λ (a : Access). a.byte)) (other-accesses number ne)
          ∙ is.written number
          ∙ ap (λ xs. due_writes area (schedule.writes number) (length xs)) (sym (of_key-push_other number_of_data number w x (λ h. ne (sym next.own ∙ h))))
    ]

    latest-more : (earlier later : List Access) (b : Access) → all ++ new ≡ earlier ++ b ∷ later → b.write ≡ false → b.byte.value ≡ value_after (writes_at b.byte.address) (λ (a : Access). a.byte.value) area.fill earlier
    latest-more earlier later b at way = elim (split_append all new earlier b later at) [
      | inl old ↦ is.latest earlier old.0 b old.1 way
      | inr mine ↦ absurd (stands_among false b.number new mine.0 b later mine.1 way refl (accesses_of-opposite true b.number t bytes_written))
    ]

    pub accessed-written : HasAccessedOn wanted schedule area (with_bytes store bytes_written) (w ++ x ∷ []) r (all ++ new)
    accessed-written = record {
      written = written-more;
      read = λ number. ap (map (λ (a : Access). a.byte.address)) (reads-same number) ∙ is.read number;
      answered = λ number.
          is.answered number
          ∙ ap (λ (xs : List Access). answered_bytes (wanted_before area wanted (schedule.reads number) (length (of_key number_of_read_data number r))) (map (λ (a : Access). a.byte.value) xs)) (sym (reads-same number));
      bytes = λ address inside.
          value_after-append (writes_at address) (λ (a : Access). a.byte.value) area.fill all new
          ∙ ap (λ v. value_after (writes_at address) (λ (a : Access). a.byte.value) v new) (is.bytes address inside)
          ∙ left-written t address store.lines bytes_written store next.is_store refl next.lines;
      latest = latest-more;
      writes_in_order = order-more schedule.writes true all t bytes_written
          (λ after chain. nil-of_map (λ (a : Access). a.byte) (accesses_of true after all) (is.written after ∙ ap (due_writes area (schedule.writes after)) (next.none_later after chain)))
          is.writes_in_order;
      reads_in_order = order-other schedule.reads true all t bytes_written is.reads_in_order;
    }
