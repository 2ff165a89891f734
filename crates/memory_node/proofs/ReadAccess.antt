-- A beat of read data that is put: what is read for it.
use Rattle.std.proofs.Common.{◌≡◌, ◌≢◌, ℕ, suc, Bool, true, false, cond, List, [], ◌∷◌, ◌++◌, length, map, take, drop, refl, sym, ◌∙◌, ap, subst, arith, inl, inr, append-nil, length-append, IsTrue}
use Rattle.std.specs.Prelude.{filter}
use Rattle.std.specs.List.{AllByRecursion}
use Rattle.std.proofs.lemmas.Bool.{cases_eq}
use Rattle.std.proofs.lemmas.List.{length-map, map-append, drop-map}
use Rattle.std.proofs.lemmas.Simd.{map-map}
use Rattle.axi_beats.specs.declared.beat.RBeat.{RBeat}
use Rattle.axi_beats.specs.declared.beat.WBeat.{WBeat}
use Rattle.axi_trail.specs.LinkContracts.{without_id}
use Rattle.axi_trail.specs.Schedule.{ComesBefore, Schedule, Share, bytes_on}
use Rattle.axi_trail.specs.Words.{number_of_read_data}
use Rattle.subordinate.specs.Parts.{BeatOf, beats_of_parts}
use Rattle.memory_node.specs.Accesses.{accesses_of, writes_at}
use Rattle.memory_node.specs.WantedReads.{lanes_of_span, wanted_addresses, wanted_allowed, wanted_before, wanted_due, wanted_reads}
use Rattle.memory_node.specs.Events.{Access, accesses}
use Rattle.memory_node.specs.MemoryTable.{memory_service}
use Rattle.subordinate.specs.SubordinateTable.{next_beat}
use Rattle.memory_node.specs.Status.{may_read}
use Rattle.memory_node.specs.Store.{Store, byte_at}
use Rattle.memory_node.specs.MemoryArea.{IsMemoryArea, MemoryArea, is_in_some, is_inside}
use Rattle.subordinate.specs.declared.entry.ReadEntry.{ReadEntry}
use Rattle.memory_node.proofs.AccessLemmas.{IsReadOf, accesses_of-append, accesses_of-opposite, accesses_of-other, accesses_of-own, all_at, order-more, order-other, addresses-of_accesses, nil-of_map, reads-are, value_after-reads, values-of_accesses}
use Rattle.memory_node.specs.MemoryTrail.{HasAccessedOn}
use Rattle.memory_node.proofs.FillLemmas.{bytes_on-more, count-reads, count_allowed, filled-append, filled-beat}
use Rattle.memory_node.proofs.LaneLemmas.{AreWithin, allowed-without_id, okay-inside, reads-without_id}
use Rattle.plain_lists.proofs.KeyLemmas.{of_key-push, of_key-push_other}
use Rattle.plain_lists.specs.Keys.{of_key}
use Rattle.plain_lists.proofs.PartLemmas.{flat_map_next, split_append}
use Rattle.axi_beats.specs.Lanes.{Span}
use Rattle.burst_address.specs.Accesses.{answered_bytes, value_after}
use Rattle.burst_address.specs.Bytes.{Byte}
use Rattle.burst_address.specs.Lanes.{lane_address}
use Rattle.burst_address.proofs.AccessValues.{value_after-append}
use Rattle.burst_address.specs.Legal.{IsLegal}

-- a byte that is read is in the memory, and has the value that the store has
record IsStored (area : MemoryArea) (store : Store) (byte : Byte) : Type 0 where
  inside : IsTrue (is_inside area byte.address)
  value : byte.value ≡ byte_at store byte.address

stored-lanes : (area : MemoryArea) (store : Store) (address : ℕ → ℕ) (lanes : List ℕ) →
    AllByRecursion (IsStored area store) (map (λ lane. record { address = address lane; value = byte_at store (address lane) }) (filter (λ lane. may_read area (address lane)) lanes))
stored-lanes area store address [] = tt
stored-lanes area store address (k ∷ lanes) =
    let rest : AllByRecursion (IsStored area store) (map (λ lane. record { address = address lane; value = byte_at store (address lane) }) (filter (λ lane. may_read area (address lane)) lanes)) =
    stored-lanes area store address lanes in
    let go : (b : Bool) → may_read area (address k) ≡ b →
    AllByRecursion (IsStored area store) (map (λ lane. record { address = address lane; value = byte_at store (address lane) })
    (cond b (k ∷ filter (λ lane. may_read area (address lane)) lanes) (filter (λ lane. may_read area (address lane)) lanes))) =
    elim [
      | true ↦ λ may. (record { inside = okay-inside (is_inside area (address k)) (is_in_some area.hole (address k)) may; value = refl }, rest)
      | false ↦ λ may. rest
    ]
    in go (may_read area (address k)) refl

module _ (wanted : BeatOf → Span) (schedule : Schedule) (area : MemoryArea) (store : Store) (e : ReadEntry) (w : List WBeat) (r : List RBeat) (all : List Access) where
  abbrev t : ℕ
  t = e.request.tag.txn

  abbrev share : Share
  share = schedule.reads e.request.tag.txn

  abbrev beat : RBeat
  beat = next_beat (memory_service area) store e

  abbrev bytes_read : List Byte
  bytes_read = wanted_reads area wanted store (record { request = e.request; beat = e.put })

  abbrev new : List Access
  new = accesses e.request.tag.txn false (wanted_reads area wanted store (record { request = e.request; beat = e.put }))

  abbrev now : BeatOf
  now = record { request = e.request; beat = e.put }

  abbrev so_far : ℕ
  so_far = length (of_key number_of_read_data e.request.tag.txn r)

  -- what the beat is of its transaction, and that nothing has come of later ones
  pub record IsNextRead : Type 0 where
    pub is_area : IsMemoryArea area
    pub legal : IsLegal e.request area.bus
    pub alike : wanted (record { request = without_id e.request; beat = e.put }) ≡ wanted (record { request = e.request; beat = e.put })
    pub within : AreWithin area.bus (wanted (record { request = e.request; beat = e.put })) (record { request = e.request; beat = e.put })
    pub lanes : (schedule.reads e.request.tag.txn).lanes ≡ map wanted (beats_of_parts (schedule.reads e.request.tag.txn).parts)
    pub rest : List BeatOf
    pub place : drop (length (of_key number_of_read_data e.request.tag.txn r)) (beats_of_parts (schedule.reads e.request.tag.txn).parts) ≡ record { request = without_id e.request; beat = e.put } ∷ rest
    pub none_later : (after : ℕ) → ComesBefore schedule.reads e.request.tag.txn after → length (of_key number_of_read_data after r) ≡ 0

  own-beats : of_key number_of_read_data t (r ++ beat ∷ []) ≡ of_key number_of_read_data t r ++ beat ∷ []
  own-beats = of_key-push number_of_read_data t r beat refl

  own-count : length (of_key number_of_read_data t (r ++ beat ∷ [])) ≡ suc so_far
  own-count = omega (arith, ap length own-beats, length-append (of_key number_of_read_data t r) (beat ∷ []))

  own-accesses : accesses_of false t (all ++ new) ≡ accesses_of false t all ++ new
  own-accesses = accesses_of-append false t all new ∙ ap (λ xs. accesses_of false t all ++ xs) (accesses_of-own false t bytes_read)

  other-accesses : (number : ℕ) → t ≢ number → accesses_of false number (all ++ new) ≡ accesses_of false number all
  other-accesses number ne = accesses_of-append false number all new ∙ ap (λ xs. accesses_of false number all ++ xs) (accesses_of-other false false number t bytes_read ne) ∙ append-nil (accesses_of false number all)

  writes-same : (number : ℕ) → accesses_of true number (all ++ new) ≡ accesses_of true number all
  writes-same number = accesses_of-append true number all new ∙ ap (λ xs. accesses_of true number all ++ xs) (accesses_of-opposite false number t bytes_read) ∙ append-nil (accesses_of true number all)

  addresses-read : map (λ (a : Access). a.byte.address) new ≡ wanted_addresses area wanted now
  addresses-read =
      addresses-of_accesses t false bytes_read
      ∙ map-map (λ (b : Byte). b.address) (λ lane. record { address = lane_address e.request e.put area.bus lane; value = byte_at store (lane_address e.request e.put area.bus lane) })
      (filter (λ lane. may_read area (lane_address e.request e.put area.bus lane)) (lanes_of_span (wanted (record { request = e.request; beat = e.put }))))

  module _ (is : HasAccessedOn wanted schedule area store w r all) (next : IsNextRead) where
    due-more : wanted_due area wanted share (suc so_far) ≡ wanted_due area wanted share so_far ++ wanted_addresses area wanted now
    due-more =
        flat_map_next (wanted_addresses area wanted) so_far (beats_of_parts share.parts) (record { request = without_id e.request; beat = e.put }) next.rest next.place
        ∙ ap (λ xs. wanted_due area wanted share so_far ++ xs) (reads-without_id area wanted e.request e.put next.alike)

    allowed-more : wanted_before area wanted share (suc so_far) ≡ wanted_before area wanted share so_far ++ wanted_allowed area wanted now
    allowed-more =
        flat_map_next (wanted_allowed area wanted) so_far (beats_of_parts share.parts) (record { request = without_id e.request; beat = e.put }) next.rest next.place
        ∙ ap (λ xs. wanted_before area wanted share so_far ++ xs) (allowed-without_id area wanted e.request e.put next.alike)

    read-own : map (λ (a : Access). a.byte.address) (accesses_of false t (all ++ new)) ≡ wanted_due area wanted share (length (of_key number_of_read_data t (r ++ beat ∷ [])))
    read-own =
        ap (map (λ (a : Access). a.byte.address)) own-accesses
        ∙ map-append (λ (a : Access). a.byte.address) (accesses_of false t all) new
        ∙ ap (λ xs. xs ++ map (λ (a : Access). a.byte.address) new) (is.read t)
        ∙ ap (λ xs. wanted_due area wanted share so_far ++ xs) addresses-read
        ∙ sym due-more
        ∙ ap (wanted_due area wanted share) (sym own-count)

    read-more : (number : ℕ) → map (λ (a : Access). a.byte.address) (accesses_of false number (all ++ new)) ≡ wanted_due area wanted (schedule.reads number) (length (of_key number_of_read_data number (r ++ beat ∷ [])))
    read-more number = elim (cases_eq t number) [
      | inl own ↦ subst (λ (n : ℕ). map (λ (a : Access). a.byte.address) (accesses_of false n (all ++ new)) ≡ wanted_due area wanted (schedule.reads n) (length (of_key number_of_read_data n (r ++ beat ∷ [])))) own read-own
      | inr ne ↦
          ap (map (λ (a : Access). a.byte.address)) (other-accesses number ne)
          ∙ is.read number
          ∙ ap (λ xs. wanted_due area wanted (schedule.reads number) (length xs)) (sym (of_key-push_other number_of_read_data number r beat ne))
    ]

    values-counted : length (map (λ (a : Access). a.byte.value) (accesses_of false t all)) ≡ count_allowed (wanted_before area wanted share so_far)
    values-counted =
        length-map (accesses_of false t all) (λ (a : Access). a.byte.value)
        ∙ sym (length-map (accesses_of false t all) (λ (a : Access). a.byte.address))
        ∙ ap length (is.read t)
        ∙ sym (count-reads area wanted (take so_far (beats_of_parts share.parts)))

    filled : bytes_on (of_key number_of_read_data t (r ++ beat ∷ [])) share.lanes ≡ bytes_on (of_key number_of_read_data t r) share.lanes ++ answered_bytes (wanted_allowed area wanted now) (map (λ (b : Byte). b.value) bytes_read)
    filled =
        let spans : drop so_far share.lanes ≡ wanted now ∷ map wanted next.rest =
        ap (drop so_far) next.lanes
        ∙ drop-map wanted so_far (beats_of_parts share.parts)
        ∙ ap (map wanted) next.place
        ∙ ap (λ (s : Span). s ∷ map wanted next.rest) next.alike in
        ap (λ xs. bytes_on xs share.lanes) own-beats
        ∙ bytes_on-more (of_key number_of_read_data t r) beat share.lanes (wanted now) (map wanted next.rest) spans
        ∙ ap (λ xs. bytes_on (of_key number_of_read_data t r) share.lanes ++ xs) (filled-beat area wanted store now next.is_area next.legal next.within)

    answered-own : bytes_on (of_key number_of_read_data t (r ++ beat ∷ [])) share.lanes
        ≡ answered_bytes (wanted_before area wanted share (length (of_key number_of_read_data t (r ++ beat ∷ [])))) (map (λ (a : Access). a.byte.value) (accesses_of false t (all ++ new)))
    answered-own =
        filled
        ∙ ap (λ xs. xs ++ answered_bytes (wanted_allowed area wanted now) (map (λ (b : Byte). b.value) bytes_read)) (is.answered t)
        ∙ sym (filled-append (wanted_before area wanted share so_far) (wanted_allowed area wanted now) (map (λ (a : Access). a.byte.value) (accesses_of false t all)) (map (λ (b : Byte). b.value) bytes_read) values-counted)
        ∙ ap (λ xs. answered_bytes xs (map (λ (a : Access). a.byte.value) (accesses_of false t all) ++ map (λ (b : Byte). b.value) bytes_read)) (sym allowed-more ∙ ap (wanted_before area wanted share) (sym own-count))
        ∙ ap (answered_bytes (wanted_before area wanted share (length (of_key number_of_read_data t (r ++ beat ∷ [])))))
        (sym (ap (map (λ (a : Access). a.byte.value)) own-accesses
        ∙ map-append (λ (a : Access). a.byte.value) (accesses_of false t all) new
        ∙ ap (λ xs. map (λ (a : Access). a.byte.value) (accesses_of false t all) ++ xs) (values-of_accesses t false bytes_read)))

    answered-more : (number : ℕ) → bytes_on (of_key number_of_read_data number (r ++ beat ∷ [])) (schedule.reads number).lanes
        ≡ answered_bytes (wanted_before area wanted (schedule.reads number) (length (of_key number_of_read_data number (r ++ beat ∷ [])))) (map (λ (a : Access). a.byte.value) (accesses_of false number (all ++ new)))
    answered-more number = elim (cases_eq t number) [
      | inl own ↦ subst (λ (n : ℕ). bytes_on (of_key number_of_read_data n (r ++ beat ∷ [])) (schedule.reads n).lanes
          ≡ answered_bytes (wanted_before area wanted (schedule.reads n) (length (of_key number_of_read_data n (r ++ beat ∷ [])))) (map (λ (a : Access). a.byte.value) (accesses_of false n (all ++ new)))) own answered-own
      | inr ne ↦
          ap (λ xs. bytes_on xs (schedule.reads number).lanes) (of_key-push_other number_of_read_data number r beat ne)
          ∙ is.answered number
          ∙ ap (λ xs. answered_bytes (wanted_before area wanted (schedule.reads number) (length xs)) (map (λ (a : Access). a.byte.value) (accesses_of false number all))) (sym (of_key-push_other number_of_read_data number r beat ne))
          ∙ ap (λ xs. answered_bytes (wanted_before area wanted (schedule.reads number) (length (of_key number_of_read_data number (r ++ beat ∷ [])))) (map (λ (a : Access). a.byte.value) xs)) (sym (other-accesses number ne))
    ]

    reads-stored : AllByRecursion (IsReadOf (IsStored area store) t) new
    reads-stored = reads-are (IsStored area store) t bytes_read (stored-lanes area store (λ lane. lane_address e.request e.put area.bus lane) (lanes_of_span (wanted (record { request = e.request; beat = e.put }))))

    latest-more : (earlier later : List Access) (a : Access) → all ++ new ≡ earlier ++ a ∷ later → a.write ≡ false → a.byte.value ≡ value_after (writes_at a.byte.address) (λ (a : Access). a.byte.value) area.fill earlier
    latest-more earlier later a at way = elim (split_append all new earlier a later at) [
      | inl old ↦ is.latest earlier old.0 a old.1 way
      | inr mine ↦
          let here : (IsReadOf (IsStored area store) t a) × (AllByRecursion (IsReadOf (IsStored area store) t) mine.0) =
          all_at (IsReadOf (IsStored area store) t) mine.0 a later (subst (λ (xs : List Access). AllByRecursion (IsReadOf (IsStored area store) t) xs) mine.1 reads-stored) in
          here.0.byte.value
          ∙ sym (is.bytes a.byte.address here.0.byte.inside)
          ∙ sym (value_after-reads (IsStored area store) t a.byte.address (value_after (writes_at a.byte.address) (λ (a : Access). a.byte.value) area.fill all) mine.0 here.1)
          ∙ sym (value_after-append (writes_at a.byte.address) (λ (a : Access). a.byte.value) area.fill all mine.0)
          ∙ ap (value_after (writes_at a.byte.address) (λ (a : Access). a.byte.value) area.fill) (sym mine.2)
    ]

    pub accessed-read : HasAccessedOn wanted schedule area store w (r ++ beat ∷ []) (all ++ new)
    accessed-read = record {
      written = λ number. ap (map (λ (a : Access). a.byte)) (writes-same number) ∙ is.written number;
      read = read-more;
      answered = answered-more;
      bytes = λ address inside.
          value_after-append (writes_at address) (λ (a : Access). a.byte.value) area.fill all new
          ∙ value_after-reads (IsStored area store) t address (value_after (writes_at address) (λ (a : Access). a.byte.value) area.fill all) new reads-stored
          ∙ is.bytes address inside;
      latest = latest-more;
      writes_in_order = order-other schedule.writes false all t bytes_read is.writes_in_order;
      reads_in_order = order-more schedule.reads false all t bytes_read
          (λ after chain. nil-of_map (λ (a : Access). a.byte.address) (accesses_of false after all) (is.read after ∙ ap (wanted_due area wanted (schedule.reads after)) (next.none_later after chain)))
          is.reads_in_order;
    }
