-- What is asked at its inputs, a mux asks below.
use Rattle.std.proofs.Common.{[], ◌++◌, ◌/◌, ◌<◌, ◌^◌, ◌∙◌, ◌∷◌, ◌≡◌, ◌≤◌, Bool, IsTrue, List, None, Option, Some, ap, arith, length, length-append, map, refl, subst, sym, ℕ}
use Rattle.std.specs.Option.{option_map_or}
use Rattle.std.specs.Prelude.{All, flat_map, slice_get}
use Rattle.std.proofs.Math.Nat.{pow-le-pow_right}
use Rattle.std.proofs.lemmas.List.Elements.{All-map, All-nil, All-weaker}
use Rattle.std.proofs.lemmas.Nat.{mul-add-lt}
use Rattle.std.proofs.lemmas.Option.{slice_get_within}
use Rattle.axi_beats.specs.declared.beat.Addr.{Addr}
use Rattle.axi_beats.specs.declared.beat.BBeat.{BBeat}
use Rattle.axi_beats.specs.declared.beat.RBeat.{RBeat}
use Rattle.axi_beats.specs.declared.beat.WBeat.{WBeat}
use Rattle.axi_trail.specs.LinkContracts.{Asks, Requests}
use Rattle.axi_trail.specs.Schedule.{Progress, Schedule, Share, no_share}
use Rattle.axi_trail.specs.Trail.{Beats, Trail}
use Rattle.axi_trail.specs.Words.{Asked, Reply, burst_asked, id_of_reply, number_of_address, number_of_data, read_replies, read_reply, write_asked, write_replies, write_reply}
use Rattle.mux_node.proofs.MergeLemmas.{AreParted, CarriesEach, all-by_input, map-map, merged-requests, sel-key}
use Rattle.mux_node.proofs.ReplyLemmas.{narrowed_reply, of_room, parted-count}
use Rattle.mux_node.proofs.StepLemmas.{share-there}
use Rattle.mux_node.proofs.WayLemmas.{merges}
use Rattle.mux_node.specs.MuxState.{MuxState}
use Rattle.mux_node.specs.MuxTable.{ids_of, narrowed_b, narrowed_r, widened}
use Rattle.mux_node.specs.MuxTrail.{AreMerged, Merges, MuxKeeps, at_input, share_at_input}
use Rattle.plain_lists.proofs.KeyLemmas.{of_key-map}
use Rattle.plain_lists.proofs.PlaceLemmas.{at-all}
use Rattle.plain_lists.proofs.PrefixLemmas.{prefix_agree, prefix_nil, prefix_of_same, prefix_same}
use Rattle.plain_lists.specs.Keys.{of_key}
use Rattle.plain_lists.specs.Prefixes.{IsPrefix}

-- no_share is asked where no_share comes by
no-split : (before : List Asked) (a : Asked) (after : List Asked) → [] ≡ before ++ a ∷ after → ⊥
no-split before a after split = absurd (omega (arith, ap length split, length-append before (a ∷ after)))

no-split_twice : (before : List Asked) (a : Asked) (between : List Asked) (next : Asked) (after : List Asked) → [] ≡ (before ++ a ∷ between) ++ next ∷ after → ⊥
no-split_twice before a between next after split = absurd (omega (arith, ap length split, length-append (before ++ a ∷ between) (next ∷ after)))

no-requests : (shares : ℕ → Share) (width : ℕ) (issued : ℕ → Bool) (shown : Addr → Asked) → Requests shares width issued shown [] []
no-requests shares width issued shown = record {
  asks_only_its_parts = λ t. prefix_nil (shares t).parts;
  ids_fit = All-nil (λ (a : Addr). a.id < 2 ^ width);
  whole_before_the_next = λ before a after t split earlier. absurd (no-split before a after split);
  one_id_at_a_time = λ before a between next after split same differ. absurd (no-split_twice before a between next after split);
  was_issued = All-nil (λ (a : Addr). IsTrue (issued a.tag.txn));
}

wider-requests : (shares : ℕ → Share) (width more : ℕ) (issued : ℕ → Bool) (shown : Addr → Asked) (addresses : List Addr) (replies : List Reply) → width ≤ more → Requests shares width issued shown addresses replies →
    Requests shares more issued shown addresses replies
wider-requests shares width more issued shown addresses replies le asks =
    let most : 2 ^ width ≤ 2 ^ more = pow-le-pow_right {n = 2} (omega arith) {i = width} {j = more} le in
    record {
      asks_only_its_parts = asks.asks_only_its_parts;
      ids_fit = All-weaker (λ (a : Addr). a.id < 2 ^ width) (λ (a : Addr). a.id < 2 ^ more) (λ a is. omega (arith, is, most)) addresses asks.ids_fit;
      whole_before_the_next = asks.whole_before_the_next;
      one_id_at_a_time = asks.one_id_at_a_time;
      was_issued = asks.was_issued;
    }

carries-each : (route : ℕ → ℕ) (above : ℕ → ℕ → Share) (below : ℕ → Share) → Merges route above below → CarriesEach route above below
carries-each route above below merges = record { parts = λ t. (merges.same t).parts; chains = merges.chains }

-- answers as they show
pub shown-b : (ids j : ℕ) (bs : List BBeat) → map write_reply (map (narrowed_b ids) (of_key (λ b. b.id / ids) j bs)) ≡ map (narrowed_reply ids) (of_room ids j (map write_reply bs))
shown-b ids j bs =
    map-map write_reply (narrowed_b ids) (of_key (λ (b : BBeat). b.id / ids) j bs) ∙ sym (map-map (narrowed_reply ids) write_reply (of_key (λ (b : BBeat). b.id / ids) j bs))
    ∙ ap (map (narrowed_reply ids)) (sym (of_key-map (λ (p : Reply). p.id / ids) write_reply j bs))

pub shown-r : (ids j : ℕ) (rs : List RBeat) → map read_reply (map (narrowed_r ids) (of_key (λ r. r.id / ids) j rs)) ≡ map (narrowed_reply ids) (of_room ids j (map read_reply rs))
shown-r ids j rs =
    map-map read_reply (narrowed_r ids) (of_key (λ (r : RBeat). r.id / ids) j rs) ∙ sym (map-map (narrowed_reply ids) read_reply (of_key (λ (r : RBeat). r.id / ids) j rs))
    ∙ ap (map (narrowed_reply ids)) (sym (of_key-map (λ (p : Reply). p.id / ids) read_reply j rs))

module _ (schedules : ℕ → Schedule) (now : Progress) (s : MuxState) (uppers : Trail) (lower : Beats) (keeps : MuxKeeps schedules s uppers lower) (asked : All (λ link. Asks (schedules link) now (uppers link)) s.shape.uppers) where
  abbrev ids : ℕ
  ids = ids_of s.shape

  asks-at : (input link : ℕ) → slice_get s.shape.uppers input ≡ Some link → Asks (schedules link) now (uppers link)
  asks-at input link at = at-all (λ l. Asks (schedules l) now (uppers l)) s.shape.uppers input link asked at

  each-writes : (input : ℕ) → Requests (share_at_input s.shape.uppers (λ link. (schedules link).writes) input) s.shape.width now.issued write_asked (at_input s.shape.uppers (λ link. (uppers link).aw) input) (map write_reply (at_input s.shape.uppers (λ link. (uppers link).b) input))
  each-writes input = go (slice_get s.shape.uppers input) refl
    where
      go : (o : Option ℕ) → slice_get s.shape.uppers input ≡ o →
          Requests (λ t. option_map_or (λ link. (schedules link).writes t) o no_share) s.shape.width now.issued write_asked (option_map_or (λ link. (uppers link).aw) o []) (map write_reply (option_map_or (λ link. (uppers link).b) o []))
      go None at = no-requests (λ t. no_share) s.shape.width now.issued write_asked
      go (Some link) at =
          wider-requests (schedules link).writes (schedules link).id_width s.shape.width now.issued write_asked (uppers link).aw (write_replies (uppers link))
          (at-all (λ l. (schedules l).id_width ≤ s.shape.width) s.shape.uppers input link keeps.suits.narrow at) (asks-at input link at).writes

  each-reads : (input : ℕ) → Requests (share_at_input s.shape.uppers (λ link. (schedules link).reads) input) s.shape.width now.issued burst_asked (at_input s.shape.uppers (λ link. (uppers link).ar) input) (map read_reply (at_input s.shape.uppers (λ link. (uppers link).r) input))
  each-reads input = go (slice_get s.shape.uppers input) refl
    where
      go : (o : Option ℕ) → slice_get s.shape.uppers input ≡ o →
          Requests (λ t. option_map_or (λ link. (schedules link).reads t) o no_share) s.shape.width now.issued burst_asked (option_map_or (λ link. (uppers link).ar) o []) (map read_reply (option_map_or (λ link. (uppers link).r) o []))
      go None at = no-requests (λ t. no_share) s.shape.width now.issued burst_asked
      go (Some link) at =
          wider-requests (schedules link).reads (schedules link).id_width s.shape.width now.issued burst_asked (uppers link).ar (read_replies (uppers link))
          (at-all (λ l. (schedules l).id_width ≤ s.shape.width) s.shape.uppers input link keeps.suits.narrow at) (asks-at input link at).reads

  parted-b : AreParted ids (write_replies lower) (λ input. map write_reply (at_input s.shape.uppers (λ link. (uppers link).b) input))
  parted-b input id small =
      parted-count ids input id small (write_replies lower)
      ∙ ap (λ (ps : List Reply). length (of_key id_of_reply id ps)) (sym (ap (map write_reply) (keeps.b input) ∙ shown-b ids input lower.b))

  parted-r : AreParted ids (read_replies lower) (λ input. map read_reply (at_input s.shape.uppers (λ link. (uppers link).r) input))
  parted-r input id small =
      parted-count ids input id small (read_replies lower)
      ∙ ap (λ (ps : List Reply). length (of_key id_of_reply id ps)) (sym (ap (map read_reply) (keeps.r input) ∙ shown-r ids input lower.r))

  -- IDs with their inputs fit
  abbrev Fits : Addr → Type 0
  Fits a = a.id < 2 ^ (schedules s.shape.lower).id_width

  fits : (route : ℕ → ℕ) (merged : List Addr) (of : ℕ → List Addr) → AreMerged route ids merged (at_input s.shape.uppers of) → All Fits merged
  fits route merged of is =
      all-by_input Fits number_of_address route merged (λ j. subst (λ (xs : List Addr). All Fits xs) (sym (is.parts j)) (All-map Fits (widened ids j) (at_input s.shape.uppers of j) (go j (slice_get s.shape.uppers j) refl (is.small j))))
    where
      go : (j : ℕ) (o : Option ℕ) → slice_get s.shape.uppers j ≡ o → All (λ (a : Addr). a.id < ids) (option_map_or of o []) → All (λ (a : Addr). Fits (widened ids j a)) (option_map_or of o [])
      go j None at small = All-nil (λ (a : Addr). Fits (widened ids j a))
      go j (Some link) at small =
          let known : j < length s.shape.uppers = slice_get_within s.shape.uppers j link at in
          All-weaker (λ (a : Addr). a.id < ids) (λ (a : Addr). Fits (widened ids j a)) (λ a is. omega (arith, mul-add-lt j ids a.id (length s.shape.uppers) known is, keeps.suits.wide)) (of link) small

  data-is : (t : ℕ) → IsPrefix (of_key number_of_data t lower.w) (flat_map (λ beats. beats) ((schedules s.shape.lower).writes t).write_data)
  data-is t = go (slice_get s.shape.uppers (keeps.suits.write_route t)) refl
    where
      mine : of_key number_of_data t lower.w ≡ of_key number_of_data t (at_input s.shape.uppers (λ link. (uppers link).w) (keeps.suits.write_route t))
      mine = sel-key number_of_data keeps.suits.write_route (keeps.suits.write_route t) t refl lower.w ∙ ap (of_key number_of_data t) (keeps.w (keeps.suits.write_route t))

      go : (o : Option ℕ) → slice_get s.shape.uppers (keeps.suits.write_route t) ≡ o → IsPrefix (of_key number_of_data t lower.w) (flat_map (λ beats. beats) ((schedules s.shape.lower).writes t).write_data)
      go None at =
          prefix_same (mine ∙ ap (λ (o : Option ℕ). of_key number_of_data t (option_map_or (λ link. (uppers link).w) o [])) at) (prefix_nil (flat_map (λ beats. beats) ((schedules s.shape.lower).writes t).write_data))
      go (Some link) at =
          prefix_of_same
          (prefix_same (mine ∙ ap (λ (o : Option ℕ). of_key number_of_data t (option_map_or (λ link. (uppers link).w) o [])) at) ((asks-at (keeps.suits.write_route t) link at).data_is_the_schedules t))
          (sym (ap (λ (d : List (List WBeat)). flat_map (λ beats. beats) d)
          ((keeps.suits.writes.same t).write_data ∙ ap (λ (x : Share). x.write_data) (share-there s.shape.uppers (λ l. (schedules l).writes) (keeps.suits.write_route t) link t at))))

  pub asks-below : Asks (schedules s.shape.lower) now lower
  asks-below = record {
    writes = merged-requests keeps.suits.write_route ids s.shape.width (schedules s.shape.lower).id_width (share_at_input s.shape.uppers (λ link. (schedules link).writes)) (schedules s.shape.lower).writes now.issued (λ n. 0) lower.aw
        (at_input s.shape.uppers (λ link. (uppers link).aw)) (write_replies lower) (λ input. map write_reply (at_input s.shape.uppers (λ link. (uppers link).b) input)) keeps.aw parted-b
        (carries-each keeps.suits.write_route (share_at_input s.shape.uppers (λ link. (schedules link).writes)) (schedules s.shape.lower).writes keeps.suits.writes) (fits keeps.suits.write_route lower.aw (λ link. (uppers link).aw) keeps.aw) each-writes;
    reads = merged-requests keeps.suits.read_route ids s.shape.width (schedules s.shape.lower).id_width (share_at_input s.shape.uppers (λ link. (schedules link).reads)) (schedules s.shape.lower).reads now.issued (λ n. n) lower.ar
        (at_input s.shape.uppers (λ link. (uppers link).ar)) (read_replies lower) (λ input. map read_reply (at_input s.shape.uppers (λ link. (uppers link).r) input)) keeps.ar parted-r
        (carries-each keeps.suits.read_route (share_at_input s.shape.uppers (λ link. (schedules link).reads)) (schedules s.shape.lower).reads keeps.suits.reads) (fits keeps.suits.read_route lower.ar (λ link. (uppers link).ar) keeps.ar) each-reads;
    data_is_the_schedules = data-is;
    data_follows_addresses = prefix_agree keeps.order.in_order;
  }
