-- A Lite bridge asks below as it is asked above.
use Rattle.std.proofs.Common.{◌≡◌, ◌<◌, ◌^◌, ℕ, List, [], ◌∷◌, ◌++◌, ◌==◌, cond, length, map, get_or, refl, sym, ◌∙◌, ap, ap₂, subst, IsTrue}
use Rattle.std.specs.Prelude.{All, Bool, flat_map}
use Rattle.std.proofs.lemmas.List.{length-map, map-append}
use Rattle.std.proofs.lemmas.List.Elements.{All-head, All-map, All-tail}
use Rattle.std.proofs.lemmas.Nat.{pow_pos}
use Rattle.axi_beats.specs.declared.beat.Addr.{Addr}
use Rattle.axi_beats.specs.declared.beat.WBeat.{WBeat}
use Rattle.axi_trail.specs.LinkContracts.{Asks, Requests, without_id}
use Rattle.axi_trail.specs.Schedule.{Progress, SameChain, Schedule, Share}
use Rattle.axi_trail.specs.Trail.{Beats}
use Rattle.axi_trail.specs.Words.{Asked, Mark, Reply, burst_asked, mark_of_data, marks, marks_of, number_of_address, number_of_asked, number_of_data, read_replies, write_asked, write_replies}
use Rattle.lite_node.specs.LiteTable.{word_request}
use Rattle.lite_node.specs.LiteTrail.{CarriesWords, IsInWords, IsWordBeat}
use Rattle.plain_lists.specs.Keys.{of_key}
use Rattle.plain_lists.specs.Prefixes.{Agree, IsPrefix}
use Rattle.plain_lists.proofs.CutLemmas.{all-cut, all-left, all-unmap, cut-map}
use Rattle.plain_lists.proofs.KeyLemmas.{of_key-map}
use Rattle.plain_lists.proofs.PrefixLemmas.{All_front, prefix_map, prefix_of_same, prefix_same}
use Rattle.plain_lists.proofs.SelectedLemmas.{all-by_way}

-- what holds of all parts holds of all requests
pub requests-have : (bus : ℕ) (shares : ℕ → Share) (addresses : List Addr) → ((t : ℕ) → All (IsWordBeat bus) (shares t).parts) →
    ((t : ℕ) → IsPrefix (map without_id (of_key number_of_address t addresses)) (shares t).parts) → All (IsWordBeat bus) addresses
requests-have bus shares addresses parts own =
    all-by_way (IsWordBeat bus) number_of_address (λ t. t) addresses (λ t k past within.
    let is = all-unmap (IsWordBeat bus) without_id (of_key number_of_address t addresses) (All_front (IsWordBeat bus) (own t) (parts t)) k past within in
    record { single = is.single; legal = is.legal; small = is.small })

module _ (bus : ℕ) where
  abbrev word : Addr → Addr
  word = word_request bus

  words-without_id : (xs : List Addr) → map without_id (map word xs) ≡ map word (map without_id xs)
  words-without_id [] = refl
  words-without_id (x ∷ xs) = ap (λ (t : List Addr). word x ∷ t) (words-without_id xs)

  module _ (above below : ℕ → Share) (same : (t : ℕ) → IsInWords bus (above t) (below t)) (chains : (t u : ℕ) → SameChain below t u → SameChain above t u)
      (shown : Addr → Asked) (numbers : (a : Addr) → (shown a).number ≡ a.tag.txn) (zeros : (a : Addr) → (shown (word a)).id ≡ 0) where
    own-many : (t : ℕ) (xs : List Addr) → length (of_key number_of_asked t (map (λ a. shown (word a)) xs)) ≡ length (of_key number_of_asked t (map shown xs))
    own-many t xs = counted (λ a. shown (word a)) (λ a. numbers (word a)) ∙ sym (counted shown numbers)
      where
        counted : (f : Addr → Asked) → ((a : Addr) → (f a).number ≡ a.tag.txn) → length (of_key number_of_asked t (map f xs)) ≡ length (of_key number_of_address t xs)
        counted f are = ap length (of_key-map number_of_asked f t xs) ∙ length-map (of_key (λ a. (f a).number) t xs) f ∙ ap length (same-keys (λ a. (f a).number) are xs)
          where
            same-keys : (g : Addr → ℕ) → ((a : Addr) → g a ≡ a.tag.txn) → (ys : List Addr) → of_key g t ys ≡ of_key number_of_address t ys
            same-keys g is [] = refl
            same-keys g is (y ∷ ys) = ap₂ (λ (n : ℕ) (zs : List Addr). cond (n == t) (y ∷ zs) zs) (is y) (same-keys g is ys)

    map-word : (xs : List Addr) → map shown (map word xs) ≡ map (λ a. shown (word a)) xs
    map-word [] = refl
    map-word (x ∷ xs) = ap (λ (ys : List Asked). shown (word x) ∷ ys) (map-word xs)

    pub requests-in_words : (wide narrow : ℕ) (issued : ℕ → Bool) (addresses : List Addr) (replies answers : List Reply) →
        Requests above wide issued shown addresses replies → Requests below narrow issued shown (map word addresses) answers
    requests-in_words wide narrow issued addresses replies answers asks = record {
      asks_only_its_parts = λ t.
          prefix_same (ap (map without_id) (of_key-map number_of_address word t addresses) ∙ words-without_id (of_key number_of_address t addresses))
          (prefix_of_same (prefix_map word (asks.asks_only_its_parts t)) (sym (same t).parts));
      ids_fit = All-map (λ (a : Addr). a.id < 2 ^ narrow) word addresses (λ k past within. pow_pos narrow);
      whole_before_the_next = λ before a after t e earlier.
          let cut = cut-map (λ a. shown (word a)) addresses before a after (sym (map-word addresses) ∙ e) in
          let number : a.number ≡ cut.at.tag.txn = ap (λ (x : Asked). x.number) (sym cut.at_is) ∙ numbers (word cut.at) in
          let first : (shown cut.at).number ≡ a.number = numbers cut.at ∙ sym number in
          let whole : map shown addresses ≡ map shown cut.first ++ shown cut.at ∷ map shown cut.last = ap (map shown) cut.whole ∙ map-append shown cut.first (cut.at ∷ cut.last) in
          let many = asks.whole_before_the_next (map shown cut.first) (shown cut.at) (map shown cut.last) t whole
          (subst (λ (n : ℕ). t < n) (sym first) earlier.0, subst (λ (n : ℕ). SameChain above t n) (sym first) (chains t a.number earlier.1)) in
          ap (λ (xs : List Asked). length (of_key number_of_asked t xs)) (sym cut.front_is) ∙ own-many t cut.first ∙ many
          ∙ sym (length-map (above t).parts word) ∙ ap length (sym (same t).parts);
      one_id_at_a_time = λ before a between next after e one differ.
          let all : All (λ (x : Asked). x.id ≡ 0) ((before ++ a ∷ between) ++ next ∷ after) =
          subst (λ (xs : List Asked). All (λ x. x.id ≡ 0) xs) (sym (map-word addresses) ∙ e) (All-map (λ (x : Asked). x.id ≡ 0) (λ a. shown (word a)) addresses (λ k past within. zeros (get_or addresses k past))) in
          absurd (differ (all-cut (λ (x : Asked). x.id ≡ 0) before a between (all-left (λ (x : Asked). x.id ≡ 0) (before ++ a ∷ between) (next ∷ after) all)
          ∙ sym (all-cut (λ (x : Asked). x.id ≡ 0) (before ++ a ∷ between) next after all)));
      was_issued = All-map (λ (a : Addr). IsTrue (issued a.tag.txn)) word addresses asks.was_issued;
    }

  -- requests of one beat announce as much in words
  announced-same : (xs : List Addr) → All (IsWordBeat bus) xs → marks (map burst_asked (map word xs)) ≡ marks (map burst_asked xs)
  announced-same [] all = refl
  announced-same (x ∷ xs) all =
      ap₂ (λ (n : ℕ) (ms : List Mark). marks_of (record { number = x.tag.txn; id = x.id; len = n }) ++ ms)
      (sym (All-head (IsWordBeat bus) x xs all).single) (announced-same xs (All-tail (IsWordBeat bus) x xs all))

  pub asked-in_words : (above below : Schedule) (now : Progress) (upper lower : Beats) → CarriesWords bus above below →
      lower.aw ≡ map word upper.aw → lower.ar ≡ map word upper.ar → lower.w ≡ upper.w → Asks above now upper → Asks below now lower
  asked-in_words above below now upper lower carries aw ar w asks = record {
    writes = subst (λ (xs : List Addr). Requests below.writes below.id_width now.issued write_asked xs (write_replies lower)) (sym aw)
        (requests-in_words above.writes below.writes carries.writes carries.write_chains write_asked (λ a. refl) (λ a. refl) above.id_width below.id_width now.issued upper.aw (write_replies upper) (write_replies lower) asks.writes);
    reads = subst (λ (xs : List Addr). Requests below.reads below.id_width now.issued burst_asked xs (read_replies lower)) (sym ar)
        (requests-in_words above.reads below.reads carries.reads carries.read_chains burst_asked (λ a. refl) (λ a. refl) above.id_width below.id_width now.issued upper.ar (read_replies upper) (read_replies lower) asks.reads);
    data_is_the_schedules = λ t.
        subst (λ (beats : List WBeat). IsPrefix (of_key number_of_data t beats) (flat_map (λ bs. bs) (below.writes t).write_data)) (sym w)
        (prefix_of_same (asks.data_is_the_schedules t) (ap (λ (d : List (List WBeat)). flat_map (λ bs. bs) d) (sym (carries.writes t).write_data)));
    data_follows_addresses =
        let all = requests-have bus above.writes upper.aw (λ t. (carries.writes t).beats) asks.writes.asks_only_its_parts in
        subst (λ (beats : List WBeat). Agree (map mark_of_data beats) (marks (map burst_asked lower.aw))) (sym w)
        (subst (λ (ms : List Mark). Agree (map mark_of_data upper.w) ms) (sym (ap (λ (xs : List Addr). marks (map burst_asked xs)) aw ∙ announced-same upper.aw all)) asks.data_follows_addresses);
  }
