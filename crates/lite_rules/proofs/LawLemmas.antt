-- A port that is asked for whole words alone, and keeps the rules of AXI4, keeps those of AXI4-Lite.
use Rattle.std.proofs.Common.{◌≡◌, ℕ, ◌+◌, ◌==◌, ◌∷◌, [], ◌++◌, Bool, true, false, List, Option, Some, None, length, refl, sym, ap, ◌∙◌, inl, inr, arith, subst, ltb, take, min}
use Rattle.std.specs.Prelude.{count_by, filter, map, sum, nat_lt, if◌then◌else◌}
use Rattle.std.specs.Bool.{beq}
use Rattle.std.specs.Cmp.{booleans_Decides}
use Rattle.std.specs.List.{list_all, AllByRecursion}
use Rattle.std.specs.Option.{ForSome}
use Rattle.std.proofs.lemmas.Bool.{cases_Bool, and_parts, and_from, eqb-true, false≢true, ltb-true, lt-ltb}
use Rattle.std.proofs.lemmas.List.{length-take}
use Rattle.axi_beats.specs.declared.beat.WBeat.{WBeat}
use Rattle.axi_history.specs.declared.port.PortRound.{PortRound}
use Rattle.axi_history.specs.declared.port.RawAddr.{RawAddr}
use Rattle.axi_history.specs.declared.port.RawB.{RawB}
use Rattle.axi_history.specs.declared.port.RawR.{RawR}
use Rattle.axi_history.specs.declared.port.Seen.{Seen}
use Rattle.axi_history.specs.PortHistory.{offer_of, transfer_of, transferred, waiting, ends_a_request, on_aw, on_w, on_b, on_ar, on_r}
use Rattle.axi_history.specs.PortRules.{same_address, same_data, same_response, same_read, handshake_rules, rules_of_offer, address_rules, least_broken, or_else, is_not_exokay, last_is_on_the_last_beat, strobes_are_on_valid_lanes, responses_of, writes_of, read_beats_of, reads_of, response_rules, read_beat_rules, write_address_rules, write_data_rules, write_response_rules, read_address_rules, read_data_rules, on_channel, axi4_fault, first_fault}
use Rattle.axi_history.proofs.HistoryLemmas.{else_parts, least_append, channel_kept, channels_kept, transferred_more}
use Rattle.lite_rules.specs.LiteRules.{has_no_id, is_lite_access, is_lite_read_beat, lite_address_rules, lite_data_rules, lite_response_rules, lite_read_beat_rules, lite_read_beat_follows_address, rules_of_channel, lite_fault}
use Rattle.lite_rules.specs.LiteLaws.{ShowsWords, WordsAreLite}
use Rattle.lite_rules.proofs.WordLemmas.{all_taken, all_counted, all_more, all_weaker, access_parts, writes_all, responses_all, read_beats_all, ones, reads_all, ones_sum, ones_end}

-- what was transferred has no IDs, and is whole
pub record Words (bus : ℕ) (earlier : List PortRound) : Type 0 where
  pub aw : list_all (is_lite_access bus) (transferred on_aw earlier) ≡ true
  pub w : list_all (λ (w : WBeat). w.last) (transferred on_w earlier) ≡ true
  pub b : list_all (λ (b : RawB). has_no_id b.id) (transferred on_b earlier) ≡ true
  pub ar : list_all (is_lite_access bus) (transferred on_ar earlier) ≡ true
  pub r : list_all is_lite_read_beat (transferred on_r earlier) ≡ true

-- ---- an answer to a request has its ID

-- nothing of another ID than 0
no_other : (id : ℕ) (xs : List RawAddr) → (id == 0) ≡ false → list_all (λ (a : RawAddr). a.id == 0) xs ≡ true → filter (λ (a : RawAddr). a.id == id) xs ≡ []
no_other id [] other all = refl
no_other id (a ∷ xs) other all =
    let both = and_parts (a.id == 0) (list_all (λ (x : RawAddr). x.id == 0) xs) all in
    let zero : a.id ≡ 0 = eqb-true a.id 0 both.0 in
    elim (cases_Bool (a.id == id)) [
      | inl e ↦ (let same : a.id ≡ id = eqb-true a.id id e in let is : (id == 0) ≡ true = ap (λ (n : ℕ). n == 0) (sym same) ∙ both.0 in absurd (false≢true (sym other ∙ is)))
      | inr e ↦ rw e (no_other id xs other both.1)
    ]

no_ids : (bus : ℕ) (xs : List RawAddr) → list_all (is_lite_access bus) xs ≡ true → list_all (λ (a : RawAddr). a.id == 0) xs ≡ true
no_ids bus xs all = all_weaker (is_lite_access bus) (λ (a : RawAddr). a.id == 0) (λ a is. (access_parts bus a is).0) xs all

response_id : (bus : ℕ) (n k : ℕ) (adds : List RawAddr) (b : RawB) → list_all (is_lite_access bus) adds ≡ true → ltb k (length (writes_of b.id (take n adds))) ≡ true → has_no_id b.id ≡ true
response_id bus n k adds b all less = elim (cases_Bool (b.id == 0)) [
  | inl e ↦ e
  | inr e ↦ (let none : writes_of b.id (take n adds) ≡ [] = no_other b.id (take n adds) e (no_ids bus (take n adds) (all_taken (is_lite_access bus) n adds all)) in
      let bad : ltb k 0 ≡ true = ap (λ (xs : List RawAddr). ltb k (length xs)) (sym none) ∙ less in
      let l = ltb-true k 0 bad in absurd (omega arith))
]

read_id : (bus : ℕ) (k : ℕ) (adds : List RawAddr) (id : ℕ) → list_all (is_lite_access bus) adds ≡ true → ltb k (sum (reads_of id adds)) ≡ true → has_no_id id ≡ true
read_id bus k adds id all less = elim (cases_Bool (id == 0)) [
  | inl e ↦ e
  | inr e ↦ (let none : filter (λ (a : RawAddr). a.id == id) adds ≡ [] = no_other id adds e (no_ids bus adds all) in
      let bad : ltb k 0 ≡ true = ap (λ (xs : List RawAddr). ltb k (sum (map (λ (a : RawAddr). a.len + 1) xs))) (sym none) ∙ less in
      let l = ltb-true k 0 bad in absurd (omega arith))
]

-- ---- what the rules of AXI4 say of an answer

two_kept : (x y : Bool) → least_broken ((8, x) ∷ (11, y) ∷ []) ≡ None → (x ≡ true) × (y ≡ true)
two_kept true true e = (refl, refl)
two_kept true false e = absurd cc
two_kept false y e = absurd cc

three_kept : (x y z : Bool) → least_broken ((8, x) ∷ (11, y) ∷ (12, z) ∷ []) ≡ None → (x ≡ true) × (y ≡ true) × (z ≡ true)
three_kept true true true e = (refl, refl, refl)
three_kept true true false e = absurd cc
three_kept true false z e = absurd cc
three_kept false y z e = absurd cc

pub record LiteAnswer (test : Bool) (rules : List (ℕ × Bool)) : Type 0 where
  pub ids : test ≡ true
  pub kept : least_broken rules ≡ None

response_lite : (bus : ℕ) (h : List PortRound) (b : RawB) → Words bus h → least_broken (response_rules h b) ≡ None → LiteAnswer (has_no_id b.id) (lite_response_rules h b)
response_lite bus h b words kept =
    let adds = transferred on_aw h in
    let ws = transferred on_w h in
    let bs = transferred on_b h in
    let n = count_by (λ (w : WBeat). w.last) ws in
    let both = two_kept (is_not_exokay b.resp) (nat_lt (length (responses_of b.id bs)) (length (writes_of b.id (take n adds)))) kept in
    let none : has_no_id b.id ≡ true = response_id bus n (length (responses_of b.id bs)) adds b words.aw both.1 in
    let zero : b.id ≡ 0 = eqb-true b.id 0 none in
    let less : ltb (length bs) (length (take n adds)) ≡ true =
    ap (λ (xs : List RawB). ltb (length xs) (length (take n adds))) (sym (responses_all bs words.b))
    ∙ ap (λ (xs : List RawAddr). ltb (length (responses_of 0 bs)) (length xs)) (sym (writes_all bus (take n adds) (all_taken (is_lite_access bus) n adds words.aw)))
    ∙ ap (λ (id : ℕ). ltb (length (responses_of id bs)) (length (writes_of id (take n adds)))) (sym zero)
    ∙ both.1 in
    let few = ltb-true (length bs) (length (take n adds)) less in
    let size : length (take n adds) ≡ min n (length adds) = length-take n adds in
    let counted : n ≡ length ws = all_counted (λ (w : WBeat). w.last) ws words.w in
    let adds_more : ltb (length bs) (length adds) ≡ true = lt-ltb (length bs) (length adds) (omega arith) in
    let data_more : ltb (length bs) (length ws) ≡ true = lt-ltb (length bs) (length ws) (omega arith) in
    record { ids = none; kept = rw (none, both.0, adds_more, data_more) refl }

read_lite : (bus : ℕ) (h : List PortRound) (r : RawR) → Words bus h → least_broken (read_beat_rules h r) ≡ None → LiteAnswer (is_lite_read_beat r) (lite_read_beat_rules h r)
read_lite bus h r words kept =
    let adds = transferred on_ar h in
    let rs = transferred on_r h in
    let all = three_kept (is_not_exokay r.resp) (nat_lt (length (read_beats_of r.id rs)) (sum (reads_of r.id adds))) (beq r.last (ends_a_request (reads_of r.id adds) (length (read_beats_of r.id rs)))) kept in
    let none : has_no_id r.id ≡ true = read_id bus (length (read_beats_of r.id rs)) adds r.id words.ar all.1 in
    let zero : r.id ≡ 0 = eqb-true r.id 0 none in
    let asked : reads_of r.id adds ≡ ones adds = ap (λ (id : ℕ). reads_of id adds) zero ∙ reads_all bus adds words.ar in
    let came : length (read_beats_of r.id rs) ≡ length rs = ap (λ (id : ℕ). length (read_beats_of id rs)) zero ∙ ap length (read_beats_all rs words.r) in
    let less : ltb (length rs) (length adds) ≡ true =
    ap (λ (n : ℕ). ltb n (length adds)) (sym came) ∙ ap (λ (n : ℕ). ltb (length (read_beats_of r.id rs)) n) (sym (ones_sum adds)) ∙ ap (λ (ns : List ℕ). ltb (length (read_beats_of r.id rs)) (sum ns)) (sym asked) ∙ all.1 in
    let ends : ends_a_request (reads_of r.id adds) (length (read_beats_of r.id rs)) ≡ true =
    ap (λ (n : ℕ). ends_a_request (reads_of r.id adds) n) came ∙ ap (λ (ns : List ℕ). ends_a_request ns (length rs)) asked ∙ ones_end adds (length rs) (ltb-true (length rs) (length adds) less) in
    let last : r.last ≡ true = (booleans_Decides r.last (ends_a_request (reads_of r.id adds) (length (read_beats_of r.id rs)))).0 all.2 ∙ ends in
    let lite : is_lite_read_beat r ≡ true = and_from (has_no_id r.id) r.last none last in
    record { ids = lite; kept = ap (λ (v : Bool). least_broken ((4, v) ∷ (5, is_not_exokay r.resp) ∷ (6, lite_read_beat_follows_address h) ∷ [])) lite ∙ ap (λ (v : Bool). least_broken ((5, v) ∷ (6, lite_read_beat_follows_address h) ∷ [])) all.0 ∙ ap (λ (v : Bool). least_broken ((6, v) ∷ [])) less }

-- ---- a round

-- the rules of a channel by their two parts
both_parts : (first rules : List (ℕ × Bool)) → least_broken first ≡ None → least_broken rules ≡ None → least_broken (first ++ rules) ≡ None
both_parts first rules e f = least_append first rules ∙ ap (λ (o : Option ℕ). or_else o (least_broken rules)) e ∙ f

first_part : (first rules : List (ℕ × Bool)) → least_broken (first ++ rules) ≡ None → least_broken first ≡ None
first_part first rules e = (else_parts (least_broken first) (least_broken rules) (sym (least_append first rules) ∙ e)).0

last_part : (first rules : List (ℕ × Bool)) → least_broken (first ++ rules) ≡ None → least_broken rules ≡ None
last_part first rules e = (else_parts (least_broken first) (least_broken rules) (sym (least_append first rules) ∙ e)).1

of_offers : {X : Type 0} → (rules rules' : X → List (ℕ × Bool)) (offer : Option X) → least_broken (rules_of_offer offer rules) ≡ None → ForSome offer (λ x. least_broken (rules x) ≡ None → least_broken (rules' x) ≡ None) → least_broken (rules_of_offer offer rules') ≡ None
of_offers rules rules' None e f = refl
of_offers rules rules' (Some x) e f = f x refl e

one_kept : {X : Type 0} → (n : ℕ) (test : X → Bool) (offer : Option X) → ForSome offer (λ x. test x ≡ true) → least_broken (rules_of_offer offer (λ x. (n, test x) ∷ [])) ≡ None
one_kept n test None f = refl
one_kept n test (Some x) f = ap (λ (v : Bool). least_broken ((n, v) ∷ [])) (f x refl)

module _ {X : Type 0} where
  was_offered : (offer : Option (Seen X)) (x : X) → transfer_of offer ≡ Some x → offer_of offer ≡ Some x
  was_offered None x e = absurd cc
  was_offered (Some s) x e = go s.taken e
    where
      go : (taken : Bool) → (if taken then Some s.beat else None) ≡ Some x → Some s.beat ≡ Some x
      go true f = f
      go false f = absurd cc

  of_offer : (offer : Option X) (rules : X → List (ℕ × Bool)) (x : X) → offer ≡ Some x → least_broken (rules_of_offer offer rules) ≡ None → least_broken (rules x) ≡ None
  of_offer offer rules x e none = subst (λ (o : Option X). least_broken (rules_of_offer o rules) ≡ None) e none

  moved_more : (p : X → Bool) (channel : PortRound → Option (Seen X)) (h : List PortRound) (now : PortRound) → list_all p (transferred channel h) ≡ true → ForSome (offer_of (channel now)) (λ x. p x ≡ true) → list_all p (transferred channel (h ++ now ∷ [])) ≡ true
  moved_more p channel h now all more = ap (list_all p) (transferred_more channel h now) ∙ all_more p (transferred channel h) (transfer_of (channel now)) all (λ x e. more x (was_offered (channel now) x e))

pub record LiteRound (bus : ℕ) (h : List PortRound) (now : PortRound) : Type 0 where
  pub kept : lite_fault bus h now ≡ None
  pub words : Words bus (h ++ now ∷ [])

round_lite : (bus : ℕ) (h : List PortRound) (now : PortRound) → Words bus h → ShowsWords bus now → axi4_fault bus h now ≡ None → LiteRound bus h now
round_lite bus h now words shows none =
    let p1 = else_parts (on_channel 1 (write_address_rules bus h now)) (or_else (on_channel 2 (write_data_rules bus h now)) (or_else (on_channel 3 (write_response_rules h now)) (or_else (on_channel 4 (read_address_rules bus h now)) (on_channel 5 (read_data_rules h now))))) none in
    let p2 = else_parts (on_channel 2 (write_data_rules bus h now)) (or_else (on_channel 3 (write_response_rules h now)) (or_else (on_channel 4 (read_address_rules bus h now)) (on_channel 5 (read_data_rules h now)))) p1.1 in
    let p3 = else_parts (on_channel 3 (write_response_rules h now)) (or_else (on_channel 4 (read_address_rules bus h now)) (on_channel 5 (read_data_rules h now))) p2.1 in
    let p4 = else_parts (on_channel 4 (read_address_rules bus h now)) (on_channel 5 (read_data_rules h now)) p3.1 in
    let aw1 = handshake_rules same_address (waiting on_aw h) (offer_of now.aw) in
    let w1 = handshake_rules same_data (waiting on_w h) (offer_of now.w) in
    let b1 = handshake_rules same_response (waiting on_b h) (offer_of now.b) in
    let ar1 = handshake_rules same_address (waiting on_ar h) (offer_of now.ar) in
    let r1 = handshake_rules same_read (waiting on_r h) (offer_of now.r) in
    let b_kept : least_broken (rules_of_offer (offer_of now.b) (response_rules h)) ≡ None = last_part b1 (rules_of_offer (offer_of now.b) (response_rules h)) (channel_kept 3 (write_response_rules h now) p3.0) in
    let r_kept : least_broken (rules_of_offer (offer_of now.r) (read_beat_rules h)) ≡ None = last_part r1 (rules_of_offer (offer_of now.r) (read_beat_rules h)) (channel_kept 5 (read_data_rules h now) p4.1) in
    record {
      kept = channels_kept
          (rules_of_channel same_address on_aw (lite_address_rules bus) h now) (rules_of_channel same_data on_w lite_data_rules h now) (rules_of_channel same_response on_b (lite_response_rules h) h now)
          (rules_of_channel same_address on_ar (lite_address_rules bus) h now) (rules_of_channel same_read on_r (lite_read_beat_rules h) h now)
          (both_parts aw1 (rules_of_offer (offer_of now.aw) (lite_address_rules bus)) (first_part aw1 (rules_of_offer (offer_of now.aw) (address_rules bus)) (channel_kept 1 (write_address_rules bus h now) p1.0)) (one_kept 3 (is_lite_access bus) (offer_of now.aw) shows.aw))
          (both_parts w1 (rules_of_offer (offer_of now.w) lite_data_rules) (first_part w1 ((9, last_is_on_the_last_beat bus (h ++ now ∷ [])) ∷ (10, strobes_are_on_valid_lanes bus (h ++ now ∷ [])) ∷ []) (channel_kept 2 (write_data_rules bus h now) p2.0)) (one_kept 4 (λ (w : WBeat). w.last) (offer_of now.w) shows.w))
          (both_parts b1 (rules_of_offer (offer_of now.b) (lite_response_rules h)) (first_part b1 (rules_of_offer (offer_of now.b) (response_rules h)) (channel_kept 3 (write_response_rules h now) p3.0)) (of_offers (response_rules h) (lite_response_rules h) (offer_of now.b) b_kept (λ b e kept. (response_lite bus h b words kept).kept)))
          (both_parts ar1 (rules_of_offer (offer_of now.ar) (lite_address_rules bus)) (first_part ar1 (rules_of_offer (offer_of now.ar) (address_rules bus)) (channel_kept 4 (read_address_rules bus h now) p4.0)) (one_kept 3 (is_lite_access bus) (offer_of now.ar) shows.ar))
          (both_parts r1 (rules_of_offer (offer_of now.r) (lite_read_beat_rules h)) (first_part r1 (rules_of_offer (offer_of now.r) (read_beat_rules h)) (channel_kept 5 (read_data_rules h now) p4.1)) (of_offers (read_beat_rules h) (lite_read_beat_rules h) (offer_of now.r) r_kept (λ r e kept. (read_lite bus h r words kept).kept)));
      words = record {
        aw = moved_more (is_lite_access bus) on_aw h now words.aw shows.aw;
        w = moved_more (λ (w : WBeat). w.last) on_w h now words.w shows.w;
        b = moved_more (λ (b : RawB). has_no_id b.id) on_b h now words.b (λ b e. (response_lite bus h b words (of_offer (offer_of now.b) (response_rules h) b e b_kept)).ids);
        ar = moved_more (is_lite_access bus) on_ar h now words.ar shows.ar;
        r = moved_more is_lite_read_beat on_r h now words.r (λ r e. (read_lite bus h r words (of_offer (offer_of now.r) (read_beat_rules h) r e r_kept)).ids);
      };
    }

-- ---- all rounds

later_lite : (bus : ℕ) (h rounds : List PortRound) → Words bus h → first_fault (axi4_fault bus) h rounds ≡ None → AllByRecursion (ShowsWords bus) rounds → first_fault (lite_fault bus) h rounds ≡ None
later_lite bus h [] words none all = refl
later_lite bus h (now ∷ rounds) words none all =
    let parts = else_parts (axi4_fault bus h now) (first_fault (axi4_fault bus) (h ++ now ∷ []) rounds) none in
    let step : LiteRound bus h now = round_lite bus h now words all.0 parts.0 in
    ap (λ (o : Option (ℕ × ℕ)). or_else o (first_fault (lite_fault bus) (h ++ now ∷ []) rounds)) step.kept
    ∙ later_lite bus (h ++ now ∷ []) rounds step.words parts.1 all.1

pub words_lite : WordsAreLite
words_lite bus history legal all = later_lite bus [] history (record { aw = refl; w = refl; b = refl; ar = refl; r = refl }) legal all
