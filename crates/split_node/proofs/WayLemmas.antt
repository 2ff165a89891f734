-- How transactions go through a splitter.
use Rattle.std.proofs.Common.{◌≡◌, ◌<◌, ◌≤◌, ◌+◌, ◌^◌, ◌==◌, ℕ, zero, suc, Bool, true, false, cond, List, [], ◌∷◌, ◌++◌, Option, None, Some, length, map, refl, sym, ◌∙◌, ap, ap₂, subst, inl, inr, arith, append-nil, append_assoc}
use Rattle.std.specs.Prelude.{◌⊎◌, All, Contains, IsTrue, flat_map, slice_get, slice_index_or, unwrap_or, zip}
use Rattle.std.specs.List.{AllZip, range_with_len}
use Rattle.std.proofs.lemmas.List.Concat.{flat_map-append}
use Rattle.std.proofs.lemmas.List.Elements.{All-append, All-cons, All-head, All-map, All-nil, All-tail}
use Rattle.axi_beats.specs.Bus.{IsBusWidth}
use Rattle.axi_beats.specs.Lanes.{Span}
use Rattle.axi_beats.specs.declared.beat.Addr.{Addr}
use Rattle.axi_beats.specs.declared.beat.WBeat.{WBeat}
use Rattle.axi_beats.specs.declared.response.Resp.{Resp}
use Rattle.axi_history.specs.PortRules.{strobes_within}
use Rattle.axi_trail.specs.Schedule.{SameChain, Schedule, Share, no_share}
use Rattle.burst_address.proofs.Beats.{bus-most}
use Rattle.burst_address.proofs.Legality.{legal-wider}
use Rattle.burst_address.specs.Bytes.{Byte, written_bytes}
use Rattle.burst_address.specs.Formulas.{beats_of}
use Rattle.burst_address.specs.Lanes.{first_lane, last_lane, word_address}
use Rattle.burst_address.specs.Legal.{IsLegal, page}
use Rattle.burst_cuts.proofs.ByteLemmas.{parts-write_its_bytes}
use Rattle.burst_cuts.proofs.CutLemmas.{map-append}
use Rattle.burst_cuts.proofs.LegalLemmas.{part-legal, part-page, part-small}
use Rattle.burst_cuts.proofs.ShownLemmas.{cut_all, flat-ones}
use Rattle.burst_cuts.specs.Parts.{as_last, data_of_part, part_of, parts_of}
use Rattle.node_shape.specs.LegalSchedule.{IsDataOf}
use Rattle.node_shape.specs.LinkForm.{ArePartsOf, FitsLink, IsSingle, LinkForm, bytes_within, parts_written, wanted_bytes, wanted_lanes, wanted_span}
use Rattle.node_shape.specs.Way.{Way}
use Rattle.node_shape.specs.WayLaws.{CutsFit, GoesBelow, HasWay, OriginsFit, WaysSuit}
use Rattle.node_shape.specs.WaysAround.{IsCarried, WaysThrough}
use Rattle.node_shape.proofs.OneLinkLemmas.{is-one, of-one, one-has}
use Rattle.node_shape.proofs.OneUpperLemmas.{ComesBy, StaysAway, chains-on, one-upper, share_on}
use Rattle.split_node.specs.SplitState.{IsCuttable, SplitState}
use Rattle.split_node.specs.SplitTrail.{IsSplitShare, joined_responses, split_kind, split_share, split_way}

some-same : (m n : ℕ) → Some m ≡ Some n → m ≡ n
some-same m n is = cc

-- ---- the parts of legal requests

all-range : (P : Addr → Type 0) (a : Addr) (from n : ℕ) → ((i : ℕ) → i < from + n → P (part_of a i)) → All P (map (part_of a) (range_with_len from n))
all-range P a from zero each = All-nil P
all-range P a from (suc n) each =
    All-cons P (part_of a from) (map (part_of a) (range_with_len (from + 1) n)) (each from (omega arith)) (all-range P a (from + 1) n (λ i below. each i (let less : i < from + suc n = omega (arith, below) in less)))

all-cut : (P Q : Addr → Type 0) → ((a : Addr) (n : ℕ) → n < beats_of a → P a → Q (part_of a n)) → (parts : List Addr) → All P parts → All Q (cut_all parts)
all-cut P Q each [] all = All-nil Q
all-cut P Q each (a ∷ parts) all =
    All-append Q (parts_of a) (cut_all parts) (all-range Q a 0 (suc a.len) (λ i below. each a i (let less : i < beats_of a = omega (arith, below) in less) (All-head P a parts all)))
    (all-cut P Q each parts (All-tail P a parts all))

-- ---- their data

zip-append : {A B : Type 0} (R : A → B → Type 0) (xs ys : List A) (us vs : List B) → AllZip R xs us → AllZip R ys vs → AllZip R (xs ++ ys) (us ++ vs)
zip-append R [] ys [] vs all more = more
zip-append R [] ys (u ∷ us) vs all more = absurd all
zip-append R (x ∷ xs) ys [] vs all more = absurd all
zip-append R (x ∷ xs) ys (u ∷ us) vs all more = (all.0, zip-append R xs ys us vs all.1 more)

abbrev IsStrobed : ℕ → Addr → ℕ → WBeat → Type 0
IsStrobed bus a n w = IsTrue (strobes_within (first_lane a n bus) (last_lane a n bus) w.strobe)

one-data : (bus : ℕ) (a : Addr) (n : ℕ) (w : WBeat) → IsStrobed bus a n w → IsDataOf bus (part_of a n) (data_of_part w)
one-data bus a n w is = record { whole = refl; strobes = go; lasts = last }
  where
    go : (i : ℕ) (past : WBeat) → i < length (data_of_part w) → IsStrobed bus (part_of a n) i (slice_index_or (data_of_part w) i past)
    go zero past below = is
    go (suc i) past below = absurd (omega (arith, below))

    last : (i : ℕ) (past : WBeat) → i < length (data_of_part w) → (slice_index_or (data_of_part w) i past).last ≡ (i == 0)
    last zero past below = refl
    last (suc i) past below = absurd (omega (arith, below))

zip-parts : (bus : ℕ) (a : Addr) (from : ℕ) (ws : List WBeat) → ((i : ℕ) (past : WBeat) → i < length ws → IsStrobed bus a (from + i) (slice_index_or ws i past)) →
    AllZip (IsDataOf bus) (map (part_of a) (range_with_len from (length ws))) (map data_of_part ws)
zip-parts bus a from [] is = tt
zip-parts bus a from (w ∷ ws) is =
    let here : from + 0 ≡ from = omega arith in (
      one-data bus a from w (subst (λ (n : ℕ). IsStrobed bus a n w) here (is 0 w (omega arith))),
      zip-parts bus a (from + 1) ws (λ i past below.
          let next : from + suc i ≡ from + 1 + i = omega arith in
          subst (λ (n : ℕ). IsStrobed bus a n (slice_index_or ws i past)) next (is (suc i) past (omega (arith, below)))),
    )

zip-cut : (bus : ℕ) (parts : List Addr) (ws : List (List WBeat)) → AllZip (IsDataOf bus) parts ws → AllZip (IsDataOf bus) (cut_all parts) (map data_of_part (flat_map (λ beats. beats) ws))
zip-cut bus [] [] all = tt
zip-cut bus [] (w ∷ ws) all = absurd all
zip-cut bus (a ∷ parts) [] all = absurd all
zip-cut bus (a ∷ parts) (w ∷ ws) all =
    let many : length w ≡ suc a.len = omega (arith, all.0.whole) in
    let here : AllZip (IsDataOf bus) (parts_of a) (map data_of_part w) =
    subst (λ (n : ℕ). AllZip (IsDataOf bus) (map (part_of a) (range_with_len 0 n)) (map data_of_part w)) many
    (zip-parts bus a 0 w (λ i past below. let same : i ≡ 0 + i = omega arith in subst (λ (n : ℕ). IsStrobed bus a n (slice_index_or w i past)) same (all.0.strobes i past below))) in
    subst (λ (us : List (List WBeat)). AllZip (IsDataOf bus) (parts_of a ++ cut_all parts) us) (sym (map-append data_of_part w (flat_map (λ beats. beats) ws)))
    (zip-append (IsDataOf bus) (parts_of a) (cut_all parts) (map data_of_part w) (map data_of_part (flat_map (λ beats. beats) ws)) here (zip-cut bus parts ws all.1))

-- what it writes
abbrev written_of : ℕ → Addr × List WBeat → List Byte
written_of bus p = written_bytes bus p.0 p.1

zip-both : {A B : Type 0} (R : A → B → Type 0) (xs ys : List A) (us vs : List B) → AllZip R xs us → zip (xs ++ ys) (us ++ vs) ≡ zip xs us ++ zip ys vs
zip-both R [] ys [] vs all = refl
zip-both R [] ys (u ∷ us) vs all = absurd all
zip-both R (x ∷ xs) ys [] vs all = absurd all
zip-both {A} {B} R (x ∷ xs) ys (u ∷ us) vs all = ap (λ (l : List (A × B)). (x, u) ∷ l) (zip-both R xs ys us vs all.1)

written-cut : (bus : ℕ) (parts : List Addr) (ws : List (List WBeat)) → AllZip (IsDataOf bus) parts ws →
    flat_map (written_of bus) (zip (cut_all parts) (map data_of_part (flat_map (λ beats. beats) ws))) ≡ flat_map (written_of bus) (zip parts ws)
written-cut bus [] [] all = refl
written-cut bus [] (w ∷ ws) all = absurd all
written-cut bus (a ∷ parts) [] all = absurd all
written-cut bus (a ∷ parts) (w ∷ ws) all =
    let rest = map data_of_part (flat_map (λ beats. beats) ws) in
    let one : AllZip (IsDataOf bus) (a ∷ []) (w ∷ []) = (all.0, tt) in
    let here : AllZip (IsDataOf bus) (parts_of a ++ []) (map data_of_part (w ++ [])) = zip-cut bus (a ∷ []) (w ∷ []) one in
    let own : AllZip (IsDataOf bus) (parts_of a) (map data_of_part w) =
    subst (λ (l : List WBeat). AllZip (IsDataOf bus) (parts_of a) (map data_of_part l)) (append-nil w) (subst (λ (l : List Addr). AllZip (IsDataOf bus) l (map data_of_part (w ++ []))) (append-nil (parts_of a)) here) in
    ap (λ (l : List (List WBeat)). flat_map (written_of bus) (zip (parts_of a ++ cut_all parts) l)) (map-append data_of_part w (flat_map (λ beats. beats) ws))
    ∙ ap (flat_map (written_of bus)) (zip-both (IsDataOf bus) (parts_of a) (cut_all parts) (map data_of_part w) rest own)
    ∙ flat_map-append (written_of bus) (zip (parts_of a) (map data_of_part w)) (zip (cut_all parts) rest)
    ∙ ap₂ (λ (x y : List Byte). x ++ y) (parts-write_its_bytes bus a w all.0.whole) (written-cut bus parts ws all.1)

-- ---- their lanes and bytes

lanes-range : (form : LinkForm) (a : Addr) (from n : ℕ) → flat_map (wanted_lanes form) (map (part_of a) (range_with_len from n)) ≡ map (wanted_span form a) (range_with_len from n)
lanes-range form a from zero = refl
lanes-range form a from (suc n) = ap (λ (l : List Span). wanted_span form a from ∷ l) (lanes-range form a (from + 1) n)

lanes-cut : (form : LinkForm) (parts : List Addr) → flat_map (wanted_lanes form) (cut_all parts) ≡ flat_map (wanted_lanes form) parts
lanes-cut form [] = refl
lanes-cut form (a ∷ parts) =
    let all : suc a.len ≡ beats_of a = omega arith in
    flat_map-append (wanted_lanes form) (parts_of a) (cut_all parts)
    ∙ ap₂ (λ (x y : List Span). x ++ y) (lanes-range form a 0 (suc a.len) ∙ ap (λ (n : ℕ). map (wanted_span form a) (range_with_len 0 n)) all) (lanes-cut form parts)

abbrev beat_wanted : LinkForm → Addr → ℕ → List ℕ
beat_wanted form a beat = bytes_within (word_address a beat form.bus) (wanted_span form a beat)

bytes-range : (form : LinkForm) (a : Addr) (from n : ℕ) → flat_map (wanted_bytes form) (map (part_of a) (range_with_len from n)) ≡ flat_map (beat_wanted form a) (range_with_len from n)
bytes-range form a from zero = refl
bytes-range form a from (suc n) = ap₂ (λ (x y : List ℕ). x ++ y) (append-nil (beat_wanted form a from)) (bytes-range form a (from + 1) n)

bytes-cut : (form : LinkForm) (parts : List Addr) → flat_map (wanted_bytes form) (cut_all parts) ≡ flat_map (wanted_bytes form) parts
bytes-cut form [] = refl
bytes-cut form (a ∷ parts) =
    let all : suc a.len ≡ beats_of a = omega arith in
    flat_map-append (wanted_bytes form) (parts_of a) (cut_all parts)
    ∙ ap₂ (λ (x y : List ℕ). x ++ y) (bytes-range form a 0 (suc a.len) ∙ ap (λ (n : ℕ). flat_map (beat_wanted form a) (range_with_len 0 n)) all) (bytes-cut form parts)

-- ---- what fits the link above fits the link below, beat by beat

-- a form by what its bytes depend on
abbrev bare : LinkForm → LinkForm
bare form = record { lite = form.lite; bus = form.bus; id_width = 0; single = false }

same-bare : (form other : LinkForm) → form.lite ≡ false → other.lite ≡ false → other.bus ≡ form.bus → bare other ≡ bare form
same-bare form other full other_full bus =
    ap (λ (b : Bool). record { lite = b; bus = other.bus; id_width = 0; single = false }) other_full
    ∙ ap (λ (n : ℕ). record { lite = false; bus = n; id_width = 0; single = false }) bus
    ∙ ap (λ (b : Bool). record { lite = b; bus = form.bus; id_width = 0; single = false }) (sym full)

not-lite : (b : Bool) → b ≡ false → b ≡ true → ⊥
not-lite b full lite = absurd (cc)

module _ (form : LinkForm) (full : form.lite ≡ false) (write : Bool) (share : Share) (fits : FitsLink form write share) where
  fits-bare : FitsLink (bare form) write (split_share share)
  fits-bare = record {
    width = fits.width;
    legal = all-cut (λ (a : Addr). IsLegal a form.bus) (λ (a : Addr). IsLegal a form.bus) (λ a n within legal. part-legal a form.bus n fits.width legal) share.parts fits.legal;
    small = all-cut (λ (a : Addr). IsLegal a form.bus × (a.addr < 2 ^ 63)) (λ (a : Addr). a.addr < 2 ^ 63) (λ a n within is. part-small a form.bus n fits.width is.0 within is.1) share.parts
        (λ i past below. (fits.legal i past below, fits.small i past below));
    single = λ is. absurd (cc);
    words = λ lite. absurd (not-lite form.lite full lite);
    write_data = λ writes. zip-cut form.bus share.parts share.write_data (fits.write_data writes);
    strobes = λ writes. subst (λ (ws : List WBeat). All (λ (w : WBeat). w.strobe < 2 ^ form.bus) ws) (sym (flat-ones (flat_map (λ beats. beats) share.write_data)))
        (All-map (λ (w : WBeat). w.strobe < 2 ^ form.bus) as_last (flat_map (λ beats. beats) share.write_data) (fits.strobes writes));
    no_data = λ reads. ap (λ (ws : List (List WBeat)). map data_of_part (flat_map (λ beats. beats) ws)) (fits.no_data reads);
    lanes = fits.lanes ∙ ap (λ (l : List Span). cond write [] l) (sym (lanes-cut form share.parts));
  }

  all-single : All IsSingle (cut_all share.parts)
  all-single = all-cut (λ (a : Addr). IsLegal a form.bus) IsSingle (λ a n within legal. record { len = refl; burst = refl }) share.parts fits.legal

  parts-in_page : (number : ℕ) → ArePartsOf number share.parts → ArePartsOf number (cut_all share.parts)
  parts-in_page number all =
      all-cut (λ (a : Addr). IsLegal a form.bus × (page a.addr ≡ number)) (λ (a : Addr). page a.addr ≡ number) (λ a n within is. part-page a form.bus n fits.width is.0 within ∙ is.1) share.parts
      (λ i past below. (fits.legal i past below, all i past below))

  split-fits : (other : LinkForm) → other.lite ≡ false → other.bus ≡ form.bus → FitsLink other write (split_share share)
  split-fits other other_full bus =
      let moved : FitsLink (bare other) write (split_share share) = subst (λ (f : LinkForm). FitsLink f write (split_share share)) (sym (same-bare form other full other_full bus)) fits-bare in
      record {
        width = moved.width;
        legal = moved.legal;
        small = moved.small;
        single = λ is. all-single;
        words = moved.words;
        write_data = moved.write_data;
        strobes = moved.strobes;
        no_data = moved.no_data;
        lanes = moved.lanes;
      }

module _ (E : Type 0) where
  pub split-has_way : HasWay (split_kind {E = E})
  split-has_way s = record {
    goes_on = λ share responses. refl;
    cut = λ share responses. refl;
    chain = λ share. refl;
    merged = λ write share responses below. refl;
    ends = λ write share responses. refl;
  }

  pub split-goes_below : GoesBelow (split_kind {E = E})
  split-goes_below s share link goes = subst (λ (l : ℕ). Contains (s.lower ∷ []) l) (some-same s.lower link goes) (one-has s.lower)

  pub split-origins_fit : OriginsFit (split_kind {E = E})
  split-origins_fit forms schedules s new sound origin among = absurd (omega (arith, among.1))

  pub split-cuts_fit : CutsFit (split_kind {E = E})
  split-cuts_fit forms schedules s new sound write link next share among carried goes =
      let lower : s.lower ≡ next = some-same s.lower next goes in
      let upper : link ≡ s.upper = is-one s.upper link among in
      let full : (forms link).lite ≡ false = ap (λ (l : ℕ). (forms l).lite) upper ∙ sound.above in
      let below : (forms next).lite ≡ false = ap (λ (l : ℕ). (forms l).lite) (sym lower) ∙ sound.below in
      let bus : (forms next).bus ≡ (forms link).bus = ap (λ (l : ℕ). (forms l).bus) (sym lower) ∙ sound.bus ∙ ap (λ (l : ℕ). (forms l).bus) (sym upper) in
      let fits = split-fits (forms link) full write share carried.fits (forms next) below bus in
      let same = same-bare (forms link) (forms next) full below bus in
      record {
        is = record {
          fits = record {
            width = fits.width;
            legal = fits.legal;
            small = fits.small;
            single = fits.single;
            words = fits.words;
            write_data = fits.write_data;
            strobes = fits.strobes;
            no_data = fits.no_data;
            lanes = fits.lanes;
          };
          page = carried.page;
          in_page = parts-in_page (forms link) full write share carried.fits carried.page carried.in_page;
          before = share.chain;
          chain = refl;
        };
        bytes = ap (λ (f : LinkForm). flat_map (wanted_bytes f) (cut_all share.parts)) same ∙ bytes-cut (forms link) share.parts;
        lanes = refl;
        written = λ writes.
            ap (λ (b : ℕ). flat_map (written_of b) (zip (cut_all share.parts) (map data_of_part (flat_map (λ beats. beats) share.write_data)))) bus
            ∙ written-cut (forms link).bus share.parts share.write_data (carried.fits.write_data writes);
      }

-- one direction of what the links around it carry
module _ (s : SplitState) (forms : ℕ → LinkForm) (write : Bool) (carried : ℕ → ℕ → Option Share)
    (through : WaysThrough (split_way s) (s.upper ∷ []) (s.lower ∷ []) forms write carried) where
  none-split : (write : Bool) → IsSplitShare write no_share no_share
  none-split true = record { parts = refl; write_data = refl; lanes = refl; responses = refl }
  none-split false = record { parts = refl; write_data = refl; lanes = refl; responses = refl }

  goes-on : (t : ℕ) → IsSplitShare write (share_on carried s.upper t) (share_on carried s.lower t)
  goes-on t = go (one-upper (split_way s) s.upper (s.lower ∷ []) forms write carried (split-has_way (Unit {0}) s) refl through s.lower t (one-has s.lower))
    where
      absent : (share_on carried s.upper t ≡ no_share) ⊎ ¬ (Some s.lower ≡ Some s.lower) → share_on carried s.upper t ≡ no_share
      absent (inl none) = none
      absent (inr other) = absurd (other refl)

      go : ComesBy (split_way s) s.upper (s.lower ∷ []) forms write carried s.lower t ⊎ StaysAway (split_way s) s.upper (s.lower ∷ []) forms write carried s.lower t →
          IsSplitShare write (share_on carried s.upper t) (share_on carried s.lower t)
      go (inl comes) = record {
        parts = ap (λ (x : Share). x.parts) comes.sent.cut;
        write_data = ap (λ (x : Share). x.write_data) comes.sent.cut;
        lanes = ap (λ (x : Share). x.lanes) comes.sent.cut;
        responses = comes.sent.merged;
      }
      go (inr away) =
          subst (λ (x : Share). IsSplitShare write (share_on carried s.upper t) x) (sym away.none)
          (subst (λ (x : Share). IsSplitShare write x no_share) (sym (absent away.other)) (none-split write))

  same-chains : (t u : ℕ) → SameChain (share_on carried s.lower) t u → SameChain (share_on carried s.upper) t u
  same-chains t u = chains-on (split_way s) s.upper (s.lower ∷ []) forms write carried (split-has_way (Unit {0}) s) refl through s.lower t u (one-has s.lower) refl refl

  -- what it is asked can be cut
  can-cut : (t : ℕ) → All IsCuttable (share_on carried s.upper t).parts
  can-cut t = go (carried s.upper t) refl
    where
      go : (o : Option Share) → carried s.upper t ≡ o → All IsCuttable (share_on carried s.upper t).parts
      go None none = subst (λ (x : Share). All IsCuttable x.parts) (sym (ap (λ (o : Option Share). unwrap_or o no_share) none)) (All-nil IsCuttable)
      go (Some share) is =
          let fits = (through.above s.upper t share (one-has s.upper) is).fits in
          subst (λ (x : Share). All IsCuttable x.parts) (sym (ap (λ (o : Option Share). unwrap_or o no_share) is))
          (λ i past below. record { legal = legal-wider (slice_index_or share.parts i past) (forms s.upper).bus 128 (bus-most (forms s.upper).bus fits.width) (fits.legal i past below); small = fits.small i past below })

-- the shares of a link are what is carried there
as-carried : (write : Bool) (shares : ℕ → ℕ → Share) (carried : ℕ → ℕ → Option Share) (above below : ℕ) → ((link number : ℕ) → shares link number ≡ share_on carried link number) →
    ((t : ℕ) → IsSplitShare write (share_on carried above t) (share_on carried below t)) → (t : ℕ) → IsSplitShare write (shares above t) (shares below t)
as-carried write shares carried above below are same t =
    subst (λ (x : Share). IsSplitShare write x (shares below t)) (sym (are above t))
    (subst (λ (x : Share). IsSplitShare write (share_on carried above t) x) (sym (are below t)) (same t))

chains-carried : (shares : ℕ → ℕ → Share) (carried : ℕ → ℕ → Option Share) (above below : ℕ) → ((link number : ℕ) → shares link number ≡ share_on carried link number) →
    ((t u : ℕ) → SameChain (share_on carried below) t u → SameChain (share_on carried above) t u) → (t u : ℕ) → SameChain (shares below) t u → SameChain (shares above) t u
chains-carried shares carried above below are same t u chain =
    ap (λ (x : Share). x.chain) (are above t)
    ∙ same t u (ap (λ (x : Share). x.chain) (sym (are below t)) ∙ chain ∙ ap (λ (x : Share). x.chain) (are below u))
    ∙ ap (λ (x : Share). x.chain) (sym (are above u))

module _ (E : Type 0) where
  pub split-ways_suit : WaysSuit (split_kind {E = E})
  split-ways_suit forms schedules s new sound ways =
      let writes = λ (link : ℕ). (schedules link).writes in
      let reads = λ (link : ℕ). (schedules link).reads in
      record {
        id_width =
            of-one (λ l. (schedules l).id_width ≡ (forms l).id_width) s.lower ways.widths_below
            ∙ sound.id_width
            ∙ sym (of-one (λ l. (schedules l).id_width ≡ (forms l).id_width) s.upper ways.widths_above);
        writes = as-carried true writes ways.carried_writes s.upper s.lower ways.writes_are (goes-on s forms true ways.carried_writes ways.writes);
        reads = as-carried false reads ways.carried_reads s.upper s.lower ways.reads_are (goes-on s forms false ways.carried_reads ways.reads);
        write_chains = chains-carried writes ways.carried_writes s.upper s.lower ways.writes_are (same-chains s forms true ways.carried_writes ways.writes);
        read_chains = chains-carried reads ways.carried_reads s.upper s.lower ways.reads_are (same-chains s forms false ways.carried_reads ways.reads);
        cut_writes = λ t. subst (λ (x : Share). All IsCuttable x.parts) (sym (ways.writes_are s.upper t)) (can-cut s forms true ways.carried_writes ways.writes t);
        cut_reads = λ t. subst (λ (x : Share). All IsCuttable x.parts) (sym (ways.reads_are s.upper t)) (can-cut s forms false ways.carried_reads ways.reads t);
      }
