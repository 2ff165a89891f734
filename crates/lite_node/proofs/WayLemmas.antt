-- How transactions go through a Lite bridge.
use Rattle.std.proofs.Common.{get_or, ◌≡◌, ◌<◌, ◌+◌, ◌^◌, ℕ, Bool, true, false, cond, List, [], ◌∷◌, ◌++◌, Option, None, Some, map, refl, sym, ◌∙◌, ap, ap₂, subst, inl, inr, arith}
use Rattle.std.specs.Prelude.{◌⊎◌, All, Contains, flat_map, unwrap_or, zip}
use Rattle.std.specs.List.{AllZip, range_with_len}
use Rattle.std.proofs.lemmas.List.{append-nil}
use Rattle.std.proofs.lemmas.List.Elements.{All-head, All-map, All-nil, All-tail}
use Rattle.axi_beats.specs.Bus.{IsBusWidth}
use Rattle.axi_beats.specs.Lanes.{Span}
use Rattle.axi_beats.specs.declared.beat.Addr.{Addr}
use Rattle.axi_beats.specs.declared.beat.WBeat.{WBeat}
use Rattle.axi_trail.specs.Schedule.{SameChain, Share, no_share}
use Rattle.burst_address.specs.Bytes.{Byte, written_bytes}
use Rattle.burst_address.specs.Lanes.{valid_span, word_address}
use Rattle.burst_address.specs.Legal.{IsLegal, page}
use Rattle.lite_node.specs.LiteState.{LiteState}
use Rattle.lite_node.specs.LiteTable.{word_request}
use Rattle.lite_node.specs.LiteTrail.{IsInWords, IsSoundLite, IsWordBeat, go_on_in_words, in_words, lite_kind}
use Rattle.lite_node.proofs.WordLemmas.{word-data, word-is_word, word-legal, word-page, word-same, word-small, word-written}
use Rattle.node_shape.specs.LegalSchedule.{IsDataOf}
use Rattle.node_shape.specs.LinkForm.{FitsLink, IsSingle, IsWordRequest, LinkForm, bytes_within, wanted_bytes, wanted_lanes, wanted_span}
use Rattle.node_shape.specs.Way.{Way, onto}
use Rattle.node_shape.specs.WayLaws.{CutsFit, GoesBelow, HasWay, OriginsFit, WaysSuit}
use Rattle.node_shape.specs.WaysAround.{WaysThrough}
use Rattle.node_shape.proofs.OneLinkLemmas.{is-one, one-has}
use Rattle.node_shape.proofs.OneUpperLemmas.{ComesBy, StaysAway, chains-on, one-upper, share_on}

some-same : (m n : ℕ) → Some m ≡ Some n → m ≡ n
some-same m n is = cc

-- a part that fits the link above
record IsPart (bus : ℕ) (part : Addr) : Type 0 where
  beat : IsWordBeat bus part
  single : IsSingle part

-- the parts that fit a link of single beats
parts-fit : (form : LinkForm) (write : Bool) (share : Share) → form.single ≡ true → FitsLink form write share → All (IsPart form.bus) share.parts
parts-fit form write share single fits k past within =
    let alone = fits.single single k past within in
    record { beat = record { single = alone.len; legal = fits.legal k past within; small = fits.small k past within }; single = alone }

-- ---- one beat

one-beat : {X : Type 0} (f : ℕ → List X) (len : ℕ) → len ≡ 0 → flat_map f (range_with_len 0 (len + 1)) ≡ f 0
one-beat f len single = ap (λ (n : ℕ). flat_map f (range_with_len 0 (n + 1))) single ∙ append-nil (f 0)

one-lane : {X : Type 0} (f : ℕ → X) (len : ℕ) → len ≡ 0 → map f (range_with_len 0 (len + 1)) ≡ f 0 ∷ []
one-lane f len single = ap (λ (n : ℕ). map f (range_with_len 0 (n + 1))) single

-- ---- the links around a bridge

module _ (bus : ℕ) (above below : LinkForm) (is : IsBusWidth bus) (full : above.lite ≡ false) (lite : below.lite ≡ true) (bus_above : above.bus ≡ bus) (bus_below : below.bus ≡ bus) where
  abbrev word : Addr → Addr
  word = word_request bus

  span-above : (a : Addr) (n : ℕ) → wanted_span above a n ≡ valid_span a n bus
  span-above a n = ap (λ (b : Bool). cond b (record { low = a.tag.low; high = a.tag.high }) (valid_span a n above.bus)) full ∙ ap (valid_span a n) bus_above

  span-below : (a : Addr) (n : ℕ) → wanted_span below (word a) n ≡ valid_span a 0 bus
  span-below a n = ap (λ (b : Bool). cond b (record { low = (word a).tag.low; high = (word a).tag.high }) (valid_span (word a) n below.bus)) lite

  lanes-same : (parts : List Addr) → All (IsPart bus) parts → flat_map (wanted_lanes below) (map word parts) ≡ flat_map (wanted_lanes above) parts
  lanes-same [] all = refl
  lanes-same (a ∷ parts) all =
      let part = All-head (IsPart bus) a parts all in
      ap₂ (λ (x y : List Span). x ++ y)
      (ap (λ (s : Span). s ∷ []) (span-below a 0 ∙ sym (span-above a 0)) ∙ sym (one-lane (wanted_span above a) a.len part.single.len))
      (lanes-same parts (All-tail (IsPart bus) a parts all))

  bytes-same : (parts : List Addr) → All (IsPart bus) parts → flat_map (wanted_bytes below) (map word parts) ≡ flat_map (wanted_bytes above) parts
  bytes-same [] all = refl
  bytes-same (a ∷ parts) all =
      let part = All-head (IsPart bus) a parts all in
      let low : wanted_bytes below (word a) ≡ bytes_within (word_address a 0 bus) (valid_span a 0 bus) =
      append-nil (bytes_within (word_address (word a) 0 below.bus) (wanted_span below (word a) 0))
      ∙ ap (λ (n : ℕ). bytes_within (word_address (word a) 0 n) (wanted_span below (word a) 0)) bus_below
      ∙ ap (λ (w : ℕ). bytes_within w (wanted_span below (word a) 0)) (word-same bus a is part.single.burst)
      ∙ ap (bytes_within (word_address a 0 bus)) (span-below a 0) in
      let high : wanted_bytes above a ≡ bytes_within (word_address a 0 bus) (valid_span a 0 bus) =
      one-beat (λ beat. bytes_within (word_address a beat above.bus) (wanted_span above a beat)) a.len part.single.len
      ∙ ap (λ (n : ℕ). bytes_within (word_address a 0 n) (wanted_span above a 0)) bus_above
      ∙ ap (bytes_within (word_address a 0 bus)) (span-above a 0) in
      ap₂ (λ (x y : List ℕ). x ++ y) (low ∙ sym high) (bytes-same parts (All-tail (IsPart bus) a parts all))

  words-fit : (parts : List Addr) → All (IsPart bus) parts → All (λ part. IsLegal part below.bus) (map word parts)
  words-fit parts all = subst (λ (n : ℕ). All (λ (part : Addr). IsLegal part n) (map word parts)) (sym bus_below) (All-map (λ part. IsLegal part bus) word parts (λ k past within. word-legal bus (get_or parts k past) is))

  data-fits : (parts : List Addr) (written : List (List WBeat)) → All (IsPart bus) parts → AllZip (IsDataOf bus) parts written → AllZip (IsDataOf bus) (map word parts) written
  data-fits [] [] all fit = fit
  data-fits [] (ws ∷ written) all fit = fit
  data-fits (a ∷ parts) [] all fit = fit
  data-fits (a ∷ parts) (ws ∷ written) all fit =
      let part = All-head (IsPart bus) a parts all in
      (word-data bus a ws is part.beat.legal part.single.len fit.0, data-fits parts written (All-tail (IsPart bus) a parts all) fit.1)

  written-same : (parts : List Addr) (written : List (List WBeat)) → All (IsPart bus) parts → AllZip (IsDataOf bus) parts written →
      flat_map (λ (p : Addr × List WBeat). written_bytes bus p.0 p.1) (zip (map word parts) written) ≡ flat_map (λ (p : Addr × List WBeat). written_bytes bus p.0 p.1) (zip parts written)
  written-same [] written all fit = refl
  written-same (a ∷ parts) [] all fit = refl
  written-same (a ∷ parts) (ws ∷ written) all fit =
      let part = All-head (IsPart bus) a parts all in
      ap₂ (λ (x y : List Byte). x ++ y) (word-written bus a ws is part.beat.legal part.single.len part.single.burst fit.0) (written-same parts written (All-tail (IsPart bus) a parts all) fit.1)

  -- a share above fits the link below in words
  words-carried : (write : Bool) (share : Share) → FitsLink above write share → All (IsPart bus) share.parts → FitsLink below write (in_words bus share)
  words-carried write share fits all =
      let parts : List Addr = share.parts in
      record {
        width = subst IsBusWidth (sym bus_below) is;
        legal = words-fit parts all;
        small = All-map (λ (part : Addr). part.addr < 2 ^ 63) word parts (λ k past within. word-small bus (get_or parts k past) (2 ^ 63) (all k past within).beat.small);
        single = λ single. All-map IsSingle word parts (λ k past within. record { len = refl; burst = refl });
        words = λ lite. subst (λ (n : ℕ). All (IsWordRequest n) (map word parts)) (sym bus_below)
            (All-map (IsWordRequest bus) word parts (λ k past within. word-is_word bus (get_or parts k past) is (all k past within).beat.legal));
        write_data = λ writes. subst (λ (n : ℕ). AllZip (IsDataOf n) (map word parts) share.write_data) (sym bus_below)
            (data-fits parts share.write_data all (subst (λ (n : ℕ). AllZip (IsDataOf n) parts share.write_data) bus_above (fits.write_data writes)));
        strobes = λ writes. subst (λ (n : ℕ). All (λ (w : WBeat). w.strobe < 2 ^ n) (flat_map (λ beats. beats) share.write_data)) (bus_above ∙ sym bus_below) (fits.strobes writes);
        no_data = fits.no_data;
        lanes = fits.lanes ∙ ap (λ (xs : List Span). cond write [] xs) (sym (lanes-same parts all));
      }

-- and so it does with a further link in its chain
words-onto : (bus : ℕ) (above below : LinkForm) (is : IsBusWidth bus) (full : above.lite ≡ false) (lite : below.lite ≡ true) (bus_above : above.bus ≡ bus) (bus_below : below.bus ≡ bus)
    (write : Bool) (next : ℕ) (share : Share) → FitsLink above write share → All (IsPart bus) share.parts → FitsLink below write (onto next (in_words bus share))
words-onto bus above below is full lite bus_above bus_below write next share fits all =
    let here = words-carried bus above below is full lite bus_above bus_below write share fits all in
    record {
      width = here.width;
      legal = here.legal;
      small = here.small;
      single = here.single;
      words = here.words;
      write_data = here.write_data;
      strobes = here.strobes;
      no_data = here.no_data;
      lanes = here.lanes;
    }

module _ (E : Type 0) where
  pub lite-has_way : HasWay (lite_kind {E = E})
  lite-has_way s = record {
    goes_on = λ share responses. refl;
    cut = λ share responses. refl;
    chain = λ share. refl;
    merged = λ write share responses below. refl;
    ends = λ write share responses. refl;
  }

  pub lite-goes_below : GoesBelow (lite_kind {E = E})
  lite-goes_below s share link goes = subst (λ (l : ℕ). Contains (s.shape.lower ∷ []) l) (some-same s.shape.lower link goes) (one-has s.shape.lower)

  pub lite-origins_fit : OriginsFit (lite_kind {E = E})
  lite-origins_fit forms schedules s new sound origin among = absurd (omega (arith, among.1))

  pub lite-cuts_fit : CutsFit (lite_kind {E = E})
  lite-cuts_fit forms schedules s new sound write link next share among carried goes =
      let bus : ℕ = s.shape.bus in
      let below : forms s.shape.lower ≡ forms next = ap forms (some-same s.shape.lower next goes) in
      let above : forms s.shape.upper ≡ forms link = ap forms (sym (is-one s.shape.upper link among)) in
      let full : (forms link).lite ≡ false = subst (λ (f : LinkForm). f.lite ≡ false) above sound.full in
      let single : (forms link).single ≡ true = subst (λ (f : LinkForm). f.single ≡ true) above sound.single in
      let bus_above : (forms link).bus ≡ bus = subst (λ (f : LinkForm). f.bus ≡ s.shape.bus) above sound.bus_above in
      let lite : (forms next).lite ≡ true = subst (λ (f : LinkForm). f.lite ≡ true) below sound.lite in
      let bus_below : (forms next).bus ≡ bus = subst (λ (f : LinkForm). f.bus ≡ s.shape.bus) below sound.bus_below in
      let parts : All (IsPart bus) share.parts = subst (λ (n : ℕ). All (IsPart n) share.parts) bus_above (parts-fit (forms link) write share single carried.fits) in
      record {
        is = record {
          fits = words-onto bus (forms link) (forms next) new.bus full lite bus_above bus_below write next share carried.fits parts;
          page = carried.page;
          in_page = All-map (λ (part : Addr). page part.addr ≡ carried.page) (word_request bus) share.parts
              (λ k past within. word-page bus (get_or share.parts k past) new.bus ∙ carried.in_page k past within);
          before = share.chain;
          chain = refl;
        };
        bytes = bytes-same bus (forms link) (forms next) new.bus full lite bus_above bus_below share.parts parts;
        lanes = refl;
        written = λ writes.
            ap (λ (n : ℕ). flat_map (λ (p : Addr × List WBeat). written_bytes n p.0 p.1) (zip (map (word_request bus) share.parts) share.write_data)) bus_below
            ∙ written-same bus (forms link) (forms next) new.bus full lite bus_above bus_below share.parts share.write_data parts
            (subst (λ (n : ℕ). AllZip (IsDataOf n) share.parts share.write_data) bus_above (carried.fits.write_data writes))
            ∙ ap (λ (n : ℕ). flat_map (λ (p : Addr × List WBeat). written_bytes n p.0 p.1) (zip share.parts share.write_data)) (sym bus_above);
      }

-- one direction of what the links around it carry
module _ (s : LiteState) (forms : ℕ → LinkForm) (write : Bool) (sound : IsSoundLite forms s.shape) (carried : ℕ → ℕ → Option Share)
    (through : WaysThrough (go_on_in_words s.shape) (s.shape.upper ∷ []) (s.shape.lower ∷ []) forms write carried) where
  abbrev way : Way
  way = go_on_in_words s.shape

  abbrev u : ℕ
  u = s.shape.upper

  abbrev d : ℕ
  d = s.shape.lower

  beats-fit : (t : ℕ) → All (IsWordBeat s.shape.bus) (share_on carried s.shape.upper t).parts
  beats-fit t = go (carried s.shape.upper t) refl
    where
      go : (o : Option Share) → carried s.shape.upper t ≡ o → All (IsWordBeat s.shape.bus) (unwrap_or o no_share).parts
      go None is = All-nil (IsWordBeat s.shape.bus)
      go (Some share) is =
          let parts = parts-fit (forms u) write share sound.single (through.above u t share (one-has u) is).fits in
          λ k past within. subst (λ (n : ℕ). IsWordBeat n (get_or share.parts k past)) sound.bus_above (parts k past within).beat

  goes-on : (t : ℕ) → IsInWords s.shape.bus (share_on carried s.shape.upper t) (share_on carried s.shape.lower t)
  goes-on t = go (one-upper way u (d ∷ []) forms write carried (lite-has_way (Unit {0}) s) refl through d t (one-has d))
    where
      go : ComesBy way u (d ∷ []) forms write carried d t ⊎ StaysAway way u (d ∷ []) forms write carried d t → IsInWords s.shape.bus (share_on carried u t) (share_on carried d t)
      go (inl comes) = record {
        beats = beats-fit t;
        parts = ap (λ (x : Share). x.parts) comes.sent.cut;
        write_data = ap (λ (x : Share). x.write_data) comes.sent.cut;
        lanes = ap (λ (x : Share). x.lanes) comes.sent.cut;
        responses = sym comes.sent.merged;
      }
      go (inr away) = subst (λ (x : Share). IsInWords s.shape.bus (share_on carried u t) x) (sym away.none)
          (subst (λ (x : Share). IsInWords s.shape.bus x no_share) (sym (absent away.other))
          (record { beats = All-nil (IsWordBeat s.shape.bus); parts = refl; write_data = refl; lanes = refl; responses = refl }))
        where
          absent : (share_on carried u t ≡ no_share) ⊎ ¬ (Some d ≡ Some d) → share_on carried u t ≡ no_share
          absent (inl none) = none
          absent (inr other) = absurd (other refl)

  same-chains : (t v : ℕ) → SameChain (share_on carried s.shape.lower) t v → SameChain (share_on carried s.shape.upper) t v
  same-chains t v = chains-on way u (d ∷ []) forms write carried (lite-has_way (Unit {0}) s) refl through d t v (one-has d) refl refl

-- the shares of a link are what is carried there
as-carried : (bus : ℕ) (shares : ℕ → ℕ → Share) (carried : ℕ → ℕ → Option Share) (above below : ℕ) → ((link number : ℕ) → shares link number ≡ share_on carried link number) →
    ((t : ℕ) → IsInWords bus (share_on carried above t) (share_on carried below t)) → (t : ℕ) → IsInWords bus (shares above t) (shares below t)
as-carried bus shares carried above below are same t =
    subst (λ (x : Share). IsInWords bus x (shares below t)) (sym (are above t))
    (subst (λ (x : Share). IsInWords bus (share_on carried above t) x) (sym (are below t)) (same t))

chains-carried : (shares : ℕ → ℕ → Share) (carried : ℕ → ℕ → Option Share) (above below : ℕ) → ((link number : ℕ) → shares link number ≡ share_on carried link number) →
    ((t v : ℕ) → SameChain (share_on carried below) t v → SameChain (share_on carried above) t v) → (t v : ℕ) → SameChain (shares below) t v → SameChain (shares above) t v
chains-carried shares carried above below are same t v chain =
    ap (λ (x : Share). x.chain) (are above t)
    ∙ same t v (ap (λ (x : Share). x.chain) (sym (are below t)) ∙ chain ∙ ap (λ (x : Share). x.chain) (are below v))
    ∙ ap (λ (x : Share). x.chain) (sym (are above v))

module _ (E : Type 0) where
  pub lite-ways_suit : WaysSuit (lite_kind {E = E})
  lite-ways_suit forms schedules s new sound ways =
      let u : ℕ = s.shape.upper in
      let d : ℕ = s.shape.lower in
      let writes = λ (link : ℕ). (schedules link).writes in
      let reads = λ (link : ℕ). (schedules link).reads in
      record {
        writes = as-carried s.shape.bus writes ways.carried_writes u d ways.writes_are (goes-on s forms true sound ways.carried_writes ways.writes);
        reads = as-carried s.shape.bus reads ways.carried_reads u d ways.reads_are (goes-on s forms false sound ways.carried_reads ways.reads);
        write_chains = chains-carried writes ways.carried_writes u d ways.writes_are (same-chains s forms true sound ways.carried_writes ways.writes);
        read_chains = chains-carried reads ways.carried_reads u d ways.reads_are (same-chains s forms false sound ways.carried_reads ways.reads);
      }
