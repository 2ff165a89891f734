-- How transactions go through an up converter.
use Rattle.std.proofs.Common.{◌≡◌, ◌<◌, ◌≤◌, ℕ, Bool, true, false, List, [], ◌∷◌, length, map, Option, None, Some, refl, sym, ◌∙◌, ap, ap₂, subst, inl, inr, arith, get_or, true≢false}
use Rattle.std.specs.Prelude.{◌⊎◌, All, Contains, flat_map, unwrap_or, zip}
use Rattle.std.specs.List.{AllZip}
use Rattle.std.proofs.lemmas.List.Elements.{All-nil}
use Rattle.axi_beats.specs.Lanes.{Span}
use Rattle.axi_beats.specs.declared.beat.Addr.{Addr}
use Rattle.axi_beats.specs.declared.beat.WBeat.{WBeat}
use Rattle.axi_trail.specs.Schedule.{SameChain, Share, no_share}
use Rattle.burst_address.proofs.Legality.{legal-wider}
use Rattle.burst_address.specs.Bytes.{written_bytes}
use Rattle.burst_address.specs.Formulas.{beats_of}
use Rattle.burst_address.specs.Legal.{IsLegal}
use Rattle.node_shape.proofs.OneLinkLemmas.{is-one, of-one, one-has}
use Rattle.node_shape.proofs.OneUpperLemmas.{ComesBy, StaysAway, chains-on, one-upper, share_on}
use Rattle.node_shape.specs.LegalSchedule.{IsDataOf}
use Rattle.node_shape.specs.LinkForm.{LinkForm, lanes_wanted, parts_written, wanted_bytes}
use Rattle.node_shape.specs.Way.{onto}
use Rattle.node_shape.specs.WayLaws.{CutsFit, GoesBelow, HasWay, OriginsFit, WaysSuit}
use Rattle.node_shape.specs.WaysAround.{IsCarried, WaysThrough}
use Rattle.up_node.proofs.CutLemmas.{all-data, bytes-same, lanes-fit, lanes-on_bus, strobes-small, wanted-same, written-moved}
use Rattle.up_node.proofs.MovedLemmas.{zip-nil}
use Rattle.up_node.specs.UpBeats.{beat_widened}
use Rattle.up_node.specs.UpCut.{beat_shifts, data_widened, moved_each, share_widened}
use Rattle.up_node.specs.UpState.{IsBurstOn, IsUpShape, new_up}
use Rattle.up_node.specs.UpTrail.{IsSoundUp, IsWidened, on_wider, up_kind, up_way}
use Rattle.up_node.specs.declared.shape.UpShape.{UpShape}

some-same : (m n : ℕ) → Some m ≡ Some n → m ≡ n
some-same m n is = cc

-- what goes on, on the form of the link above with the wide bus
record SentWhole (shape : UpShape) (form : LinkForm) (write : Bool) (next : ℕ) (share : Share) : Type 0 where
  pub is : IsCarried (on_wider shape.wide form) write next (onto next (share_widened shape share))
  pub bytes : flat_map (wanted_bytes (on_wider shape.wide form)) share.parts ≡ flat_map (wanted_bytes form) share.parts
  pub lanes : lanes_wanted (share_widened shape share).lanes ≡ lanes_wanted share.lanes
  pub written : write ≡ true → parts_written (on_wider shape.wide form) (share_widened shape share) ≡ parts_written form share

module _ (shape : UpShape) (is : IsUpShape shape) (form : LinkForm) (full : form.lite ≡ false) (bus : form.bus ≡ shape.narrow) where
  legal-narrow : (parts : List Addr) → All (λ (part : Addr). IsLegal part form.bus) parts → All (λ (part : Addr). IsLegal part shape.narrow) parts
  legal-narrow parts legal = subst (λ (n : ℕ). All (λ (part : Addr). IsLegal part n) parts) bus legal

  sent-whole : (write : Bool) (link next : ℕ) (share : Share) → IsCarried form write link share → SentWhole shape form write next share
  sent-whole write link next share carried =
      let fits = carried.fits in
      let legal = legal-narrow share.parts fits.legal in
      let data_of = λ (writes : write ≡ true). subst (λ (n : ℕ). AllZip (IsDataOf n) share.parts share.write_data) bus (fits.write_data writes) in
      let wider : shape.narrow ≤ shape.wide = let less = is.wider in omega (arith, less) in
      record {
        is = record {
          fits = record {
            width = is.wide;
            legal = λ k d lt. legal-wider (get_or share.parts k d) shape.narrow shape.wide wider (legal k d lt);
            small = fits.small;
            single = fits.single;
            words = λ lite. absurd (true≢false (sym lite ∙ full));
            write_data = λ writes. all-data shape is share.parts share.write_data legal (data_of writes);
            strobes = λ writes. strobes-small shape is share.parts share.write_data;
            no_data = λ reads. ap (data_widened shape share.parts) (fits.no_data reads) ∙ ap (map (λ (p : Addr × List WBeat). moved_each (beat_widened shape) (beat_shifts shape p.0) p.1)) (zip-nil share.parts);
            lanes = lanes-fit shape is form full bus write share.parts share.lanes legal fits.lanes;
          };
          page = carried.page;
          in_page = carried.in_page;
          before = share.chain;
          chain = refl;
        };
        bytes = bytes-same shape is form full bus share.parts legal;
        lanes = wanted-same shape is form full bus write share.parts share.lanes legal fits.lanes;
        written = λ writes.
            written-moved shape is share.parts share.write_data legal (data_of writes)
            ∙ sym (ap (λ (n : ℕ). flat_map (λ (p : Addr × List WBeat). written_bytes n p.0 p.1) (zip share.parts share.write_data)) bus);
      }

module _ (E : Type 0) where
  pub up-has_way : HasWay (up_kind {E = E})
  up-has_way s = record {
    goes_on = λ share responses. refl;
    cut = λ share responses. refl;
    chain = λ share. refl;
    merged = λ write share responses below. refl;
    ends = λ write share responses. refl;
  }

  pub up-goes_below : GoesBelow (up_kind {E = E})
  up-goes_below s share link goes = subst (λ (l : ℕ). Contains (s.shape.lower ∷ []) l) (some-same s.shape.lower link goes) (one-has s.shape.lower)

  pub up-origins_fit : OriginsFit (up_kind {E = E})
  up-origins_fit forms schedules s new sound origin among = absurd (omega (arith, among.1))

  pub up-cuts_fit : CutsFit (up_kind {E = E})
  up-cuts_fit forms schedules s new sound write link next share among carried goes =
      let shape = s.shape in
      let lower : shape.lower ≡ next = some-same shape.lower next goes in
      let upper : link ≡ shape.upper = is-one shape.upper link among in
      let form = forms link in
      let below : forms next ≡ on_wider shape.wide form = ap forms (sym lower) ∙ sound.below ∙ ap (λ l. on_wider shape.wide (forms l)) (sym upper) in
      let full : form.lite ≡ false = ap (λ l. (forms l).lite) upper ∙ sound.full in
      let bus : form.bus ≡ shape.narrow = ap (λ l. (forms l).bus) upper ∙ sound.narrow in
      let whole = sent-whole shape new.shape form full bus write link next share carried in
      record {
        is = subst (λ (f : LinkForm). IsCarried f write next (onto next (share_widened shape share))) (sym below) whole.is;
        bytes = ap (λ (f : LinkForm). flat_map (wanted_bytes f) share.parts) below ∙ whole.bytes;
        lanes = whole.lanes;
        written = λ writes. ap (λ (f : LinkForm). parts_written f (share_widened shape share)) below ∙ whole.written writes;
      }

-- one direction of what the links around it carry
module _ (shape : UpShape) (forms : ℕ → LinkForm) (sound : IsSoundUp forms shape) (is : IsUpShape shape) (write : Bool) (carried : ℕ → ℕ → Option Share)
    (through : WaysThrough (up_way shape) (shape.upper ∷ []) (shape.lower ∷ []) forms write carried) where
  -- what the link above carries of a transaction is legal on its bus
  fits-above : (o : Option Share) → ((share : Share) → o ≡ Some share → IsCarried (forms shape.upper) write shape.upper share) →
      All (IsBurstOn shape.narrow) (unwrap_or o no_share).parts × All (λ (span : Span). span.high < shape.narrow) (unwrap_or o no_share).lanes
  fits-above None there = (All-nil (IsBurstOn shape.narrow), All-nil (λ (span : Span). span.high < shape.narrow))
  fits-above (Some share) there =
      let fits = (there share refl).fits in
      let legal : All (λ (part : Addr). IsLegal part shape.narrow) share.parts = subst (λ (n : ℕ). All (λ (part : Addr). IsLegal part n) share.parts) sound.narrow fits.legal in (
        (λ k d lt. record { legal = legal k d lt; small = fits.small k d lt }),
        lanes-on_bus shape is (forms shape.upper) sound.full sound.narrow write share.parts share.lanes fits.lanes,
      )

  goes-on : (t : ℕ) → IsWidened shape (share_on carried shape.upper t) (share_on carried shape.lower t)
  goes-on t = go (one-upper (up_way shape) shape.upper (shape.lower ∷ []) forms write carried (up-has_way (Unit {0}) (new_up shape)) refl through shape.lower t (one-has shape.lower))
    where
      above : All (IsBurstOn shape.narrow) (share_on carried shape.upper t).parts × All (λ (span : Span). span.high < shape.narrow) (share_on carried shape.upper t).lanes
      above = fits-above (carried shape.upper t) (λ share there. through.above shape.upper t share (one-has shape.upper) there)

      go : ComesBy (up_way shape) shape.upper (shape.lower ∷ []) forms write carried shape.lower t ⊎ StaysAway (up_way shape) shape.upper (shape.lower ∷ []) forms write carried shape.lower t →
          IsWidened shape (share_on carried shape.upper t) (share_on carried shape.lower t)
      go (inl comes) = record {
        parts = ap (λ (x : Share). x.parts) comes.sent.cut;
        write_data = ap (λ (x : Share). x.write_data) comes.sent.cut;
        lanes = ap (λ (x : Share). x.lanes) comes.sent.cut;
        responses = sym comes.sent.merged;
        bursts = above.0;
        on_bus = above.1;
      }
      go (inr away) =
          subst (λ (x : Share). IsWidened shape (share_on carried shape.upper t) x) (sym away.none)
          (subst (λ (x : Share). IsWidened shape x no_share) (sym (absent away.other)) (record {
            parts = refl;
            write_data = refl;
            lanes = refl;
            responses = refl;
            bursts = All-nil (IsBurstOn shape.narrow);
            on_bus = All-nil (λ (span : Span). span.high < shape.narrow);
          }))
        where
          absent : (share_on carried shape.upper t ≡ no_share) ⊎ ¬ (Some shape.lower ≡ Some shape.lower) → share_on carried shape.upper t ≡ no_share
          absent (inl none) = none
          absent (inr other) = absurd (other refl)

  same-chains : (t u : ℕ) → SameChain (share_on carried shape.lower) t u → SameChain (share_on carried shape.upper) t u
  same-chains t u =
      chains-on (up_way shape) shape.upper (shape.lower ∷ []) forms write carried (up-has_way (Unit {0}) (new_up shape)) refl through shape.lower t u (one-has shape.lower) refl refl

-- the data of each part of a write is whole
data-whole : (form : LinkForm) (link : ℕ) (o : Option Share) → ((share : Share) → o ≡ Some share → IsCarried form true link share) →
    map (λ (beats : List WBeat). length beats) (unwrap_or o no_share).write_data ≡ map beats_of (unwrap_or o no_share).parts
data-whole form link None there = refl
data-whole form link (Some share) there = go share.parts share.write_data ((there share refl).fits.write_data refl)
  where
    go : (parts : List Addr) (written : List (List WBeat)) → AllZip (IsDataOf form.bus) parts written → map (λ (beats : List WBeat). length beats) written ≡ map beats_of parts
    go [] [] all = refl
    go [] (beats ∷ written) all = absurd all
    go (a ∷ parts) [] all = absurd all
    go (a ∷ parts) (beats ∷ written) all = ap₂ (λ (n : ℕ) (ns : List ℕ). n ∷ ns) all.0.whole (go parts written all.1)

-- the shares of a link are what is carried there
as-carried : (shape : UpShape) (shares : ℕ → ℕ → Share) (carried : ℕ → ℕ → Option Share) → ((link number : ℕ) → shares link number ≡ share_on carried link number) →
    ((t : ℕ) → IsWidened shape (share_on carried shape.upper t) (share_on carried shape.lower t)) → (t : ℕ) → IsWidened shape (shares shape.upper t) (shares shape.lower t)
as-carried shape shares carried are same t =
    subst (λ (x : Share). IsWidened shape x (shares shape.lower t)) (sym (are shape.upper t))
    (subst (λ (x : Share). IsWidened shape (share_on carried shape.upper t) x) (sym (are shape.lower t)) (same t))

chains-carried : (shares : ℕ → ℕ → Share) (carried : ℕ → ℕ → Option Share) (above below : ℕ) → ((link number : ℕ) → shares link number ≡ share_on carried link number) →
    ((t u : ℕ) → SameChain (share_on carried below) t u → SameChain (share_on carried above) t u) → (t u : ℕ) → SameChain (shares below) t u → SameChain (shares above) t u
chains-carried shares carried above below are same t u chain =
    ap (λ (x : Share). x.chain) (are above t)
    ∙ same t u (ap (λ (x : Share). x.chain) (sym (are below t)) ∙ chain ∙ ap (λ (x : Share). x.chain) (are below u))
    ∙ ap (λ (x : Share). x.chain) (sym (are above u))

module _ (E : Type 0) where
  pub up-ways_suit : WaysSuit (up_kind {E = E})
  up-ways_suit forms schedules s new sound ways =
      let upper = s.shape.upper in
      let lower = s.shape.lower in
      let writes = λ (link : ℕ). (schedules link).writes in
      let reads = λ (link : ℕ). (schedules link).reads in
      record {
        id_width =
            of-one (λ l. (schedules l).id_width ≡ (forms l).id_width) lower ways.widths_below
            ∙ ap (λ (form : LinkForm). form.id_width) sound.below
            ∙ sym (of-one (λ l. (schedules l).id_width ≡ (forms l).id_width) upper ways.widths_above);
        writes = as-carried s.shape writes ways.carried_writes ways.writes_are (goes-on s.shape forms sound new.shape true ways.carried_writes ways.writes);
        reads = as-carried s.shape reads ways.carried_reads ways.reads_are (goes-on s.shape forms sound new.shape false ways.carried_reads ways.reads);
        write_chains = chains-carried writes ways.carried_writes upper lower ways.writes_are (same-chains s.shape forms sound new.shape true ways.carried_writes ways.writes);
        read_chains = chains-carried reads ways.carried_reads upper lower ways.reads_are (same-chains s.shape forms sound new.shape false ways.carried_reads ways.reads);
        whole = λ t.
            subst (λ (x : Share). map (λ (beats : List WBeat). length beats) x.write_data ≡ map beats_of x.parts) (sym (ways.writes_are upper t))
            (data-whole (forms upper) upper (ways.carried_writes upper t) (λ share there. ways.writes.above upper t share (one-has upper) there));
      }
