-- How transactions go through a demux: each as it is, by the port of its addresses.
use Rattle.std.proofs.Common.{◌≡◌, ◌<◌, ◌-◌, ℕ, Bool, true, false, List, [], ◌∷◌, length, Option, Some, None, refl, sym, ◌∙◌, ap, subst, inl, inr, arith}
use Rattle.std.specs.List.{list_any}
use Rattle.std.specs.Prelude.{◌⊎◌, All, Contains, slice_get, unwrap_or}
use Rattle.std.proofs.lemmas.List.Elements.{All-cons, All-contains, All-head, All-nil, All-tail, All-weaker}
use Rattle.std.proofs.lemmas.Option.{get_or_from_slice_get, slice_get_within}
use Rattle.address_map.proofs.PortLemmas.{page-port}
use Rattle.address_map.specs.Regions.{is_bad_region}
use Rattle.axi_beats.specs.declared.beat.Addr.{Addr}
use Rattle.axi_trail.specs.Schedule.{SameChain, Schedule, Share, no_share}
use Rattle.burst_address.specs.Legal.{page}
use Rattle.demux_node.proofs.AnswerLemmas.{lower-at, lower-among, port_of_parts-within}
use Rattle.demux_node.specs.DemuxState.{DemuxShape, DemuxState, IsDemuxShape, port_for}
use Rattle.demux_node.specs.DemuxTrail.{GoByPort, demux_kind, lower_of_parts, port_of_parts}
use Rattle.node_shape.proofs.FormLemmas.{bytes-alike, carried-alike, written-alike}
use Rattle.node_shape.proofs.OneLinkLemmas.{is-one, of-one}
use Rattle.node_shape.proofs.OneUpperLemmas.{ComesBy, StaysAway, chain-on, one-upper, share_on}
use Rattle.node_shape.specs.Carries.{IsSameShare}
use Rattle.node_shape.specs.LinkForm.{ArePartsOf, IsAlike, LinkForm}
use Rattle.node_shape.specs.Way.{Way, go_on_by}
use Rattle.node_shape.specs.WayLaws.{CutsFit, GoesBelow, HasWay, OriginsFit, WaysSuit}
use Rattle.node_shape.specs.WaysAround.{WaysThrough}

is-alike : (form other : LinkForm) → other ≡ form → IsAlike form other
is-alike form other same = record {
  lite = ap (λ (f : LinkForm). f.lite) same;
  bus = ap (λ (f : LinkForm). f.bus) same;
  single = ap (λ (f : LinkForm). f.single) same;
}

some-same : (m n : ℕ) → Some m ≡ Some n → m ≡ n
some-same m n is = cc

module _ (E : Type 0) where
  pub demux-has_way : HasWay (demux_kind {E = E})
  demux-has_way s = record {
    goes_on = λ share responses. refl;
    cut = λ share responses. refl;
    chain = λ share. refl;
    merged = λ write share responses below. refl;
    ends = λ write share responses. refl;
  }

  pub demux-goes_below : GoesBelow (demux_kind {E = E})
  demux-goes_below s share link goes =
      let port = port_of_parts s.shape share.parts in
      (port, slice_get_within s.shape.lowers port link goes, get_or_from_slice_get s.shape.lowers port link link goes)

  pub demux-origins_fit : OriginsFit (demux_kind {E = E})
  demux-origins_fit forms schedules s new sound origin among = absurd (omega (arith, among.1))

  pub demux-cuts_fit : CutsFit (demux_kind {E = E})
  demux-cuts_fit forms schedules s new sound write link next share among carried goes =
      let upper : link ≡ s.shape.upper = is-one s.shape.upper link among in
      let alike_below : forms next ≡ forms s.shape.upper = All-contains (λ (l : ℕ). forms l ≡ forms s.shape.upper) s.shape.lowers next sound.alike (demux-goes_below s share next goes) in
      let alike = is-alike (forms link) (forms next) (alike_below ∙ ap forms (sym upper)) in
      record {
        is = carried-alike (forms link) (forms next) alike write link next share carried;
        bytes = bytes-alike (forms link) (forms next) alike share.parts;
        lanes = refl;
        written = λ writes. written-alike (forms link) (forms next) alike share;
      }

-- addresses of one page have one port
one-port : (shape : DemuxShape) → list_any is_bad_region shape.regions ≡ false → (one other : ℕ) → page one ≡ page other → port_for shape one ≡ port_for shape other
one-port shape good one other same = ap (λ (o : Option ℕ). unwrap_or o (length shape.lowers - 1)) (page-port shape.regions one other good same)

-- so all parts of a transaction go to one port
parts-to : (shape : DemuxShape) → list_any is_bad_region shape.regions ≡ false → (p : ℕ) (parts : List Addr) → ArePartsOf p parts →
    All (λ (part : Addr). port_for shape part.addr ≡ port_of_parts shape parts) parts
parts-to shape good p [] here = All-nil (λ (part : Addr). port_for shape part.addr ≡ port_for shape 0)
parts-to shape good p (first ∷ parts) here =
    All-weaker (λ (part : Addr). page part.addr ≡ p) (λ (part : Addr). port_for shape part.addr ≡ port_for shape first.addr)
    (λ part is. one-port shape good part.addr first.addr (is ∙ sym (All-head (λ (part : Addr). page part.addr ≡ p) first parts here))) (first ∷ parts) here

-- one direction of what the links around it carry
module _ (s : DemuxState) (is : IsDemuxShape s.shape) (good : list_any is_bad_region s.shape.regions ≡ false) (forms : ℕ → LinkForm) (write : Bool) (carried : ℕ → ℕ → Option Share)
    (through : WaysThrough (go_on_by (λ share. slice_get s.shape.lowers (port_of_parts s.shape share.parts))) (s.shape.upper ∷ []) s.shape.lowers forms write carried) where
  abbrev way : Way
  way = go_on_by (λ share. slice_get s.shape.lowers (port_of_parts s.shape share.parts))

  abbrev above : ℕ → Share
  above t = share_on carried s.shape.upper t

  abbrev to : ℕ → ℕ
  to t = lower_of_parts s.shape (share_on carried s.shape.upper t).parts

  goes : (t : ℕ) → way.goes_on (above t) ≡ Some (to t)
  goes t = lower-at s.shape (port_of_parts s.shape (above t).parts) (port_of_parts-within s.shape is (above t).parts)

  among : (t : ℕ) → Contains s.shape.lowers (to t)
  among t = lower-among s.shape (port_of_parts s.shape (above t).parts) (port_of_parts-within s.shape is (above t).parts)

  all-to : (t : ℕ) → All (λ (part : Addr). port_for s.shape part.addr ≡ port_of_parts s.shape (above t).parts) (above t).parts
  all-to t = go (carried s.shape.upper t) refl
    where
      go : (o : Option Share) → carried s.shape.upper t ≡ o → All (λ (part : Addr). port_for s.shape part.addr ≡ port_of_parts s.shape (unwrap_or o no_share).parts) (unwrap_or o no_share).parts
      go None found = All-nil (λ (part : Addr). port_for s.shape part.addr ≡ port_for s.shape 0)
      go (Some share) found =
          let on = through.above s.shape.upper t share (0, omega arith, refl) found in
          parts-to s.shape good on.page share.parts on.in_page

  same-share : (t : ℕ) → IsSameShare (above t) (share_on carried (to t) t)
  same-share t = go (one-upper way s.shape.upper s.shape.lowers forms write carried (demux-has_way (Unit {0}) s) refl through (to t) t (among t))
    where
      go : ComesBy way s.shape.upper s.shape.lowers forms write carried (to t) t ⊎ StaysAway way s.shape.upper s.shape.lowers forms write carried (to t) t →
          IsSameShare (above t) (share_on carried (to t) t)
      go (inl comes) = record {
        parts = ap (λ (x : Share). x.parts) comes.sent.cut;
        write_data = ap (λ (x : Share). x.write_data) comes.sent.cut;
        lanes = ap (λ (x : Share). x.lanes) comes.sent.cut;
        responses = sym comes.sent.merged;
      }
      go (inr away) = subst (λ (x : Share). IsSameShare (above t) x) (sym away.none)
          (subst (λ (x : Share). IsSameShare x no_share) (sym (absent away.other)) (record { parts = refl; write_data = refl; lanes = refl; responses = refl }))
        where
          absent : (above t ≡ no_share) ⊎ ¬ (way.goes_on (above t) ≡ Some (to t)) → above t ≡ no_share
          absent (inl none) = none
          absent (inr other) = absurd (other (goes t))

  same-chain : (t u : ℕ) → 0 < length (above u).parts → (share_on carried (to u) t).chain ≡ (share_on carried (to u) u).chain → (to t ≡ to u) × ((above t).chain ≡ (above u).chain)
  same-chain t u some chain =
      let found = chain-on way s.shape.upper s.shape.lowers forms write carried (demux-has_way (Unit {0}) s) refl through (to u) t u (among u) some (goes u) chain in
      (some-same (to t) (to u) (sym (goes t) ∙ found.0), found.1)

  -- the shares of a link are what is carried there
  pub go-by_port : (shares : ℕ → ℕ → Share) → ((link number : ℕ) → shares link number ≡ share_on carried link number) → GoByPort s.shape (shares s.shape.upper) shares
  go-by_port shares are = record {
    to = λ t. subst (λ (x : Share). All (λ (part : Addr). port_for s.shape part.addr ≡ port_of_parts s.shape x.parts) x.parts) (sym (are s.shape.upper t)) (all-to t);
    same = λ t. subst (λ (x : Share). IsSameShare x (shares (lower_of_parts s.shape x.parts) t)) (sym (are s.shape.upper t))
        (subst (λ (y : Share). IsSameShare (above t) y) (sym (are (to t) t)) (same-share t));
    chains = λ t u.
        subst (λ (x : Share). 0 < length (shares s.shape.upper u).parts → SameChain (shares (lower_of_parts s.shape (shares s.shape.upper u).parts)) t u →
        (lower_of_parts s.shape x.parts ≡ lower_of_parts s.shape (shares s.shape.upper u).parts) × (x.chain ≡ (shares s.shape.upper u).chain)) (sym (are s.shape.upper t))
        (subst (λ (y : Share). 0 < length y.parts → SameChain (shares (lower_of_parts s.shape y.parts)) t u →
        (to t ≡ lower_of_parts s.shape y.parts) × ((above t).chain ≡ y.chain)) (sym (are s.shape.upper u))
        (λ some chain. same-chain t u some (ap (λ (x : Share). x.chain) (sym (are (to u) t)) ∙ chain ∙ ap (λ (x : Share). x.chain) (are (to u) u))));
  }

-- a link below has the ID width of the link above
widths-same : (forms : ℕ → LinkForm) (schedules : ℕ → Schedule) (upper : ℕ) (lowers : List ℕ) → (schedules upper).id_width ≡ (forms upper).id_width →
    All (λ link. (schedules link).id_width ≡ (forms link).id_width) lowers → All (λ link. forms link ≡ forms upper) lowers →
    All (λ link. (schedules link).id_width ≡ (schedules upper).id_width) lowers
widths-same forms schedules upper [] at below alike = All-nil (λ link. (schedules link).id_width ≡ (schedules upper).id_width)
widths-same forms schedules upper (l ∷ lowers) at below alike =
    All-cons (λ link. (schedules link).id_width ≡ (schedules upper).id_width) l lowers
    (All-head (λ link. (schedules link).id_width ≡ (forms link).id_width) l lowers below ∙ ap (λ (form : LinkForm). form.id_width) (All-head (λ link. forms link ≡ forms upper) l lowers alike) ∙ sym at)
    (widths-same forms schedules upper lowers at (All-tail (λ link. (schedules link).id_width ≡ (forms link).id_width) l lowers below) (All-tail (λ link. forms link ≡ forms upper) l lowers alike))

module _ (E : Type 0) where
  pub demux-ways_suit : WaysSuit (demux_kind {E = E})
  demux-ways_suit forms schedules s new sound ways = record {
    widths = widths-same forms schedules s.shape.upper s.shape.lowers (of-one (λ l. (schedules l).id_width ≡ (forms l).id_width) s.shape.upper ways.widths_above) ways.widths_below sound.alike;
    writes = go-by_port s new.shape sound.regions forms true ways.carried_writes ways.writes (λ link. (schedules link).writes) ways.writes_are;
    reads = go-by_port s new.shape sound.regions forms false ways.carried_reads ways.reads (λ link. (schedules link).reads) ways.reads_are;
  }
