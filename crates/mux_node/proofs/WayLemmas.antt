-- How transactions go through a mux.
use Rattle.std.proofs.Common.{[], ◌*◌, ◌^◌, ◌∙◌, ◌∷◌, ◌≡◌, ◌≢◌, ◌≤◌, Bool, List, None, Option, Some, ap, arith, false, inl, inr, length, refl, subst, sym, true, ℕ}
use Rattle.std.specs.Option.{option_map_or}
use Rattle.std.specs.Prelude.{◌⊎◌, Contains, slice_get, unwrap_or}
use Rattle.std.proofs.lemmas.List.Elements.{All-contains}
use Rattle.std.proofs.lemmas.Option.{slice_get_past}
use Rattle.axi_trail.specs.Schedule.{SameChain, Share, no_share}
use Rattle.mux_node.specs.MuxTable.{ids_of}
use Rattle.mux_node.specs.MuxTrail.{Merges, mux_kind, share_at_input}
use Rattle.node_shape.proofs.FormLemmas.{bytes-alike, carried-alike, written-alike}
use Rattle.node_shape.proofs.OneLinkLemmas.{of-one, one-has}
use Rattle.node_shape.proofs.OneUpperLemmas.{share_on}
use Rattle.node_shape.specs.Carries.{IsSameShare}
use Rattle.node_shape.specs.LinkForm.{IsAlike, LinkForm}
use Rattle.node_shape.specs.Way.{Way, go_on_by}
use Rattle.node_shape.specs.WayLaws.{CutsFit, GoesBelow, HasWay, OriginsFit, WaysSuit}
use Rattle.node_shape.specs.WaysAround.{AreApart, GoesOnBy, StartsBy, StaysOff, WaysThrough}
use Rattle.plain_lists.proofs.PlaceLemmas.{all-at, at-all, contains-at}

some-same : (m n : ℕ) → Some m ≡ Some n → m ≡ n
some-same m n is = cc

module _ (E : Type 0) where
  pub mux-has_way : HasWay (mux_kind {E = E})
  mux-has_way s = record {
    goes_on = λ share responses. refl;
    cut = λ share responses. refl;
    chain = λ share. refl;
    merged = λ write share responses below. refl;
    ends = λ write share responses. refl;
  }

  pub mux-goes_below : GoesBelow (mux_kind {E = E})
  mux-goes_below s share link goes = subst (λ (l : ℕ). Contains (s.shape.lower ∷ []) l) (some-same s.shape.lower link goes) (one-has s.shape.lower)

  pub mux-origins_fit : OriginsFit (mux_kind {E = E})
  mux-origins_fit forms schedules s new sound origin among = absurd (omega (arith, among.1))

  pub mux-cuts_fit : CutsFit (mux_kind {E = E})
  mux-cuts_fit forms schedules s new sound write link next share among carried goes =
      let alike : IsAlike (forms link) (forms next) =
      subst (λ (l : ℕ). IsAlike (forms link) (forms l)) (some-same s.shape.lower next goes)
      (All-contains (λ l. IsAlike (forms l) (forms s.shape.lower)) s.shape.uppers link sound.alike among) in
      record {
        is = carried-alike (forms link) (forms next) alike write link next share carried;
        bytes = bytes-alike (forms link) (forms next) alike share.parts;
        lanes = refl;
        written = λ writes. written-alike (forms link) (forms next) alike share;
      }

-- one direction of what the links around it carry
module _ (us : List ℕ) (d : ℕ) (apart : AreApart us) (forms : ℕ → LinkForm) (write : Bool) (carried : ℕ → ℕ → Option Share)
    (through : WaysThrough (go_on_by (λ share. Some d)) us (d ∷ []) forms write carried) where
  abbrev pub way : Way
  way = go_on_by (λ share. Some d)

  abbrev pub Cases : ℕ → Type 0
  Cases t = StartsBy way us write carried d t ⊎ (GoesOnBy way us write carried d t ⊎ StaysOff way us write carried d t)

  pub cases-at : (t : ℕ) → Cases t
  cases-at t = through.out d t (one-has d)

  -- the input of a transaction; past the last one where it comes by none
  pub input_of : (t : ℕ) → Cases t → ℕ
  input_of t (inl s) = length us
  input_of t (inr (inl g)) = g.input
  input_of t (inr (inr e)) = length us

  abbrev pub route : ℕ → ℕ
  route t = input_of t (cases-at t)

  abbrev above : ℕ → ℕ → Share
  above input t = share_at_input us (λ link. share_on carried link) input t

  abbrev below : ℕ → Share
  below t = share_on carried d t

  never-starts : (t : ℕ) → StartsBy way us write carried d t → ⊥
  never-starts t s = absurd (omega (arith, s.among.1))

  above-at : (t : ℕ) (g : GoesOnBy way us write carried d t) → above g.input t ≡ g.share
  above-at t g = ap (λ (o : Option ℕ). option_map_or (λ l. share_on carried l t) o no_share) g.at_input ∙ ap (λ (o : Option Share). unwrap_or o no_share) g.above

  above-past : (t : ℕ) → above (length us) t ≡ no_share
  above-past t = ap (λ (o : Option ℕ). option_map_or (λ l. share_on carried l t) o no_share) (slice_get_past us (length us) (omega arith))

  below-on : (t : ℕ) (g : GoesOnBy way us write carried d t) → below t ≡ g.sent_share
  below-on t g = ap (λ (o : Option Share). unwrap_or o no_share) g.below

  chain-on : (t : ℕ) (g : GoesOnBy way us write carried d t) → (below t).chain ≡ d ∷ g.share.chain
  chain-on t g = ap (λ (s : Share). s.chain) (below-on t g) ∙ ap (λ (s : Share). s.chain) g.sent.cut

  below-off : (t : ℕ) (e : StaysOff way us write carried d t) → below t ≡ no_share
  below-off t e = ap (λ (o : Option Share). unwrap_or o no_share) e.below

  same-share : (t : ℕ) (c : Cases t) → IsSameShare (above (input_of t c) t) (below t)
  unfolding input_of
  same-share t (inl s) = absurd (never-starts t s)
  same-share t (inr (inl g)) =
      subst (λ (x : Share). IsSameShare x (below t)) (sym (above-at t g))
      (subst (λ (y : Share). IsSameShare g.share y) (sym (below-on t g)) (record {
        parts = ap (λ (s : Share). s.parts) g.sent.cut;
        write_data = ap (λ (s : Share). s.write_data) g.sent.cut;
        lanes = ap (λ (s : Share). s.lanes) g.sent.cut;
        responses = sym g.sent.merged;
      }))
  same-share t (inr (inr e)) =
      subst (λ (x : Share). IsSameShare x (below t)) (sym (above-past t))
      (subst (λ (y : Share). IsSameShare no_share y) (sym (below-off t e)) (record { parts = refl; write_data = refl; lanes = refl; responses = refl }))

  on-link : (t input u : ℕ) → slice_get us input ≡ Some u → (c : Cases t) → input_of t c ≢ input → (o : Option Share) → carried u t ≡ o → share_on carried u t ≡ no_share
  unfolding input_of
  on-link t input u there c differs None is = ap (λ (x : Option Share). unwrap_or x no_share) is
  on-link t input u there (inl s) differs (Some share) is = absurd (never-starts t s)
  on-link t input u there (inr (inl g)) differs (Some share) is = absurd (differs (through.one_way_in t g.input input g.link u g.share share g.at_input there g.above is))
  on-link t input u there (inr (inr e)) differs (Some share) is = absurd (e.none_goes_on input u share there is refl)

  not-there : (input t : ℕ) → route t ≢ input → above input t ≡ no_share
  not-there input t differs = go (slice_get us input) refl
    where
      go : (o : Option ℕ) → slice_get us input ≡ o → option_map_or (λ l. share_on carried l t) o no_share ≡ no_share
      go None there = refl
      go (Some u) there = on-link t input u there (cases-at t) differs (carried u t) refl

  abbrev chain_of : Share → List ℕ
  chain_of share = share.chain

  cons-nil : (x : ℕ) (xs : List ℕ) → x ∷ xs ≡ [] → ⊥
  cons-nil x xs e = absurd (cc)

  tails : (x : ℕ) (xs ys : List ℕ) → x ∷ xs ≡ x ∷ ys → xs ≡ ys
  tails x xs ys e = cc

  heads : (u v : ℕ) (xs ys us' vs' : List ℕ) → xs ≡ ys → xs ≡ u ∷ us' → ys ≡ v ∷ vs' → u ≡ v
  heads u v xs ys us' vs' same a b = cc

  one-chain : (t v : ℕ) → SameChain below t v → (a : Cases t) (b : Cases v) → (input_of t a ≡ input_of v b) × ((above (input_of v b) t).chain ≡ (above (input_of v b) v).chain)
  unfolding input_of
  one-chain t v same (inl s) b = absurd (never-starts t s)
  one-chain t v same (inr a) (inl s) = absurd (never-starts v s)
  one-chain t v same (inr (inr a)) (inr (inr b)) = (refl, ap chain_of (above-past t) ∙ sym (ap chain_of (above-past v)))
  one-chain t v same (inr (inl a)) (inr (inr b)) = absurd (cons-nil d a.share.chain (sym (chain-on t a) ∙ same ∙ ap chain_of (below-off v b)))
  one-chain t v same (inr (inr a)) (inr (inl b)) = absurd (cons-nil d b.share.chain (sym (chain-on v b) ∙ sym same ∙ ap chain_of (below-off t a)))
  one-chain t v same (inr (inl a)) (inr (inl b)) =
      let chains : a.share.chain ≡ b.share.chain = tails d a.share.chain b.share.chain (sym (chain-on t a) ∙ same ∙ chain-on v b) in
      let from_a = through.above a.link t a.share (contains-at us a.input a.link a.at_input) a.above in
      let from_b = through.above b.link v b.share (contains-at us b.input b.link b.at_input) b.above in
      let link : a.link ≡ b.link = heads a.link b.link a.share.chain b.share.chain from_a.before from_b.before chains from_a.chain from_b.chain in
      let one : a.input ≡ b.input = apart a.input b.input b.link (a.at_input ∙ ap Some link) b.at_input in
      (one, ap (λ (i : ℕ). (above i t).chain) (sym one) ∙ ap chain_of (above-at t a) ∙ chains ∙ sym (ap chain_of (above-at v b)))

  -- of the shares that a network has
  module _ (shares : ℕ → ℕ → Share) (are : (link number : ℕ) → shares link number ≡ share_on carried link number) where
    at-input-are : (input t : ℕ) → share_at_input us shares input t ≡ above input t
    at-input-are input t = go (slice_get us input)
      where
        go : (o : Option ℕ) → option_map_or (λ l. shares l t) o no_share ≡ option_map_or (λ l. share_on carried l t) o no_share
        go None = refl
        go (Some l) = are l t

    pub merges : Merges route (share_at_input us shares) (shares d)
    merges = record {
      same = λ t.
          subst (λ (x : Share). IsSameShare x (shares d t)) (sym (at-input-are (route t) t))
          (subst (λ (y : Share). IsSameShare (above (route t) t) y) (sym (are d t)) (same-share t (cases-at t)));
      elsewhere = λ input t differs. at-input-are input t ∙ not-there input t differs;
      chains = λ t v same.
          let one = one-chain t v (sym (ap chain_of (are d t)) ∙ same ∙ ap chain_of (are d v)) (cases-at t) (cases-at v) in
          (one.0, ap chain_of (at-input-are (route v) t) ∙ one.1 ∙ sym (ap chain_of (at-input-are (route v) v)));
    }

module _ (E : Type 0) where
  pub mux-ways_suit : WaysSuit (mux_kind {E = E})
  mux-ways_suit forms schedules s new sound ways =
      let us = s.shape.uppers in
      let d = s.shape.lower in
      record {
        apart = ways.uppers_apart;
        write_route = route us d ways.uppers_apart forms true ways.carried_writes ways.writes;
        read_route = route us d ways.uppers_apart forms false ways.carried_reads ways.reads;
        writes = merges us d ways.uppers_apart forms true ways.carried_writes ways.writes (λ link. (schedules link).writes) ways.writes_are;
        reads = merges us d ways.uppers_apart forms false ways.carried_reads ways.reads (λ link. (schedules link).reads) ways.reads_are;
        narrow = all-at (λ l. (schedules l).id_width ≤ s.shape.width) us (λ i link at.
            let same = at-all (λ l. (schedules l).id_width ≡ (forms l).id_width) us i link ways.widths_above at in
            let fits_in = at-all (λ l. (forms l).id_width ≤ s.shape.width) us i link sound.narrow at in
            omega (arith, same, fits_in));
        wide = subst (λ (n : ℕ). ids_of s.shape * length us ≤ 2 ^ n) (sym (of-one (λ l. (schedules l).id_width ≡ (forms l).id_width) d ways.widths_below)) sound.wide;
      }
