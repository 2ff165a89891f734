-- How transactions go through a slice.
use Rattle.std.proofs.Common.{◌≡◌, ℕ, Bool, true, false, [], ◌∷◌, Option, Some, refl, sym, ◌∙◌, ap, subst, inl, inr, arith}
use Rattle.std.specs.Prelude.{◌⊎◌, Contains, flat_map}
use Rattle.axi_trail.specs.Schedule.{SameChain, Share, no_share}
use Rattle.node_shape.specs.Carries.{IsSameShare}
use Rattle.node_shape.specs.LinkForm.{IsAlike, LinkForm}
use Rattle.node_shape.specs.Way.{Way, go_on_by}
use Rattle.node_shape.specs.WayLaws.{CutsFit, GoesBelow, HasWay, OriginsFit, WaysSuit}
use Rattle.node_shape.specs.WaysAround.{WaysThrough}
use Rattle.node_shape.proofs.FormLemmas.{bytes-alike, carried-alike, written-alike}
use Rattle.node_shape.proofs.OneLinkLemmas.{is-one, of-one, one-has}
use Rattle.node_shape.proofs.OneUpperLemmas.{ComesBy, StaysAway, chains-on, one-upper, share_on}
use Rattle.slice_node.specs.SliceState.{SliceState}
use Rattle.slice_node.specs.SliceTrail.{slice_kind}

some-same : (m n : ℕ) → Some m ≡ Some n → m ≡ n
some-same m n is = cc

is-alike : (form other : LinkForm) → other ≡ form → IsAlike form other
is-alike form other same = record {
  lite = ap (λ (f : LinkForm). f.lite) same;
  bus = ap (λ (f : LinkForm). f.bus) same;
  single = ap (λ (f : LinkForm). f.single) same;
}

module _ (E : Type 0) where
  pub slice-has_way : HasWay (slice_kind {E = E})
  slice-has_way s = record {
    goes_on = λ share responses. refl;
    cut = λ share responses. refl;
    chain = λ share. refl;
    merged = λ write share responses below. refl;
    ends = λ write share responses. refl;
  }

  pub slice-goes_below : GoesBelow (slice_kind {E = E})
  slice-goes_below s share link goes = subst (λ (l : ℕ). Contains (s.lower ∷ []) l) (some-same s.lower link goes) (one-has s.lower)

  pub slice-origins_fit : OriginsFit (slice_kind {E = E})
  slice-origins_fit forms schedules s new sound origin among = absurd (omega (arith, among.1))

  pub slice-cuts_fit : CutsFit (slice_kind {E = E})
  slice-cuts_fit forms schedules s new sound write link next share among carried goes =
      let lower : s.lower ≡ next = some-same s.lower next goes in
      let upper : link ≡ s.upper = is-one s.upper link among in
      let same : forms next ≡ forms link = ap forms (sym lower) ∙ sound ∙ ap forms (sym upper) in
      let alike = is-alike (forms link) (forms next) same in
      record {
        is = carried-alike (forms link) (forms next) alike write link next share carried;
        bytes = bytes-alike (forms link) (forms next) alike share.parts;
        lanes = refl;
        written = λ writes. written-alike (forms link) (forms next) alike share;
      }

-- one direction of what the links around it carry
module _ (s : SliceState) (forms : ℕ → LinkForm) (write : Bool) (carried : ℕ → ℕ → Option Share)
    (through : WaysThrough (go_on_by (λ share. Some s.lower)) (s.upper ∷ []) (s.lower ∷ []) forms write carried) where
  abbrev way : Way
  way = go_on_by (λ share. Some s.lower)

  goes-on : (t : ℕ) → IsSameShare (share_on carried s.upper t) (share_on carried s.lower t)
  goes-on t = go (one-upper way s.upper (s.lower ∷ []) forms write carried (slice-has_way (Unit {0}) s) refl through s.lower t (one-has s.lower))
    where
      go : ComesBy way s.upper (s.lower ∷ []) forms write carried s.lower t ⊎ StaysAway way s.upper (s.lower ∷ []) forms write carried s.lower t →
          IsSameShare (share_on carried s.upper t) (share_on carried s.lower t)
      go (inl comes) = record {
        parts = ap (λ (x : Share). x.parts) comes.sent.cut;
        write_data = ap (λ (x : Share). x.write_data) comes.sent.cut;
        lanes = ap (λ (x : Share). x.lanes) comes.sent.cut;
        responses = sym comes.sent.merged;
      }
      go (inr away) = subst (λ (x : Share). IsSameShare (share_on carried s.upper t) x) (sym away.none)
          (subst (λ (x : Share). IsSameShare x no_share) (sym (absent away.other)) (record { parts = refl; write_data = refl; lanes = refl; responses = refl }))
        where
          absent : (share_on carried s.upper t ≡ no_share) ⊎ ¬ (Some s.lower ≡ Some s.lower) → share_on carried s.upper t ≡ no_share
          absent (inl none) = none
          absent (inr other) = absurd (other refl)

  same-chains : (t u : ℕ) → SameChain (share_on carried s.lower) t u → SameChain (share_on carried s.upper) t u
  same-chains t u = chains-on way s.upper (s.lower ∷ []) forms write carried (slice-has_way (Unit {0}) s) refl through s.lower t u (one-has s.lower) refl refl

-- the shares of a link are what is carried there
as-carried : (shares : ℕ → ℕ → Share) (carried : ℕ → ℕ → Option Share) (above below : ℕ) → ((link number : ℕ) → shares link number ≡ share_on carried link number) →
    ((t : ℕ) → IsSameShare (share_on carried above t) (share_on carried below t)) → (t : ℕ) → IsSameShare (shares above t) (shares below t)
as-carried shares carried above below are same t =
    subst (λ (x : Share). IsSameShare x (shares below t)) (sym (are above t))
    (subst (λ (x : Share). IsSameShare (share_on carried above t) x) (sym (are below t)) (same t))

chains-carried : (shares : ℕ → ℕ → Share) (carried : ℕ → ℕ → Option Share) (above below : ℕ) → ((link number : ℕ) → shares link number ≡ share_on carried link number) →
    ((t u : ℕ) → SameChain (share_on carried below) t u → SameChain (share_on carried above) t u) → (t u : ℕ) → SameChain (shares below) t u → SameChain (shares above) t u
chains-carried shares carried above below are same t u chain =
    ap (λ (x : Share). x.chain) (are above t)
    ∙ same t u (ap (λ (x : Share). x.chain) (sym (are below t)) ∙ chain ∙ ap (λ (x : Share). x.chain) (are below u))
    ∙ ap (λ (x : Share). x.chain) (sym (are above u))

module _ (E : Type 0) where
  pub slice-ways_suit : WaysSuit (slice_kind {E = E})
  slice-ways_suit forms schedules s new sound ways =
      let writes = λ (link : ℕ). (schedules link).writes in
      let reads = λ (link : ℕ). (schedules link).reads in
      record {
        id_width =
            of-one (λ l. (schedules l).id_width ≡ (forms l).id_width) s.lower ways.widths_below
            ∙ ap (λ (form : LinkForm). form.id_width) sound
            ∙ sym (of-one (λ l. (schedules l).id_width ≡ (forms l).id_width) s.upper ways.widths_above);
        writes = as-carried writes ways.carried_writes s.upper s.lower ways.writes_are (goes-on s forms true ways.carried_writes ways.writes);
        reads = as-carried reads ways.carried_reads s.upper s.lower ways.reads_are (goes-on s forms false ways.carried_reads ways.reads);
        write_chains = chains-carried writes ways.carried_writes s.upper s.lower ways.writes_are (same-chains s forms true ways.carried_writes ways.writes);
        read_chains = chains-carried reads ways.carried_reads s.upper s.lower ways.reads_are (same-chains s forms false ways.carried_reads ways.reads);
      }
