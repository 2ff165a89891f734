-- How transactions go through a remapper.
use Rattle.std.proofs.Common.{◌≡◌, ℕ, Bool, true, false, [], ◌∷◌, Option, Some, refl, sym, ◌∙◌, ap, subst, inl, inr, arith}
use Rattle.std.specs.Prelude.{◌⊎◌, Contains}
use Rattle.axi_trail.specs.Schedule.{SameChain, Share, no_share}
use Rattle.node_shape.specs.Carries.{IsSameShare}
use Rattle.node_shape.specs.LinkForm.{IsAlike, LinkForm}
use Rattle.node_shape.specs.Way.{Way, go_on_by}
use Rattle.node_shape.specs.WayLaws.{CutsFit, GoesBelow, HasWay, OriginsFit, WaysSuit}
use Rattle.node_shape.specs.WaysAround.{WaysThrough}
use Rattle.node_shape.proofs.FormLemmas.{bytes-alike, carried-alike, written-alike}
use Rattle.node_shape.proofs.OneLinkLemmas.{is-one, of-one, one-has}
use Rattle.node_shape.proofs.OneUpperLemmas.{ComesBy, StaysAway, chains-on, one-upper, share_on}
use Rattle.remap_node.specs.RemapState.{RemapState}
use Rattle.remap_node.specs.RemapTrail.{remap_kind}

some-same : (m n : ℕ) → Some m ≡ Some n → m ≡ n
some-same m n is = cc

module _ (E : Type 0) where
  pub remap-has_way : HasWay (remap_kind {E = E})
  remap-has_way s = record {
    goes_on = λ share responses. refl;
    cut = λ share responses. refl;
    chain = λ share. refl;
    merged = λ write share responses below. refl;
    ends = λ write share responses. refl;
  }

  pub remap-goes_below : GoesBelow (remap_kind {E = E})
  remap-goes_below s share link goes = subst (λ (l : ℕ). Contains (s.shape.lower ∷ []) l) (some-same s.shape.lower link goes) (one-has s.shape.lower)

  pub remap-origins_fit : OriginsFit (remap_kind {E = E})
  remap-origins_fit forms schedules s new sound origin among = absurd (omega (arith, among.1))

  pub remap-cuts_fit : CutsFit (remap_kind {E = E})
  remap-cuts_fit forms schedules s new sound write link next share among carried goes =
      let lower : s.shape.lower ≡ next = some-same s.shape.lower next goes in
      let upper : link ≡ s.shape.upper = is-one s.shape.upper link among in
      let alike : IsAlike (forms link) (forms next) =
      subst (λ (l : ℕ). IsAlike (forms link) (forms l)) lower (subst (λ (l : ℕ). IsAlike (forms l) (forms s.shape.lower)) (sym upper) sound.alike) in
      record {
        is = carried-alike (forms link) (forms next) alike write link next share carried;
        bytes = bytes-alike (forms link) (forms next) alike share.parts;
        lanes = refl;
        written = λ writes. written-alike (forms link) (forms next) alike share;
      }

-- one direction of what the links around it carry
module _ (s : RemapState) (forms : ℕ → LinkForm) (write : Bool) (carried : ℕ → ℕ → Option Share)
    (through : WaysThrough (go_on_by (λ share. Some s.shape.lower)) (s.shape.upper ∷ []) (s.shape.lower ∷ []) forms write carried) where
  abbrev way : Way
  way = go_on_by (λ share. Some s.shape.lower)

  goes-on : (t : ℕ) → IsSameShare (share_on carried s.shape.upper t) (share_on carried s.shape.lower t)
  goes-on t = go (one-upper way s.shape.upper (s.shape.lower ∷ []) forms write carried (remap-has_way (Unit {0}) s) refl through s.shape.lower t (one-has s.shape.lower))
    where
      go : ComesBy way s.shape.upper (s.shape.lower ∷ []) forms write carried s.shape.lower t ⊎ StaysAway way s.shape.upper (s.shape.lower ∷ []) forms write carried s.shape.lower t →
          IsSameShare (share_on carried s.shape.upper t) (share_on carried s.shape.lower t)
      go (inl comes) = record {
        parts = ap (λ (x : Share). x.parts) comes.sent.cut;
        write_data = ap (λ (x : Share). x.write_data) comes.sent.cut;
        lanes = ap (λ (x : Share). x.lanes) comes.sent.cut;
        responses = sym comes.sent.merged;
      }
      go (inr away) = subst (λ (x : Share). IsSameShare (share_on carried s.shape.upper t) x) (sym away.none)
          (subst (λ (x : Share). IsSameShare x no_share) (sym (absent away.other)) (record { parts = refl; write_data = refl; lanes = refl; responses = refl }))
        where
          absent : (share_on carried s.shape.upper t ≡ no_share) ⊎ ¬ (Some s.shape.lower ≡ Some s.shape.lower) → share_on carried s.shape.upper t ≡ no_share
          absent (inl none) = none
          absent (inr other) = absurd (other refl)

  same-chains : (t u : ℕ) → SameChain (share_on carried s.shape.lower) t u → SameChain (share_on carried s.shape.upper) t u
  same-chains t u = chains-on way s.shape.upper (s.shape.lower ∷ []) forms write carried (remap-has_way (Unit {0}) s) refl through s.shape.lower t u (one-has s.shape.lower) refl refl

-- the shares of a link are what is carried there
as-carried : (shares : ℕ → ℕ → Share) (carried : ℕ → ℕ → Option Share) (above below : ℕ) → ((link number : ℕ) → shares link number ≡ share_on carried link number) →
    ((t : ℕ) → IsSameShare (share_on carried above t) (share_on carried below t)) → (t : ℕ) → IsSameShare (shares above t) (shares below t)
as-carried shares carried above below are same t =
    subst (λ (x : Share). IsSameShare x (shares below t)) (sym (are above t))
    (subst (λ (x : Share). IsSameShare (share_on carried above t) x) (sym (are below t)) (same t))

chains-carried : (shares : ℕ → ℕ → Share) (carried : ℕ → ℕ → Option Share) (above below : ℕ) → ((link number : ℕ) → shares link number ≡ share_on carried link number) →
    ((t u : ℕ) → SameChain (share_on carried below) t u → SameChain (share_on carried above) t u) → (t u : ℕ) → SameChain (shares below) t u → SameChain (shares above) t u
chains-carried shares carried above below are same t u chain =
    ap (λ (x : Share). x.chain) (are above t)
    ∙ same t u (ap (λ (x : Share). x.chain) (sym (are below t)) ∙ chain ∙ ap (λ (x : Share). x.chain) (are below u))
    ∙ ap (λ (x : Share). x.chain) (sym (are above u))

module _ (E : Type 0) where
  pub remap-ways_suit : WaysSuit (remap_kind {E = E})
  remap-ways_suit forms schedules s new sound ways =
      let writes = λ (link : ℕ). (schedules link).writes in
      let reads = λ (link : ℕ). (schedules link).reads in
      record {
        id_width = of-one (λ l. (schedules l).id_width ≡ (forms l).id_width) s.shape.lower ways.widths_below ∙ sound.width;
        writes = as-carried writes ways.carried_writes s.shape.upper s.shape.lower ways.writes_are (goes-on s forms true ways.carried_writes ways.writes);
        reads = as-carried reads ways.carried_reads s.shape.upper s.shape.lower ways.reads_are (goes-on s forms false ways.carried_reads ways.reads);
        write_chains = chains-carried writes ways.carried_writes s.shape.upper s.shape.lower ways.writes_are (same-chains s forms true ways.carried_writes ways.writes);
        read_chains = chains-carried reads ways.carried_reads s.shape.upper s.shape.lower ways.reads_are (same-chains s forms false ways.carried_reads ways.reads);
      }
