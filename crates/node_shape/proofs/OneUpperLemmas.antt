-- A node with one link above it, at which no transaction starts: what a link below carries is what the node sends on by it
-- of what the link above carries.
use Rattle.std.proofs.Common.{◌≡◌, ◌<◌, ℕ, zero, suc, Bool, List, [], ◌∷◌, length, Option, Some, None, refl, sym, ◌∙◌, ap, subst, inl, inr, arith}
use Rattle.std.specs.Prelude.{◌⊎◌, Contains, slice_get, unwrap_or}
use Rattle.axi_trail.specs.Schedule.{Share, no_share}
use Rattle.node_shape.specs.LinkForm.{LinkForm}
use Rattle.node_shape.specs.Way.{IsSentOn, IsWay, Origin, Way}
use Rattle.node_shape.specs.WaysAround.{GoesOnBy, StartsBy, StaysOff, WaysThrough}

one-at : (u l i : ℕ) → slice_get (u ∷ []) i ≡ Some l → l ≡ u
one-at u l zero is = let same : u ≡ l = cc in sym same
one-at u l (suc i) is = absurd (cc)

no-origin : (origins : List Origin) → origins ≡ [] → (origin : Origin) → ¬ Contains origins origin
no-origin origins none origin among = let long : length origins ≡ 0 = ap length none in absurd (omega (arith, long, among.1))

never : (x : ℕ) (xs : List ℕ) → [] ≡ x ∷ xs → ⊥
never x xs e = absurd (cc)

tails : (x : ℕ) (xs ys : List ℕ) → x ∷ xs ≡ x ∷ ys → xs ≡ ys
tails x xs ys e = cc

-- what a link carries of a transaction; nothing where it doesn't come by
abbrev pub share_on : (ℕ → ℕ → Option Share) → ℕ → ℕ → Share
share_on carried link number = unwrap_or (carried link number) no_share

module _ (way : Way) (u : ℕ) (lowers : List ℕ) (forms : ℕ → LinkForm) (write : Bool) (carried : ℕ → ℕ → Option Share) where
  abbrev on : ℕ → ℕ → Share
  on = share_on carried

  pub record ComesBy (d t : ℕ) : Type 0 where
    pub goes : way.goes_on (on u t) ≡ Some d
    pub sent : IsSentOn way write d (on u t) (on d t)

  pub record StaysAway (d t : ℕ) : Type 0 where
    pub none : on d t ≡ no_share
    pub other : (on u t ≡ no_share) ⊎ ¬ (way.goes_on (on u t) ≡ Some d)

  module _ (is_way : IsWay way) (starts_none : way.origins ≡ []) (through : WaysThrough way (u ∷ []) lowers forms write carried) where
    pub one-upper : (d t : ℕ) → Contains lowers d → ComesBy d t ⊎ StaysAway d t
    one-upper d t among = go (through.out d t among)
      where
        away : StaysOff way (u ∷ []) write carried d t → (o : Option Share) → carried u t ≡ o → (on u t ≡ no_share) ⊎ ¬ (way.goes_on (on u t) ≡ Some d)
        away off None is = inl (ap (λ (o : Option Share). unwrap_or o no_share) is)
        away off (Some share) is =
            let here : on u t ≡ share = ap (λ (o : Option Share). unwrap_or o no_share) is in
            inr (λ goes. off.none_goes_on 0 u share refl is (ap way.goes_on (sym here) ∙ goes))

        go : StartsBy way (u ∷ []) write carried d t ⊎ (GoesOnBy way (u ∷ []) write carried d t ⊎ StaysOff way (u ∷ []) write carried d t) → ComesBy d t ⊎ StaysAway d t
        go (inl starts) = absurd (no-origin way.origins starts_none starts.origin starts.among)
        go (inr (inl g)) =
            let link : g.link ≡ u = one-at u g.link g.input g.at_input in
            let above : on u t ≡ g.share = ap (λ (l : ℕ). on l t) (sym link) ∙ ap (λ (o : Option Share). unwrap_or o no_share) g.above in
            let below : on d t ≡ g.sent_share = ap (λ (o : Option Share). unwrap_or o no_share) g.below in
            inl (record {
              goes = ap way.goes_on above ∙ g.goes_on;
              sent = subst (λ (x : Share). IsSentOn way write d x (on d t)) (sym above) (subst (λ (y : Share). IsSentOn way write d g.share y) (sym below) g.sent);
            })
        go (inr (inr off)) = inr (record { none = ap (λ (o : Option Share). unwrap_or o no_share) off.below; other = away off (carried u t) refl })

    chain-below : (d t : ℕ) → ComesBy d t → (on d t).chain ≡ d ∷ (on u t).chain
    chain-below d t c = ap (λ (s : Share). s.chain) c.sent.cut ∙ ap (λ (xs : List ℕ). d ∷ xs) (is_way.chain (on u t))

    -- where a transaction goes on by a link, those of its chain there go on by it too, and are of its chain above
    pub chain-on : (d t v : ℕ) → Contains lowers d → 0 < length (on u v).parts → way.goes_on (on u v) ≡ Some d → (on d t).chain ≡ (on d v).chain →
        (way.goes_on (on u t) ≡ Some d) × ((on u t).chain ≡ (on u v).chain)
    chain-on d t v among some goes chain = go (one-upper d t among) (one-upper d v among)
      where
        not-away : (on u v ≡ no_share) ⊎ ¬ (way.goes_on (on u v) ≡ Some d) → ⊥
        not-away (inl none) = let no : length (on u v).parts ≡ 0 = ap (λ (s : Share). length s.parts) none in absurd (omega (arith, some, no))
        not-away (inr other) = other goes

        go : ComesBy d t ⊎ StaysAway d t → ComesBy d v ⊎ StaysAway d v → (way.goes_on (on u t) ≡ Some d) × ((on u t).chain ≡ (on u v).chain)
        go a (inr off) = absurd (not-away off.other)
        go (inr off) (inl b) = absurd (never d (on u v).chain (sym (ap (λ (s : Share). s.chain) off.none) ∙ chain ∙ chain-below d v b))
        go (inl a) (inl b) = (a.goes, tails d (on u t).chain (on u v).chain (sym (chain-below d t a) ∙ chain ∙ chain-below d v b))

    -- the same of transactions of which any may stay away, where both go on by the link if they come
    pub chains-on : (d t v : ℕ) → Contains lowers d → way.goes_on (on u t) ≡ Some d → way.goes_on (on u v) ≡ Some d → (on d t).chain ≡ (on d v).chain →
        (on u t).chain ≡ (on u v).chain
    chains-on d t v among goes_t goes_v chain = go (one-upper d t among) (one-upper d v among)
      where
        absent : (n : ℕ) → way.goes_on (on u n) ≡ Some d → (on u n ≡ no_share) ⊎ ¬ (way.goes_on (on u n) ≡ Some d) → (on u n).chain ≡ []
        absent n goes (inl none) = ap (λ (s : Share). s.chain) none
        absent n goes (inr other) = absurd (other goes)

        go : ComesBy d t ⊎ StaysAway d t → ComesBy d v ⊎ StaysAway d v → (on u t).chain ≡ (on u v).chain
        go (inl a) (inl b) = tails d (on u t).chain (on u v).chain (sym (chain-below d t a) ∙ chain ∙ chain-below d v b)
        go (inl a) (inr off) = absurd (never d (on u t).chain (sym (ap (λ (s : Share). s.chain) off.none) ∙ sym chain ∙ chain-below d t a))
        go (inr off) (inl b) = absurd (never d (on u v).chain (sym (ap (λ (s : Share). s.chain) off.none) ∙ chain ∙ chain-below d v b))
        go (inr off) (inr far) = absent t goes_t off.other ∙ sym (absent v goes_v far.other)
