-- What all links carry of a transaction is what the hops of its way carry.
use Rattle.std.proofs.Common.{◌≡◌, ◌≤◌, ◌+◌, ◌==◌, ℕ, Bool, true, false, cond, not, List, [], ◌∷◌, length, Option, Some, None, refl, sym, ◌∙◌, ap, arith}
use Rattle.std.proofs.lemmas.Bool.{and_parts, eqb-true, false≢true, true≢false}
use Rattle.std.proofs.lemmas.List.Sums.{sum_by-cons}
use Rattle.std.specs.Bool.{beq}
use Rattle.std.specs.List.{range_with_len}
use Rattle.std.specs.Option.{option_and_then}
use Rattle.std.specs.Prelude.{Contains, find, sum_by, unwrap_or, if◌then◌else◌}
use Rattle.axi_trail.specs.Schedule.{Share, no_share}
use Rattle.net_bound.proofs.HopBeats.{hop_beats}
use Rattle.net_bound.proofs.Sums.{sum-most, sum-none, sum-one, sum-plus, sum-same}
use Rattle.net_model.specs.Network.{Network}
use Rattle.net_progress.specs.Transfers.{link_beats, share_beats}
use Rattle.net_ways.proofs.OriginLemmas.{is-found, not-carried}
use Rattle.net_ways.specs.Sound.{IsSound}
use Rattle.net_ways.specs.Ways.{Hop, carried, is_origin, origins_in, schedules_of, share_on, way_of}
use Rattle.node_shape.specs.Kind.{Kind}
use Rattle.node_shape.specs.KindHolds.{KindHolds}
use Rattle.node_shape.specs.LinkForm.{LinkForm}
use Rattle.node_shape.specs.Way.{Origin}
use Rattle.plain_lists.proofs.PlaceLemmas.{contains-at, find-has}

abbrev beats_if : Option Share → ℕ
beats_if share = share_beats (unwrap_or share no_share)

-- what a hop carries, on its link alone
abbrev beats_here : Hop → ℕ → ℕ
beats_here hop link = if hop.link == link then hop_beats hop else 0

one-hop : (hop : Hop) (hops : List Hop) (link : ℕ) → beats_if (share_on link (hop ∷ hops)) ≤ beats_here hop link + beats_if (share_on link hops)
one-hop hop hops link = go (hop.link == link)
  where
    go : (b : Bool) → beats_if (cond b (Some hop.share) (share_on link hops)) ≤ (if b then hop_beats hop else 0) + beats_if (share_on link hops)
    go true = omega arith
    go false = omega arith

beats-elsewhere : (hop : Hop) (link : ℕ) → ¬ (link ≡ hop.link) → beats_here hop link ≡ 0
beats-elsewhere hop link other = go (hop.link == link) refl
  where
    go : (b : Bool) → (hop.link == link) ≡ b → (if b then hop_beats hop else 0) ≡ 0
    go true is = absurd (other (sym (eqb-true hop.link link is)))
    go false is = refl

beats-most : (hop : Hop) (link : ℕ) → beats_here hop link ≤ hop_beats hop
beats-most hop link = go (hop.link == link)
  where
    go : (b : Bool) → (if b then hop_beats hop else 0) ≤ hop_beats hop
    go true = omega arith
    go false = omega arith

-- links carry no more of hops than these have
pub hops-most : (hops : List Hop) (count : ℕ) → sum_by (λ link. beats_if (share_on link hops)) (range_with_len 0 count) ≤ sum_by hop_beats hops
hops-most [] count = omega (arith, sum-none (range_with_len 0 count))
hops-most (hop ∷ hops) count =
    omega (
      arith,
      sum-most (λ link. beats_if (share_on link (hop ∷ hops))) (λ link. beats_here hop link + beats_if (share_on link hops)) (range_with_len 0 count) (one-hop hop hops),
      sum-plus (beats_here hop) (λ link. beats_if (share_on link hops)) (range_with_len 0 count),
      sum-one (beats_here hop) hop.link (hop_beats hop) 0 count (beats-most hop hop.link) (λ link less other. beats-elsewhere hop link other),
      hops-most hops count,
      sum_by-cons hop_beats hop hops,
    )

module _ {S E : Type 0} (kind : Kind S E) (holds : KindHolds kind) (net : Network S) (forms : ℕ → LinkForm) (sound : IsSound kind net forms) (origin : Origin) (among : Contains (origins_in kind net.nodes) origin) where
  abbrev links : List ℕ
  links = range_with_len 0 (length net.links)

  abbrev carried_beats : Bool → ℕ → ℕ
  carried_beats write link = beats_if (carried kind net write link origin.number)

  own-direction : sum_by (carried_beats origin.write) links ≤ sum_by hop_beats (way_of kind net origin)
  own-direction =
      let found = is-found kind holds net forms sound origin among in
      let same = sum-same (carried_beats origin.write) (λ link. beats_if (share_on link (way_of kind net origin))) links
      (λ link. ap (λ (o : Option Origin). beats_if (option_and_then (λ origin. share_on link (way_of kind net origin)) o)) found) in
      omega (arith, same, hops-most (way_of kind net origin) (length net.links))

  not-itself : (a b : Bool) → beq a (not b) ≡ true → a ≡ b → ⊥
  not-itself true true is same = false≢true is
  not-itself true false is same = true≢false same
  not-itself false true is same = false≢true same
  not-itself false false is same = false≢true is

  -- no transaction has its number in the other direction
  none-other : find (is_origin (not origin.write) origin.number) (origins_in kind net.nodes) ≡ None
  none-other = go (find (is_origin (not origin.write) origin.number) (origins_in kind net.nodes)) refl
    where
      go : (o : Option Origin) → find (is_origin (not origin.write) origin.number) (origins_in kind net.nodes) ≡ o → o ≡ None
      go None none = refl
      go (Some other) found =
          let has = find-has (is_origin (not origin.write) origin.number) (origins_in kind net.nodes) other found in
          let parts = and_parts (beq other.write (not origin.write)) (other.number == origin.number) has.0 in
          let same : other ≡ origin = sound.once other origin (contains-at (origins_in kind net.nodes) has.1 other has.2) among (eqb-true other.number origin.number parts.1) in
          absurd (not-itself other.write origin.write parts.0 (ap (λ (o : Origin). o.write) same))

  other-direction : sum_by (carried_beats (not origin.write)) links ≡ 0
  other-direction =
      sum-same (carried_beats (not origin.write)) (λ link. 0) links
      (λ link. ap beats_if (not-carried kind holds net forms sound (not origin.write) origin.number link none-other))
      ∙ sum-none links

  -- of both directions
  pub links-most : sum_by (λ link. link_beats (schedules_of kind net forms link) origin.number) (range_with_len 0 (length net.links)) ≤ sum_by hop_beats (way_of kind net origin)
  links-most = go origin.write own-direction other-direction
    where
      go : (write : Bool) → sum_by (carried_beats write) links ≤ sum_by hop_beats (way_of kind net origin) → sum_by (carried_beats (not write)) links ≡ 0 →
          sum_by (λ link. carried_beats true link + carried_beats false link) links ≤ sum_by hop_beats (way_of kind net origin)
      go true own other = omega (arith, own, other, sum-plus (carried_beats true) (carried_beats false) links)
      go false own other = omega (arith, own, other, sum-plus (carried_beats true) (carried_beats false) links)
