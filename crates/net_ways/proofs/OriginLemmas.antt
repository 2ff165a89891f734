-- The transactions of a network, each of which has one way.
use Rattle.std.proofs.Common.{◌≡◌, ◌<◌, ◌==◌, ◌&&◌, ℕ, zero, suc, Bool, true, false, cond, List, [], ◌∷◌, length, Option, Some, None, refl, sym, ◌∙◌, ap, subst, inl, inr, arith}
use Rattle.std.specs.Bool.{beq}
use Rattle.std.specs.Option.{option_and_then, option_map_or}
use Rattle.std.specs.Prelude.{All, Contains, find, flat_map, slice_get}
use Rattle.std.proofs.lemmas.Bool.{and_parts, eq-eqb, eqb-true}
use Rattle.std.proofs.lemmas.List.Concat.{flat_map-cons}
use Rattle.std.proofs.lemmas.List.Elements.{All-contains, Contains-append_cases, Contains-append_left, Contains-append_right}
use Rattle.std.proofs.lemmas.Option.{none-some, same_Some}
use Rattle.axi_beats.specs.declared.response.Resp.{Resp}
use Rattle.net_model.specs.Network.{Network, lower_node, upper_node}
use Rattle.net_model.specs.Wired.{IsWired}
use Rattle.net_runs.proofs.ContractFacts.{at-some}
use Rattle.net_ways.proofs.HopLemmas.{IsJoined, is-way_from}
use Rattle.net_ways.specs.Sound.{IsSound}
use Rattle.net_ways.specs.Ways.{Hop, carried, is_origin, origins_in, schedules_of, share_on, way_of}
use Rattle.node_core.specs.Acted.{Acted}
use Rattle.node_shape.specs.Kind.{Kind}
use Rattle.node_shape.specs.KindHolds.{KindHolds}
use Rattle.node_shape.specs.LinkForm.{LinkForm}
use Rattle.node_shape.specs.Way.{Origin, with_responses}
use Rattle.node_shape.specs.WayLaws.{IsOrigin}
use Rattle.plain_lists.proofs.PlaceLemmas.{contains-at, find-has}

-- what is among the lists of all elements is in that of one, and the other way round
pub flat-from : {X Y : Type 0} (f : X → List Y) (xs : List X) (y : Y) → Contains (flat_map f xs) y → (k : ℕ) × (x : X) × (slice_get xs k ≡ Some x) × Contains (f x) y
flat-from f [] y among = absurd (omega (arith, among.1))
flat-from f (x ∷ xs) y among = elim (Contains-append_cases (f x) (flat_map f xs) y (subst (λ (ys : List _). Contains ys y) (flat_map-cons f x xs) among)) [
  | inl here ↦ (0, x, refl, here)
  | inr further ↦ let rest = flat-from f xs y further in (suc rest.0, rest.1, rest.2, rest.3)
]

pub flat-has : {X Y : Type 0} (f : X → List Y) (xs : List X) (k : ℕ) (x : X) (y : Y) → slice_get xs k ≡ Some x → Contains (f x) y → Contains (flat_map f xs) y
flat-has f [] k x y at among = absurd (cc)
flat-has f (z ∷ xs) zero x y at among =
    subst (λ (ys : List _). Contains ys y) (sym (flat_map-cons f z xs)) (Contains-append_left (f z) (flat_map f xs) y (subst (λ (w : _). Contains (f w) y) (sym (same_Some z x at)) among))
flat-has f (z ∷ xs) (suc k) x y at among =
    subst (λ (ys : List _). Contains ys y) (sym (flat_map-cons f z xs)) (Contains-append_right (f z) (flat_map f xs) y (flat-has f xs k x y at among))

-- where one passes, something is found
none-passes : {X : Type 0} (p : X → Bool) (xs : List X) (x : X) → find p xs ≡ None → Contains xs x → p x ≡ true → ⊥
none-passes p [] x none among passes = absurd (omega (arith, among.1))
none-passes p (y ∷ ys) x none (zero, within, is) passes =
    let same : y ≡ x = is in
    absurd (none-some y (sym none ∙ ap (λ (b : Bool). cond b (Some y) (find p ys)) (ap p same ∙ passes)))
none-passes p (y ∷ ys) x none (suc k, within, is) passes =
    let go : (b : Bool) → cond b (Some y) (find p ys) ≡ None → ⊥ =
    elim [ true ↦ λ there. absurd (none-some y (sym there)) | false ↦ λ there. none-passes p ys x there (k, omega (arith, within), is) passes ] in
    go (p y) none

same-direction : (a b : Bool) → beq a b ≡ true → a ≡ b
same-direction true true is = refl
same-direction true false is = absurd (cc)
same-direction false true is = absurd (cc)
same-direction false false is = refl

beq-itself : (b : Bool) → beq b b ≡ true
beq-itself true = refl
beq-itself false = refl

is-origin : (origin : Origin) → is_origin origin.write origin.number origin ≡ true
is-origin origin = ap (λ (b : Bool). b && origin.number == origin.number) (beq-itself origin.write) ∙ eq-eqb origin.number origin.number refl

module _ {S E : Type 0} (kind : Kind S E) (holds : KindHolds kind) (net : Network S) (forms : ℕ → LinkForm) (sound : IsSound kind net forms) where
  abbrev wired : IsWired kind net
  wired = sound.wired

  -- the links of a node
  pub own-upper : (k : ℕ) (a : Acted S) → slice_get net.nodes k ≡ Some a → (link : ℕ) → Contains (kind.uppers a.state) link → (link < length net.links) × (lower_node net.links link ≡ k)
  own-upper k a at link among =
      All-contains (λ l. (l < length net.links) × (lower_node net.links l ≡ k)) (kind.uppers a.state) link
      (subst (λ (o : Option (Acted S)). All (λ l. (l < length net.links) × (lower_node net.links l ≡ k)) (option_map_or (λ (n : Acted S). kind.uppers n.state) o [])) at (wired.uppers k)) among

  pub own-lower : (k : ℕ) (a : Acted S) → slice_get net.nodes k ≡ Some a → (link : ℕ) → Contains (kind.lowers a.state) link → (link < length net.links) × (upper_node net.links link ≡ k)
  own-lower k a at link among =
      All-contains (λ l. (l < length net.links) × (upper_node net.links l ≡ k)) (kind.lowers a.state) link
      (subst (λ (o : Option (Acted S)). All (λ l. (l < length net.links) × (upper_node net.links l ≡ k)) (option_map_or (λ (n : Acted S). kind.lowers n.state) o [])) at (wired.lowers k)) among

  -- the node where a transaction starts
  pub record StartsAt (origin : Origin) : Type 0 where
    pub node : ℕ
    pub acted : Acted S
    pub at : slice_get net.nodes node ≡ Some acted
    pub among : Contains (kind.way acted.state).origins origin
    pub fits : IsOrigin kind forms acted.state origin
    pub known : origin.link < length net.links
    pub upper : upper_node net.links origin.link ≡ node

  pub starts-at : (origin : Origin) → Contains (origins_in kind net.nodes) origin → StartsAt origin
  starts-at origin among =
      let from = flat-from (λ (a : Acted S). (kind.way a.state).origins) net.nodes origin among in
      let begins = at-some (λ (a : Acted S). kind.begins a.state) (slice_get net.nodes from.0) from.1 from.2 (sound.begins from.0) in
      let suits = at-some (λ (a : Acted S). kind.is_sound forms (schedules_of kind net forms) a.state) (slice_get net.nodes from.0) from.1 from.2 (sound.nodes from.0) in
      let fits = holds.origins_fit forms (schedules_of kind net forms) from.1.state begins suits origin from.3 in
      let own = own-lower from.0 from.1 from.2 origin.link fits.below in
      record { node = from.0; acted = from.1; at = from.2; among = from.3; fits = fits; known = own.0; upper = own.1 }

  pub first_hop : Origin → List Resp → Hop
  first_hop origin responses = record { link = origin.link; share = with_responses origin.share responses }

  -- the way of the transaction of a number in a direction, as its hops
  pub record HasItsWay (write : Bool) (number : ℕ) (origin : Origin) : Type 0 where
    pub same_number : origin.number ≡ number
    pub same_direction : origin.write ≡ write
    pub starts : StartsAt origin
    pub responses : List Resp
    pub more : List Hop
    pub hops_are : way_of kind net origin ≡ record { link = origin.link; share = with_responses origin.share responses } ∷ more
    pub joined : IsJoined kind holds net wired write (record { link = origin.link; share = with_responses origin.share responses } ∷ more)
    pub is : (link : ℕ) → carried kind net write link number ≡ share_on link (record { link = origin.link; share = with_responses origin.share responses } ∷ more)

  pub its-way : (write : Bool) (number : ℕ) (origin : Origin) → find (is_origin write number) (origins_in kind net.nodes) ≡ Some origin → HasItsWay write number origin
  its-way write number origin found =
      let has = find-has (is_origin write number) (origins_in kind net.nodes) origin found in
      let parts = and_parts (beq origin.write write) (origin.number == number) has.0 in
      let direction : origin.write ≡ write = same-direction origin.write write parts.0 in
      let starts = starts-at origin (contains-at (origins_in kind net.nodes) has.1 origin has.2) in
      let way = is-way_from kind holds net wired origin.write (suc (length net.nodes)) origin.link origin.share starts.known (omega arith) in
      record {
        same_number = eqb-true origin.number number parts.1;
        same_direction = direction;
        starts = starts;
        responses = way.responses;
        more = way.more;
        hops_are = way.begins;
        joined = subst (λ (w : Bool). IsJoined kind holds net wired w (record { link = origin.link; share = with_responses origin.share way.responses } ∷ way.more)) direction
            (subst (λ (hops : List Hop). IsJoined kind holds net wired origin.write hops) way.begins way.joined);
        is = λ link. ap (option_and_then (λ o. share_on link (way_of kind net o))) found ∙ ap (share_on link) way.begins;
      }

  pub not-carried : (write : Bool) (number link : ℕ) → find (is_origin write number) (origins_in kind net.nodes) ≡ None → carried kind net write link number ≡ None
  not-carried write number link none = ap (option_and_then (λ o. share_on link (way_of kind net o))) none

  -- a transaction is found by its number and direction
  pub is-found : (origin : Origin) → Contains (origins_in kind net.nodes) origin → find (is_origin origin.write origin.number) (origins_in kind net.nodes) ≡ Some origin
  is-found origin among = go (find (is_origin origin.write origin.number) (origins_in kind net.nodes)) refl
    where
      go : (o : Option Origin) → find (is_origin origin.write origin.number) (origins_in kind net.nodes) ≡ o → o ≡ Some origin
      go None none = absurd (none-passes (is_origin origin.write origin.number) (origins_in kind net.nodes) origin none among (is-origin origin))
      go (Some other) found =
          let has = find-has (is_origin origin.write origin.number) (origins_in kind net.nodes) other found in
          let parts = and_parts (beq other.write origin.write) (other.number == origin.number) has.0 in
          ap (λ (o : Origin). Some o) (sound.once other origin (contains-at (origins_in kind net.nodes) has.1 other has.2) among (eqb-true other.number origin.number parts.1))

  -- so is a transaction of a node
  pub own-found : (k : ℕ) (a : Acted S) → slice_get net.nodes k ≡ Some a → (origin : Origin) → Contains (kind.way a.state).origins origin → (write : Bool) (number : ℕ) →
      origin.number ≡ number → origin.write ≡ write → find (is_origin write number) (origins_in kind net.nodes) ≡ Some origin
  own-found k a at origin among write number same_number same_write =
      subst (λ (w : Bool). find (is_origin w number) (origins_in kind net.nodes) ≡ Some origin) same_write
      (subst (λ (t : ℕ). find (is_origin origin.write t) (origins_in kind net.nodes) ≡ Some origin) same_number
      (is-found origin (flat-has (λ (n : Acted S). (kind.way n.state).origins) net.nodes k a origin at among)))
