-- Each address on a link is a legal burst, so rules 3 to 8 are kept.
use Rattle.std.proofs.Common.{◌≡◌, ℕ, Bool, true, false, not, cond, List, [], ◌∷◌, ◌++◌, Some, None, length, map, All, refl, ap, ◌∙◌, subst, arith, length-append}
use Rattle.std.proofs.lemmas.List.{get_or_at, map-append}
use Rattle.axi_beats.specs.declared.beat.Addr.{Addr}
use Rattle.axi_beats.specs.declared.beat.Burst.{Burst}
use Rattle.axi_beats.specs.declared.beat.Burst.TheVariants.{Fixed, Incr, Wrap}
use Rattle.axi_beats.specs.declared.response.Resp.{Resp}
use Rattle.axi_beats.specs.declared.response.Resp.TheVariants.{Okay, SlvErr, DecErr}
use Rattle.axi_history.specs.PortRules.{least_broken, address_rules, request_of, is_not_exokay}
use Rattle.axi_trail.specs.LinkContracts.{Requests, without_id}
use Rattle.axi_trail.specs.Schedule.{Share}
use Rattle.axi_trail.specs.Words.{Asked, Reply, number_of_address}
use Rattle.burst_address.specs.Formulas.{size_of, beats_of}
use Rattle.burst_address.specs.Legal.{IsLegal, is_too_wide, is_length_of, is_start_of, is_in_page}
use Rattle.burst_address.specs.declared.rule.BurstRule.TheVariants.{Size, Length, WrapAlign, Page}
use Rattle.link_ports.specs.PortView.{seen_address}
use Rattle.plain_lists.specs.Prefixes.{IsPrefix}
use Rattle.plain_lists.proofs.KeyLemmas.{of_key-push}
use Rattle.plain_lists.proofs.PrefixLemmas.{All_front}
use Rattle.plain_lists.specs.Keys.{of_key}
use Rattle.axi_beats.specs.Codes.{response_code}

-- a burst that breaks none of four rules keeps rules 3 to 8
no_rule_broken : (wide fits starts stays : Bool) →
    cond wide (Some Size) (cond (not fits) (Some Length) (cond (not starts) (Some WrapAlign) (cond (not stays) (Some Page) None))) ≡ None →
    least_broken ((3, true) ∷ (4, not wide) ∷ (5, fits) ∷ (6, starts) ∷ (7, stays) ∷ (8, true) ∷ []) ≡ None
no_rule_broken true fits starts stays e = absurd (cc)
no_rule_broken false false starts stays e = absurd (cc)
no_rule_broken false true false stays e = absurd (cc)
no_rule_broken false true true false e = absurd (cc)
no_rule_broken false true true true e = refl

-- of a burst of each kind
of_burst : (a : Addr) (burst : Burst) (bus : ℕ) → IsLegal (record a { burst = burst }) bus → least_broken (address_rules bus (seen_address (record a { burst = burst }))) ≡ None
of_burst a Fixed bus legal =
    no_rule_broken (is_too_wide a bus) (is_length_of Fixed (beats_of a)) (is_start_of Fixed (size_of a) a.addr) (is_in_page Fixed (size_of a) (beats_of a) a.addr) legal
of_burst a Incr bus legal =
    no_rule_broken (is_too_wide a bus) (is_length_of Incr (beats_of a)) (is_start_of Incr (size_of a) a.addr) (is_in_page Incr (size_of a) (beats_of a) a.addr) legal
of_burst a Wrap bus legal =
    no_rule_broken (is_too_wide a bus) (is_length_of Wrap (beats_of a)) (is_start_of Wrap (size_of a) a.addr) (is_in_page Wrap (size_of a) (beats_of a) a.addr) legal

pub legal_kept : (bus : ℕ) (a : Addr) → IsLegal a bus → least_broken (address_rules bus (seen_address a)) ≡ None
legal_kept bus a legal = of_burst a a.burst bus legal

-- a beat is seen as the request that it is
pub seen_is_asked : (a : Addr) → request_of (seen_address a) ≡ a
seen_is_asked a =
    let go : (burst : Burst) → request_of (seen_address (record a { burst = burst })) ≡ record a { burst = burst } = elim [ Fixed ↦ refl | Incr ↦ refl | Wrap ↦ refl ] in
    go a.burst

-- an element of a list of which each element has a property
pub All_at : {X : Type 0} (P : X → Type 0) (xs : List X) (y : X) (ys : List X) → All P (xs ++ y ∷ ys) → P y
All_at P xs y ys all = subst P (get_or_at xs y ys y (length xs) refl) (all (length xs) y (omega (arith, length-append xs (y ∷ ys))))

-- the last address of a link's requests is a part of its transaction, and has what each part has
pub last_is_part : (P : Addr → Type 0) (shares : ℕ → Share) (id_width : ℕ) (issued : ℕ → Bool) (asked_as : Addr → Asked) (xs : List Addr) (a : Addr) (replies : List Reply) →
    Requests shares id_width issued asked_as (xs ++ a ∷ []) replies → ((t : ℕ) → All P (shares t).parts) → P (without_id a)
last_is_part P shares id_width issued asked_as xs a replies asks each =
    let front : IsPrefix (map without_id (of_key number_of_address a.tag.txn (xs ++ a ∷ []))) (shares a.tag.txn).parts = asks.asks_only_its_parts a.tag.txn in
    let own : map without_id (of_key number_of_address a.tag.txn (xs ++ a ∷ [])) ≡ map without_id (of_key number_of_address a.tag.txn xs) ++ without_id a ∷ [] =
    ap (map without_id) (of_key-push number_of_address a.tag.txn xs a refl) ∙ map-append without_id (of_key number_of_address a.tag.txn xs) (a ∷ []) in
    All_at P (map without_id (of_key number_of_address a.tag.txn xs)) (without_id a) [] (subst (λ (parts : List Addr). All P parts) own (All_front P front (each a.tag.txn)))

pub last_is_legal : (shares : ℕ → Share) (id_width bus : ℕ) (issued : ℕ → Bool) (asked_as : Addr → Asked) (xs : List Addr) (a : Addr) (replies : List Reply) →
    Requests shares id_width issued asked_as (xs ++ a ∷ []) replies → ((t : ℕ) → All (λ part. IsLegal part bus) (shares t).parts) → IsLegal a bus
last_is_legal shares id_width bus issued asked_as xs a replies asks legal =
    last_is_part (λ (part : Addr). IsLegal part bus) shares id_width issued asked_as xs a replies asks legal

-- a response is never EXOKAY
pub never_exokay : (resp : Resp) → is_not_exokay (response_code resp) ≡ true
never_exokay Okay = refl
never_exokay SlvErr = refl
never_exokay DecErr = refl
