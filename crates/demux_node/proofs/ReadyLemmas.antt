-- The ports that offer an answer, as the bits of a number.
use Rattle.std.proofs.Common.{◌&&◌, ◌+◌, ◌==◌, ◌∙◌, ◌≡◌, ◌≤◌, Bool, List, Option, ap, arith, eq-eqb, false, inl, inr, length, refl, sym, true, ℕ}
use Rattle.std.specs.Option.{option_map_or}
use Rattle.std.specs.Prelude.{◌||◌, is_some, map, nat_lt}
use Rattle.std.proofs.lemmas.Bool.{cases_eq, cases_lt, le-ltb, lt-ltb, ne_eqb}
use Rattle.std.proofs.lemmas.Option.{slice_get_past}
use Rattle.axi_beats.specs.declared.beat.BBeat.{BBeat}
use Rattle.axi_beats.specs.declared.beat.RBeat.{RBeat}
use Rattle.axi_link.specs.LinkView.{LinkView, empty_link}
use Rattle.axi_link.specs.LinkWords.{head_of, link_of}
use Rattle.demux_node.specs.DemuxState.{DemuxShape}
use Rattle.demux_node.specs.DemuxTable.{id_of_route, id_of_write, offers_b, offers_r}
use Rattle.demux_node.specs.declared.route.Route.{Route}
use Rattle.demux_node.specs.declared.route.WriteRoute.{WriteRoute}
use Rattle.flight.specs.Entries.{place_of}

one-same : (b q : Bool) → b ≡ q → ((false && q) || (b && true)) ≡ (true && q)
one-same true true is = refl
one-same false false is = refl
one-same true false is = absurd (cc)
one-same false true is = absurd (cc)

one-other : (x b q : Bool) → ((x && q) || (b && false)) ≡ (x && q)
one-other true true true = refl
one-other true true false = refl
one-other true false true = refl
one-other true false false = refl
one-other false true q = refl
one-other false false q = refl

-- one more port is marked, where it offers a beat
pub marks-one_more : (offers : ℕ → Bool) (other port : ℕ) (b : Bool) → b ≡ offers port → ((nat_lt other port && offers other) || (b && (other == port))) ≡ (nat_lt other (port + 1) && offers other)
marks-one_more offers other port b is = elim (cases_eq other port) [
  | inl same ↦
      ap (λ (x : Bool). (x && offers other) || (b && (other == port))) (le-ltb other port (omega (arith, same)))
      ∙ ap (λ (y : Bool). (false && offers other) || (b && y)) (eq-eqb other port same)
      ∙ one-same b (offers other) (is ∙ ap offers (sym same))
      ∙ ap (λ (z : Bool). z && offers other) (sym (lt-ltb other (port + 1) (omega (arith, same))))
  | inr differ ↦
      ap (λ (y : Bool). (nat_lt other port && offers other) || (b && y)) (ne_eqb other port differ)
      ∙ one-other (nat_lt other port) b (offers other)
      ∙ ap (λ (z : Bool). z && offers other) (elim (cases_lt other port) [
        | inl less ↦ lt-ltb other port less ∙ sym (lt-ltb other (port + 1) (omega (arith, less)))
        | inr more ↦ le-ltb other port more ∙ sym (le-ltb other (port + 1) (omega (arith, more, differ)))
      ])
]

-- with all ports marked, what is past them offers nothing
all-marked : (offers : ℕ → Bool) (count ports port : ℕ) → ports ≤ count → ((p : ℕ) → ports ≤ p → offers p ≡ false) → (nat_lt port count && offers port) ≡ offers port
all-marked offers count ports port all none = elim (cases_lt port count) [
  | inl less ↦ ap (λ (b : Bool). b && offers port) (lt-ltb port count less)
  | inr more ↦ ap (λ (b : Bool). b && offers port) (le-ltb port count more) ∙ sym (none port (omega (arith, all, more)))
]

module _ (links : List LinkView) (shape : DemuxShape) where
  pub all_marked_b : (writes : List WriteRoute) (count port : ℕ) → length shape.lowers ≤ count → (nat_lt port count && offers_b links shape writes port) ≡ offers_b links shape writes port
  all_marked_b writes count port all = all-marked (offers_b links shape writes) count (length shape.lowers) port all (λ p past.
      ap (λ (o : Option ℕ). option_map_or (λ (b : BBeat). is_some (place_of b.id (map id_of_write writes))) (head_of (option_map_or (link_of links) o (empty_link 0)).b) false)
      (slice_get_past shape.lowers p past))

  pub all_marked_r : (reads : List Route) (count port : ℕ) → length shape.lowers ≤ count → (nat_lt port count && offers_r links shape reads port) ≡ offers_r links shape reads port
  all_marked_r reads count port all = all-marked (offers_r links shape reads) count (length shape.lowers) port all (λ p past.
      ap (λ (o : Option ℕ). option_map_or (λ (r : RBeat). is_some (place_of r.id (map id_of_route reads))) (head_of (option_map_or (link_of links) o (empty_link 0)).r) false)
      (slice_get_past shape.lowers p past))
