-- The order of write data below a mux.
use Rattle.std.proofs.Common.{[], ◌++◌, ◌==◌, ◌∙◌, ◌∷◌, ◌≡◌, ◌≤◌, Bool, List, ap, arith, cond, eq-eqb, false, inl, inr, length, length-append, map, refl, subst, suc, sym, true, ℕ}
use Rattle.std.proofs.lemmas.Bool.{cases_eq, ne_eqb}
use Rattle.std.proofs.lemmas.List.{length-map, map-append}
use Rattle.axi_beats.specs.declared.beat.Addr.{Addr}
use Rattle.axi_beats.specs.declared.beat.WBeat.{WBeat}
use Rattle.axi_trail.proofs.FilterFacts.{length-marks}
use Rattle.axi_trail.proofs.StepFacts.{beat_keeps_order, next_beat_of_selected}
use Rattle.axi_trail.proofs.WaitingFacts.{advanced-last, advanced-more, pending-beat, pending-request}
use Rattle.axi_trail.specs.SelectionLaws.{goes_way}
use Rattle.axi_trail.specs.Waiting.{Waiting, advanced, fresh}
use Rattle.axi_trail.specs.Words.{Asked, Mark, burst_asked, len_of_asked, mark_of_data, marks, marks_of, next_mark, number_of_address, number_of_asked, number_of_data, number_of_mark, number_of_waiting, pending_asked}
use Rattle.mux_node.specs.MuxTrail.{IsGrantedInOrder}
use Rattle.plain_lists.proofs.KeyLemmas.{filter_map}
use Rattle.plain_lists.proofs.PrefixLemmas.{prefix_append, prefix_flat_map, prefix_length, prefix_map, prefix_trans}
use Rattle.plain_lists.specs.Keys.{selected}
use Rattle.plain_lists.specs.Prefixes.{Agree, IsPrefix}

-- one more address
pub mux-takes_address : (route : ℕ → ℕ) (granted : List ℕ) (aw : List Addr) (w : List WBeat) (a : Addr) → IsGrantedInOrder route granted aw w →
    IsGrantedInOrder route (granted ++ route a.tag.txn ∷ []) (aw ++ a ∷ []) w
mux-takes_address route granted aw w a o =
    let asked = map burst_asked aw in
    let f : Waiting Asked → ℕ = λ p. route (number_of_waiting p) in
    let within = prefix_length o.in_order in
    let few : length w ≤ length (marks asked) = omega (arith, within, length-map w mark_of_data) in
    let more : pending_asked (length w) (map burst_asked (aw ++ a ∷ [])) ≡ pending_asked (length w) asked ++ fresh (burst_asked a) ∷ [] =
    ap (pending_asked (length w)) (map-append burst_asked aw (a ∷ [])) ∙ pending-request len_of_asked (length w) asked (burst_asked a) (omega (arith, few, length-marks asked)) in
    record {
      in_order = prefix_trans o.in_order (prefix_flat_map marks_of (prefix_map burst_asked (prefix_append aw (a ∷ []))));
      waiting = ap (λ (t : List ℕ). t ++ route a.tag.txn ∷ []) o.waiting ∙ sym (ap (map f) more ∙ map-append f (pending_asked (length w) asked) (fresh (burst_asked a) ∷ []));
    }

-- the first of a list that is mapped
pub record IsFirstOfImages {X Y : Type 0} (f : X → Y) (ps : List X) (y : Y) (ys : List Y) : Type 0 where
  pub first : X
  pub rest : List X
  pub is : ps ≡ first ∷ rest
  pub shows : y ≡ f first
  pub others : ys ≡ map f rest

pub first-of_images : (f : Waiting Asked → ℕ) (ps : List (Waiting Asked)) (y : ℕ) (ys : List ℕ) → y ∷ ys ≡ map f ps → IsFirstOfImages f ps y ys
first-of_images f [] y ys e = absurd (cc)
first-of_images f (p ∷ ps) y ys e =
    let e' : y ∷ ys ≡ f p ∷ map f ps = e in
    let one : y ≡ f p = cc in
    let more : ys ≡ map f ps = cc in
    record { first = p; rest = ps; is = refl; shows = one; others = more }

-- one more beat of data of the first granted input, which follows the addresses of this input in order; `asked` and `sent`
-- are what the input has passed
pub mux-takes_data : (route : ℕ → ℕ) (input : ℕ) (granted : List ℕ) (aw : List Addr) (w : List WBeat) (beat : WBeat) (asked : List Addr) (sent : List WBeat) →
    IsGrantedInOrder route (input ∷ granted) aw w →
    map mark_of_data (selected number_of_data (goes_way route input) w) ≡ map mark_of_data sent →
    marks (map burst_asked (selected number_of_address (goes_way route input) aw)) ≡ marks (map burst_asked asked) →
    Agree (map mark_of_data (sent ++ beat ∷ [])) (marks (map burst_asked asked)) →
    IsGrantedInOrder route (cond beat.last granted (input ∷ granted)) aw (w ++ beat ∷ [])
mux-takes_data route input granted aw w beat asked sent o passed_own asked_own agree =
    let all = map burst_asked aw in
    let sub = goes_way route input in
    let f : Waiting Asked → ℕ = λ p. route (number_of_waiting p) in
    let passed = map mark_of_data w in
    let m = mark_of_data beat in
    let has = first-of_images f (pending_asked (length w) all) input granted o.waiting in
    let p = has.first in
    let first : pending_asked (length passed) all ≡ p ∷ has.rest = ap (λ n. pending_asked n all) (length-map w mark_of_data) ∙ has.is in
    let chosen : sub p.request.number ≡ true = eq-eqb (route p.request.number) input (sym has.shows) in
    let own_sent : map mark_of_data (sent ++ beat ∷ []) ≡ selected number_of_mark sub passed ++ m ∷ [] =
    map-append mark_of_data sent (beat ∷ []) ∙ ap (λ (t : List Mark). t ++ m ∷ []) (sym passed_own ∙ sym (filter_map (λ (x : Mark). sub (number_of_mark x)) mark_of_data w)) in
    let own_asked : marks (map burst_asked asked) ≡ marks (selected number_of_asked sub all) = sym asked_own ∙ ap marks (sym (filter_map (λ (x : Asked). sub (number_of_asked x)) burst_asked aw)) in
    let goes_on : Agree (selected number_of_mark sub passed ++ m ∷ []) (marks (selected number_of_asked sub all)) =
    subst (λ (t : List Mark). Agree t (marks (selected number_of_asked sub all))) own_sent (subst (λ (t : List Mark). Agree (map mark_of_data (sent ++ beat ∷ [])) t) own_asked agree) in
    let next : m ≡ next_mark p = next_beat_of_selected sub all passed m p has.rest o.in_order first chosen goes_on in
    let front : IsPrefix (passed ++ next_mark p ∷ []) (marks all) = beat_keeps_order all passed p has.rest o.in_order first in
    let long : length (w ++ beat ∷ []) ≡ suc (length w) = omega (arith, length-append w (beat ∷ [])) in
    let left : pending_asked (length (w ++ beat ∷ [])) all ≡ advanced len_of_asked (p ∷ has.rest) =
    ap (λ n. pending_asked n all) long ∙ pending-beat len_of_asked (length w) all ∙ ap (advanced len_of_asked) has.is in
    let ends : beat.last ≡ (p.done == p.request.len) = ap (λ (x : Mark). x.last) next in
    record {
      in_order = subst (λ (t : List Mark). IsPrefix t (marks all)) (ap (λ (x : Mark). passed ++ x ∷ []) (sym next) ∙ sym (map-append mark_of_data w (beat ∷ []))) front;
      waiting = elim (cases_eq p.done p.request.len) [
        | inl last ↦
            let is : beat.last ≡ true = ends ∙ eq-eqb p.done p.request.len last in
            ap (λ (b : Bool). cond b granted (input ∷ granted)) is ∙ has.others ∙ sym (ap (map f) (left ∙ advanced-last len_of_asked p has.rest last))
        | inr more ↦
            let is : beat.last ≡ false = ends ∙ ne_eqb p.done p.request.len more in
            ap (λ (b : Bool). cond b granted (input ∷ granted)) is
            ∙ ap (λ (t : ℕ). t ∷ granted) has.shows ∙ ap (λ (t : List ℕ). f p ∷ t) has.others
            ∙ sym (ap (map f) (left ∙ advanced-more len_of_asked p has.rest more))
      ];
    }
