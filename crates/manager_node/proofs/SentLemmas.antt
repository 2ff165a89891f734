-- The data that was sent, beat by beat.
use Rattle.std.proofs.Common.{◌≡◌, ℕ, ◌+◌, ◌≤◌, ◌==◌, Bool, true, false, cond, List, [], ◌∷◌, ◌++◌, Option, Some, None, map, take, refl, sym, ◌∙◌, ap, subst, arith, add-one, add-zero, append_assoc, append-nil}
use Rattle.std.specs.List.{range_with_len}
use Rattle.std.specs.Option.{option_map, option_to_list}
use Rattle.std.specs.Prelude.{IfSome, flat_map, slice_get}
use Rattle.std.proofs.lemmas.Bool.{eqb-true}
use Rattle.std.proofs.lemmas.List.Concat.{flat_map-append}
use Rattle.std.proofs.lemmas.List.FromFn.{map-range_with_len_more, take-map-range_with_len}
use Rattle.axi_beats.specs.declared.beat.WBeat.{WBeat}
use Rattle.burst_address.specs.Formulas.{beats_of}
use Rattle.manager_node.specs.Beats.{data_beat, data_beats}
use Rattle.manager_node.specs.ManagerTable.{beats_after, ends_data, more}
use Rattle.manager_node.specs.ManagerTrail.{first_data}
use Rattle.manager_node.specs.Script.{ScriptItem}
use Rattle.plain_lists.proofs.PlaceLemmas.{take-one}

-- the first data beats of a write
pub first-beats : (bus k : ℕ) (item : ScriptItem) → k ≤ beats_of item.txn.request → take k (data_beats item bus) ≡ map (data_beat item bus) (range_with_len 0 k)
first-beats bus k item le = take-map-range_with_len (data_beat item bus) 0 (beats_of item.txn.request) k le

-- and the next one
pub next-beat : (bus k : ℕ) (item : ScriptItem) → k ≤ item.txn.request.len → take k (data_beats item bus) ++ data_beat item bus k ∷ [] ≡ map (data_beat item bus) (range_with_len 0 (k + 1))
next-beat bus k item le = ap (λ (ws : List WBeat). ws ++ data_beat item bus k ∷ []) (first-beats bus k item (omega arith)) ∙ sym (map-range_with_len_more (data_beat item bus) 0 k k (omega arith))

none-first : (bus : ℕ) (o : Option (ℕ × ScriptItem)) → first_data bus 0 o ≡ []
none-first bus None = refl
none-first bus (Some p) = refl

module _ (bus : ℕ) (transactions : List (ℕ × ScriptItem)) where
  abbrev pub data_of_first : ℕ → ℕ → List WBeat
  data_of_first sent beats = flat_map (λ (p : ℕ × ScriptItem). data_beats p.1 bus) (take sent transactions) ++ first_data bus beats (slice_get transactions sent)

  -- the data that was sent grows by a beat
  pub sent-grows : (sent beats : ℕ) (o : Option (ℕ × ScriptItem)) → ((next : ℕ × ScriptItem) → o ≡ Some next → slice_get transactions sent ≡ Some next) → IfSome (slice_get transactions sent) (λ (next : ℕ × ScriptItem). beats ≤ next.1.txn.request.len) →
      data_of_first sent beats ++ option_to_list (option_map (λ (next : ℕ × ScriptItem). data_beat next.1 bus beats) o) ≡ data_of_first (sent + more (ends_data beats o)) (beats_after beats o)
  sent-grows sent beats None next most = append-nil (data_of_first sent beats) ∙ ap (λ (k : ℕ). data_of_first k beats) (sym (add-zero sent))
  sent-grows sent beats (Some x) next most =
      let at = next x refl
      in let own : beats ≤ x.1.txn.request.len = subst (λ (o : Option (ℕ × ScriptItem)). IfSome o (λ (next : ℕ × ScriptItem). beats ≤ next.1.txn.request.len)) at most
      in let front : List WBeat = flat_map (λ (p : ℕ × ScriptItem). data_beats p.1 bus) (take sent transactions)
      in let longer : data_of_first sent beats ++ data_beat x.1 bus beats ∷ [] ≡ front ++ map (data_beat x.1 bus) (range_with_len 0 (beats + 1)) =
      ap (λ (o : Option (ℕ × ScriptItem)). (front ++ first_data bus beats o) ++ data_beat x.1 bus beats ∷ []) at
      ∙ append_assoc front (take beats (data_beats x.1 bus)) (data_beat x.1 bus beats ∷ [])
      ∙ ap (λ (ws : List WBeat). front ++ ws) (next-beat bus beats x.1 own)
      in let go : (b : Bool) → (beats == x.1.txn.request.len) ≡ b → data_of_first sent beats ++ data_beat x.1 bus beats ∷ [] ≡ data_of_first (sent + more b) (cond b 0 (beats + 1)) =
      elim [
        | true ↦ λ last.
            let whole : beats ≡ x.1.txn.request.len = eqb-true beats x.1.txn.request.len last
            in longer
            ∙ ap (λ (k : ℕ). front ++ map (data_beat x.1 bus) (range_with_len 0 (k + 1))) whole
            ∙ ap (λ (ws : List WBeat). front ++ ws) (sym (append-nil (data_beats x.1 bus)))
            ∙ sym (flat_map-append (λ (p : ℕ × ScriptItem). data_beats p.1 bus) (take sent transactions) (x ∷ []))
            ∙ ap (flat_map (λ (p : ℕ × ScriptItem). data_beats p.1 bus)) (sym (take-one sent transactions x at) ∙ ap (λ (k : ℕ). take k transactions) (sym (add-one sent)))
            ∙ sym (append-nil (flat_map (λ (p : ℕ × ScriptItem). data_beats p.1 bus) (take (sent + 1) transactions)))
            ∙ ap (λ (ws : List WBeat). flat_map (λ (p : ℕ × ScriptItem). data_beats p.1 bus) (take (sent + 1) transactions) ++ ws) (sym (none-first bus (slice_get transactions (sent + 1))))
        | false ↦ λ some.
            let room : beats + 1 ≤ beats_of x.1.txn.request = omega (arith, own)
            in longer
            ∙ ap (λ (ws : List WBeat). front ++ ws) (sym (first-beats bus (beats + 1) x.1 room))
            ∙ ap (λ (o : Option (ℕ × ScriptItem)). front ++ first_data bus (beats + 1) o) (sym at)
            ∙ ap (λ (k : ℕ). data_of_first k (beats + 1)) (sym (add-zero sent))
      ]
      in go (beats == x.1.txn.request.len) refl
