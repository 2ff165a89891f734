-- What is broken first, and histories with more rounds.
use Rattle.std.proofs.Common.{◌≡◌, ℕ, ◌∷◌, [], ◌++◌, Bool, true, false, List, Option, Some, None, refl, sym, ap, ◌∙◌, append_assoc}
use Rattle.std.specs.Prelude.{if◌then◌else◌}
use Rattle.std.specs.Option.{option_map, option_to_list}
use Rattle.std.proofs.lemmas.List.{append-nil}
use Rattle.std.proofs.lemmas.List.Elements.{filter_map-append}
use Rattle.axi_history.specs.declared.port.PortRound.{PortRound}
use Rattle.axi_history.specs.declared.port.Seen.{Seen}
use Rattle.axi_history.specs.PortHistory.{transfer_of, wait_of, transferred, waiting}
use Rattle.axi_history.specs.PortRules.{least_broken, or_else, on_channel, axi4_fault, first_fault, axi4_history_fault}

-- ---- the first of some answers

module _ {X : Type 0} where
  pub else_none : (a : Option X) → or_else a None ≡ a
  else_none None = refl
  else_none (Some x) = refl

  pub else_assoc : (a b c : Option X) → or_else a (or_else b c) ≡ or_else (or_else a b) c
  else_assoc None b c = refl
  else_assoc (Some x) b c = refl

  pub else_parts : (a b : Option X) → or_else a b ≡ None → (a ≡ None) × (b ≡ None)
  else_parts None b e = (refl, e)
  else_parts (Some x) b e = absurd cc

-- ---- the rules that are broken

choose : (kept : Bool) (rule : ℕ) (z x y : Option ℕ) → z ≡ or_else x y → (if kept then z else Some rule) ≡ or_else (if kept then x else Some rule) y
choose true rule z x y e = e
choose false rule z x y e = refl

pub least_append : (xs ys : List (ℕ × Bool)) → least_broken (xs ++ ys) ≡ or_else (least_broken xs) (least_broken ys)
least_append [] ys = refl
least_append (x ∷ xs) ys = choose x.1 x.0 (least_broken (xs ++ ys)) (least_broken xs) (least_broken ys) (least_append xs ys)

-- a channel on which no rule is broken, and five of them
pub channel_kept : (channel : ℕ) (rules : List (ℕ × Bool)) → on_channel channel rules ≡ None → least_broken rules ≡ None
channel_kept channel rules none = go (least_broken rules) none
  where
    go : (o : Option ℕ) → option_map {U = ℕ × ℕ} (λ rule. (channel, rule)) o ≡ None → o ≡ None
    go None e = refl
    go (Some rule) e = absurd cc

pub channels_kept : (aw w b ar r : List (ℕ × Bool)) → least_broken aw ≡ None → least_broken w ≡ None → least_broken b ≡ None → least_broken ar ≡ None → least_broken r ≡ None →
    or_else (on_channel 1 aw) (or_else (on_channel 2 w) (or_else (on_channel 3 b) (or_else (on_channel 4 ar) (on_channel 5 r)))) ≡ None
channels_kept aw w b ar r no_aw no_w no_b no_ar no_r = rw (no_aw, no_w, no_b, no_ar, no_r) refl

-- ---- one more round of a channel

module _ {X : Type 0} where
  pub transferred_more : (channel : PortRound → Option (Seen X)) (h : List PortRound) (r : PortRound) → transferred channel (h ++ r ∷ []) ≡ transferred channel h ++ option_to_list (transfer_of (channel r))
  transferred_more channel h r = filter_map-append (λ (x : PortRound). transfer_of (channel x)) h (r ∷ []) ∙ ap (λ (xs : List X). transferred channel h ++ xs) (one (transfer_of (channel r)))
    where
      one : (o : Option X) → Rattle.std.specs.List.cons_option o [] ≡ option_to_list o
      one None = refl
      one (Some x) = refl

  pub waiting_more : (channel : PortRound → Option (Seen X)) (h : List PortRound) (r : PortRound) → waiting channel (h ++ r ∷ []) ≡ wait_of (channel r)
  waiting_more channel [] r = refl
  waiting_more channel (x ∷ []) r = refl
  waiting_more channel (x ∷ y ∷ h) r = waiting_more channel (y ∷ h) r

-- ---- more rounds, and one more

pub first_append : (fault : List PortRound → PortRound → Option (ℕ × ℕ)) (earlier xs ys : List PortRound) → first_fault fault earlier (xs ++ ys) ≡ or_else (first_fault fault earlier xs) (first_fault fault (earlier ++ xs) ys)
first_append fault earlier [] ys = ap (λ (v : List PortRound). first_fault fault v ys) (sym (append-nil earlier))
first_append fault earlier (x ∷ xs) ys =
    ap (λ (o : Option (ℕ × ℕ)). or_else (fault earlier x) o) (first_append fault (earlier ++ x ∷ []) xs ys ∙ ap (λ (v : List PortRound). or_else (first_fault fault (earlier ++ x ∷ []) xs) (first_fault fault v ys)) (append_assoc earlier (x ∷ []) xs))
    ∙ else_assoc (fault earlier x) (first_fault fault (earlier ++ x ∷ []) xs) (first_fault fault (earlier ++ (x ∷ xs)) ys)

pub first_more : (fault : List PortRound → PortRound → Option (ℕ × ℕ)) (earlier h : List PortRound) (r : PortRound) → first_fault fault earlier (h ++ r ∷ []) ≡ or_else (first_fault fault earlier h) (fault (earlier ++ h) r)
first_more fault earlier h r =
    first_append fault earlier h (r ∷ [])
    ∙ ap (λ (o : Option (ℕ × ℕ)). or_else (first_fault fault earlier h) o) (else_none (fault (earlier ++ h) r))

pub history_more : (bus : ℕ) (h : List PortRound) (r : PortRound) → axi4_history_fault bus (h ++ r ∷ []) ≡ or_else (axi4_history_fault bus h) (axi4_fault bus h r)
history_more bus h r = first_more (axi4_fault bus) [] h r

-- what is broken stays so, and what is broken anew is what the last round breaks
pub fault_stays : (bus : ℕ) (h : List PortRound) (r : PortRound) (f : ℕ × ℕ) → axi4_history_fault bus h ≡ Some f → axi4_history_fault bus (h ++ r ∷ []) ≡ Some f
fault_stays bus h r f broken = history_more bus h r ∙ ap (λ (o : Option (ℕ × ℕ)). or_else o (axi4_fault bus h r)) broken

pub fault_anew : (bus : ℕ) (h : List PortRound) (r : PortRound) → axi4_history_fault bus h ≡ None → axi4_history_fault bus (h ++ r ∷ []) ≡ axi4_fault bus h r
fault_anew bus h r legal = history_more bus h r ∙ ap (λ (o : Option (ℕ × ℕ)). or_else o (axi4_fault bus h r)) legal
