-- One step of the pairing, as a checker takes it.
use Rattle.std.proofs.Common.{◌≡◌, ◌≢◌, ℕ, ◌==◌, ◌∷◌, [], ◌++◌, ◌&&◌, Bool, true, false, List, Option, Some, None, length, get_or, refl, sym, ap, ◌∙◌, ltb}
use Rattle.std.specs.Option.{option_to_list}
use Rattle.std.specs.Prelude.{drop, if◌then◌else◌}
use Rattle.std.proofs.Math.Bool.{and-true}
use Rattle.std.proofs.lemmas.List.{append-nil}
use Rattle.axi_beats.specs.declared.beat.WBeat.{WBeat}
use Rattle.axi_history.specs.declared.port.RawAddr.{RawAddr}
use Rattle.axi_history.specs.PortRules.{least_broken, has_last_where_due, has_strobes_on_valid_lanes}
use Rattle.port_rules.specs.Unpaired.{Unpaired, unpaired_of, each_paired_beat, with_offers, last_is_kept, strobes_are_kept, data_fault}
use Rattle.port_rules.proofs.PairingLemmas.{more_left, more_asked}

all_asked : (question : RawAddr → ℕ → WBeat → Bool) (adds : List RawAddr) (n : ℕ) → each_paired_beat question adds n [] ≡ true
all_asked question [] n = refl
all_asked question (a ∷ more) n = refl

-- ---- there are addresses or beats, but never both

nothing_left : (adds : List RawAddr) (n : ℕ) (beats : List WBeat) → (adds ≡ [] → n ≡ 0) → (adds ≢ [] → beats ≡ []) →
    unpaired_of (adds ++ []) n (beats ++ []) ≡ record { addresses = adds; passed = n; beats = beats }
nothing_left [] n beats fresh parted = rw (append-nil beats, fresh refl) refl
nothing_left (a ∷ more) n beats fresh parted =
    let none : beats ≡ [] = parted (λ nil. absurd cc) in
    ap (λ (xs : List RawAddr). unpaired_of xs n (beats ++ [])) (append-nil (a ∷ more))
    ∙ ap (λ (ws : List WBeat). unpaired_of (a ∷ more) n ws) (append-nil beats ∙ none)
    ∙ ap (λ (ws : List WBeat). record { addresses = a ∷ more; passed = n; beats = ws }) (sym none)

nothing_asked : (question : RawAddr → ℕ → WBeat → Bool) (adds : List RawAddr) (n : ℕ) (beats : List WBeat) → (adds ≢ [] → beats ≡ []) →
    each_paired_beat question (adds ++ []) n (beats ++ []) ≡ true
nothing_asked question [] n beats parted = refl
nothing_asked question (a ∷ more) n beats parted = rw (append-nil beats, parted (λ nil. absurd cc)) refl

-- a round that offers neither anew
module _ (u : Unpaired) (a : Option RawAddr) (w : Option WBeat) (no_address : a ≡ None) (no_beat : w ≡ None) where
  pub none_left : (u.addresses ≡ [] → u.passed ≡ 0) → (u.addresses ≢ [] → u.beats ≡ []) → u ≡ with_offers a w u
  none_left fresh parted = rw (no_address, no_beat) (sym (nothing_left u.addresses u.passed u.beats fresh parted))

  pub none_last : (u.addresses ≢ [] → u.beats ≡ []) → true ≡ last_is_kept a w u
  none_last parted = rw (no_address, no_beat) (sym (nothing_asked has_last_where_due u.addresses u.passed u.beats parted))

  pub none_strobes : (bus : ℕ) → (u.addresses ≢ [] → u.beats ≡ []) → true ≡ strobes_are_kept bus a w u
  none_strobes bus parted = rw (no_address, no_beat) (sym (nothing_asked (has_strobes_on_valid_lanes bus) u.addresses u.passed u.beats parted))

-- ---- a W beat that belongs to the first address

one_asked : (question : RawAddr → ℕ → WBeat → Bool) (adds : List RawAddr) (n : ℕ) (beats : List WBeat) (a : RawAddr) (w : WBeat) → true ≡ ltb 0 (length adds) → a ≡ get_or adds 0 a → (adds ≢ [] → beats ≡ []) →
    each_paired_beat question (adds ++ []) n (beats ++ w ∷ []) ≡ question a n w
one_asked question [] n beats a w some first parted = absurd cc
one_asked question (x ∷ more) n beats a w some first parted =
    let same : x ≡ a = sym first in
    rw (parted (λ nil. absurd cc), same) (go w.last)
  where
    go : (last : Bool) → (question a n w && (if last then each_paired_beat question (more ++ []) 0 [] else true)) ≡ question a n w
    go true = ap (λ (b : Bool). question a n w && b) (all_asked question (more ++ []) 0) ∙ and-true (question a n w)
    go false = and-true (question a n w)

pub one_last : (u : Unpaired) (a : RawAddr) (w : WBeat) (o : Option WBeat) → o ≡ Some w → true ≡ ltb 0 (length u.addresses) → a ≡ get_or u.addresses 0 a → (u.addresses ≢ [] → u.beats ≡ []) → last_is_kept None o u ≡ has_last_where_due a u.passed w
one_last u a w o is some first parted = ap (λ (x : Option WBeat). last_is_kept None x u) is ∙ one_asked has_last_where_due u.addresses u.passed u.beats a w some first parted

pub one_strobes : (bus : ℕ) (u : Unpaired) (a : RawAddr) (w : WBeat) (o : Option WBeat) → o ≡ Some w → true ≡ ltb 0 (length u.addresses) → a ≡ get_or u.addresses 0 a → (u.addresses ≢ [] → u.beats ≡ []) → strobes_are_kept bus None o u ≡ has_strobes_on_valid_lanes bus a u.passed w
one_strobes bus u a w o is some first parted = ap (λ (x : Option WBeat). strobes_are_kept bus None x u) is ∙ one_asked (has_strobes_on_valid_lanes bus) u.addresses u.passed u.beats a w some first parted

-- the last beat of its burst
first_done : (adds rest : List RawAddr) (n : ℕ) (beats : List WBeat) (a : RawAddr) (w : WBeat) → true ≡ ltb 0 (length adds) → a ≡ get_or adds 0 a → rest ≡ drop 1 adds → (adds ≢ [] → beats ≡ []) → w.last ≡ true →
    record { addresses = rest; passed = 0; beats = beats } ≡ unpaired_of (adds ++ []) n (beats ++ w ∷ [])
first_done [] rest n beats a w some first dropped parted last = absurd cc
first_done (x ∷ more) rest n beats a w some first dropped parted last =
    let one_step : unpaired_of ((x ∷ more) ++ []) n (w ∷ []) ≡ unpaired_of (more ++ []) 0 [] = rw last refl in
    rw (dropped, parted (λ nil. absurd cc)) (sym (one_step ∙ nothing_left more 0 [] (λ _. refl) (λ _. refl)))

pub burst_done : (u : Unpaired) (rest : List RawAddr) (a : RawAddr) (w : WBeat) (o : Option WBeat) → o ≡ Some w → true ≡ ltb 0 (length u.addresses) → a ≡ get_or u.addresses 0 a → rest ≡ drop 1 u.addresses → (u.addresses ≢ [] → u.beats ≡ []) → w.last ≡ true →
    record { addresses = rest; passed = 0; beats = u.beats } ≡ with_offers None o u
burst_done u rest a w o is some first dropped parted last = first_done u.addresses rest u.passed u.beats a w some first dropped parted last ∙ ap (λ (x : Option WBeat). with_offers None x u) (sym is)

-- ---- an address, where an earlier one lacks beats

behind_asked : (question : RawAddr → ℕ → WBeat → Bool) (adds : List RawAddr) (n : ℕ) (beats : List WBeat) (a : RawAddr) → adds ≢ [] → (adds ≢ [] → beats ≡ []) → each_paired_beat question (adds ++ a ∷ []) n (beats ++ []) ≡ true
behind_asked question [] n beats a some parted = absurd (some refl)
behind_asked question (x ∷ more) n beats a some parted = rw (append-nil beats, parted some) refl

behind : (adds : List RawAddr) (n : ℕ) (beats : List WBeat) (a : RawAddr) → adds ≢ [] → (adds ≢ [] → beats ≡ []) → unpaired_of (adds ++ a ∷ []) n (beats ++ []) ≡ record { addresses = adds ++ a ∷ []; passed = n; beats = beats }
behind [] n beats a some parted = absurd (some refl)
behind (x ∷ more) n beats a some parted = rw (append-nil beats, parted some) refl

module _ (u : Unpaired) (a : RawAddr) (o : Option RawAddr) (is : o ≡ Some a) (some : (length u.addresses == 0) ≡ false) (parted : u.addresses ≢ [] → u.beats ≡ []) where
  lacking : u.addresses ≢ []
  lacking nil = let e : (length u.addresses == 0) ≡ true = rw nil refl in absurd cc

  pub behind_last : true ≡ last_is_kept o None u
  behind_last = rw is (sym (behind_asked has_last_where_due u.addresses u.passed u.beats a lacking parted))

  pub behind_strobes : (bus : ℕ) → true ≡ strobes_are_kept bus o None u
  behind_strobes bus = rw is (sym (behind_asked (has_strobes_on_valid_lanes bus) u.addresses u.passed u.beats a lacking parted))

  pub behind_left : record { addresses = u.addresses ++ a ∷ []; passed = u.passed; beats = u.beats } ≡ with_offers o None u
  behind_left = rw is (sym (behind u.addresses u.passed u.beats a lacking parted))

-- ---- the address first, and then the W beat

no_front : {X : Type 0} → (xs ys : List X) → xs ++ ys ≡ [] → xs ≡ []
no_front [] ys nil = refl
no_front (x ∷ xs) ys nil = absurd cc

module _ (u v : Unpaired) (a : Option RawAddr) (w : Option WBeat) (fresh : u.addresses ≡ [] → u.passed ≡ 0) (is : v ≡ with_offers a None u) where
  abbrev adds : List RawAddr
  adds = u.addresses ++ option_to_list a

  starts : adds ≡ [] → u.passed ≡ 0
  starts nil = fresh (no_front u.addresses (option_to_list a) nil)

  between : unpaired_of adds u.passed u.beats ≡ v
  between = sym (is ∙ ap (λ (ws : List WBeat). unpaired_of adds u.passed ws) (append-nil u.beats))

  in_two : (question : RawAddr → ℕ → WBeat → Bool) →
      each_paired_beat question adds u.passed (u.beats ++ option_to_list w)
      ≡ (each_paired_beat question adds u.passed (u.beats ++ []) && each_paired_beat question (v.addresses ++ []) v.passed (v.beats ++ option_to_list w))
  in_two question =
      ap (λ (xs : List RawAddr). each_paired_beat question xs u.passed (u.beats ++ option_to_list w)) (sym (append-nil adds))
      ∙ more_asked question adds [] u.passed u.beats (option_to_list w) starts
      ∙ ap (λ (p : Unpaired). each_paired_beat question adds u.passed u.beats && each_paired_beat question (p.addresses ++ []) p.passed (p.beats ++ option_to_list w)) between
      ∙ ap (λ (ws : List WBeat). each_paired_beat question adds u.passed ws && each_paired_beat question (v.addresses ++ []) v.passed (v.beats ++ option_to_list w)) (sym (append-nil u.beats))

  pub left_in_two : with_offers None w v ≡ with_offers a w u
  left_in_two = sym (
      ap (λ (xs : List RawAddr). unpaired_of xs u.passed (u.beats ++ option_to_list w)) (sym (append-nil adds))
      ∙ more_left adds [] u.passed u.beats (option_to_list w) starts
      ∙ ap (λ (p : Unpaired). with_offers None w p) between)

  told : (bus : ℕ) → data_fault bus a w u
      ≡ least_broken ((9, last_is_kept a None u && last_is_kept None w v) ∷ (10, strobes_are_kept bus a None u && strobes_are_kept bus None w v) ∷ [])
  told bus = rw (in_two has_last_where_due, in_two (has_strobes_on_valid_lanes bus)) refl

  pub early_nine : (bus : ℕ) → false ≡ last_is_kept a None u → Some 9 ≡ data_fault bus a w u
  early_nine bus early = sym (told bus ∙ rw (sym early) refl)

  pub now_nine : (bus : ℕ) → true ≡ last_is_kept a None u → false ≡ last_is_kept None w v → Some 9 ≡ data_fault bus a w u
  now_nine bus early now = sym (told bus ∙ rw (sym early, sym now) refl)

  pub no_nine : (bus bus' : ℕ) (x y : Bool) → bus' ≡ bus → true ≡ last_is_kept a None u → true ≡ last_is_kept None w v → x ≡ strobes_are_kept bus a None u → y ≡ strobes_are_kept bus' None w v →
      least_broken ((10, x && y) ∷ []) ≡ data_fault bus a w u
  no_nine bus bus' x y same early now first second =
      let second' : y ≡ strobes_are_kept bus None w v = second ∙ ap (λ (n : ℕ). strobes_are_kept n None w v) same in
      sym (told bus ∙ rw (sym early, sym now, sym first, sym second') refl)
