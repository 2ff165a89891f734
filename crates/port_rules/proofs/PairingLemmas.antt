-- What stays unpaired, and what is asked of each beat with an address, where addresses and beats come in two parts; and
-- the same questions asked burst by burst.
use Rattle.std.proofs.Common.{◌≡◌, ℕ, ◌∷◌, [], ◌++◌, ◌&&◌, ◌||◌, Bool, true, false, List, suc, refl, sym, ap, ◌∙◌, inl, inr}
use Rattle.std.specs.Prelude.{zip, not, if◌then◌else◌}
use Rattle.std.specs.List.{list_all}
use Rattle.std.proofs.Math.Bool.{and-true, and_assoc}
use Rattle.std.proofs.lemmas.Bool.{cases_Bool, and_parts, false≢true}
use Rattle.axi_beats.specs.declared.beat.WBeat.{WBeat}
use Rattle.axi_history.specs.declared.port.RawAddr.{RawAddr}
use Rattle.axi_history.specs.PortHistory.{bursts, joined_to_first}
use Rattle.axi_history.specs.PortRules.{each_beat, each_addressed_beat, keeps_address_rules}
use Rattle.port_rules.specs.Unpaired.{Unpaired, unpaired_of, each_paired_beat}

pub more_left : (adds adds' : List RawAddr) (n : ℕ) (beats beats' : List WBeat) → (adds ≡ [] → n ≡ 0) → let u = unpaired_of adds n beats in
    unpaired_of (adds ++ adds') n (beats ++ beats') ≡ unpaired_of (u.addresses ++ adds') u.passed (u.beats ++ beats')
more_left [] adds' n beats beats' start = rw (start refl) refl
more_left (a ∷ more) adds' n [] beats' start = refl
more_left (a ∷ more) adds' n (w ∷ beats) beats' start =
    elim (cases_Bool w.last) [
      | inl e ↦ rw e (more_left more adds' 0 beats beats' (λ _. refl))
      | inr e ↦ rw e (more_left (a ∷ more) adds' (suc n) beats beats' (λ nil. absurd cc))
    ]

guarded : (k x y : Bool) → k ≡ true → ((not k || x) && y) ≡ (x && y)
guarded true x y e = refl
guarded false x y e = absurd (false≢true e)

-- one more question at the end, in both cases of a beat before
in_both : (q b : Bool) (p r : Unpaired) (x y x' y' : Bool) (new : Unpaired → Bool) → x' ≡ (x && new p) → y' ≡ (y && new r) →
    (q && (if b then x' else y')) ≡ ((q && (if b then x else y)) && new (if b then p else r))
in_both q true p r x y x' y' new e f = ap (λ (c : Bool). q && c) e ∙ sym (and_assoc q x (new p))
in_both q false p r x y x' y' new e f = ap (λ (c : Bool). q && c) f ∙ sym (and_assoc q y (new r))

module _ (question : RawAddr → ℕ → WBeat → Bool) where
  pub more_asked : (adds adds' : List RawAddr) (n : ℕ) (beats beats' : List WBeat) → (adds ≡ [] → n ≡ 0) → let u = unpaired_of adds n beats in
      each_paired_beat question (adds ++ adds') n (beats ++ beats')
      ≡ (each_paired_beat question adds n beats && each_paired_beat question (u.addresses ++ adds') u.passed (u.beats ++ beats'))
  more_asked [] adds' n beats beats' start = rw (start refl) refl
  more_asked (a ∷ more) adds' n [] beats' start = refl
  more_asked (a ∷ more) adds' n (w ∷ beats) beats' start =
      in_both (question a n w) w.last (unpaired_of more 0 beats) (unpaired_of (a ∷ more) (suc n) beats) _ _ _ _
      (λ u. each_paired_beat question (u.addresses ++ adds') u.passed (u.beats ++ beats'))
      (more_asked more adds' 0 beats beats' (λ _. refl)) (more_asked (a ∷ more) adds' (suc n) beats beats' (λ nil. absurd cc))

  -- ---- the same question, asked burst by burst

  abbrev each_from : ℕ → ℕ → List RawAddr → List (List WBeat) → Bool
  each_from bus n [] parts = true
  each_from bus n (a ∷ more) [] = true
  each_from bus n (a ∷ more) (burst ∷ parts) = each_beat (question a) n burst && each_addressed_beat bus question (zip more parts)

  from_zero : (bus : ℕ) (addresses : List RawAddr) (parts : List (List WBeat)) → list_all (keeps_address_rules bus) addresses ≡ true → each_addressed_beat bus question (zip addresses parts) ≡ each_from bus 0 addresses parts
  from_zero bus [] parts keep = refl
  from_zero bus (a ∷ more) [] keep = refl
  from_zero bus (a ∷ more) (burst ∷ parts) keep = guarded (keeps_address_rules bus a) _ _ (and_parts _ _ keep).0

  joined : (bus : ℕ) (a : RawAddr) (more : List RawAddr) (n : ℕ) (w : WBeat) (parts : List (List WBeat)) → each_from bus n (a ∷ more) (joined_to_first w parts) ≡ (question a n w && each_from bus (suc n) (a ∷ more) parts)
  joined bus a [] n w [] = and-true (question a n w && true)
  joined bus a (b ∷ more) n w [] = and-true (question a n w && true)
  joined bus a more n w (burst ∷ parts) = and_assoc (question a n w) (each_beat (question a) (suc n) burst) (each_addressed_beat bus question (zip more parts))

  from_case : (bus : ℕ) (a : RawAddr) (more : List RawAddr) (n : ℕ) (w : WBeat) (b x y : Bool) (parts : List (List WBeat)) → each_addressed_beat bus question (zip more parts) ≡ x → each_from bus (suc n) (a ∷ more) parts ≡ y →
      each_from bus n (a ∷ more) (if b then (w ∷ []) ∷ parts else joined_to_first w parts) ≡ (question a n w && (if b then x else y))
  from_case bus a more n w true x y parts e f = ap (λ (c : Bool). c && each_addressed_beat bus question (zip more parts)) (and-true (question a n w)) ∙ ap (λ (c : Bool). question a n w && c) e
  from_case bus a more n w false x y parts e f = joined bus a more n w parts ∙ ap (λ (c : Bool). question a n w && c) f

  asked_from : (bus : ℕ) (addresses : List RawAddr) (n : ℕ) (beats : List WBeat) → list_all (keeps_address_rules bus) addresses ≡ true → each_from bus n addresses (bursts beats) ≡ each_paired_beat question addresses n beats
  asked_from bus [] n beats keep = refl
  asked_from bus (a ∷ more) n [] keep = refl
  asked_from bus (a ∷ more) n (w ∷ beats) keep =
      let rest = (and_parts (keeps_address_rules bus a) (list_all (keeps_address_rules bus) more) keep).1 in
      from_case bus a more n w w.last (each_paired_beat question more 0 beats) (each_paired_beat question (a ∷ more) (suc n) beats) (bursts beats)
      (from_zero bus more (bursts beats) rest ∙ asked_from bus more 0 beats rest) (asked_from bus (a ∷ more) (suc n) beats keep)

  pub each_asked : (bus : ℕ) (addresses : List RawAddr) (beats : List WBeat) → list_all (keeps_address_rules bus) addresses ≡ true → each_addressed_beat bus question (zip addresses (bursts beats)) ≡ each_paired_beat question addresses 0 beats
  each_asked bus addresses beats keep = from_zero bus addresses (bursts beats) keep ∙ asked_from bus addresses 0 beats keep
