-- W beats and the addresses that they belong to: the n-th burst belongs to the n-th address, and either may be offered
-- first.
use Rattle.std.specs.Prelude.{ℕ, ◌^◌, ◌&&◌, ◌++◌, ◌∷◌, [], List, Bool, true, Option, nat_lt, if◌then◌else◌}
use Rattle.std.specs.Option.{option_to_list}
use Rattle.std.proofs.Common.{suc}
use Rattle.axi_beats.specs.declared.beat.WBeat.{WBeat}
use Rattle.axi_history.specs.declared.port.RawAddr.{RawAddr}
use Rattle.axi_history.specs.PortRules.{least_broken, keeps_address_rules, has_last_where_due, has_strobes_on_valid_lanes}

-- the addresses whose burst isn't whole, how many beats the first one has already, and the beats without an address
pub record Unpaired : Type 0 where
  pub addresses : List RawAddr
  pub passed : ℕ
  pub beats : List WBeat

-- what stays unpaired of addresses, of which the first one has n beats already, and of W beats
abbrev pub unpaired_of : List RawAddr → ℕ → List WBeat → Unpaired
unpaired_of [] n beats = record { addresses = []; passed = 0; beats = beats }
unpaired_of (a ∷ more) n [] = record { addresses = a ∷ more; passed = n; beats = [] }
unpaired_of (a ∷ more) n (w ∷ beats) = if w.last then unpaired_of more 0 beats else unpaired_of (a ∷ more) (suc n) beats

-- a question about each of these beats that has an address
abbrev pub each_paired_beat : (RawAddr → ℕ → WBeat → Bool) → List RawAddr → ℕ → List WBeat → Bool
each_paired_beat question [] n beats = true
each_paired_beat question (a ∷ more) n [] = true
each_paired_beat question (a ∷ more) n (w ∷ beats) =
    question a n w
    && (if w.last then each_paired_beat question more 0 beats else each_paired_beat question (a ∷ more) (suc n) beats)

-- what stays unpaired where a round offers an address and a W beat anew
abbrev pub with_offers : Option RawAddr → Option WBeat → Unpaired → Unpaired
with_offers aw w u = unpaired_of (u.addresses ++ option_to_list aw) u.passed (u.beats ++ option_to_list w)

-- whether the beats that then have an address keep rules 9 and 10, and the least of the two that they break
abbrev pub last_is_kept : Option RawAddr → Option WBeat → Unpaired → Bool
last_is_kept aw w u =
    each_paired_beat has_last_where_due (u.addresses ++ option_to_list aw) u.passed (u.beats ++ option_to_list w)

abbrev pub strobes_are_kept : ℕ → Option RawAddr → Option WBeat → Unpaired → Bool
strobes_are_kept bus aw w u =
    each_paired_beat (has_strobes_on_valid_lanes bus) (u.addresses ++ option_to_list aw) u.passed (u.beats ++ option_to_list w)

abbrev pub data_fault : ℕ → Option RawAddr → Option WBeat → Unpaired → Option ℕ
data_fault bus aw w u = least_broken ((9, last_is_kept aw w u) ∷ (10, strobes_are_kept bus aw w u) ∷ [])

-- an address whose beats can be judged
abbrev pub is_usable : ℕ → RawAddr → Bool
is_usable bus a = keeps_address_rules bus a && nat_lt a.addr (2 ^ 63)
