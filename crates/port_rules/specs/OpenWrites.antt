-- Writes that have no response, and how a beat that is transferred changes them: the n-th last W beat belongs to the
-- n-th address.
use Rattle.std.specs.Prelude.{ℕ, ◌+◌, ◌-◌, ◌==◌, ◌++◌, ◌∷◌, [], List, Option, Some, None, is_some, nat_lt, length, position, take, drop, if◌then◌else◌}
use Rattle.axi_beats.specs.declared.beat.WBeat.{WBeat}
use Rattle.axi_history.specs.declared.port.RawAddr.{RawAddr}
use Rattle.axi_history.specs.declared.port.RawB.{RawB}
use Rattle.axi_history.specs.PortRules.{least_broken, is_not_exokay}
use Rattle.port_rules.specs.declared.writes.Writes.{Writes}

-- the IDs of the addresses without a last W beat, the number of last W beats without an address, and the IDs of the
-- whole writes
pub record OpenWrites : Type 0 where
  pub issued : List ℕ
  pub surplus : ℕ
  pub whole : List ℕ

abbrev pub open_writes : Writes → OpenWrites
open_writes w = record { issued = w.issued.items; surplus = w.surplus; whole = w.whole.items }

-- the least of rules 8 and 11 that a response breaks
abbrev pub response_fault : List ℕ → RawB → Option ℕ
response_fault whole b =
    least_broken ((8, is_not_exokay b.resp) ∷ (11, is_some (position (λ id. id == b.id) whole)) ∷ [])

-- a list of IDs without the first one that is this ID
abbrev pub without_first : ℕ → List ℕ → List ℕ
without_first id [] = []
without_first id (other ∷ more) = if other == id then more else other ∷ without_first id more

-- one more address, and one more last W beat
abbrev pub with_issue : ℕ → OpenWrites → OpenWrites
with_issue id o = record {
  issued = if nat_lt 0 o.surplus then o.issued else o.issued ++ id ∷ [];
  surplus = o.surplus - 1;
  whole = if nat_lt 0 o.surplus then o.whole ++ id ∷ [] else o.whole;
}

abbrev pub with_last : OpenWrites → OpenWrites
with_last o = record {
  issued = drop 1 o.issued;
  surplus = if length o.issued == 0 then o.surplus + 1 else o.surplus;
  whole = o.whole ++ take 1 o.issued;
}

-- what a channel transfers in a round, if anything, added to what is kept
abbrev pub add_aw : Option RawAddr → OpenWrites → OpenWrites
add_aw None o = o
add_aw (Some a) o = with_issue a.id o

abbrev pub add_last : Option WBeat → OpenWrites → OpenWrites
add_last None o = o
add_last (Some w) o = if w.last then with_last o else o

abbrev pub add_b : Option RawB → OpenWrites → OpenWrites
add_b None o = o
add_b (Some b) o = record o { whole = without_first b.id o.whole }
