-- What the writes that are kept stand for: the addresses, the last W beats and the responses that were transferred.
use Rattle.std.specs.Prelude.{◌≡◌, ℕ, ◌+◌, ◌-◌, ◌==◌, List, length, map, filter, take, drop}
use Rattle.axi_history.specs.declared.port.RawAddr.{RawAddr}
use Rattle.axi_history.specs.declared.port.RawB.{RawB}
use Rattle.axi_history.specs.PortRules.{writes_of, responses_of}
use Rattle.port_rules.specs.OpenWrites.{OpenWrites}

-- how often an ID stands in a list
abbrev pub times : ℕ → List ℕ → ℕ
times id ids = length (filter (λ other. other == id) ids)

pub record WritesHeld (o : OpenWrites) (addresses : List RawAddr) (lasts : ℕ) (responses : List RawB) : Type 0 where
  -- the addresses whose last W beat is not there yet, and the last W beats whose address is not
  pub issued : o.issued ≡ map (λ (a : RawAddr). a.id) (drop lasts addresses)
  pub surplus : o.surplus ≡ lasts - length addresses
  -- of each ID, as many writes wait for a response as are whole and have none
  pub each : (id : ℕ) → times id o.whole + length (responses_of id responses) ≡ length (writes_of id (take lasts addresses))
  -- and so of all IDs together
  pub all : length o.whole + length responses ≡ length (take lasts addresses)
