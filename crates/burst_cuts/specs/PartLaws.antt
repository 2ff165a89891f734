-- What holds of a burst that is cut into single beats (Arm IHI 0022, burst address structure, read and write response
-- structure).
use Rattle.std.specs.Prelude.{◌≡◌, ◌<◌, ◌≤◌, ◌^◌, ◌++◌, ◌∷◌, [], ℕ, suc, List, flat_map, length, map, zip}
use Rattle.axi_beats.specs.Bus.{IsBusWidth}
use Rattle.axi_beats.specs.declared.beat.Addr.{Addr}
use Rattle.axi_beats.specs.declared.beat.WBeat.{WBeat}
use Rattle.axi_beats.specs.declared.response.Resp.{Resp}
use Rattle.axi_trail.specs.Words.{beats_due, burst_asked}
use Rattle.burst_address.specs.Bytes.{burst_bytes, written_bytes}
use Rattle.burst_address.specs.Formulas.{beats_of}
use Rattle.burst_address.specs.Lanes.{valid_span}
use Rattle.burst_address.specs.Legal.{IsLegal, page}
use Rattle.burst_address.specs.Status.{worst_among}
use Rattle.burst_cuts.specs.Parts.{data_of_part, part_of, parts_of, responses_due, worst_of_groups}
use Rattle.plain_lists.specs.Prefixes.{IsPrefix}

-- each part of a legal burst is legal
abbrev pub PartsAreLegal : Type 0
PartsAreLegal = (a : Addr) (bus n : ℕ) → IsBusWidth bus → IsLegal a bus → IsLegal (part_of a n) bus

-- it starts in the burst's page
abbrev pub PartsAreInPage : Type 0
PartsAreInPage = (a : Addr) (bus n : ℕ) → IsBusWidth bus → IsLegal a bus → n < beats_of a → page (part_of a n).addr ≡ page a.addr

-- and below 2 ^ 63 where the burst does
abbrev pub PartsAreSmall : Type 0
PartsAreSmall = (a : Addr) (bus n : ℕ) → IsBusWidth bus → IsLegal a bus → n < beats_of a → a.addr < 2 ^ 63 → (part_of a n).addr < 2 ^ 63

-- bursts have a part for each of their beats
abbrev pub PartsAreAsManyAsBeats : Type 0
PartsAreAsManyAsBeats = (bursts : List Addr) → length (flat_map parts_of bursts) ≡ beats_due (map burst_asked bursts)

-- the one beat of a part has the valid lanes of the burst's beat
abbrev pub PartsHaveItsLanes : Type 0
PartsHaveItsLanes = (a : Addr) (bus n : ℕ) → valid_span (part_of a n) 0 bus ≡ valid_span a n bus

-- the bytes of all parts, one after the other, are those of the bursts
abbrev pub PartsHaveItsBytes : Type 0
PartsHaveItsBytes = (bursts : List Addr) → flat_map burst_bytes (flat_map parts_of bursts) ≡ flat_map burst_bytes bursts

-- and so are the bytes that the parts of a write write, each with its one beat of data
abbrev pub PartsWriteItsBytes : Type 0
PartsWriteItsBytes =
    (bus : ℕ) (a : Addr) (ws : List WBeat) → length ws ≡ beats_of a →
    flat_map (λ (p : Addr × List WBeat). written_bytes bus p.0 p.1) (zip (parts_of a) (map data_of_part ws)) ≡ written_bytes bus a ws

-- The responses to bursts, of those to their parts.

-- the first responses to parts make the first ones to bursts
abbrev pub FirstGroups : Type 0
FirstGroups = (lens : List ℕ) (rs all : List Resp) → IsPrefix rs all → IsPrefix (worst_of_groups lens rs) (worst_of_groups lens all)

-- a burst of which some part isn't answered has no response
abbrev pub OpenGroup : Type 0
OpenGroup =
    (firsts : List ℕ) (len : ℕ) (more : List ℕ) (front own : List Resp) → length front ≡ responses_due firsts → length own ≤ len →
    worst_of_groups (firsts ++ len ∷ more) (front ++ own) ≡ worst_of_groups firsts front

-- one of which all are answered has the worst of their responses
abbrev pub ClosedGroup : Type 0
ClosedGroup =
    (firsts : List ℕ) (len : ℕ) (more : List ℕ) (front own : List Resp) → length front ≡ responses_due firsts → length own ≡ suc len →
    worst_of_groups (firsts ++ len ∷ more) (front ++ own) ≡ worst_of_groups firsts front ++ worst_among own ∷ []
