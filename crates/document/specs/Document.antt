-- A document: a topology, the first line that is exactly `%%`, and the traffic; what is run and what is planned of it, or why it is refused.
use Rattle.std.specs.Prelude.{◌≡◌, ◌+◌, ⊤, ℕ, List, length, nat_lt, not, Option, Some, None, Result, Ok, Err, if◌then◌else◌}
use Rattle.std.specs.Str.{is_utf8}
use Rattle.elaborate.specs.Unbuilt.{unbuilt_at}
use Rattle.plain_text.specs.Lines.{lines}
use Rattle.plain_text.specs.Separator.{cut}
use Rattle.plan_traffic.specs.Bound.{round_bound}
use Rattle.plan_traffic.specs.Traffic.{TrafficItem, traffic_of, traffic_refusal}
use Rattle.refusals.specs.Refusal.{refused_at, refused_for}
use Rattle.refusals.specs.declared.cause.Cause.TheVariants.{InputTooLong, NoSeparator, NotBuilt, NotText}
use Rattle.refusals.specs.declared.refusal.DocFault.{DocFault}
use Rattle.refusals.specs.declared.refusal.DocFault.TheVariants.{NoMemory, Refused}
use Rattle.refusals.specs.declared.refusal.Refusal.{Refusal}
use Rattle.topology.specs.Read.{topology_of}
use Rattle.topology_text.specs.Document.{DocumentNode}

-- the most bytes that an input may have
abbrev pub input_limit : ℕ
input_limit = 16777216

-- ---- the network of an input

-- the nodes of a network, and the lines that stand behind them
pub record NetworkText : Type 0 where
  pub nodes : List DocumentNode
  pub lines : List (List ℕ)

-- a node of a kind that isn't built yet is refused: the least one, counted from 1
abbrev pub built_with : List DocumentNode → List (List ℕ) → Option ℕ → Result NetworkText Refusal
built_with nodes lines (Some place) = Err (refused_at NotBuilt (place + 1))
built_with nodes lines None = Ok (record { nodes = nodes; lines = lines })

abbrev pub wired_with : List (List ℕ) → Result (List DocumentNode) Refusal → Result NetworkText Refusal
wired_with lines (Err refusal) = Err refusal
wired_with lines (Ok nodes) = built_with nodes lines (unbuilt_at nodes)

-- the two texts of a document
abbrev pub parted : Option (List ℕ × List ℕ) → Result NetworkText Refusal
parted None = Err (refused_for NoSeparator)
parted (Some texts) = wired_with (lines texts.1) (topology_of texts.0)

-- the network of an input, or why there is none: the first of these causes that holds
abbrev pub network_in : List ℕ → Result NetworkText Refusal
network_in input =
    if nat_lt input_limit (length input) then Err (refused_for InputTooLong)
    else if not (is_utf8 input) then Err (refused_for NotText)
    else parted (cut input)

-- ---- what is to be run

-- what an accepted document asks for: the network of its nodes, and the transactions on it
pub record Asked : Type 0 where
  pub nodes : List DocumentNode
  pub items : List TrafficItem

-- the traffic of accepted nodes
abbrev pub traffic_on : List DocumentNode → List (List ℕ) → Option Refusal → Result Asked Refusal
traffic_on nodes lines (Some refusal) = Err refusal
traffic_on nodes lines None = Ok (record { nodes = nodes; items = traffic_of nodes lines })

abbrev pub asked_with : Result NetworkText Refusal → Result Asked Refusal
asked_with (Err refusal) = Err refusal
asked_with (Ok text) = traffic_on text.nodes text.lines (traffic_refusal text.nodes text.lines)

-- what an input asks for, or why it is refused: for its network, and then for its traffic
abbrev pub document_of : List ℕ → Result Asked Refusal
document_of input = asked_with (network_in input)

-- ---- what is to be planned

-- the nodes of a network, and the bound on the rounds of its traffic, where that isn't refused
pub record Planned : Type 0 where
  pub nodes : List DocumentNode
  pub bound : Option ℕ

abbrev pub bound_on : List DocumentNode → List (List ℕ) → Option Refusal → Option ℕ
bound_on nodes lines (Some refusal) = None
bound_on nodes lines None = Some (round_bound nodes (traffic_of nodes lines))

abbrev pub planned_with : Result NetworkText Refusal → Result Planned Refusal
planned_with (Err refusal) = Err refusal
planned_with (Ok text) = Ok (record { nodes = text.nodes; bound = bound_on text.nodes text.lines (traffic_refusal text.nodes text.lines) })

-- what is planned of an input, or why it is refused: for its network alone
abbrev pub planned_of : List ℕ → Result Planned Refusal
planned_of input = planned_with (network_in input)

-- why an input isn't read: it is refused so, or memory was wanting, which says nothing of the input
abbrev pub IsDocumentFault : {X : Type 0} → Result X Refusal → DocFault → Type 0
IsDocumentFault read (Refused refusal) = read ≡ Err refusal
IsDocumentFault read NoMemory = ⊤
