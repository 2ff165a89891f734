-- What a demux has passed on its links, what its state has to do with it, and the demux as a kind of node.
use Rattle.std.specs.Prelude.{◌≡◌, ◌≢◌, ◌<◌, ◌++◌, ◌∷◌, [], ℕ, List, true, false, All, length, map, slice_get}
use Rattle.std.specs.List.{list_any}
use Rattle.address_map.specs.Regions.{is_bad_region}
use Rattle.axi_beats.specs.declared.beat.Addr.{Addr}
use Rattle.axi_beats.specs.declared.beat.WBeat.{WBeat}
use Rattle.axi_trail.specs.Schedule.{SameChain, Schedule, Share}
use Rattle.axi_trail.specs.SelectionLaws.{goes_way}
use Rattle.axi_trail.specs.Trail.{Beats, Trail}
use Rattle.axi_trail.specs.Waiting.{Waiting}
use Rattle.axi_trail.specs.Words.{Asked, InOrderOfId, IsAnswered, Reply, burst_asked, held_asked, mark_of_data, marks, pending_asked}
use Rattle.axi_trail.specs.Words.{number_of_address, number_of_data, number_of_read_data, number_of_response}
use Rattle.axi_trail.specs.Words.{read_replies, reads_asked, write_replies, writes_asked}
use Rattle.demux_node.specs.DemuxState.{DemuxShape, DemuxState, IsDemux, IsDemuxShape, lower_of, new_demux, port_for, route_of}
use Rattle.demux_node.specs.DemuxTable.{CanDemux, demux_table, demux_wants}
use Rattle.demux_node.specs.declared.route.Route.{Route}
use Rattle.demux_node.specs.declared.route.WriteRoute.{WriteRoute}
use Rattle.node_shape.specs.Carries.{IsSameShare}
use Rattle.node_shape.specs.Kind.{Kind, always_done, knows_nothing, notes_nothing, without_delays}
use Rattle.node_shape.specs.LinkForm.{LinkForm}
use Rattle.node_shape.specs.Way.{go_on_by}
use Rattle.plain_lists.specs.Keys.{selected}
use Rattle.plain_lists.specs.Prefixes.{IsPrefix}

-- the port of a transaction is that of its first part
abbrev pub port_of_parts : DemuxShape → List Addr → ℕ
port_of_parts shape [] = port_for shape 0
port_of_parts shape (part ∷ parts) = port_for shape part.addr

-- and its link is that of the port
abbrev pub lower_of_parts : DemuxShape → List Addr → ℕ
lower_of_parts shape parts = lower_of shape (port_of_parts shape parts)

-- Of one direction: each transaction goes on as it is, by the port of its addresses, and what is one chain on a link below
-- came by one chain above.
pub record GoByPort (shape : DemuxShape) (above : ℕ → Share) (below : ℕ → ℕ → Share) : Type 0 where
  pub to : (t : ℕ) → All (λ (part : Addr). port_for shape part.addr ≡ port_of_parts shape (above t).parts) (above t).parts
  pub same : (t : ℕ) → IsSameShare (above t) (below (lower_of_parts shape (above t).parts) t)
  pub chains : (t u : ℕ) → 0 < length (above u).parts → SameChain (below (lower_of_parts shape (above u).parts)) t u →
      (lower_of_parts shape (above t).parts ≡ lower_of_parts shape (above u).parts) × SameChain above t u

-- What the links have to carry suits a demux.
pub record SuitDemux (shape : DemuxShape) (schedules : ℕ → Schedule) : Type 0 where
  pub widths : All (λ link. (schedules link).id_width ≡ (schedules shape.upper).id_width) shape.lowers
  pub writes : GoByPort shape (schedules shape.upper).writes (λ link. (schedules link).writes)
  pub reads : GoByPort shape (schedules shape.upper).reads (λ link. (schedules link).reads)

-- earlier requests of a chain that went by another link are answered before a later one is sent on
abbrev pub OthersAreAnswered : (ℕ → Share) → (ℕ → ℕ) → List Asked → List Reply → Type 0
OthersAreAnswered shares link_of_number asked replies =
    (before : List Asked) (a : Asked) (between : List Asked) (next : Asked) (after : List Asked) → asked ≡ (before ++ a ∷ between) ++ next ∷ after →
    SameChain shares a.number next.number → link_of_number a.number ≢ link_of_number next.number → IsAnswered before a replies

-- Of one direction, `port` being the port of a transaction: the entries are the held requests.
abbrev pub route_of_held : (ℕ → ℕ) → Waiting Asked → Route
route_of_held port w = record { id = w.request.id; port = port w.request.number }

pub record RoutesAreHeld (shares : ℕ → Share) (port lower : ℕ → ℕ) (asked : List Asked) (replies : List Reply) (routes : List Route) : Type 0 where
  pub entries : routes ≡ map (route_of_held port) (held_asked asked replies)
  pub in_order : InOrderOfId asked replies
  pub others : OthersAreAnswered shares (λ t. lower (port t)) asked replies

abbrev pub closed_write : Route → WriteRoute
closed_write route = record { id = route.id; port = route.port; is_open = false }

abbrev pub open_write : (ℕ → ℕ) → Waiting Asked → WriteRoute
open_write port w = record { id = w.request.id; port = port w.request.number; is_open = true }

-- Write data never goes on before its address, and the writes that lack data are the last entries.
pub record OpenArePending (port : ℕ → ℕ) (aw : List Addr) (w : List WBeat) (writes : List WriteRoute) : Type 0 where
  pub closed : List Route
  pub entries : writes ≡ map closed_write closed ++ map (open_write port) (pending_asked (length w) (map burst_asked aw))
  pub in_order : IsPrefix (map mark_of_data w) (marks (map burst_asked aw))

-- what has passed on a link below are the beats above of those transactions that go by it
pub record IsPartBy (writes reads : ℕ → ℕ) (upper : Beats) (link : ℕ) (lower : Beats) : Type 0 where
  pub aw : lower.aw ≡ selected number_of_address (goes_way writes link) upper.aw
  pub w : lower.w ≡ selected number_of_data (goes_way writes link) upper.w
  pub b : lower.b ≡ selected number_of_response (goes_way writes link) upper.b
  pub ar : lower.ar ≡ selected number_of_address (goes_way reads link) upper.ar
  pub r : lower.r ≡ selected number_of_read_data (goes_way reads link) upper.r

module _ (shape : DemuxShape) (above : Schedule) where
  -- the port of each transaction, and its link
  abbrev pub write_port : ℕ → ℕ
  write_port t = port_of_parts shape (above.writes t).parts

  abbrev pub read_port : ℕ → ℕ
  read_port t = port_of_parts shape (above.reads t).parts

  abbrev pub write_lower : ℕ → ℕ
  write_lower t = lower_of shape (write_port t)

  abbrev pub read_lower : ℕ → ℕ
  read_lower t = lower_of shape (read_port t)

-- What holds of a demux.
pub record DemuxKeeps (schedules : ℕ → Schedule) (s : DemuxState) (upper : Beats) (lowers : Trail) : Type 0 where
  pub suits : SuitDemux s.shape schedules
  pub writes : RoutesAreHeld (schedules s.shape.upper).writes (write_port s.shape (schedules s.shape.upper)) (lower_of s.shape)
      (writes_asked upper) (write_replies upper) (map route_of s.writes)
  pub reads : RoutesAreHeld (schedules s.shape.upper).reads (read_port s.shape (schedules s.shape.upper)) (lower_of s.shape)
      (reads_asked upper) (read_replies upper) s.reads
  pub open_ones : OpenArePending (write_port s.shape (schedules s.shape.upper)) upper.aw upper.w s.writes
  pub passed : (link : ℕ) → IsPartBy (write_lower s.shape (schedules s.shape.upper)) (read_lower s.shape (schedules s.shape.upper)) upper link (lowers link)

-- a new demux of a shape that it can have
pub record IsNewDemux (s : DemuxState) : Type 0 where
  pub shape : IsDemuxShape s.shape
  pub new : s ≡ new_demux s.shape

-- each region has whole pages, so that no burst goes to two ports, and all links have one form
pub record IsSoundDemux (forms : ℕ → LinkForm) (s : DemuxState) : Type 0 where
  pub regions : list_any is_bad_region s.shape.regions ≡ false
  pub alike : All (λ link. forms link ≡ forms s.shape.upper) s.shape.lowers

-- a demux between links of one form; `E` is what other kinds note of their rounds
abbrev pub demux_kind : {E : Type 0} → Kind DemuxState E
demux_kind = record {
  uppers = λ s. s.shape.upper ∷ [];
  lowers = λ s. s.shape.lowers;
  begins = IsNewDemux;
  fact = IsDemux;
  can = λ round links s. CanDemux links s.shape;
  table = λ round links s. demux_table links s;
  wants = demux_wants;
  notes = notes_nothing;
  way = λ s. go_on_by (λ share. slice_get s.shape.lowers (port_of_parts s.shape share.parts));
  is_sound = λ forms schedules s. IsSoundDemux forms s;
  suits = λ schedules s. SuitDemux s.shape schedules;
  keeps = λ schedules rounds s passed. DemuxKeeps schedules s (passed.uppers s.shape.upper) passed.lowers;
  knows = knows_nothing;
  is_done = always_done;
  patience = without_delays;
}
