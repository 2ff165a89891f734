-- The nodes that are made of the keys of a document are those of its opening.
use Rattle.std.proofs.Common.{◌≡◌, ◌∙◌, ℕ, List, ap, ap₂, map}
use Rattle.address_map.specs.declared.region.Region.{Region}
use Rattle.demux_node.specs.DemuxState.{DemuxState, new_demux}
use Rattle.elaborate.specs.Path.{ported_regions}
use Rattle.elaborate.specs.Plan.{plan_link_at, plan_node_at}
use Rattle.lite_node.specs.LiteState.{LiteState, new_lite}
use Rattle.manager_node.specs.ManagerState.{ManagerState, new_manager}
use Rattle.manager_node.specs.Script.{ScriptItem}
use Rattle.memory_node.specs.MemoryArea.{MemoryArea, area_of}
use Rattle.memory_node.specs.MemoryState.{MemoryState, new_memory}
use Rattle.memory_node.specs.declared.config.MemoryConfig.{MemoryConfig}
use Rattle.memory_node.specs.declared.config.Range.{Range}
use Rattle.mux_node.specs.MuxState.{MuxState, new_mux}
use Rattle.remap_node.specs.RemapState.{RemapState, new_remap}
use Rattle.net_build.specs.Source.{memory_on}
use Rattle.net_kinds.specs.NodeKind.{KindName, NodeState, StateOf}
use Rattle.net_opening.specs.PlanLinks.{link_into, link_out_of, links_into, links_out_of}
use Rattle.net_opening.specs.States.{area_on, demux_at, document_node_of, lite_at, lite_memory_at, manager_at, memory_at, memory_range, mux_at, remap_at, split_at, up_at}
use Rattle.net_opening.specs.Touched.{lines_touched}
use Rattle.node_core.specs.Acted.{Acted, opened}
use Rattle.node_core.specs.Paces.{new_paces}
use Rattle.plan_traffic.specs.Scripts.{script_of}
use Rattle.plan_traffic.specs.Traffic.{TrafficItem}
use Rattle.split_node.specs.SplitState.{SplitState, new_split}
use Rattle.topology.specs.Document.{DocumentNode, widest}
use Rattle.up_node.specs.UpState.{UpState, new_up}

-- a node of a kind, as one of the network
abbrev pub as_node : (name : KindName) → Acted (StateOf name) → Acted NodeState
as_node name node = record { state = record { kind = name; state = node.state }; out = node.out }

-- ---- what a memory is made of

abbrev pub config_on : ℕ → DocumentNode → MemoryConfig
config_on bus node = record { base = node.base; size = node.size; bus = bus; fill = node.fill }

pub area-made : (node own : DocumentNode) (bus : ℕ) (config : MemoryConfig) (read_only hole : List Range) → node ≡ own → config ≡ config_on bus node →
    read_only ≡ map memory_range node.read_only → hole ≡ map memory_range node.hole → area_of config read_only hole ≡ area_on bus own
area-made node own bus config read_only hole same keys kept closed =
    ap (λ (c : MemoryConfig). area_of c read_only hole) keys ∙ ap₂ (λ (r h : List Range). area_of (config_on bus node) r h) kept closed ∙ ap (area_on bus) same

module _ (nodes : List DocumentNode) (items : List TrafficItem) (number : ℕ) where
  pub memory-made : (bus : ℕ) (area : MemoryArea) (accept give : List ℕ) (upper : ℕ) (touched : List ℕ) (memory : Acted MemoryState) → area ≡ area_on bus (document_node_of nodes number) →
      accept ≡ (document_node_of nodes number).accept → give ≡ (document_node_of nodes number).give → upper ≡ link_into nodes number →
      touched ≡ lines_touched nodes items number → memory ≡ opened (new_memory area accept give upper touched) → memory ≡ opened (memory_on nodes items number bus)
  memory-made bus area accept give upper touched memory has takes puts above lines made =
      let own : MemoryArea = area_on bus (document_node_of nodes number) in
      made ∙ ap (λ (a : MemoryArea). opened (new_memory a accept give upper touched)) has ∙ ap₂ (λ (a g : List ℕ). opened (new_memory own a g upper touched)) takes puts
      ∙ ap₂ (λ (u : ℕ) (t : List ℕ). opened (new_memory own (document_node_of nodes number).accept (document_node_of nodes number).give u t)) above lines

  -- on the bus that its document node names it is a memory, on that of the link above it a Lite memory
  pub bus-named : (bus : ℕ) (memory : Acted MemoryState) → bus ≡ (document_node_of nodes number).bus → memory ≡ opened (memory_on nodes items number bus) →
      memory ≡ opened (memory_at nodes number items)
  bus-named bus memory own made = made ∙ ap (λ (b : ℕ). opened (memory_on nodes items number b)) own

  pub bus-above : (bus : ℕ) (memory : Acted MemoryState) → bus ≡ (plan_link_at nodes (link_into nodes number)).link.bus → memory ≡ opened (memory_on nodes items number bus) →
      memory ≡ opened (lite_memory_at nodes number items)
  bus-above bus memory own made = made ∙ ap (λ (b : ℕ). opened (memory_on nodes items number b)) own

  -- ---- a manager

  pub manager-made : (script : List ScriptItem) (lower bus : ℕ) (give accept : List ℕ) (manager : Acted ManagerState) → script ≡ script_of items (plan_node_at nodes number).document →
      lower ≡ link_out_of nodes number → bus ≡ (document_node_of nodes number).bus → give ≡ (document_node_of nodes number).give →
      accept ≡ (document_node_of nodes number).accept → manager ≡ opened (new_manager script lower bus (new_paces give accept)) → manager ≡ opened (manager_at nodes number items)
  manager-made script lower bus give accept manager asks below width puts takes made =
      made ∙ ap (λ (s : List ScriptItem). opened (new_manager s lower bus (new_paces give accept))) asks
      ∙ ap₂ (λ (l b : ℕ). opened (new_manager (script_of items (plan_node_at nodes number).document) l b (new_paces give accept))) below width
      ∙ ap₂ (λ (g a : List ℕ). opened (new_manager (script_of items (plan_node_at nodes number).document) (link_out_of nodes number) (document_node_of nodes number).bus (new_paces g a))) puts takes

  -- ---- nodes in the middle

  pub mux-made : (uppers : List ℕ) (lower width : ℕ) (mux : Acted MuxState) → uppers ≡ links_into nodes number → lower ≡ link_out_of nodes number →
      width ≡ widest (map (λ link. (plan_link_at nodes link).link) uppers) → mux ≡ opened (new_mux (record { uppers = uppers; lower = lower; width = width })) →
      mux ≡ opened (mux_at nodes number)
  mux-made uppers lower width mux above below most made =
      made ∙ ap (λ (w : ℕ). opened (new_mux (record { uppers = uppers; lower = lower; width = w }))) most
      ∙ ap₂ (λ (u : List ℕ) (l : ℕ). opened (new_mux (record { uppers = u; lower = l; width = widest (map (λ link. (plan_link_at nodes link).link) u) }))) above below

  pub remap-made : (upper lower width : ℕ) (remap : Acted RemapState) → upper ≡ link_into nodes number → lower ≡ link_out_of nodes number → width ≡ (document_node_of nodes number).id_width →
      remap ≡ opened (new_remap (record { upper = upper; lower = lower; width = width })) → remap ≡ opened (remap_at nodes number)
  remap-made upper lower width remap above below own made =
      made ∙ ap (λ (w : ℕ). opened (new_remap (record { upper = upper; lower = lower; width = w }))) own
      ∙ ap₂ (λ (u l : ℕ). opened (new_remap (record { upper = u; lower = l; width = (document_node_of nodes number).id_width }))) above below

  pub up-made : (upper lower narrow wide : ℕ) (up : Acted UpState) → upper ≡ link_into nodes number → lower ≡ link_out_of nodes number → narrow ≡ (plan_link_at nodes upper).link.bus →
      wide ≡ (document_node_of nodes number).bus → up ≡ opened (new_up (record { upper = upper; lower = lower; narrow = narrow; wide = wide })) → up ≡ opened (up_at nodes number)
  up-made upper lower narrow wide up above below bus own made =
      made ∙ ap₂ (λ (n w : ℕ). opened (new_up (record { upper = upper; lower = lower; narrow = n; wide = w }))) bus own
      ∙ ap₂ (λ (u l : ℕ). opened (new_up (record { upper = u; lower = l; narrow = (plan_link_at nodes u).link.bus; wide = (document_node_of nodes number).bus }))) above below

  pub split-made : (upper lower : ℕ) (splitter : Acted SplitState) → upper ≡ link_into nodes number → lower ≡ link_out_of nodes number → splitter ≡ opened (new_split upper lower) →
      splitter ≡ opened (split_at nodes number)
  split-made upper lower splitter above below made = made ∙ ap₂ (λ (u l : ℕ). opened (new_split u l)) above below

  pub lite-made : (upper lower bus : ℕ) (bridge : Acted LiteState) → upper ≡ link_into nodes number → lower ≡ link_out_of nodes number → bus ≡ (plan_link_at nodes upper).link.bus →
      bridge ≡ opened (new_lite (record { upper = upper; lower = lower; bus = bus })) → bridge ≡ opened (lite_at nodes number)
  lite-made upper lower bus bridge above below width made =
      made ∙ ap (λ (b : ℕ). opened (new_lite (record { upper = upper; lower = lower; bus = b }))) width
      ∙ ap₂ (λ (u l : ℕ). opened (new_lite (record { upper = u; lower = l; bus = (plan_link_at nodes u).link.bus }))) above below

  pub demux-made : (upper : ℕ) (lowers : List ℕ) (regions : List Region) (demux : Acted DemuxState) → upper ≡ link_into nodes number → lowers ≡ links_out_of nodes number →
      regions ≡ ported_regions nodes (document_node_of nodes number) → demux ≡ opened (new_demux (record { upper = upper; lowers = lowers; regions = regions })) →
      demux ≡ opened (demux_at nodes number)
  demux-made upper lowers regions demux above below placed made =
      made ∙ ap (λ (r : List Region). opened (new_demux (record { upper = upper; lowers = lowers; regions = r }))) placed
      ∙ ap₂ (λ (u : ℕ) (l : List ℕ). opened (new_demux (record { upper = u; lowers = l; regions = ported_regions nodes (document_node_of nodes number) }))) above below
