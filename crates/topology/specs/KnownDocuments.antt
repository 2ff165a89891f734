-- Documents of which it is known whether they are refused, and why.
use Rattle.std.specs.Prelude.{◌≡◌, ℕ, List, [], ◌∷◌, Some, None, codes}
use Rattle.refusals.specs.declared.cause.Cause.TheVariants.{DuplicateName, UnknownName, FanIn, Loose, Cycle, BadRegion, Overlap, WidthMismatch, IdOverflow, LiteMismatch}
use Rattle.topology.specs.Document.{DocumentNode, NamedRegion, node_of_kind}
use Rattle.topology.specs.Refused.{fault_of}
use Rattle.topology_text.specs.declared.kind.Kind.{Kind}
use Rattle.topology_text.specs.declared.kind.Kind.TheVariants.{Manager, Memory, LiteMemory, Slice, Mux, Demux, Crossbar, Remap, Up, Lite}

-- ---- nodes

abbrev pub manager : List ℕ → ℕ → ℕ → List ℕ → DocumentNode
manager name bus id_width to = record (node_of_kind name Manager) { bus = bus; id_width = id_width; to = to }

abbrev pub memory : List ℕ → ℕ → ℕ → ℕ → DocumentNode
memory name bus base size = record (node_of_kind name Memory) { bus = bus; base = base; size = size }

abbrev pub lite_memory : List ℕ → ℕ → ℕ → DocumentNode
lite_memory name base size = record (node_of_kind name LiteMemory) { base = base; size = size }

-- a node of a kind with one node below it
abbrev pub passes : List ℕ → Kind → List ℕ → DocumentNode
passes name kind to = record (node_of_kind name kind) { to = to }

abbrev pub of_bus : ℕ → DocumentNode → DocumentNode
of_bus bus node = record node { bus = bus }

abbrev pub of_id_width : ℕ → DocumentNode → DocumentNode
of_id_width id_width node = record node { id_width = id_width }

abbrev pub region : ℕ → ℕ → List ℕ → NamedRegion
region base size to = record { base = base; size = size; to = to }

abbrev pub chooses : List ℕ → Kind → List NamedRegion → DocumentNode
chooses name kind regions = record (node_of_kind name kind) { region = regions }

-- ---- documents

-- a manager, and a memory of two pages
abbrev pub a_pair : List DocumentNode
a_pair = manager (codes "m") 4 4 (codes "ram") ∷ memory (codes "ram") 4 0 8192 ∷ []

-- the same, with two slices that name each other
abbrev pub a_ring : List DocumentNode
a_ring =
    manager (codes "m") 4 4 (codes "ram") ∷ memory (codes "ram") 4 0 8192 ∷ passes (codes "s1") Slice (codes "s2") ∷ passes (codes "s2") Slice (codes "s1")
    ∷ []

-- a demux over two memories, the first of whose regions has this size
abbrev pub two_memories : ℕ → List DocumentNode
two_memories size =
    manager (codes "m") 4 1 (codes "d") ∷ chooses (codes "d") Demux (region 0 size (codes "p") ∷ region 4096 4096 (codes "q") ∷ [])
    ∷ memory (codes "p") 4 0 4096 ∷ memory (codes "q") 4 4096 4096 ∷ []

-- two managers whose ways to two memories cross, each way with slices
abbrev pub crossed_ways : List DocumentNode
crossed_ways =
    manager (codes "a") 4 1 (codes "da") ∷ manager (codes "b") 4 1 (codes "db")
    ∷ chooses (codes "da") Demux (region 0 4096 (codes "s1") ∷ region 4096 4096 (codes "mq") ∷ [])
    ∷ chooses (codes "db") Demux (region 0 4096 (codes "mp") ∷ region 4096 4096 (codes "s3") ∷ [])
    ∷ passes (codes "s1") Slice (codes "s2") ∷ passes (codes "s2") Slice (codes "mp") ∷ passes (codes "s3") Slice (codes "s4")
    ∷ passes (codes "s4") Slice (codes "mq") ∷ passes (codes "mp") Mux (codes "p") ∷ passes (codes "mq") Mux (codes "q")
    ∷ memory (codes "p") 4 0 4096 ∷ memory (codes "q") 4 4096 4096 ∷ []

-- two, and three, managers of 15 bits of ID at one mux
abbrev pub two_wide : List DocumentNode
two_wide =
    manager (codes "a") 4 15 (codes "x") ∷ manager (codes "b") 4 15 (codes "x") ∷ passes (codes "x") Mux (codes "ram") ∷ memory (codes "ram") 4 0 4096 ∷ []

abbrev pub three_wide : List DocumentNode
three_wide =
    manager (codes "a") 4 15 (codes "x") ∷ manager (codes "b") 4 15 (codes "x") ∷ manager (codes "c") 4 15 (codes "x")
    ∷ passes (codes "x") Mux (codes "ram") ∷ memory (codes "ram") 4 0 4096 ∷ []

-- a small system of nearly all kinds
abbrev pub small_system : List DocumentNode
small_system =
    manager (codes "cpu") 8 4 (codes "x") ∷ manager (codes "dma") 4 2 (codes "up") ∷ of_bus 8 (passes (codes "up") Up (codes "x"))
    ∷ chooses (codes "x") Crossbar (region 0x80000000 0x100000 (codes "rm") ∷ region 0x10000000 0x1000 (codes "lb") ∷ [])
    ∷ of_id_width 2 (passes (codes "rm") Remap (codes "ram")) ∷ passes (codes "lb") Lite (codes "uart")
    ∷ memory (codes "ram") 8 0x80000000 0x100000 ∷ lite_memory (codes "uart") 0x10000000 0x1000 ∷ []

-- the pair, with a node between or behind
abbrev pub with_slice : List ℕ → List ℕ → List DocumentNode
with_slice name to =
    manager (codes "m") 4 4 (codes "s") ∷ passes name Slice to ∷ memory (codes "ram") 4 0 8192 ∷ []

-- the pair with a memory of this bus
abbrev pub memory_bus : ℕ → List DocumentNode
memory_bus bus = manager (codes "m") 4 4 (codes "ram") ∷ memory (codes "ram") bus 0 8192 ∷ []

-- two managers at one slice, and a Lite bridge on this bus that leads to a memory of this kind
abbrev pub two_at_slice : List DocumentNode
two_at_slice =
    manager (codes "m") 4 4 (codes "s") ∷ manager (codes "n") 4 4 (codes "s") ∷ passes (codes "s") Slice (codes "ram") ∷ memory (codes "ram") 4 0 8192 ∷ []

abbrev pub bridged : ℕ → DocumentNode → List DocumentNode
bridged bus last = manager (codes "m") bus 4 (codes "lb") ∷ passes (codes "lb") Lite (codes "end") ∷ last ∷ []

pub record DocumentsAreKnown : Type 0 where
  pub pair : fault_of a_pair ≡ None
  pub ring : fault_of a_ring ≡ Some (Cycle, 2)
  pub touching : fault_of (two_memories 4096) ≡ None
  pub overlapping : fault_of (two_memories 8192) ≡ Some (Overlap, 1)
  pub half_page : fault_of (two_memories 2048) ≡ Some (BadRegion, 1)
  pub crossed : fault_of crossed_ways ≡ None
  pub wide : fault_of two_wide ≡ None
  pub too_wide : fault_of three_wide ≡ Some (IdOverflow, 3)
  pub system : fault_of small_system ≡ None
  pub slice : fault_of (with_slice (codes "s") (codes "ram")) ≡ None
  pub twice : fault_of (with_slice (codes "m") (codes "ram")) ≡ Some (DuplicateName, 1)
  pub unknown : fault_of (with_slice (codes "s") (codes "rom")) ≡ Some (UnknownName, 1)
  pub above_manager : fault_of (with_slice (codes "s") (codes "m")) ≡ Some (FanIn, 0)
  pub two_above : fault_of two_at_slice ≡ Some (FanIn, 2)
  pub loose : fault_of (manager (codes "m") 4 4 (codes "ram") ∷ memory (codes "ram") 4 0 8192 ∷ memory (codes "rom") 4 0 8192 ∷ []) ≡ Some (Loose, 2)
  pub bus : fault_of (memory_bus 8) ≡ Some (WidthMismatch, 1)
  pub bridge : fault_of (bridged 8 (lite_memory (codes "end") 0 4096)) ≡ None
  pub wide_bridge : fault_of (bridged 16 (lite_memory (codes "end") 0 4096)) ≡ Some (LiteMismatch, 1)
  pub no_lite_memory : fault_of (bridged 4 (memory (codes "end") 4 0 4096)) ≡ Some (LiteMismatch, 2)
