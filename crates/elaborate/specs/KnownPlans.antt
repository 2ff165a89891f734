-- Documents whose plans are known.
use Rattle.std.specs.Prelude.{◌≡◌, ◌++◌, ◌+◌, ◌*◌, ℕ, List, [], ◌∷◌, Bool, false, true, codes, decimal, length, map}
use Rattle.topology.specs.Document.{DocumentNode}
use Rattle.topology.specs.KnownDocuments.{chooses, crossed_ways, manager, memory, region, small_system, two_wide}
use Rattle.topology_text.specs.declared.kind.Kind.TheVariants as kind
use Rattle.elaborate.specs.Path.{path_of, target_of}
use Rattle.elaborate.specs.Plan.{PlanLink, PlanNode, plan_links, plan_nodes}
use Rattle.elaborate.specs.declared.part.Part.{Part}
use Rattle.elaborate.specs.declared.part.Part.TheVariants.{Manager, Memory, LiteMemory, Mux, Demux, Error, Remap, Split, Up, Lite}

-- a document whose links all have room for two beats
abbrev pub of_depth_two : List DocumentNode → List DocumentNode
of_depth_two nodes = map (λ (node : DocumentNode). record node { depth = 2 }) nodes

-- a memory behind a demux that maps its page alone
abbrev pub one_page : List DocumentNode
one_page =
    of_depth_two
    (manager (codes "m") 4 4 (codes "d") ∷ chooses (codes "d") kind.Demux (region 0 4096 (codes "ram") ∷ []) ∷ memory (codes "ram") 4 0 4096 ∷ [])

-- three managers and two memories at a crossbar
abbrev pub three_by_two : List DocumentNode
three_by_two =
    of_depth_two
    (
    manager (codes "a") 4 1 (codes "x") ∷ manager (codes "b") 4 3 (codes "x") ∷ manager (codes "c") 4 2 (codes "x")
    ∷ chooses (codes "x") kind.Crossbar (region 4096 4096 (codes "q") ∷ region 0 4096 (codes "p") ∷ region 8192 4096 (codes "q") ∷ [])
    ∷ memory (codes "p") 4 0 4096 ∷ memory (codes "q") 4 4096 8192 ∷ []
    )

abbrev pub small : List DocumentNode
small = of_depth_two small_system

abbrev pub names : List DocumentNode → List (Part × List ℕ)
names nodes = map (λ (node : PlanNode). (node.part, node.name)) (plan_nodes nodes)

-- of each link: its upper and its lower plan node, whether it speaks AXI4-Lite, the bytes of its bus, the bits of its
-- IDs, and its depth
abbrev pub links : List DocumentNode → List (ℕ × ℕ × Bool × ℕ × ℕ × ℕ)
links nodes = map (λ (link : PlanLink). (link.upper, link.lower, link.link.lite, link.link.bus, link.link.id_width, link.depth)) (plan_links nodes)

pub record PlansAreKnown : Type 0 where
  pub page_nodes : names one_page ≡ (Manager, codes "m") ∷ (Demux, codes "d") ∷ (Error, codes "d.err") ∷ (Memory, codes "ram") ∷ []
  pub page_links : links one_page ≡ (0, 1, false, 4, 4, 2) ∷ (1, 3, false, 4, 4, 2) ∷ (1, 2, false, 4, 4, 2) ∷ []
  pub page_path : path_of one_page 0 0x9000 ≡ 0 ∷ 1 ∷ 2 ∷ []
  pub wide_links : links (of_depth_two two_wide) ≡ (0, 2, false, 4, 15, 2) ∷ (1, 2, false, 4, 15, 2) ∷ (2, 3, false, 4, 16, 2) ∷ []
  pub crossing_path : length (path_of crossed_ways 0 0) ≡ 6
  pub direct_path : length (path_of crossed_ways 0 0x1000) ≡ 4
  pub crossbar_nodes :
      names three_by_two
      ≡ (Manager, codes "a") ∷ (Manager, codes "b") ∷ (Manager, codes "c") ∷ (Demux, codes "x.d" ++ decimal 0) ∷ (Error, codes "x.e" ++ decimal 0)
      ∷ (Demux, codes "x.d" ++ decimal 1) ∷ (Error, codes "x.e" ++ decimal 1) ∷ (Demux, codes "x.d" ++ decimal 2) ∷ (Error, codes "x.e" ++ decimal 2)
      ∷ (Mux, codes "x.m" ++ decimal 0) ∷ (Mux, codes "x.m" ++ decimal 1) ∷ (Memory, codes "p") ∷ (Memory, codes "q") ∷ []
  pub crossbar_links :
      links three_by_two
      ≡ (0, 3, false, 4, 1, 2) ∷ (1, 5, false, 4, 3, 2) ∷ (2, 7, false, 4, 2, 2) ∷ (3, 9, false, 4, 1, 2) ∷ (3, 10, false, 4, 1, 2) ∷ (3, 4, false, 4, 1, 2)
      ∷ (5, 9, false, 4, 3, 2) ∷ (5, 10, false, 4, 3, 2) ∷ (5, 6, false, 4, 3, 2) ∷ (7, 9, false, 4, 2, 2) ∷ (7, 10, false, 4, 2, 2) ∷ (7, 8, false, 4, 2, 2)
      ∷ (9, 12, false, 4, 5, 2) ∷ (10, 11, false, 4, 5, 2) ∷ []
  pub crossbar_path : path_of three_by_two 1 0x2fff ≡ 1 ∷ 5 ∷ 9 ∷ 12 ∷ []
  pub small_nodes :
      names small
      ≡ (Manager, codes "cpu") ∷ (Manager, codes "dma") ∷ (Up, codes "up") ∷ (Demux, codes "x.d" ++ decimal 0) ∷ (Error, codes "x.e" ++ decimal 0)
      ∷ (Demux, codes "x.d" ++ decimal 1) ∷ (Error, codes "x.e" ++ decimal 1) ∷ (Mux, codes "x.m" ++ decimal 0) ∷ (Mux, codes "x.m" ++ decimal 1)
      ∷ (Remap, codes "rm") ∷ (Split, codes "lb.split") ∷ (Lite, codes "lb") ∷ (Memory, codes "ram") ∷ (LiteMemory, codes "uart") ∷ []
  pub small_links :
      links small
      ≡ (0, 3, false, 8, 4, 2) ∷ (1, 2, false, 4, 2, 2) ∷ (2, 5, false, 8, 2, 2) ∷ (3, 7, false, 8, 4, 2) ∷ (3, 8, false, 8, 4, 2) ∷ (3, 4, false, 8, 4, 2)
      ∷ (5, 7, false, 8, 2, 2) ∷ (5, 8, false, 8, 2, 2) ∷ (5, 6, false, 8, 2, 2) ∷ (7, 9, false, 8, 5, 2) ∷ (8, 10, false, 8, 5, 2) ∷ (9, 12, false, 8, 2, 2)
      ∷ (10, 11, false, 8, 5, 2) ∷ (11, 13, true, 8, 0, 2) ∷ []
  -- so that its three transactions of four, one and two beats of at most eight bytes have the bound 222
  pub small_bound : 6 * (4 * length (path_of small 0 0x80000100) + length (path_of small 1 0x10000000) + 2 * length (path_of small 0 0x80000104)) ≡ 222
  pub small_target : target_of small 1 0x10000000 ≡ 13
