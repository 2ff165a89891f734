-- Documents whose plans have known texts.
use Rattle.std.specs.Prelude.{◌≡◌, ◌++◌, None, Some, codes}
use Rattle.elaborate.specs.KnownPlans.{one_page, small}
use Rattle.plan_text.specs.PlanText.{bound_line, plan_link_lines, plan_node_lines, plan_text}

pub record PlanTextsAreKnown : Type 0 where
  -- a manager, a demux with its error subordinate, and a memory
  pub page_text :
      plan_text one_page (Some 54)
      ≡ codes "node 0 manager m\n" ++ codes "node 1 demux d\n" ++ codes "node 2 error d.err\n" ++ codes "node 3 memory ram\n"
      ++ codes "link 0 0 1 axi 4 4 2\n" ++ codes "link 1 1 3 axi 4 4 2\n" ++ codes "link 2 1 2 axi 4 4 2\n" ++ codes "bound 54\n"
  -- two managers, a converter to a wider bus, a crossbar, a remapper, a bridge to AXI4-Lite, and two memories
  pub small_nodes :
      plan_node_lines small
      ≡ codes "node 0 manager cpu\n" ++ codes "node 1 manager dma\n" ++ codes "node 2 up up\n" ++ codes "node 3 demux x.d0\n" ++ codes "node 4 error x.e0\n"
      ++ codes "node 5 demux x.d1\n" ++ codes "node 6 error x.e1\n" ++ codes "node 7 mux x.m0\n" ++ codes "node 8 mux x.m1\n" ++ codes "node 9 remap rm\n"
      ++ codes "node 10 split lb.split\n" ++ codes "node 11 lite lb\n" ++ codes "node 12 memory ram\n" ++ codes "node 13 lite_memory uart\n"
  pub small_links :
      plan_link_lines small
      ≡ codes "link 0 0 3 axi 8 4 2\n" ++ codes "link 1 1 2 axi 4 2 2\n" ++ codes "link 2 2 5 axi 8 2 2\n" ++ codes "link 3 3 7 axi 8 4 2\n"
      ++ codes "link 4 3 8 axi 8 4 2\n" ++ codes "link 5 3 4 axi 8 4 2\n" ++ codes "link 6 5 7 axi 8 2 2\n" ++ codes "link 7 5 8 axi 8 2 2\n"
      ++ codes "link 8 5 6 axi 8 2 2\n" ++ codes "link 9 7 9 axi 8 5 2\n" ++ codes "link 10 8 10 axi 8 5 2\n" ++ codes "link 11 9 12 axi 8 2 2\n"
      ++ codes "link 12 10 11 axi 8 5 2\n" ++ codes "link 13 11 13 lite 8 0 2\n"
  pub no_bound : bound_line None ≡ codes "bound -\n"
