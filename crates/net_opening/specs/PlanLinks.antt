-- The links of a plan, as those of a network.
use Rattle.std.specs.Prelude.{◌==◌, ◌||◌, ℕ, List, Bool, true, false, filter, length, slice_index_or}
use Rattle.axi_link.specs.LinkView.{LinkView, empty_link}
use Rattle.elaborate.specs.Plan.{plan_link_at, plan_links, plan_node_at}
use Rattle.elaborate.specs.declared.link.PlanLink.{PlanLink}
use Rattle.elaborate.specs.declared.part.Part.{Part}
use Rattle.elaborate.specs.declared.part.Part.TheVariants as part
use Rattle.net_model.specs.declared.net_link.NetLink.{NetLink}
use Rattle.node_graph.specs.Graph.{numbers}
use Rattle.node_shape.specs.LinkForm.{LinkForm}
use Rattle.topology.specs.Document.{DocumentNode}

abbrev pub net_link_of : PlanLink → NetLink
net_link_of link = record {
  upper = link.upper;
  lower = link.lower;
  lite = link.link.lite;
  bus = link.link.bus;
  id_width = link.link.id_width;
  depth = link.depth;
}

-- before the first round nothing waits on a link
abbrev pub queue_of : PlanLink → LinkView
queue_of link = empty_link link.depth

module _ (nodes : List DocumentNode) where
  abbrev pub link_numbers : List ℕ
  link_numbers = numbers (length (plan_links nodes))

  -- the numbers of the links above a plan node, upwards: the inputs of a mux
  abbrev pub links_into : ℕ → List ℕ
  links_into number = filter (λ link. (plan_link_at nodes link).lower == number) link_numbers

  -- and those below it: the ports of a demux
  abbrev pub links_out_of : ℕ → List ℕ
  links_out_of number = filter (λ link. (plan_link_at nodes link).upper == number) link_numbers

  -- where there is one
  abbrev pub link_into : ℕ → ℕ
  link_into number = slice_index_or (links_into number) 0 0

  abbrev pub link_out_of : ℕ → ℕ
  link_out_of number = slice_index_or (links_out_of number) 0 0

-- ---- forms

-- a splitter cuts bursts into single beats
abbrev pub cuts_bursts : Part → Bool
cuts_bursts part.Split = true
cuts_bursts other = false

-- the form of a link: each burst on it has one beat where it speaks AXI4-Lite, and below a splitter
abbrev pub form_of_link : List DocumentNode → ℕ → LinkForm
form_of_link nodes number = record {
  lite = (plan_link_at nodes number).link.lite;
  bus = (plan_link_at nodes number).link.bus;
  id_width = (plan_link_at nodes number).link.id_width;
  single = (plan_link_at nodes number).link.lite || cuts_bursts (plan_node_at nodes (plan_link_at nodes number).upper).part;
}
