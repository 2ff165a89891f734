-- The network of the known run can be run, and what is due of its transactions.
use Rattle.std.proofs.Common.{◌≡◌, ◌<◌, ◌≤◌, ◌∷◌, [], refl, arith, inl}
use Rattle.std.proofs.lemmas.List.Elements.{All-from_recursion, All-nil}
use Rattle.elaborate.specs.Path.{path_from}
use Rattle.manager_node.specs.declared.script.WriteByte.{WriteByte}
use Rattle.net_due.specs.KnownRuns.{other_burst, read_back, three_bursts, three_transactions, two_ways, two_writes}
use Rattle.net_kinds.specs.NodeKind.{node_kind}
use Rattle.net_opening.specs.Opening.{opening}
use Rattle.net_opening.specs.PlanLinks.{form_of_link}
use Rattle.net_plan.proofs.OpeningSound.{openings-are_sound}
use Rattle.net_plan.specs.PlanLaws.{CanRun}
use Rattle.net_ways.specs.Sound.{IsSound}
use Rattle.node_graph.specs.Graph.{handed_in, has_way, numbers}
use Rattle.plan_traffic.specs.Accepted.{AreInOrder, IsTraffic, Suits}
use Rattle.plan_traffic.specs.Due.{transactions_due}
use Rattle.topology.specs.Document.{node_at}
use Rattle.topology_text.specs.Form.{table_form}
use Rattle.topology_text.specs.Formed.{AreDelays, AreFormed, IsFormed}

-- one delay of no rounds
no-delay : AreDelays (0 ∷ [])
no-delay = record { some = omega arith; few = omega arith; short = All-from_recursion (λ delay. delay ≤ 63) (0 ∷ []) (omega arith, tt) }

formed-a : IsFormed (node_at two_ways 0)
unfolding table_form
formed-a = record {
  name = refl;
  to = omega arith;
  region = refl;
  bus = (omega arith, omega arith);
  bus_is_width = refl;
  id_width = (omega arith, omega arith);
  depth = (omega arith, omega arith);
  base = refl;
  size = refl;
  fill = refl;
  read_only = refl;
  hole = refl;
  accept = no-delay;
  give = no-delay;
}

formed-b : IsFormed (node_at two_ways 1)
unfolding table_form
formed-b = record {
  name = refl;
  to = omega arith;
  region = refl;
  bus = (omega arith, omega arith);
  bus_is_width = refl;
  id_width = (omega arith, omega arith);
  depth = (omega arith, omega arith);
  base = refl;
  size = refl;
  fill = refl;
  read_only = refl;
  hole = refl;
  accept = no-delay;
  give = no-delay;
}

formed-s : IsFormed (node_at two_ways 2)
unfolding table_form
formed-s = record {
  name = refl;
  to = omega arith;
  region = refl;
  bus = refl;
  bus_is_width = refl;
  id_width = refl;
  depth = (omega arith, omega arith);
  base = refl;
  size = refl;
  fill = refl;
  read_only = refl;
  hole = refl;
  accept = refl;
  give = refl;
}

formed-p : IsFormed (node_at two_ways 3)
unfolding table_form
formed-p = record {
  name = refl;
  to = refl;
  region = refl;
  bus = (omega arith, omega arith);
  bus_is_width = refl;
  id_width = refl;
  depth = refl;
  base = (omega arith, omega arith);
  size = (omega arith, omega arith);
  fill = (omega arith, omega arith);
  read_only = tt;
  hole = tt;
  accept = no-delay;
  give = no-delay;
}

formed-q : IsFormed (node_at two_ways 4)
unfolding table_form
formed-q = record {
  name = refl;
  to = refl;
  region = refl;
  bus = (omega arith, omega arith);
  bus_is_width = refl;
  id_width = refl;
  depth = refl;
  base = (omega arith, omega arith);
  size = (omega arith, omega arith);
  fill = (omega arith, omega arith);
  read_only = tt;
  hole = tt;
  accept = no-delay;
  give = no-delay;
}

ways-formed : AreFormed two_ways
ways-formed = All-from_recursion IsFormed two_ways (formed-a, (formed-b, (formed-s, (formed-p, (formed-q, tt)))))

ways-can_run : CanRun two_ways
unfolding handed_in has_way numbers
ways-can_run = record { formed = ways-formed; accepted = refl; built = refl }

-- ---- the traffic

abbrev IsByte : WriteByte → Type 0
IsByte byte = byte.value < 256

suits-writes : Suits two_ways two_writes
suits-writes = record {
  node = node_at two_ways 0;
  is_node = refl;
  manager = refl;
  id = omega arith;
  legal = refl;
  legal_on_widest = refl;
  addr = omega arith;
  untagged = refl;
  bytes = refl;
  values = All-from_recursion IsByte two_writes.bytes (omega arith, (omega arith, tt));
}

suits-read : Suits two_ways read_back
suits-read = record {
  node = node_at two_ways 0;
  is_node = refl;
  manager = refl;
  id = omega arith;
  legal = refl;
  legal_on_widest = refl;
  addr = omega arith;
  untagged = refl;
  bytes = refl;
  values = All-nil IsByte;
}

suits-other : Suits two_ways other_burst
suits-other = record {
  node = node_at two_ways 1;
  is_node = refl;
  manager = refl;
  id = omega arith;
  legal = refl;
  legal_on_widest = refl;
  addr = omega arith;
  untagged = refl;
  bytes = refl;
  values = All-nil IsByte;
}

bursts-in_order : AreInOrder [] three_bursts
bursts-in_order = (
  record { number = refl; within = omega arith; after = inl refl },
  (record { number = refl; within = omega arith; after = inl refl }, (record { number = refl; within = omega arith; after = inl refl }, tt)),
)

bursts-are_traffic : IsTraffic two_ways three_bursts
bursts-are_traffic = record {
  suit = All-from_recursion (Suits two_ways) three_bursts (suits-writes, (suits-read, (suits-other, tt)));
  in_order = bursts-in_order;
  transactions = omega arith;
  beats = omega arith;
}

pub ways-sound : IsSound node_kind (opening two_ways three_bursts) (form_of_link two_ways)
ways-sound = openings-are_sound two_ways three_bursts ways-can_run bursts-are_traffic

pub ways-due : transactions_due two_ways three_bursts ≡ three_transactions
unfolding numbers path_from
ways-due = refl
