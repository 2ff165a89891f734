-- How a network is kept.
use Rattle.std.specs.Prelude.{◌≡◌, ◌<◌, ◌-◌, ◌^◌, length, map, true}
use Rattle.net_steps.specs.Calls.{acts, offers_of}
use Rattle.net_steps.specs.NetView.{NetView}
use Rattle.net_steps.specs.Unfinished.{unfinished_in}
use Rattle.net_steps.specs.declared.net.Net.TheInside.{Inside}

abbrev pub net_view : Inside → NetView
net_view n = record {
  nodes = n.nodes.items;
  links = n.links.items;
  queues = n.queues.items;
  rounds = n.rounds;
  decided = n.decided;
}

-- its counts fit their types, each link has its queue, those that wait for answers are counted, of each node it is noted
-- whether it acts, and of each link what it offers
pub record IsNet (n : Inside) : Type 0 where
  pub few_nodes : length n.nodes.items < 2 ^ 32
  pub few_links : length n.links.items < 2 ^ 32
  pub long : length n.queues.items ≡ length n.links.items
  pub counted : n.rounds < 2 ^ 63
  pub begun : n.decided ≡ true → n.rounds < 2 ^ 63 - 1
  pub acting : n.acting.items ≡ map acts n.nodes.items
  pub offers : n.offers.items ≡ map offers_of n.queues.items
  pub seen : length n.seen.items ≡ length n.nodes.items
  pub unfinished : n.unfinished ≡ unfinished_in n.nodes.items
