-- The ways of transactions through a network: from the node where one starts, link by link, to the node where it ends, from
-- where its responses come back. So it is told what each link has to carry.
use Rattle.std.specs.Prelude.{◌==◌, ◌&&◌, ◌∷◌, [], ℕ, zero, suc, Bool, true, false, List, Option, Some, None, find, flat_map, length, slice_get, unwrap_or}
use Rattle.std.specs.Prelude.{if◌then◌else◌}
use Rattle.std.specs.Bool.{beq}
use Rattle.std.specs.Option.{option_and_then, option_map_or}
use Rattle.axi_beats.specs.declared.response.Resp.{Resp}
use Rattle.axi_trail.specs.Schedule.{Schedule, Share, no_share}
use Rattle.net_model.specs.Network.{Network, lower_node}
use Rattle.node_core.specs.Acted.{Acted}
use Rattle.node_shape.specs.Kind.{Kind}
use Rattle.node_shape.specs.LinkForm.{LinkForm}
use Rattle.node_shape.specs.Way.{Origin, Way, onto, start_here, with_responses}

-- one link of a way, and what it carries of the transaction
pub record Hop : Type 0 where
  pub link : ℕ
  pub share : Share

-- what a link carries, by the hops of a way
abbrev pub share_on : ℕ → List Hop → Option Share
share_on link [] = None
share_on link (hop ∷ hops) = if hop.link == link then Some hop.share else share_on link hops

-- the responses that come back from the hops that follow
abbrev pub responses_from : List Hop → List Resp
responses_from [] = []
responses_from (hop ∷ hops) = hop.share.responses

-- where the node below a link ends the transaction: the responses are its own
abbrev pub hop_at_end : Way → Bool → ℕ → Share → Hop
hop_at_end way write link share = record { link = link; share = with_responses share (way.ends write share) }

-- where it sends it on: the responses are made of those that come back
abbrev pub hop_before : Way → Bool → ℕ → Share → List Hop → Hop
hop_before way write link share rest = record { link = link; share = with_responses share (way.merged write share (responses_from rest)) }

abbrev pub is_origin : Bool → ℕ → Origin → Bool
is_origin write number origin = beq origin.write write && origin.number == number

module _ {S E : Type 0} (kind : Kind S E) where
  -- all transactions that start at these nodes
  abbrev pub origins_in : List (Acted S) → List Origin
  origins_in nodes = flat_map (λ (node : Acted S). (kind.way node.state).origins) nodes

  -- the part in the ways of the node of a number; nothing comes by where there is none
  abbrev pub way_at : List (Acted S) → ℕ → Way
  way_at nodes number = option_map_or (λ (node : Acted S). kind.way node.state) (slice_get nodes number) (start_here [])

  module _ (net : Network S) where
    -- the node below a link
    abbrev pub way_below : ℕ → Way
    way_below link = way_at net.nodes (lower_node net.links link)

    -- the way from a link on that carries this, of so many links at most
    unfoldable pub way_from : Bool → ℕ → ℕ → Share → List Hop
    way_from write zero link share = []
    way_from write (suc left) link share =
        option_map_or
        (λ next. hop_before (way_below link) write link share (way_from write left next (onto next ((way_below link).cut share)))
        ∷ way_from write left next (onto next ((way_below link).cut share)))
        ((way_below link).goes_on share) (hop_at_end (way_below link) write link share ∷ [])

    -- the way of a transaction from where it starts: no way has more links than there are nodes
    abbrev pub way_of : Origin → List Hop
    way_of origin = way_from origin.write (suc (length net.nodes)) origin.link origin.share

    -- what a link carries of the transaction of a number in one direction, where it comes by
    abbrev pub carried : Bool → ℕ → ℕ → Option Share
    carried write link number = option_and_then (λ origin. share_on link (way_of origin)) (find (is_origin write number) (origins_in net.nodes))

    -- what each link has to carry, where the links have these forms
    abbrev pub schedules_of : (ℕ → LinkForm) → ℕ → Schedule
    schedules_of forms link = record {
      id_width = (forms link).id_width;
      writes = λ number. unwrap_or (carried true link number) no_share;
      reads = λ number. unwrap_or (carried false link number) no_share;
    }
