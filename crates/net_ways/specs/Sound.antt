-- Networks that can be run.
use Rattle.std.specs.Prelude.{◌≡◌, ◌<◌, ℕ, Contains, IfSome, length, slice_get}
use Rattle.net_model.specs.Network.{Network, net_link}
use Rattle.net_model.specs.Wired.{IsWired}
use Rattle.net_model.specs.declared.net_link.NetLink.{NetLink}
use Rattle.net_ways.specs.Ways.{origins_in, schedules_of}
use Rattle.node_core.specs.Acted.{Acted}
use Rattle.node_shape.specs.Kind.{Kind}
use Rattle.node_shape.specs.LinkForm.{LinkForm}
use Rattle.node_shape.specs.Way.{Origin}

-- a form tells of a link what its record tells
pub record IsFormOf (link : NetLink) (form : LinkForm) : Type 0 where
  pub lite : form.lite ≡ link.lite
  pub bus : form.bus ≡ link.bus
  pub id_width : form.id_width ≡ link.id_width

-- A network that can be run, whose links have these forms: it is wired, its nodes are new, each node's links are as its kind
-- wants them, and each transaction has its own number.
pub record IsSound {S E : Type 0} (kind : Kind S E) (net : Network S) (forms : ℕ → LinkForm) : Type 0 where
  pub wired : IsWired kind net
  pub formed : (link : ℕ) → link < length net.links → IsFormOf (net_link net.links link) (forms link)
  pub begins : (node : ℕ) → IfSome (slice_get net.nodes node) (λ (a : Acted S). kind.begins a.state)
  pub nodes : (node : ℕ) → IfSome (slice_get net.nodes node) (λ (a : Acted S). kind.is_sound forms (schedules_of kind net forms) a.state)
  pub once :
      (one other : Origin) → Contains (origins_in kind net.nodes) one → Contains (origins_in kind net.nodes) other → one.number ≡ other.number →
      one ≡ other
