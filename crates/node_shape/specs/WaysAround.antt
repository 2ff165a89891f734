-- What the links around a node carry of the transactions of a network.
use Rattle.std.specs.Prelude.{◌≡◌, ◌⊎◌, ◌∷◌, ℕ, Bool, true, false, List, All, Contains, None, Option, Some, slice_get, unwrap_or}
use Rattle.axi_beats.specs.declared.response.Resp.{Resp}
use Rattle.axi_trail.specs.Schedule.{Schedule, Share, no_share}
use Rattle.node_shape.specs.LinkForm.{ArePartsOf, FitsLink, IsAlike, LinkForm}
use Rattle.node_shape.specs.Way.{IsSentOn, Origin, Way, onto, with_responses}

-- no number stands at two places
abbrev pub AreApart : List ℕ → Type 0
AreApart numbers = (i j number : ℕ) → slice_get numbers i ≡ Some number → slice_get numbers j ≡ Some number → i ≡ j

-- The transactions of one direction, by number: `carried link number` is what a link carries of one, where it comes by.
module _ (way : Way) (uppers : List ℕ) (write : Bool) (carried : ℕ → ℕ → Option Share) where
  -- it starts here, and leaves by this link
  pub record StartsBy (lower number : ℕ) : Type 0 where
    pub origin : Origin
    pub among : Contains way.origins origin
    pub same_number : origin.number ≡ number
    pub same_direction : origin.write ≡ write
    pub same_link : origin.link ≡ lower
    pub responses : List Resp
    pub below : carried lower number ≡ Some (with_responses origin.share responses)

  -- it comes by a link above the node, and goes on by this one
  pub record GoesOnBy (lower number : ℕ) : Type 0 where
    pub input : ℕ
    pub link : ℕ
    pub share : Share
    pub at_input : slice_get uppers input ≡ Some link
    pub above : carried link number ≡ Some share
    pub goes_on : way.goes_on share ≡ Some lower
    pub sent_share : Share
    pub below : carried lower number ≡ Some sent_share
    pub sent : IsSentOn way write lower share sent_share

  -- it does neither, and this link doesn't carry it
  pub record StaysOff (lower number : ℕ) : Type 0 where
    pub below : carried lower number ≡ None
    pub no_origin : (origin : Origin) → Contains way.origins origin → origin.number ≡ number → origin.write ≡ write → origin.link ≡ lower → ⊥
    pub none_goes_on : (input link : ℕ) (share : Share) → slice_get uppers input ≡ Some link → carried link number ≡ Some share → way.goes_on share ≡ Some lower → ⊥

-- what a link carries of a transaction is legal on it, lies in one page, and has a chain that begins with the link
pub record IsCarried (form : LinkForm) (write : Bool) (link : ℕ) (share : Share) : Type 0 where
  pub fits : FitsLink form write share
  pub page : ℕ
  pub in_page : ArePartsOf page share.parts
  pub before : List ℕ
  pub chain : share.chain ≡ link ∷ before

-- what a link carries as it is, a link of the same form can carry
abbrev pub AlikeCarries : Type 0
AlikeCarries =
    (form other : LinkForm) → IsAlike form other → (write : Bool) (link next : ℕ) (share : Share) → IsCarried form write link share →
    IsCarried other write next (onto next share)

-- Each transaction comes to a node by one link at most, and goes on by the one that the node sends it on by; where it
-- ends, the responses are the node's own.
pub record WaysThrough (way : Way) (uppers lowers : List ℕ) (forms : ℕ → LinkForm) (write : Bool) (carried : ℕ → ℕ → Option Share) : Type 0 where
  pub one_way_in :
      (number i j one other : ℕ) (x y : Share) → slice_get uppers i ≡ Some one → slice_get uppers j ≡ Some other → carried one number ≡ Some x →
      carried other number ≡ Some y → i ≡ j
  pub out :
      (lower number : ℕ) → Contains lowers lower →
      StartsBy way uppers write carried lower number ⊎ (GoesOnBy way uppers write carried lower number ⊎ StaysOff way uppers write carried lower number)
  pub ends : (link number : ℕ) (share : Share) → Contains uppers link → carried link number ≡ Some share → way.goes_on share ≡ None → share.responses ≡ way.ends write share
  pub above : (link number : ℕ) (share : Share) → Contains uppers link → carried link number ≡ Some share → IsCarried (forms link) write link share
  pub below : (link number : ℕ) (share : Share) → Contains lowers link → carried link number ≡ Some share → IsCarried (forms link) write link share

-- The links around a node, and their schedules: it names no link twice, and what the links carry has its way through it.
pub record WaysAround (way : Way) (uppers lowers : List ℕ) (forms : ℕ → LinkForm) (schedules : ℕ → Schedule) : Type 0 where
  pub uppers_apart : AreApart uppers
  pub lowers_apart : AreApart lowers
  pub widths_above : All (λ link. (schedules link).id_width ≡ (forms link).id_width) uppers
  pub widths_below : All (λ link. (schedules link).id_width ≡ (forms link).id_width) lowers
  pub carried_writes : ℕ → ℕ → Option Share
  pub carried_reads : ℕ → ℕ → Option Share
  pub writes_are : (link number : ℕ) → (schedules link).writes number ≡ unwrap_or (carried_writes link number) no_share
  pub reads_are : (link number : ℕ) → (schedules link).reads number ≡ unwrap_or (carried_reads link number) no_share
  pub writes : WaysThrough way uppers lowers forms true carried_writes
  pub reads : WaysThrough way uppers lowers forms false carried_reads
