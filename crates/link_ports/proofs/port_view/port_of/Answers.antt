-- Each of the five channels is shown as its definition says.
use Rattle.std.proofs.Common.{◌≡◌, [], ◌∷◌, List, Bool, Option, refl, ap₂, ◌∙◌}
use Rattle.std.specs.Prelude.{option_map, slice_get}
use Rattle.axi_history.specs.declared.port.Seen.{Seen}
use Rattle.axi_link.specs.Moves.{takes_from}
use Rattle.link_ports.specs.PortView.{seen_address, seen_itself, seen_read_beat, seen_response, channel_seen}
use Rattle.link_ports.proofs.port_view.port_of.Goals as goal

-- what a channel shows is its head
head-shown : {X Y : Type 0} (f : X → Y) (takes : Bool) (queue : List X) → option_map (λ x. record { beat = f x; taken = takes }) (slice_get queue 0) ≡ channel_seen f takes queue
head-shown f takes [] = refl
head-shown f takes (x ∷ queue) = refl

channel :
    {X Y : Type 0} (f : X → Y) (took takes : Bool) (queue : List X) (head : Option X) (seen : Option (Seen Y)) →
    seen ≡ option_map (λ x. record { beat = f x; taken = took }) head → head ≡ slice_get queue 0 → took ≡ takes → seen ≡ channel_seen f takes queue
channel f took takes queue head seen is head_is took_is =
    is ∙ ap₂ (λ (t : Bool) (o : Option _). option_map (λ x. record { beat = f x; taken = t }) o) took_is head_is ∙ head-shown f takes queue

pub returns : goal.returns
returns c =
    let link = c.args.link.now in
    let number = c.args.number in
    let aw = channel seen_address _ (takes_from number c.args.lower.now.aw_take) link.aw _ _ c.address_shown.ensures c.head_aw.ensures c.takes_from.ensures in
    let w = channel seen_itself _ (takes_from number c.args.lower.now.w_take) link.w _ _ c.data_shown.ensures c.head_w.ensures c.takes_from-2.ensures in
    let b = channel seen_response _ (takes_from number c.args.upper.now.b_take) link.b _ _ c.response_shown.ensures c.head_b.ensures c.takes_from-3.ensures in
    let ar = channel seen_address _ (takes_from number c.args.lower.now.ar_take) link.ar _ _ c.address_shown-2.ensures c.head_ar.ensures c.takes_from-4.ensures in
    let r = channel seen_read_beat _ (takes_from number c.args.upper.now.r_take) link.r _ _ c.read_beat_shown.ensures c.head_r.ensures c.takes_from-5.ensures in
    cc
