-- What the rows of the code are of the table.
use Rattle.std.proofs.Common.{◌≡◌, ◌<◌, ◌≤◌, ◌&&◌, ℕ, Bool, true, false, List, Option, length, map, refl, ◌∙◌, ap, ap₂, arith}
use Rattle.std.specs.Prelude.{IsTrue, is_some}
use Rattle.std.proofs.lemmas.Bool.{ltb-true}
use Rattle.std.proofs.lemmas.List.{length-map}
use Rattle.axi_beats.specs.declared.beat.Addr.{Addr}
use Rattle.axi_beats.specs.declared.beat.BBeat.{BBeat}
use Rattle.axi_beats.specs.declared.beat.RBeat.{RBeat}
use Rattle.axi_beats.specs.declared.beat.WBeat.{WBeat}
use Rattle.axi_link.specs.LinkView.{LinkView}
use Rattle.axi_link.specs.LinkWords.{has_room, head_of, link_of}
use Rattle.axi_link.specs.declared.out.Out.{Out}
use Rattle.axi_trail.specs.Waiting.{Waiting}
use Rattle.node_core.specs.Rows.{beat_where, fits}
use Rattle.up_node.specs.UpInside.{waiting_of}
use Rattle.up_node.specs.UpTable.{data_moved, read_data_moved}
use Rattle.up_node.specs.declared.passing.Passing.{Passing}
use Rattle.up_node.specs.declared.shape.UpShape.{UpShape}

-- where a further entry fits, it still does when none was added
pub fits-still : (before after : List Passing) (room : Bool) (head : Option Addr) → IsTrue (is_some (beat_where (fits (map waiting_of before) && room) head)) →
    length (map waiting_of after) ≤ length (map waiting_of before) → length after < 16
fits-still before after room head some fewer = go (fits (map waiting_of before)) refl room head some
  where
    go : (fit : Bool) → fits (map waiting_of before) ≡ fit → (room : Bool) (head : Option Addr) → IsTrue (is_some (beat_where (fit && room) head)) → length after < 16
    go true is room head some = let less = ltb-true (length (map waiting_of before)) 16 is in omega (arith, less, fewer, length-map after waiting_of)
    go false is room head some = absurd (cc)

module _ (links : List LinkView) (upper lower : ℕ) {above below : LinkView} where
  pub address-is : (queue_of : LinkView → List Addr) (entries : List (Waiting Addr)) {room : Bool} {head : Option Addr} → above ≡ link_of links upper → below ≡ link_of links lower →
      room ≡ has_room below.depth (queue_of below) → head ≡ head_of (queue_of above) →
      beat_where (fits entries && room) head ≡ beat_where (fits entries && has_room (link_of links lower).depth (queue_of (link_of links lower))) (head_of (queue_of (link_of links upper)))
  address-is queue_of entries here there roomy first =
      ap₂ (λ (b : Bool) (o : Option Addr). beat_where (fits entries && b) o) (roomy ∙ ap (λ (l : LinkView). has_room l.depth (queue_of l)) there) (first ∙ ap (λ (l : LinkView). head_of (queue_of l)) here)

  pub response-is : {room : Bool} {head : Option BBeat} → above ≡ link_of links upper → below ≡ link_of links lower → room ≡ has_room above.depth above.b → head ≡ head_of below.b →
      beat_where room head ≡ beat_where (has_room (link_of links upper).depth (link_of links upper).b) (head_of (link_of links lower).b)
  response-is here there roomy first =
      ap₂ (λ (b : Bool) (o : Option BBeat). beat_where b o) (roomy ∙ ap (λ (l : LinkView). has_room l.depth l.b) here) (first ∙ ap (λ (l : LinkView). head_of l.b) there)

  pub data-is : (shape : UpShape) (entries : List (Waiting Addr)) {room : Bool} {head : Option WBeat} → above ≡ link_of links upper → below ≡ link_of links lower →
      room ≡ has_room below.depth below.w → head ≡ head_of above.w →
      data_moved shape room head entries ≡ data_moved shape (has_room (link_of links lower).depth (link_of links lower).w) (head_of (link_of links upper).w) entries
  data-is shape entries here there roomy first =
      ap₂ (λ (b : Bool) (o : Option WBeat). data_moved shape b o entries) (roomy ∙ ap (λ (l : LinkView). has_room l.depth l.w) there) (first ∙ ap (λ (l : LinkView). head_of l.w) here)

  pub read_data-is : (shape : UpShape) (entries : List (Waiting Addr)) {room : Bool} {head : Option RBeat} → above ≡ link_of links upper → below ≡ link_of links lower →
      room ≡ has_room above.depth above.r → head ≡ head_of below.r →
      read_data_moved shape room head entries ≡ read_data_moved shape (has_room (link_of links upper).depth (link_of links upper).r) (head_of (link_of links lower).r) entries
  read_data-is shape entries here there roomy first =
      ap₂ (λ (b : Bool) (o : Option RBeat). read_data_moved shape b o entries) (roomy ∙ ap (λ (l : LinkView). has_room l.depth l.r) here) (first ∙ ap (λ (l : LinkView). head_of l.r) there)

-- moves that are equal channel by channel
pub out-is : (x y : Out) → x.aw_take ≡ y.aw_take → x.aw_put ≡ y.aw_put → x.w_take ≡ y.w_take → x.w_put ≡ y.w_put → x.b_take ≡ y.b_take → x.b_put ≡ y.b_put →
    x.ar_take ≡ y.ar_take → x.ar_put ≡ y.ar_put → x.r_take ≡ y.r_take → x.r_put ≡ y.r_put → x ≡ y
out-is x y aw_take aw_put w_take w_put b_take b_put ar_take ar_put r_take r_put =
    ap₂ (λ t p. record { aw_take = t; aw_put = p; w_take = x.w_take; w_put = x.w_put; b_take = x.b_take; b_put = x.b_put; ar_take = x.ar_take; ar_put = x.ar_put; r_take = x.r_take; r_put = x.r_put }) aw_take aw_put
    ∙ ap₂ (λ t p. record { aw_take = y.aw_take; aw_put = y.aw_put; w_take = t; w_put = p; b_take = x.b_take; b_put = x.b_put; ar_take = x.ar_take; ar_put = x.ar_put; r_take = x.r_take; r_put = x.r_put }) w_take w_put
    ∙ ap₂ (λ t p. record { aw_take = y.aw_take; aw_put = y.aw_put; w_take = y.w_take; w_put = y.w_put; b_take = t; b_put = p; ar_take = x.ar_take; ar_put = x.ar_put; r_take = x.r_take; r_put = x.r_put }) b_take b_put
    ∙ ap₂ (λ t p. record { aw_take = y.aw_take; aw_put = y.aw_put; w_take = y.w_take; w_put = y.w_put; b_take = y.b_take; b_put = y.b_put; ar_take = t; ar_put = p; r_take = x.r_take; r_put = x.r_put }) ar_take ar_put
    ∙ ap₂ (λ t p. record { aw_take = y.aw_take; aw_put = y.aw_put; w_take = y.w_take; w_put = y.w_put; b_take = y.b_take; b_put = y.b_put; ar_take = y.ar_take; ar_put = y.ar_put; r_take = t; r_put = p }) r_take r_put
