use Rattle.std.proofs.Common.{◌≡◌, ◌≤◌, ◌∙◌, List, Option, ap, ap₂, length, map, subst, sym}
use Rattle.std.specs.Option.{option_copied}
use Rattle.std.specs.Prelude.{IsTrue, is_some}
use Rattle.axi_beats.specs.declared.beat.Addr.{Addr}
use Rattle.axi_beats.specs.declared.beat.BBeat.{BBeat}
use Rattle.axi_beats.specs.declared.beat.RBeat.{RBeat}
use Rattle.axi_beats.specs.declared.beat.WBeat.{WBeat}
use Rattle.axi_link.specs.LinkView.{LinkView}
use Rattle.axi_link.specs.declared.out.Out.{Out}
use Rattle.axi_trail.specs.Waiting.{Waiting}
use Rattle.node_core.specs.Acted.{Acted}
use Rattle.node_core.specs.Rows.{put_of, take_of}
use Rattle.up_node.proofs.ActLemmas.{address-is, data-is, fits-still, out-is, read_data-is, response-is}
use Rattle.up_node.proofs.TableLemmas.{after_data-few, after_read_data-few, up_stays}
use Rattle.up_node.specs.UpInside.{up_state, waiting_of}
use Rattle.up_node.specs.UpState.{IsUp, UpState}
use Rattle.up_node.specs.UpTable.{CanUp, data_moved, entries_after_address, entries_after_data, entries_after_read_data, read_data_moved, up_ar, up_aw, up_b, up_next, up_out, up_r, up_table, up_w}
use Rattle.up_node.proofs.up.UpNode.act.Goals as goal

pub note_address-requires : goal.note_address-requires
note_address-requires c = λ some.
    fits-still c.self.inside.writes c.pass_data.new.entries c.room_aw.result (option_copied c.head_aw.result)
    (subst (λ (o : Option Addr). IsTrue (is_some o)) c.fitting-aw.ensures some)
    (subst (λ (es : List (Waiting Addr)). length es ≤ length (map waiting_of c.self.inside.writes)) (sym c.pass_data.ensures.entries) (after_data-few _ (map waiting_of c.self.inside.writes)))

pub note_address-requires-2 : goal.note_address-requires-2
note_address-requires-2 c = λ some.
    fits-still c.self.inside.reads c.pass_read_data.new.entries c.room_ar.result (option_copied c.head_ar.result)
    (subst (λ (o : Option Addr). IsTrue (is_some o)) c.fitting-ar.ensures some)
    (subst (λ (es : List (Waiting Addr)). length es ≤ length (map waiting_of c.self.inside.reads)) (sym c.pass_read_data.ensures.entries) (after_read_data-few _ (map waiting_of c.self.inside.reads)))

module _ (c : goal.After-note_address-2) where
  abbrev links : List LinkView
  links = c.args.links.now

  abbrev s : UpState
  s = up_state c.self.inside

  aw-is : option_copied c.fitting-aw.result ≡ up_aw links s
  aw-is = c.fitting-aw.ensures ∙ address-is links s.shape.upper s.shape.lower (λ l. l.aw) s.writes c.link_at-above.ensures c.link_at-below.ensures c.room_aw.ensures c.head_aw.ensures

  ar-is : option_copied c.fitting-ar.result ≡ up_ar links s
  ar-is = c.fitting-ar.ensures ∙ address-is links s.shape.upper s.shape.lower (λ l. l.ar) s.reads c.link_at-above.ensures c.link_at-below.ensures c.room_ar.ensures c.head_ar.ensures

  b-is : option_copied c.passed-b.result ≡ up_b links s
  b-is = c.passed-b.ensures ∙ response-is links s.shape.upper s.shape.lower c.link_at-above.ensures c.link_at-below.ensures c.room_b.ensures c.head_b.ensures

  w-is : data_moved s.shape c.room_w.result (option_copied c.head_w.result) s.writes ≡ up_w links s
  w-is = data-is links s.shape.upper s.shape.lower s.shape s.writes c.link_at-above.ensures c.link_at-below.ensures c.room_w.ensures c.head_w.ensures

  r-is : read_data_moved s.shape c.room_r.result (option_copied c.head_r.result) s.reads ≡ up_r links s
  r-is = read_data-is links s.shape.upper s.shape.lower s.shape s.reads c.link_at-above.ensures c.link_at-below.ensures c.room_r.ensures c.head_r.ensures

  same-state : record { shape = c.self.inside.shape; writes = map waiting_of c.note_address.new.entries; reads = map waiting_of c.note_address-2.new.entries } ≡ up_next links s
  same-state =
      ap₂ (λ (writes reads : List (Waiting Addr)). record { shape = c.self.inside.shape; writes = writes; reads = reads })
      (c.note_address.ensures ∙ ap₂ entries_after_address aw-is (c.pass_data.ensures.entries ∙ ap (λ (o : Option WBeat). entries_after_data o s.writes) w-is))
      (c.note_address-2.ensures ∙ ap₂ entries_after_address ar-is (c.pass_read_data.ensures.entries ∙ ap (λ (o : Option RBeat). entries_after_read_data o s.reads) r-is))

  same-out : record {
    aw_take = c.pass.new.take;
    aw_put = c.pass.new.put;
    w_take = c.pass_data.new.take;
    w_put = c.pass_data.new.put;
    b_take = c.pass-2.new.take;
    b_put = c.pass-2.new.put;
    ar_take = c.pass-3.new.take;
    ar_put = c.pass-3.new.put;
    r_take = c.pass_read_data.new.take;
    r_put = c.pass_read_data.new.put;
  } ≡ up_out links s
  same-out =
      out-is _ (up_out links s)
      (c.pass.ensures.take ∙ ap (λ (o : Option Addr). take_of s.shape.upper (is_some o)) aw-is)
      (c.pass.ensures.put ∙ ap (put_of s.shape.lower) aw-is)
      (c.pass_data.ensures.take ∙ ap (λ (o : Option WBeat). take_of s.shape.upper (is_some o)) w-is)
      (c.pass_data.ensures.put ∙ ap (put_of s.shape.lower) w-is)
      (c.pass-2.ensures.take ∙ ap (λ (o : Option BBeat). take_of s.shape.lower (is_some o)) b-is)
      (c.pass-2.ensures.put ∙ ap (put_of s.shape.upper) b-is)
      (c.pass-3.ensures.take ∙ ap (λ (o : Option Addr). take_of s.shape.upper (is_some o)) ar-is)
      (c.pass-3.ensures.put ∙ ap (put_of s.shape.lower) ar-is)
      (c.pass_read_data.ensures.take ∙ ap (λ (o : Option RBeat). take_of s.shape.lower (is_some o)) r-is)
      (c.pass_read_data.ensures.put ∙ ap (put_of s.shape.upper) r-is)

pub invariant_of-self : goal.invariant_of-self
invariant_of-self c =
    let can : CanUp c.args.links.now (up_state c.self.inside) = subst (λ (a : Acted UpState). CanUp c.args.links.now a.state) (sym c.self.view_is) c.requires in
    subst IsUp (sym (same-state c)) (up_stays c.args.links.now (up_state c.self.inside) c.self.invariant can)

pub returns : goal.returns
returns c = record {
  table =
      ap₂ (λ (state : UpState) (out : Out). record { state = state; out = out }) (same-state c) (same-out c)
      ∙ ap (λ (a : Acted UpState). up_table c.args.links.now a.state) c.self.view_is;
  fact = invariant_of-self c;
}
