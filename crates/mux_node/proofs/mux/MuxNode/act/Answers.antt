use Rattle.std.proofs.Common.{◌&&◌, ◌≡◌, ◌∙◌, ap, refl, subst, sym}
use Rattle.axi_link.specs.LinkView.{LinkView}
use Rattle.axi_link.specs.LinkWords.{has_room}
use Rattle.axi_link.specs.declared.out.Out.{Out}
use Rattle.mux_node.proofs.CodeLemmas.{has-acted}
use Rattle.mux_node.proofs.TableLemmas.{mux_stays}
use Rattle.mux_node.specs.MuxInside.{mux_state}
use Rattle.mux_node.specs.MuxState.{IsMux, MuxState}
use Rattle.mux_node.specs.MuxTable.{granted_more, mux_table}
use Rattle.node_core.specs.Acted.{Acted}
use Rattle.node_core.specs.Rows.{fits}
use Rattle.mux_node.proofs.mux.MuxNode.act.Goals as goal

-- what was done
abbrev the_state : goal.After-turn_to-2 → MuxState
the_state c = record { shape = c.self.inside.shape; turn_aw = c.turn_to.new.turn; turn_ar = c.turn_to-2.new.turn; granted = c.join.new.granted.items }

abbrev the_out : goal.After-turn_to-2 → Out
the_out c = record {
  aw_take = c.pass_address.new.take;
  aw_put = c.pass_address.new.put;
  w_take = c.pass_data-ends.new.take;
  w_put = c.pass_data-ends.new.put;
  b_take = c.pass_response.new.take;
  b_put = c.pass_response.new.put;
  ar_take = c.pass_address-2.new.take;
  ar_put = c.pass_address-2.new.put;
  r_take = c.pass_read_data.new.take;
  r_put = c.pass_read_data.new.put;
}

acted : (c : goal.After-turn_to-2) → record { state = the_state c; out = the_out c } ≡ mux_table c.args.links.now (mux_state c.self.inside)
acted c =
    has-acted c.args.links.now (mux_state c.self.inside) c.picked-write.result c.picked-read.result c.first_granted-first.result c.takes_write-may_write.result c.room_ar.result c.pass_data-ends.result
    (the_state c) (the_out c) (record {
      shape = refl;
      may_write_is = c.takes_write-may_write.ensures ∙ ap (λ (l : LinkView). has_room l.depth l.aw && fits c.self.inside.granted.items) c.below-below.ensures;
      may_read_is = c.room_ar.ensures ∙ ap (λ (l : LinkView). has_room l.depth l.ar) c.below-below.ensures;
      write_is = c.picked-write.ensures.input;
      write_row = c.picked-write.ensures.row;
      read_is = c.picked-read.ensures.input;
      read_row = c.picked-read.ensures.row;
      first_is = c.first_granted-first.ensures;
      ends_is = c.pass_data-ends.ensures.ends;
      turn_aw = c.turn_to.ensures;
      turn_ar = c.turn_to-2.ensures;
      granted = c.join.ensures ∙ ap (granted_more c.picked-write.result) c.leave.ensures;
      aw_take = c.pass_address.ensures.take;
      aw_put = c.pass_address.ensures.put;
      w_take = c.pass_data-ends.ensures.take;
      w_put = c.pass_data-ends.ensures.put;
      b_take = c.pass_response.ensures.take;
      b_put = c.pass_response.ensures.put;
      ar_take = c.pass_address-2.ensures.take;
      ar_put = c.pass_address-2.ensures.put;
      r_take = c.pass_read_data.ensures.take;
      r_put = c.pass_read_data.ensures.put;
    })

stays : (c : goal.After-turn_to-2) → IsMux (the_state c)
stays c = subst IsMux (sym (ap (λ (a : Acted MuxState). a.state) (acted c))) (mux_stays c.args.links.now (mux_state c.self.inside) c.self.invariant)

pub invariant_of-self : goal.invariant_of-self
invariant_of-self c = stays c

pub returns : goal.returns
returns c = record { table = acted c ∙ ap (λ (a : Acted MuxState). mux_table c.args.links.now a.state) c.self.view_is; fact = stays c }
