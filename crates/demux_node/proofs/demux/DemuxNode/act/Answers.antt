use Rattle.std.proofs.Common.{◌≡◌, ◌<◌, ◌∙◌, ap, ap₂, length, subst, sym, List, Option, ℕ}
use Rattle.std.specs.Option.{option_copied}
use Rattle.std.specs.Prelude.{is_some}
use Rattle.axi_beats.specs.declared.beat.Addr.{Addr}
use Rattle.axi_beats.specs.declared.beat.BBeat.{BBeat}
use Rattle.axi_beats.specs.declared.beat.RBeat.{RBeat}
use Rattle.axi_beats.specs.declared.beat.WBeat.{WBeat}
use Rattle.axi_link.specs.LinkView.{LinkView}
use Rattle.axi_link.specs.LinkWords.{head_of}
use Rattle.axi_link.specs.declared.out.Out.{Out}
use Rattle.demux_node.proofs.ActLemmas.{open_port_within, out-is, read_fits, state-is, write_fits}
use Rattle.demux_node.proofs.TableLemmas.{demux_stays}
use Rattle.demux_node.specs.DemuxInside.{demux_state}
use Rattle.demux_node.specs.DemuxState.{DemuxState, IsDemux}
use Rattle.demux_node.specs.DemuxTable.{by_port, demux_ar, demux_aw, demux_b, demux_next, demux_out, demux_r, demux_table, demux_w, offered_b, offered_r, put_above, put_below, reads_after_ar, reads_after_r, take_below, turn_after, writes_after_aw, writes_after_b, writes_after_w}
use Rattle.demux_node.specs.declared.route.Route.{Route}
use Rattle.demux_node.specs.declared.route.WriteRoute.{WriteRoute}
use Rattle.node_core.specs.Acted.{Acted}
use Rattle.node_core.specs.Rows.{take_of}
use Rattle.demux_node.proofs.demux.DemuxNode.act.Goals as goal

pub w_port-w-requires-clause-ports : goal.w_port-w-requires-clause-ports
w_port-w-requires-clause-ports c = open_port_within (length c.self.inside.shape.lowers) c.self.inside.writes c.self.invariant.ports

pub note_write-requires : goal.note_write-requires
note_write-requires c = λ some.
    subst (λ (ws : List WriteRoute). length ws < 16)
    (sym (c.note_response.ensures ∙ ap (writes_after_b (by_port c.b_port-b.result (option_copied c.offered_b-response.result))) c.note_data.ensures))
    (write_fits c.args.links.now c.self.inside.shape c.self.inside.writes c.aw_port-aw.result c.aw_port-aw.ensures.port some (by_port c.w_port-w.result (option_copied c.head_w-2.result))
    (by_port c.b_port-b.result (option_copied c.offered_b-response.result)))

pub note_read-requires : goal.note_read-requires
note_read-requires c = λ some.
    subst (λ (rs : List Route). length rs < 16) (sym c.note_read_data.ensures)
    (read_fits c.args.links.now c.self.inside.shape c.self.inside.reads c.ar_port-ar.result c.ar_port-ar.ensures.port some (by_port c.r_port-r.result (option_copied c.offered_r-read_data.result)))

-- the state after the rows is the table's
same-state : (c : goal.After-turn_to-2) → record { shape = c.self.inside.shape; writes = c.note_write.new.writes; reads = c.note_read.new.reads; turn_b = c.turn_to.new.turn; turn_r = c.turn_to-2.new.turn }
    ≡ demux_next c.args.links.now (demux_state c.self.inside)
same-state c =
    let links = c.args.links.now in
    let s = demux_state c.self.inside in
    let aw : by_port c.aw_port-aw.result (option_copied c.head_aw-2.result) ≡ demux_aw links s =
    ap₂ by_port c.aw_port-aw.ensures.port (c.head_aw-2.ensures ∙ ap (λ (l : LinkView). head_of l.aw) c.above-above.ensures) in
    let w : by_port c.w_port-w.result (option_copied c.head_w-2.result) ≡ demux_w links s =
    ap₂ by_port c.w_port-w.ensures.port (c.head_w-2.ensures ∙ ap (λ (l : LinkView). head_of l.w) c.above-above.ensures) in
    let b : by_port c.b_port-b.result (option_copied c.offered_b-response.result) ≡ demux_b links s =
    ap₂ by_port c.b_port-b.ensures.port (c.offered_b-response.ensures ∙ ap (offered_b links s.shape) c.b_port-b.ensures.port) in
    let ar : by_port c.ar_port-ar.result (option_copied c.head_ar-2.result) ≡ demux_ar links s =
    ap₂ by_port c.ar_port-ar.ensures.port (c.head_ar-2.ensures ∙ ap (λ (l : LinkView). head_of l.ar) c.above-above.ensures) in
    let r : by_port c.r_port-r.result (option_copied c.offered_r-read_data.result) ≡ demux_r links s =
    ap₂ by_port c.r_port-r.ensures.port (c.offered_r-read_data.ensures ∙ ap (offered_r links s.shape) c.r_port-r.ensures.port) in
    state-is links s c.note_write.new.writes c.note_read.new.reads c.turn_to.new.turn c.turn_to-2.new.turn
    (c.note_write.ensures ∙ ap₂ writes_after_aw aw (c.note_response.ensures ∙ ap₂ writes_after_b b (c.note_data.ensures ∙ ap (λ (row : Option (ℕ × WBeat)). writes_after_w row s.writes) w)))
    (c.note_read.ensures ∙ ap₂ reads_after_ar ar (c.note_read_data.ensures ∙ ap (λ (row : Option (ℕ × RBeat)). reads_after_r row s.reads) r))
    (c.turn_to.ensures ∙ ap (λ (row : Option (ℕ × BBeat)). turn_after row s.turn_b) b)
    (c.turn_to-2.ensures ∙ ap (λ (row : Option (ℕ × RBeat)). turn_after row s.turn_r) r)

-- and so are its moves
same-out : (c : goal.After-turn_to-2) → record {
  aw_take = c.pass_address.new.take;
  aw_put = c.pass_address.new.put;
  w_take = c.pass_data.new.take;
  w_put = c.pass_data.new.put;
  b_take = c.pass_response.new.take;
  b_put = c.pass_response.new.put;
  ar_take = c.pass_address-2.new.take;
  ar_put = c.pass_address-2.new.put;
  r_take = c.pass_read_data.new.take;
  r_put = c.pass_read_data.new.put;
} ≡ demux_out c.args.links.now (demux_state c.self.inside)
same-out c =
    let links = c.args.links.now in
    let s = demux_state c.self.inside in
    let aw : by_port c.aw_port-aw.result (option_copied c.head_aw.result) ≡ demux_aw links s =
    ap₂ by_port c.aw_port-aw.ensures.port (c.head_aw.ensures ∙ ap (λ (l : LinkView). head_of l.aw) c.above-above.ensures) in
    let w : by_port c.w_port-w.result (option_copied c.head_w.result) ≡ demux_w links s =
    ap₂ by_port c.w_port-w.ensures.port (c.head_w.ensures ∙ ap (λ (l : LinkView). head_of l.w) c.above-above.ensures) in
    let b : by_port c.b_port-b.result (option_copied c.offered_b-response.result) ≡ demux_b links s =
    ap₂ by_port c.b_port-b.ensures.port (c.offered_b-response.ensures ∙ ap (offered_b links s.shape) c.b_port-b.ensures.port) in
    let ar : by_port c.ar_port-ar.result (option_copied c.head_ar.result) ≡ demux_ar links s =
    ap₂ by_port c.ar_port-ar.ensures.port (c.head_ar.ensures ∙ ap (λ (l : LinkView). head_of l.ar) c.above-above.ensures) in
    let r : by_port c.r_port-r.result (option_copied c.offered_r-read_data.result) ≡ demux_r links s =
    ap₂ by_port c.r_port-r.ensures.port (c.offered_r-read_data.ensures ∙ ap (offered_r links s.shape) c.r_port-r.ensures.port) in
    out-is links s
    (record {
      aw_take = c.pass_address.new.take;
      aw_put = c.pass_address.new.put;
      w_take = c.pass_data.new.take;
      w_put = c.pass_data.new.put;
      b_take = c.pass_response.new.take;
      b_put = c.pass_response.new.put;
      ar_take = c.pass_address-2.new.take;
      ar_put = c.pass_address-2.new.put;
      r_take = c.pass_read_data.new.take;
      r_put = c.pass_read_data.new.put;
    })
    (c.pass_address.ensures.take ∙ ap (λ (row : Option (ℕ × Addr)). take_of s.shape.upper (is_some row)) aw)
    (c.pass_address.ensures.put ∙ ap (λ (row : Option (ℕ × Addr)). put_below s.shape row) aw)
    (c.pass_data.ensures.take ∙ ap (λ (row : Option (ℕ × WBeat)). take_of s.shape.upper (is_some row)) w)
    (c.pass_data.ensures.put ∙ ap (λ (row : Option (ℕ × WBeat)). put_below s.shape row) w)
    (c.pass_response.ensures.take ∙ ap (λ (row : Option (ℕ × BBeat)). take_below s.shape row) b)
    (c.pass_response.ensures.put ∙ ap (λ (row : Option (ℕ × BBeat)). put_above s.shape row) b)
    (c.pass_address-2.ensures.take ∙ ap (λ (row : Option (ℕ × Addr)). take_of s.shape.upper (is_some row)) ar)
    (c.pass_address-2.ensures.put ∙ ap (λ (row : Option (ℕ × Addr)). put_below s.shape row) ar)
    (c.pass_read_data.ensures.take ∙ ap (λ (row : Option (ℕ × RBeat)). take_below s.shape row) r)
    (c.pass_read_data.ensures.put ∙ ap (λ (row : Option (ℕ × RBeat)). put_above s.shape row) r)

pub invariant_of-self : goal.invariant_of-self
invariant_of-self c = subst IsDemux (sym (same-state c)) (demux_stays c.args.links.now (demux_state c.self.inside) c.self.invariant)

pub returns : goal.returns
returns c = record {
  table =
      ap₂ (λ (state : DemuxState) (out : Out). record { state = state; out = out }) (same-state c) (same-out c)
      ∙ ap (λ (a : Acted DemuxState). demux_table c.args.links.now a.state) c.self.view_is;
  fact = subst IsDemux (sym (same-state c)) (demux_stays c.args.links.now (demux_state c.self.inside) c.self.invariant);
}
