-- What a demux does in a round, row by row.
use Rattle.std.proofs.Common.{◌≡◌, ◌<◌, ℕ, Bool, true, false, cond, List, [], ◌∷◌, Option, None, Some, length, refl, sym, ◌∙◌, ap, arith}
use Rattle.std.specs.Prelude.{All, IfSome, find, is_some, option_map}
use Rattle.std.specs.Option.{option_and_then}
use Rattle.std.proofs.lemmas.Bool.{and_parts, ltb-true}
use Rattle.std.proofs.lemmas.List.Elements.{All-head, All-tail}
use Rattle.axi_beats.specs.declared.beat.Addr.{Addr}
use Rattle.axi_beats.specs.declared.beat.WBeat.{WBeat}
use Rattle.axi_beats.specs.declared.beat.BBeat.{BBeat}
use Rattle.axi_beats.specs.declared.beat.RBeat.{RBeat}
use Rattle.axi_link.specs.LinkView.{LinkView}
use Rattle.axi_link.specs.LinkWords.{head_of}
use Rattle.axi_link.specs.declared.out.Out.{Out}
use Rattle.demux_node.proofs.TableLemmas.{length-after_b, length-after_r, length-after_w}
use Rattle.demux_node.specs.DemuxState.{DemuxShape, DemuxState, port_for}
use Rattle.demux_node.specs.DemuxTable.{ar_port, aw_port, demux_above, demux_next, demux_out, is_open_write, open_port, reads_after_r, takes_read, takes_write, writes_after_b, writes_after_w}
use Rattle.demux_node.specs.declared.route.Route.{Route}
use Rattle.demux_node.specs.declared.route.WriteRoute.{WriteRoute}
use Rattle.node_core.specs.Rows.{beat_where, fits}
use Rattle.node_core.specs.Turn.{TurnState}

-- the port of the write that data goes to is a port
pub open_port_within : (n : ℕ) (writes : List WriteRoute) → All (λ (w : WriteRoute). w.port < n) writes → IfSome (open_port writes) (λ port. port < n)
open_port_within n [] all = tt
open_port_within n (w ∷ writes) all =
    let go : (b : Bool) → IfSome (option_map (λ (v : WriteRoute). v.port) (cond b (Some w) (find is_open_write writes))) (λ port. port < n) =
    elim [ true ↦ All-head (λ (v : WriteRoute). v.port < n) w writes all | false ↦ open_port_within n writes (All-tail (λ (v : WriteRoute). v.port < n) w writes all) ]
    in go w.is_open

goes-where : {X : Type 0} (takes : X → Bool) (to : X → ℕ) (head : Option X) → is_some (option_and_then (λ x. beat_where (takes x) (Some (to x))) head) ≡ true → (x : X) × (takes x ≡ true)
goes-where takes to None some = absurd (cc)
goes-where takes to (Some x) some = (x, go (takes x) refl some)
  where
    go : (b : Bool) → takes x ≡ b → is_some (beat_where b (Some (to x))) ≡ true → takes x ≡ true
    go true is some = is
    go false is some = absurd (cc)

-- where an address goes on, one more entry fits, and still does after the rows before it
module _ (links : List LinkView) (shape : DemuxShape) where
  pub write_fits : (writes : List WriteRoute) (port : Option ℕ) → port ≡ aw_port links shape writes → is_some port ≡ true → (w : Option (ℕ × WBeat)) (b : Option (ℕ × BBeat)) →
      length (writes_after_b b (writes_after_w w writes)) < 16
  write_fits writes port is some w b =
      let found = goes-where (takes_write links shape writes) (λ (a : Addr). port_for shape a.addr) (head_of (demux_above links shape).aw) (sym (ap is_some is) ∙ some) in
      let few : length writes < 16 = ltb-true (length writes) 16 (and_parts (fits writes) _ found.1).0 in
      omega (arith, few, length-after_w w writes, length-after_b b (writes_after_w w writes))

  pub read_fits : (reads : List Route) (port : Option ℕ) → port ≡ ar_port links shape reads → is_some port ≡ true → (r : Option (ℕ × RBeat)) → length (reads_after_r r reads) < 16
  read_fits reads port is some r =
      let found = goes-where (takes_read links shape reads) (λ (a : Addr). port_for shape a.addr) (head_of (demux_above links shape).ar) (sym (ap is_some is) ∙ some) in
      let few : length reads < 16 = ltb-true (length reads) 16 (and_parts (fits reads) _ found.1).0 in
      omega (arith, few, length-after_r r reads)

-- what its links and its state are after the rows
module _ (links : List LinkView) (s : DemuxState) where
  pub state-is : (writes : List WriteRoute) (reads : List Route) (turn_b turn_r : TurnState) → writes ≡ (demux_next links s).writes → reads ≡ (demux_next links s).reads →
      turn_b ≡ (demux_next links s).turn_b → turn_r ≡ (demux_next links s).turn_r → record { shape = s.shape; writes = writes; reads = reads; turn_b = turn_b; turn_r = turn_r } ≡ demux_next links s
  state-is writes reads turn_b turn_r w r b t =
      ap (λ (x : List WriteRoute). record { shape = s.shape; writes = x; reads = reads; turn_b = turn_b; turn_r = turn_r }) w
      ∙ ap (λ (x : List Route). record { shape = s.shape; writes = (demux_next links s).writes; reads = x; turn_b = turn_b; turn_r = turn_r }) r
      ∙ ap (λ (x : TurnState). record { shape = s.shape; writes = (demux_next links s).writes; reads = (demux_next links s).reads; turn_b = x; turn_r = turn_r }) b
      ∙ ap (λ (x : TurnState). record { shape = s.shape; writes = (demux_next links s).writes; reads = (demux_next links s).reads; turn_b = (demux_next links s).turn_b; turn_r = x }) t

  pub out-is : (out : Out) → out.aw_take ≡ (demux_out links s).aw_take → out.aw_put ≡ (demux_out links s).aw_put → out.w_take ≡ (demux_out links s).w_take → out.w_put ≡ (demux_out links s).w_put → out.b_take ≡ (demux_out links s).b_take →
      out.b_put ≡ (demux_out links s).b_put → out.ar_take ≡ (demux_out links s).ar_take → out.ar_put ≡ (demux_out links s).ar_put → out.r_take ≡ (demux_out links s).r_take → out.r_put ≡ (demux_out links s).r_put → out ≡ demux_out links s
  out-is out e0 e1 e2 e3 e4 e5 e6 e7 e8 e9 =
      ap (λ (x : Option ℕ). record { aw_take = x; aw_put = out.aw_put; w_take = out.w_take; w_put = out.w_put; b_take = out.b_take; b_put = out.b_put; ar_take = out.ar_take; ar_put = out.ar_put; r_take = out.r_take; r_put = out.r_put }) e0
      ∙ ap (λ (x : Option (ℕ × Addr)). record { aw_take = (demux_out links s).aw_take; aw_put = x; w_take = out.w_take; w_put = out.w_put; b_take = out.b_take; b_put = out.b_put; ar_take = out.ar_take; ar_put = out.ar_put; r_take = out.r_take; r_put = out.r_put }) e1
      ∙ ap (λ (x : Option ℕ). record { aw_take = (demux_out links s).aw_take; aw_put = (demux_out links s).aw_put; w_take = x; w_put = out.w_put; b_take = out.b_take; b_put = out.b_put; ar_take = out.ar_take; ar_put = out.ar_put; r_take = out.r_take; r_put = out.r_put }) e2
      ∙ ap (λ (x : Option (ℕ × WBeat)). record { aw_take = (demux_out links s).aw_take; aw_put = (demux_out links s).aw_put; w_take = (demux_out links s).w_take; w_put = x; b_take = out.b_take; b_put = out.b_put; ar_take = out.ar_take; ar_put = out.ar_put; r_take = out.r_take; r_put = out.r_put }) e3
      ∙ ap (λ (x : Option ℕ). record { aw_take = (demux_out links s).aw_take; aw_put = (demux_out links s).aw_put; w_take = (demux_out links s).w_take; w_put = (demux_out links s).w_put; b_take = x; b_put = out.b_put; ar_take = out.ar_take; ar_put = out.ar_put; r_take = out.r_take; r_put = out.r_put }) e4
      ∙ ap (λ (x : Option (ℕ × BBeat)). record { aw_take = (demux_out links s).aw_take; aw_put = (demux_out links s).aw_put; w_take = (demux_out links s).w_take; w_put = (demux_out links s).w_put; b_take = (demux_out links s).b_take; b_put = x; ar_take = out.ar_take; ar_put = out.ar_put; r_take = out.r_take; r_put = out.r_put }) e5
      ∙ ap (λ (x : Option ℕ). record { aw_take = (demux_out links s).aw_take; aw_put = (demux_out links s).aw_put; w_take = (demux_out links s).w_take; w_put = (demux_out links s).w_put; b_take = (demux_out links s).b_take; b_put = (demux_out links s).b_put; ar_take = x; ar_put = out.ar_put; r_take = out.r_take; r_put = out.r_put }) e6
      ∙ ap (λ (x : Option (ℕ × Addr)). record { aw_take = (demux_out links s).aw_take; aw_put = (demux_out links s).aw_put; w_take = (demux_out links s).w_take; w_put = (demux_out links s).w_put; b_take = (demux_out links s).b_take; b_put = (demux_out links s).b_put; ar_take = (demux_out links s).ar_take; ar_put = x; r_take = out.r_take; r_put = out.r_put }) e7
      ∙ ap (λ (x : Option ℕ). record { aw_take = (demux_out links s).aw_take; aw_put = (demux_out links s).aw_put; w_take = (demux_out links s).w_take; w_put = (demux_out links s).w_put; b_take = (demux_out links s).b_take; b_put = (demux_out links s).b_put; ar_take = (demux_out links s).ar_take; ar_put = (demux_out links s).ar_put; r_take = x; r_put = out.r_put }) e8
      ∙ ap (λ (x : Option (ℕ × RBeat)). record { aw_take = (demux_out links s).aw_take; aw_put = (demux_out links s).aw_put; w_take = (demux_out links s).w_take; w_put = (demux_out links s).w_put; b_take = (demux_out links s).b_take; b_put = (demux_out links s).b_put; ar_take = (demux_out links s).ar_take; ar_put = (demux_out links s).ar_put; r_take = (demux_out links s).r_take; r_put = x }) e9
