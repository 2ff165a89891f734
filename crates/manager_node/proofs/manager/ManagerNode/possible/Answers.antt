use Rattle.std.proofs.Common.{ℕ, Option, ap, false, subst, sym, true, ◌<◌, ◌∙◌}
use Rattle.std.specs.Prelude.{IfSome, is_some, length}
use Rattle.axi_beats.specs.declared.beat.BBeat.{BBeat}
use Rattle.axi_beats.specs.declared.beat.RBeat.{RBeat}
use Rattle.node_core.specs.Acted.{Acted}
use Rattle.manager_node.specs.ManagerInside.{IsPossible, manager_state}
use Rattle.manager_node.specs.ManagerState.{ManagerState}
use Rattle.manager_node.specs.ManagerTable.{answering}
use Rattle.manager_node.proofs.StepLemmas.{beat_where-within, could-ar, could-aw, could-w, places-within}
use Rattle.manager_node.proofs.manager.ManagerNode.possible.Goals as goal

pub next-requires : goal.next-requires
next-requires c = places-within true c.self.inside.script c.self.inside.writes.places.items c.self.invariant.write_places

pub next-requires-2 : goal.next-requires-2
next-requires-2 c = places-within false c.self.inside.script c.self.inside.reads.places.items c.self.invariant.read_places

pub returns : goal.returns
returns c =
    let s : ManagerState = manager_state c.self.inside in
    subst (λ (acted : Acted ManagerState). IsPossible c.args.link.now acted.state (record { write = c.next.result; data_beat = c.next_data.result; response = c.has_response.result; read = c.next-2.result; read_beat = c.has_read_beat.result })) c.self.view_is (record {
      write = could-aw c.args.link.now s c.self.inside.writes.places.items c.room_aw.result c.next.result c.self.invariant.write_places c.room_aw.ensures c.next.ensures.next;
      data_beat = could-w c.args.link.now s c.self.inside.writes.places.items c.room_w.result c.next_data.result c.self.invariant.write_places c.room_w.ensures c.next_data.ensures;
      response = c.has_response.ensures ∙ ap (λ (head : Option BBeat). is_some (answering (λ (beat : BBeat). beat.id) s.write_entries head)) c.head_b.ensures;
      read = could-ar c.args.link.now s c.self.inside.reads.places.items c.room_ar.result c.next-2.result c.self.invariant.read_places c.room_ar.ensures c.next-2.ensures.next;
      read_beat = c.has_read_beat.ensures ∙ ap (λ (head : Option RBeat). is_some (answering (λ (beat : RBeat). beat.id) s.read_entries head)) c.head_r.ensures;
      write_within = c.next.ensures.within;
      data_within = subst (λ (o : Option ℕ). IfSome o (λ place. place < length c.self.inside.script)) (sym c.next_data.ensures)
          (beat_where-within (λ place. place < length c.self.inside.script) _ c.self.inside.writes.places.items c.self.inside.sending.writes (places-within true c.self.inside.script c.self.inside.writes.places.items c.self.invariant.write_places));
      read_within = c.next-2.ensures.within;
    })
