use Rattle.std.proofs.Common.{◌≡◌, ◌<◌, ◌^◌, ◌∙◌, ap, ap₂, arith, length, subst, sym, Bool, List, Option, ℕ}
use Rattle.std.specs.Option.{option_copied}
use Rattle.axi_beats.specs.declared.beat.Addr.{Addr}
use Rattle.axi_beats.specs.declared.beat.BBeat.{BBeat}
use Rattle.axi_beats.specs.declared.beat.RBeat.{RBeat}
use Rattle.axi_link.specs.LinkView.{LinkView}
use Rattle.axi_link.specs.LinkWords.{has_room, head_of}
use Rattle.remap_node.proofs.CodeLemmas.{request-fits}
use Rattle.remap_node.proofs.TableLemmas.{read_data-shorter, remap_stays, response-shorter}
use Rattle.remap_node.specs.RemapInside.{remap_state}
use Rattle.remap_node.specs.RemapState.{IsRemap}
use Rattle.remap_node.specs.RemapTable.{Renamed, answer_id, pairs_after_read_data, pairs_after_request, pairs_after_response, remap_ar, remap_aw, remap_b, remap_next, remap_r, renamed, request_id}
use Rattle.remap_node.specs.declared.pair.IdPair.{IdPair}
use Rattle.remap_node.proofs.remap.RemapNode.act.Goals as goal

pub note_request-requires : goal.note_request-requires
note_request-requires c = λ some.
    let few = request-fits c.self.inside.writes _ _ _ c.request_id-aw.result c.request_id-aw.ensures some in
    subst (λ (ps : List IdPair). length ps < 16) (sym c.note_response.ensures)
    (omega (arith, few, response-shorter (renamed c.answer_id-b.result (option_copied c.head_b-response.result)) c.self.inside.writes))

pub note_request-requires-2 : goal.note_request-requires-2
note_request-requires-2 c = λ some.
    let few = request-fits c.self.inside.reads _ _ _ c.request_id-ar.result c.request_id-ar.ensures some in
    subst (λ (ps : List IdPair). length ps < 16) (sym c.note_read_data.ensures)
    (omega (arith, few, read_data-shorter (renamed c.answer_id-r.result (option_copied c.head_r-read_data.result)) c.self.inside.reads))

-- the state after the rows is the table's
same-state : (c : goal.After-note_request-2) →
    record { shape = record { upper = c.self.inside.upper; lower = c.self.inside.lower; width = c.self.inside.width }; writes = c.note_request.new.pairs; reads = c.note_request-2.new.pairs }
    ≡ remap_next c.args.links.now (remap_state c.self.inside)
same-state c =
    let links = c.args.links.now in
    let s = remap_state c.self.inside in
    let write_head = c.head_aw-write.ensures ∙ ap (λ (l : LinkView). head_of l.aw) c.link_at-above.ensures in
    let read_head = c.head_ar-read.ensures ∙ ap (λ (l : LinkView). head_of l.ar) c.link_at-above.ensures in
    let response_head = c.head_b-response.ensures ∙ ap (λ (l : LinkView). head_of l.b) c.link_at-below.ensures in
    let read_data_head = c.head_r-read_data.ensures ∙ ap (λ (l : LinkView). head_of l.r) c.link_at-below.ensures in
    let room_aw = c.room_aw.ensures ∙ ap (λ (l : LinkView). has_room l.depth l.aw) c.link_at-below.ensures in
    let room_ar = c.room_ar.ensures ∙ ap (λ (l : LinkView). has_room l.depth l.ar) c.link_at-below.ensures in
    let room_b = c.room_b.ensures ∙ ap (λ (l : LinkView). has_room l.depth l.b) c.link_at-above.ensures in
    let room_r = c.room_r.ensures ∙ ap (λ (l : LinkView). has_room l.depth l.r) c.link_at-above.ensures in
    let aw : renamed c.request_id-aw.result (option_copied c.head_aw-write.result) ≡ remap_aw links s =
    ap₂ renamed
    (c.request_id-aw.ensures ∙ ap (λ (n : ℕ). request_id s.writes n c.room_aw.result (option_copied c.head_aw-write.result)) c.ids_of_width-ids.ensures
    ∙ ap₂ (λ (b : Bool) (h : Option Addr). request_id s.writes (2 ^ s.shape.width) b h) room_aw write_head) write_head in
    let ar : renamed c.request_id-ar.result (option_copied c.head_ar-read.result) ≡ remap_ar links s =
    ap₂ renamed
    (c.request_id-ar.ensures ∙ ap (λ (n : ℕ). request_id s.reads n c.room_ar.result (option_copied c.head_ar-read.result)) c.ids_of_width-ids.ensures
    ∙ ap₂ (λ (b : Bool) (h : Option Addr). request_id s.reads (2 ^ s.shape.width) b h) room_ar read_head) read_head in
    let b : renamed c.answer_id-b.result (option_copied c.head_b-response.result) ≡ remap_b links s =
    ap₂ renamed (c.answer_id-b.ensures ∙ ap₂ (λ (b : Bool) (h : Option BBeat). answer_id (λ x. x.id) s.writes b h) room_b response_head) response_head in
    let r : renamed c.answer_id-r.result (option_copied c.head_r-read_data.result) ≡ remap_r links s =
    ap₂ renamed (c.answer_id-r.ensures ∙ ap₂ (λ (b : Bool) (h : Option RBeat). answer_id (λ x. x.id) s.reads b h) room_r read_data_head) read_data_head in
    ap₂ (λ (writes reads : List IdPair). record { shape = s.shape; writes = writes; reads = reads })
    (c.note_request.ensures ∙ ap₂ pairs_after_request aw (c.note_response.ensures ∙ ap (λ (row : Option (Renamed BBeat)). pairs_after_response row s.writes) b))
    (c.note_request-2.ensures ∙ ap₂ pairs_after_request ar (c.note_read_data.ensures ∙ ap (λ (row : Option (Renamed RBeat)). pairs_after_read_data row s.reads) r))

stays : (c : goal.After-note_request-2) →
    IsRemap (record { shape = record { upper = c.self.inside.upper; lower = c.self.inside.lower; width = c.self.inside.width }; writes = c.note_request.new.pairs; reads = c.note_request-2.new.pairs })
stays c = subst IsRemap (sym (same-state c)) (remap_stays c.args.links.now (remap_state c.self.inside) c.self.invariant)

pub invariant_of-self : goal.invariant_of-self
invariant_of-self c = stays c

pub returns-clause-fact : goal.returns-clause-fact
returns-clause-fact c = stays c
