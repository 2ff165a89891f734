use Rattle.std.proofs.Common.{◌≡◌, ◌+◌, ◌<◌, ◌^◌, ℕ, List, Option, ap, arith, length, refl, subst, sym, ◌∙◌}
use Rattle.std.specs.Option.{option_copied, option_map}
use Rattle.std.specs.Prelude.{IfSome, is_some, slice_get}
use Rattle.axi_link.specs.LinkView.{LinkView}
use Rattle.axi_link.specs.declared.out.Out.{Out}
use Rattle.manager_node.specs.Beats.{data_beat, item_request}
use Rattle.manager_node.specs.ManagerInside.{IsWithin, manager_state, manager_view, sent_after}
use Rattle.manager_node.specs.ManagerState.{ManagerState, IsManager, script_reads, script_writes}
use Rattle.manager_node.specs.ManagerTable.{answering, ending, left_waiting, with_issued, manager_aw, manager_w, manager_ar, manager_b, manager_r, manager_r_last, manager_next, manager_out, manager_table, more, note_write, note_read, note_issue}
use Rattle.manager_node.specs.Placed.{placed}
use Rattle.manager_node.specs.Script.{ScriptItem}
use Rattle.manager_node.specs.declared.entry.Entry.{Entry}
use Rattle.manager_node.proofs.StateLemmas.{manager-stays}
use Rattle.manager_node.specs.declared.direction.Direction.{Direction}
use Rattle.manager_node.specs.declared.sending.Sending.{Sending}
use Rattle.manager_node.proofs.RowLemmas.{w-next}
use Rattle.manager_node.proofs.StepLemmas.{aw-is, aw-room, ar-is, ar-room, chosen-within, paces-are, places-many, possible-of, w-is, b-is, r-is, writes-within, writes-due, reads-within, reads-due, answered-small, room-left, state-same, out-same, acted-same, byte-more, next-within, sent-beats, sent-small, sent-writes, sending-next, got-last, got-some, last-is, sum-small, sum-same}
use Rattle.node_core.specs.Acted.{Acted}
use Rattle.node_core.specs.Rows.{put_of, take_of}
use Rattle.manager_node.proofs.manager.ManagerNode.act.Goals as goal

pub put_data-requires-clause-place : goal.put_data-requires-clause-place
put_data-requires-clause-place c =
    chosen-within c.args.links.now (manager_state c.self.inside) c.link_at-link.result.now c.link_at-link.ensures c.possible-possible.result (possible-of c.link_at-link.result.now c.possible-possible.result (manager_view c.self.inside) c.args.self.now c.self.view_is c.possible-possible.ensures) c.wishes.result c.wishes.ensures c.ask-rows.result c.ask-rows.ensures.rows c.ask-rows.result.w c.possible-possible.result.data_beat c.chosen-data.result (possible-of c.link_at-link.result.now c.possible-possible.result (manager_view c.self.inside) c.args.self.now c.self.view_is c.possible-possible.ensures).data_within c.chosen-data.ensures

pub put_data-requires-clause-within : goal.put_data-requires-clause-within
put_data-requires-clause-within c =
    let w = w-is c.args.links.now (manager_state c.self.inside) c.link_at-link.result.now c.link_at-link.ensures c.possible-possible.result (possible-of c.link_at-link.result.now c.possible-possible.result (manager_view c.self.inside) c.args.self.now c.self.view_is c.possible-possible.ensures) c.wishes.result c.wishes.ensures c.ask-rows.result c.ask-rows.ensures.rows c.chosen-data.result c.chosen-data.ensures
    in next-within c.args.links.now (manager_state c.self.inside) c.self.inside.sending (placed c.self.inside.script c.chosen-data.result) w refl c.self.invariant.sending

pub take_response-written-requires-clause-within : goal.take_response-written-requires-clause-within
take_response-written-requires-clause-within c = writes-within c.args.links.now (manager_state c.self.inside) c.args.round c.requires.counted c.self.invariant.state

pub take_response-written-requires-clause-due : goal.take_response-written-requires-clause-due
take_response-written-requires-clause-due c = writes-due c.args.links.now (manager_state c.self.inside) c.args.round c.requires.counted c.self.invariant.state

pub take_data-got-requires-clause-within : goal.take_data-got-requires-clause-within
take_data-got-requires-clause-within c =
    let b = b-is c.args.links.now (manager_state c.self.inside) c.link_at-link.result.now c.link_at-link.ensures c.possible-possible.result (possible-of c.link_at-link.result.now c.possible-possible.result (manager_view c.self.inside) c.args.self.now c.self.view_is c.possible-possible.ensures) c.wishes.result c.wishes.ensures c.ask-rows.result c.ask-rows.ensures.rows (option_copied c.head_b.result) (option_copied c.passed.result) c.head_b.ensures c.passed.ensures
    in reads-within c.args.links.now (manager_state c.self.inside) c.args.round c.requires.counted c.self.invariant.state c.take_response-written.new.answers
    (c.take_response-written.ensures.answers ∙ ap (λ answer. note_write c.args.round answer c.self.inside.answers) b)

pub take_data-got-requires-clause-due : goal.take_data-got-requires-clause-due
take_data-got-requires-clause-due c =
    let b = b-is c.args.links.now (manager_state c.self.inside) c.link_at-link.result.now c.link_at-link.ensures c.possible-possible.result (possible-of c.link_at-link.result.now c.possible-possible.result (manager_view c.self.inside) c.args.self.now c.self.view_is c.possible-possible.ensures) c.wishes.result c.wishes.ensures c.ask-rows.result c.ask-rows.ensures.rows (option_copied c.head_b.result) (option_copied c.passed.result) c.head_b.ensures c.passed.ensures
    in reads-due c.args.links.now (manager_state c.self.inside) c.args.round c.requires.counted c.self.invariant.state c.take_response-written.new.answers
    (c.take_response-written.ensures.answers ∙ ap (λ answer. note_write c.args.round answer c.self.inside.answers) b)

pub overflow_add-self-2 : goal.overflow_add-self-2
overflow_add-self-2 c =
    let links : List LinkView = c.args.links.now
    in let st : ManagerState = manager_state c.self.inside
    in let b = b-is links st c.link_at-link.result.now c.link_at-link.ensures c.possible-possible.result (possible-of c.link_at-link.result.now c.possible-possible.result (manager_view c.self.inside) c.args.self.now c.self.view_is c.possible-possible.ensures) c.wishes.result c.wishes.ensures c.ask-rows.result c.ask-rows.ensures.rows (option_copied c.head_b.result) (option_copied c.passed.result) c.head_b.ensures c.passed.ensures
    in let r = r-is links st c.link_at-link.result.now c.link_at-link.ensures c.possible-possible.result (possible-of c.link_at-link.result.now c.possible-possible.result (manager_view c.self.inside) c.args.self.now c.self.view_is c.possible-possible.ensures) c.wishes.result c.wishes.ensures c.ask-rows.result c.ask-rows.ensures.rows (option_copied c.head_r.result) (option_copied c.passed-2.result) c.head_r.ensures c.passed-2.ensures
    in let wrote : c.from.result ≡ more (is_some (manager_b links st)) = c.from.ensures ∙ byte-more _ ∙ ap more (c.take_response-written.ensures.taken ∙ ap is_some b)
    in let got : c.from-2.result ≡ more (is_some (manager_r_last links st)) =
    c.from-2.ensures ∙ byte-more _
    ∙ got-last links st c.args.round c.self.invariant.state c.take_response-written.new.answers _ c.take_data-got.result c.unwrap_or.result (c.take_response-written.ensures.answers ∙ ap (λ answer. note_write c.args.round answer c.self.inside.answers) b) r c.take_data-got.ensures.taken c.unwrap_or.ensures
    in let small = answered-small links st c.args.round c.requires.counted c.self.invariant.state
    in let fits : c.self.inside.answered + (c.from.result + c.from-2.result) < 2 ^ 32 = sum-small c.self.inside.answered _ _ _ _ wrote got small
    in omega (arith, fits)

pub step-requires-clause-small : goal.step-requires-clause-small
step-requires-clause-small c = sent-small (manager_state c.self.inside) c.self.invariant.state

pub step-requires-clause-place : goal.step-requires-clause-place
step-requires-clause-place c =
    chosen-within c.args.links.now (manager_state c.self.inside) c.link_at-link.result.now c.link_at-link.ensures c.possible-possible.result (possible-of c.link_at-link.result.now c.possible-possible.result (manager_view c.self.inside) c.args.self.now c.self.view_is c.possible-possible.ensures) c.wishes.result c.wishes.ensures c.ask-rows.result c.ask-rows.ensures.rows c.ask-rows.result.w c.possible-possible.result.data_beat c.chosen-data.result (possible-of c.link_at-link.result.now c.possible-possible.result (manager_view c.self.inside) c.args.self.now c.self.view_is c.possible-possible.ensures).data_within c.chosen-data.ensures

pub step-requires-clause-within : goal.step-requires-clause-within
step-requires-clause-within c =
    let w = w-is c.args.links.now (manager_state c.self.inside) c.link_at-link.result.now c.link_at-link.ensures c.possible-possible.result (possible-of c.link_at-link.result.now c.possible-possible.result (manager_view c.self.inside) c.args.self.now c.self.view_is c.possible-possible.ensures) c.wishes.result c.wishes.ensures c.ask-rows.result c.ask-rows.ensures.rows c.chosen-data.result c.chosen-data.ensures
    in next-within c.args.links.now (manager_state c.self.inside) c.self.inside.sending (placed c.self.inside.script c.chosen-data.result) w refl c.self.invariant.sending

pub issue-requires-clause-room : goal.issue-requires-clause-room
issue-requires-clause-room c = λ some.
    let is = aw-is c.args.links.now (manager_state c.self.inside) c.link_at-link.result.now c.link_at-link.ensures c.possible-possible.result (possible-of c.link_at-link.result.now c.possible-possible.result (manager_view c.self.inside) c.args.self.now c.self.view_is c.possible-possible.ensures) c.wishes.result c.wishes.ensures c.ask-rows.result c.ask-rows.ensures.rows c.chosen-write.result c.chosen-write.ensures in
    let within = chosen-within c.args.links.now (manager_state c.self.inside) c.link_at-link.result.now c.link_at-link.ensures c.possible-possible.result (possible-of c.link_at-link.result.now c.possible-possible.result (manager_view c.self.inside) c.args.self.now c.self.view_is c.possible-possible.ensures) c.wishes.result c.wishes.ensures c.ask-rows.result c.ask-rows.ensures.rows c.ask-rows.result.aw c.possible-possible.result.write c.chosen-write.result (possible-of c.link_at-link.result.now c.possible-possible.result (manager_view c.self.inside) c.args.self.now c.self.view_is c.possible-possible.ensures).write_within c.chosen-write.ensures in
    let room = aw-room c.args.links.now (manager_state c.self.inside) c.chosen-write.result within is some in
    subst (λ (entries : List Entry). length entries < 16) (sym (ap (λ direction. direction.entries) c.take_response-written.ensures.writes)) (room-left c.self.inside.writes.entries _ room.0)

pub issue-requires-clause-left : goal.issue-requires-clause-left
issue-requires-clause-left c = λ some.
    let is = aw-is c.args.links.now (manager_state c.self.inside) c.link_at-link.result.now c.link_at-link.ensures c.possible-possible.result (possible-of c.link_at-link.result.now c.possible-possible.result (manager_view c.self.inside) c.args.self.now c.self.view_is c.possible-possible.ensures) c.wishes.result c.wishes.ensures c.ask-rows.result c.ask-rows.ensures.rows c.chosen-write.result c.chosen-write.ensures in
    let within = chosen-within c.args.links.now (manager_state c.self.inside) c.link_at-link.result.now c.link_at-link.ensures c.possible-possible.result (possible-of c.link_at-link.result.now c.possible-possible.result (manager_view c.self.inside) c.args.self.now c.self.view_is c.possible-possible.ensures) c.wishes.result c.wishes.ensures c.ask-rows.result c.ask-rows.ensures.rows c.ask-rows.result.aw c.possible-possible.result.write c.chosen-write.result (possible-of c.link_at-link.result.now c.possible-possible.result (manager_view c.self.inside) c.args.self.now c.self.view_is c.possible-possible.ensures).write_within c.chosen-write.ensures in
    let room = aw-room c.args.links.now (manager_state c.self.inside) c.chosen-write.result within is some in
    let more = places-many c.self.inside.writes.places.items (script_writes c.self.inside.script) c.self.inside.writes.issued c.self.invariant.write_places room.1 in
    subst (λ (n : ℕ). c.take_response-written.new.writes.issued < n) (sym c.take_response-written.new.writes.places.ok.0) (subst (λ (d : Direction). d.issued < length d.places.items) (sym c.take_response-written.ensures.writes) more)

pub issue-requires-2-clause-room : goal.issue-requires-2-clause-room
issue-requires-2-clause-room c = λ some.
    let is = ar-is c.args.links.now (manager_state c.self.inside) c.link_at-link.result.now c.link_at-link.ensures c.possible-possible.result (possible-of c.link_at-link.result.now c.possible-possible.result (manager_view c.self.inside) c.args.self.now c.self.view_is c.possible-possible.ensures) c.wishes.result c.wishes.ensures c.ask-rows.result c.ask-rows.ensures.rows c.chosen-read.result c.chosen-read.ensures in
    let within = chosen-within c.args.links.now (manager_state c.self.inside) c.link_at-link.result.now c.link_at-link.ensures c.possible-possible.result (possible-of c.link_at-link.result.now c.possible-possible.result (manager_view c.self.inside) c.args.self.now c.self.view_is c.possible-possible.ensures) c.wishes.result c.wishes.ensures c.ask-rows.result c.ask-rows.ensures.rows c.ask-rows.result.ar c.possible-possible.result.read c.chosen-read.result (possible-of c.link_at-link.result.now c.possible-possible.result (manager_view c.self.inside) c.args.self.now c.self.view_is c.possible-possible.ensures).read_within c.chosen-read.ensures in
    let room = ar-room c.args.links.now (manager_state c.self.inside) c.chosen-read.result within is some in
    subst (λ (entries : List Entry). length entries < 16) (sym (ap (λ direction. direction.entries) c.take_data-got.ensures.reads)) (room-left c.self.inside.reads.entries _ room.0)

pub issue-requires-2-clause-left : goal.issue-requires-2-clause-left
issue-requires-2-clause-left c = λ some.
    let is = ar-is c.args.links.now (manager_state c.self.inside) c.link_at-link.result.now c.link_at-link.ensures c.possible-possible.result (possible-of c.link_at-link.result.now c.possible-possible.result (manager_view c.self.inside) c.args.self.now c.self.view_is c.possible-possible.ensures) c.wishes.result c.wishes.ensures c.ask-rows.result c.ask-rows.ensures.rows c.chosen-read.result c.chosen-read.ensures in
    let within = chosen-within c.args.links.now (manager_state c.self.inside) c.link_at-link.result.now c.link_at-link.ensures c.possible-possible.result (possible-of c.link_at-link.result.now c.possible-possible.result (manager_view c.self.inside) c.args.self.now c.self.view_is c.possible-possible.ensures) c.wishes.result c.wishes.ensures c.ask-rows.result c.ask-rows.ensures.rows c.ask-rows.result.ar c.possible-possible.result.read c.chosen-read.result (possible-of c.link_at-link.result.now c.possible-possible.result (manager_view c.self.inside) c.args.self.now c.self.view_is c.possible-possible.ensures).read_within c.chosen-read.ensures in
    let room = ar-room c.args.links.now (manager_state c.self.inside) c.chosen-read.result within is some in
    let more = places-many c.self.inside.reads.places.items (script_reads c.self.inside.script) c.self.inside.reads.issued c.self.invariant.read_places room.1 in
    subst (λ (n : ℕ). c.take_data-got.new.reads.issued < n) (sym c.take_data-got.new.reads.places.ok.0) (subst (λ (d : Direction). d.issued < length d.places.items) (sym c.take_data-got.ensures.reads) more)

-- the state after the round is the table's
state-after : (c : goal.After-issue-2) → ◌≡◌ {A = ManagerState} (record { script = c.self.inside.script; lower = c.self.inside.lower; bus = c.self.inside.bus; paces = c.ask-rows.new.self; issued_writes = c.issue.new.direction.issued; issued_reads = c.issue-2.new.direction.issued; sent_writes = c.step.new.self.writes; sent_beats = c.step.new.self.beats; write_entries = c.issue.new.direction.entries; read_entries = c.issue-2.new.direction.entries; answered = c.self.inside.answered + (c.from.result + c.from-2.result); answers = c.issue-2.new.answers }) (manager_next c.args.round c.args.links.now (manager_state c.self.inside))
state-after c =
    let links : List LinkView = c.args.links.now
    in let s : ManagerState = manager_state c.self.inside
    in let link : LinkView = c.link_at-link.result.now
    in let aw = aw-is links s c.link_at-link.result.now c.link_at-link.ensures c.possible-possible.result (possible-of c.link_at-link.result.now c.possible-possible.result (manager_view c.self.inside) c.args.self.now c.self.view_is c.possible-possible.ensures) c.wishes.result c.wishes.ensures c.ask-rows.result c.ask-rows.ensures.rows c.chosen-write.result c.chosen-write.ensures
    in let ar = ar-is links s c.link_at-link.result.now c.link_at-link.ensures c.possible-possible.result (possible-of c.link_at-link.result.now c.possible-possible.result (manager_view c.self.inside) c.args.self.now c.self.view_is c.possible-possible.ensures) c.wishes.result c.wishes.ensures c.ask-rows.result c.ask-rows.ensures.rows c.chosen-read.result c.chosen-read.ensures
    in let w = w-is links s c.link_at-link.result.now c.link_at-link.ensures c.possible-possible.result (possible-of c.link_at-link.result.now c.possible-possible.result (manager_view c.self.inside) c.args.self.now c.self.view_is c.possible-possible.ensures) c.wishes.result c.wishes.ensures c.ask-rows.result c.ask-rows.ensures.rows c.chosen-data.result c.chosen-data.ensures
    in let b = b-is links s c.link_at-link.result.now c.link_at-link.ensures c.possible-possible.result (possible-of c.link_at-link.result.now c.possible-possible.result (manager_view c.self.inside) c.args.self.now c.self.view_is c.possible-possible.ensures) c.wishes.result c.wishes.ensures c.ask-rows.result c.ask-rows.ensures.rows (option_copied c.head_b.result) (option_copied c.passed.result) c.head_b.ensures c.passed.ensures
    in let r = r-is links s c.link_at-link.result.now c.link_at-link.ensures c.possible-possible.result (possible-of c.link_at-link.result.now c.possible-possible.result (manager_view c.self.inside) c.args.self.now c.self.view_is c.possible-possible.ensures) c.wishes.result c.wishes.ensures c.ask-rows.result c.ask-rows.ensures.rows (option_copied c.head_r.result) (option_copied c.passed-2.result) c.head_r.ensures c.passed-2.ensures
    in let wrote : c.from.result ≡ more (is_some (manager_b links s)) = c.from.ensures ∙ byte-more _ ∙ ap more (c.take_response-written.ensures.taken ∙ ap is_some b)
    in let noted : c.take_response-written.new.answers ≡ note_write c.args.round (manager_b links s) s.answers = c.take_response-written.ensures.answers ∙ ap (λ answer. note_write c.args.round answer s.answers) b
    in let ends : ending c.take_response-written.new.answers (answering (λ beat. beat.id) s.read_entries (option_copied c.passed-2.result)) ≡ manager_r_last links s = last-is links s c.args.round c.self.invariant.state c.take_response-written.new.answers _ noted r
    in let got : c.from-2.result ≡ more (is_some (manager_r_last links s)) =
    c.from-2.ensures ∙ byte-more _ ∙ got-last links s c.args.round c.self.invariant.state c.take_response-written.new.answers _ c.take_data-got.result c.unwrap_or.result noted r c.take_data-got.ensures.taken c.unwrap_or.ensures
    in let sent : c.step.new.self ≡ sent_after (manager_w links s) c.self.inside.sending = c.step.ensures ∙ ap (λ next. sent_after next c.self.inside.sending) w
    in state-same s.script s.lower s.bus _ _ _ _ _ _ _ _ _ _ _ _ _ _ _ _ _ _
    (paces-are links s c.link_at-link.result.now c.link_at-link.ensures c.possible-possible.result (possible-of c.link_at-link.result.now c.possible-possible.result (manager_view c.self.inside) c.args.self.now c.self.view_is c.possible-possible.ensures) c.wishes.result c.wishes.ensures c.ask-rows.result c.ask-rows.ensures.rows c.ask-rows.new.self c.ask-rows.ensures.paces)
    (ap (λ direction. direction.issued) c.issue.ensures.direction ∙ ap (λ direction. direction.issued + more (is_some (placed s.script c.chosen-write.result))) c.take_response-written.ensures.writes ∙ ap (λ next. s.issued_writes + more (is_some next)) aw)
    (ap (λ direction. direction.issued) c.issue-2.ensures.direction ∙ ap (λ direction. direction.issued + more (is_some (placed s.script c.chosen-read.result))) c.take_data-got.ensures.reads ∙ ap (λ next. s.issued_reads + more (is_some next)) ar)
    (ap (λ (sending : Sending). sending.writes) sent ∙ sent-writes c.self.inside.sending (manager_w links s))
    (ap (λ (sending : Sending). sending.beats) sent ∙ sent-beats c.self.inside.sending (manager_w links s))
    (ap (λ direction. direction.entries) c.issue.ensures.direction ∙ ap (λ direction. with_issued (placed s.script c.chosen-write.result) direction.entries) c.take_response-written.ensures.writes ∙ ap (λ next. with_issued next (left_waiting (answering (λ beat. beat.id) s.write_entries (option_copied c.passed.result)) s.write_entries)) aw ∙ ap (λ answer. with_issued (manager_aw links s) (left_waiting answer s.write_entries)) b)
    (ap (λ direction. direction.entries) c.issue-2.ensures.direction ∙ ap (λ direction. with_issued (placed s.script c.chosen-read.result) direction.entries) c.take_data-got.ensures.reads ∙ ap (λ next. with_issued next (left_waiting (ending c.take_response-written.new.answers (answering (λ beat. beat.id) s.read_entries (option_copied c.passed-2.result))) s.read_entries)) ar ∙ ap (λ answer. with_issued (manager_ar links s) (left_waiting answer s.read_entries)) ends)
    (sum-same s.answered _ _ _ _ wrote got)
    (c.issue-2.ensures.answers
    ∙ ap (note_issue c.args.round (placed s.script c.chosen-read.result)) (c.issue.ensures.answers ∙ ap (note_issue c.args.round (placed s.script c.chosen-write.result)) (c.take_data-got.ensures.answers ∙ ap (note_read c.args.round s.bus s.script (answering (λ beat. beat.id) s.read_entries (option_copied c.passed-2.result))) c.take_response-written.ensures.answers))
    ∙ ap (λ next. note_issue c.args.round next (note_issue c.args.round (placed s.script c.chosen-write.result) (note_read c.args.round s.bus s.script (answering (λ beat. beat.id) s.read_entries (option_copied c.passed-2.result)) (note_write c.args.round (answering (λ beat. beat.id) s.write_entries (option_copied c.passed.result)) s.answers)))) ar
    ∙ ap (λ next. note_issue c.args.round (manager_ar links s) (note_issue c.args.round next (note_read c.args.round s.bus s.script (answering (λ beat. beat.id) s.read_entries (option_copied c.passed-2.result)) (note_write c.args.round (answering (λ beat. beat.id) s.write_entries (option_copied c.passed.result)) s.answers)))) aw
    ∙ ap (λ answer. note_issue c.args.round (manager_ar links s) (note_issue c.args.round (manager_aw links s) (note_read c.args.round s.bus s.script answer (note_write c.args.round (answering (λ beat. beat.id) s.write_entries (option_copied c.passed.result)) s.answers)))) r
    ∙ ap (λ answer. note_issue c.args.round (manager_ar links s) (note_issue c.args.round (manager_aw links s) (note_read c.args.round s.bus s.script (manager_r links s) (note_write c.args.round answer s.answers)))) b)

-- the moves of the round are the table's
out-after : (c : goal.After-issue-2) → ◌≡◌ {A = Out} (record { aw_take = c.self.inside.out.aw_take; aw_put = c.put_request.new.put; w_take = c.self.inside.out.w_take; w_put = c.put_data.new.put; b_take = c.set_take.new.take; b_put = c.self.inside.out.b_put; ar_take = c.self.inside.out.ar_take; ar_put = c.put_request-2.new.put; r_take = c.set_take-2.new.take; r_put = c.self.inside.out.r_put }) (manager_out c.args.links.now (manager_state c.self.inside))
out-after c =
    let links : List LinkView = c.args.links.now
    in let s : ManagerState = manager_state c.self.inside
    in let link : LinkView = c.link_at-link.result.now
    in let aw = aw-is links s c.link_at-link.result.now c.link_at-link.ensures c.possible-possible.result (possible-of c.link_at-link.result.now c.possible-possible.result (manager_view c.self.inside) c.args.self.now c.self.view_is c.possible-possible.ensures) c.wishes.result c.wishes.ensures c.ask-rows.result c.ask-rows.ensures.rows c.chosen-write.result c.chosen-write.ensures
    in let ar = ar-is links s c.link_at-link.result.now c.link_at-link.ensures c.possible-possible.result (possible-of c.link_at-link.result.now c.possible-possible.result (manager_view c.self.inside) c.args.self.now c.self.view_is c.possible-possible.ensures) c.wishes.result c.wishes.ensures c.ask-rows.result c.ask-rows.ensures.rows c.chosen-read.result c.chosen-read.ensures
    in let w = w-is links s c.link_at-link.result.now c.link_at-link.ensures c.possible-possible.result (possible-of c.link_at-link.result.now c.possible-possible.result (manager_view c.self.inside) c.args.self.now c.self.view_is c.possible-possible.ensures) c.wishes.result c.wishes.ensures c.ask-rows.result c.ask-rows.ensures.rows c.chosen-data.result c.chosen-data.ensures
    in let b = b-is links s c.link_at-link.result.now c.link_at-link.ensures c.possible-possible.result (possible-of c.link_at-link.result.now c.possible-possible.result (manager_view c.self.inside) c.args.self.now c.self.view_is c.possible-possible.ensures) c.wishes.result c.wishes.ensures c.ask-rows.result c.ask-rows.ensures.rows (option_copied c.head_b.result) (option_copied c.passed.result) c.head_b.ensures c.passed.ensures
    in let r = r-is links s c.link_at-link.result.now c.link_at-link.ensures c.possible-possible.result (possible-of c.link_at-link.result.now c.possible-possible.result (manager_view c.self.inside) c.args.self.now c.self.view_is c.possible-possible.ensures) c.wishes.result c.wishes.ensures c.ask-rows.result c.ask-rows.ensures.rows (option_copied c.head_r.result) (option_copied c.passed-2.result) c.head_r.ensures c.passed-2.ensures
    in out-same _ _ _ _ _ _ _ _ _ _ _ _ _ _ _ c.self.invariant.above.aw_take
    (c.put_request.ensures ∙ ap (λ (next : Option (ℕ × ScriptItem)). put_of s.lower (option_map (λ (n : ℕ × ScriptItem). item_request n.1) next)) aw)
    c.self.invariant.above.w_take
    (c.put_data.ensures ∙ ap (λ (next : Option (ℕ × ScriptItem)). put_of s.lower (option_map (λ (n : ℕ × ScriptItem). data_beat n.1 s.bus s.sent_beats) next)) w)
    (c.set_take.ensures ∙ ap (take_of s.lower) (c.take_response-written.ensures.taken ∙ ap is_some b))
    c.self.invariant.above.b_put c.self.invariant.above.ar_take
    (c.put_request-2.ensures ∙ ap (λ (next : Option (ℕ × ScriptItem)). put_of s.lower (option_map (λ (n : ℕ × ScriptItem). item_request n.1) next)) ar)
    (c.set_take-2.ensures ∙ ap (take_of s.lower) (c.is_some.ensures ∙ got-some _ _ c.take_data-got.result c.take_data-got.ensures.taken ∙ ap is_some r))
    c.self.invariant.above.r_put

pub invariant_of-self : goal.invariant_of-self
invariant_of-self c = record {
  state = subst IsManager (sym (state-after c)) (manager-stays c.args.links.now (manager_state c.self.inside) c.args.round c.requires.counted c.self.invariant.state);
  write_places = ap (λ direction. direction.places.items) c.issue.ensures.direction ∙ ap (λ direction. direction.places.items) c.take_response-written.ensures.writes ∙ c.self.invariant.write_places;
  read_places = ap (λ direction. direction.places.items) c.issue-2.ensures.direction ∙ ap (λ direction. direction.places.items) c.take_data-got.ensures.reads ∙ c.self.invariant.read_places;
  sending =
      let w = w-is c.args.links.now (manager_state c.self.inside) c.link_at-link.result.now c.link_at-link.ensures c.possible-possible.result (possible-of c.link_at-link.result.now c.possible-possible.result (manager_view c.self.inside) c.args.self.now c.self.view_is c.possible-possible.ensures) c.wishes.result c.wishes.ensures c.ask-rows.result c.ask-rows.ensures.rows c.chosen-data.result c.chosen-data.ensures
      in subst (λ (sending : Sending). IfSome (slice_get (script_writes c.self.inside.script) sending.writes) (λ (next : ℕ × ScriptItem). IsWithin sending next.1)) (sym (c.step.ensures ∙ ap (λ next. sent_after next c.self.inside.sending) w)) (sending-next c.self.inside.script c.self.inside.sending (manager_w c.args.links.now (manager_state c.self.inside)) (w-next c.args.links.now (manager_state c.self.inside)) c.self.invariant.sending);
  above = record { aw_take = c.self.invariant.above.aw_take; w_take = c.self.invariant.above.w_take; b_put = c.self.invariant.above.b_put; ar_take = c.self.invariant.above.ar_take; r_put = c.self.invariant.above.r_put };
}

pub returns : goal.returns
returns c = record {
  table = acted-same _ _ _ _ (state-after c) (out-after c) ∙ ap (λ (acted : Acted ManagerState). manager_table c.args.round c.args.links.now acted.state) c.self.view_is;
  fact = subst IsManager (sym (state-after c)) (manager-stays c.args.links.now (manager_state c.self.inside) c.args.round c.requires.counted c.self.invariant.state);
}
