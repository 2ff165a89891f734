use Rattle.std.proofs.Common.{◌≡◌, ◌∙◌, ℕ, ◌<◌, ◌≤◌, ◌&&◌, List, Option, length, sym, ap, subst, arith, IsTrue}
use Rattle.std.specs.Prelude.{All, is_some}
use Rattle.std.specs.Option.{option_copied, option_map}
use Rattle.axi_beats.specs.declared.beat.Addr.{Addr}
use Rattle.axi_beats.specs.declared.beat.BBeat.{BBeat}
use Rattle.axi_beats.specs.declared.beat.RBeat.{RBeat}
use Rattle.axi_beats.specs.declared.beat.WBeat.{WBeat}
use Rattle.axi_link.specs.LinkView.{LinkView}
use Rattle.axi_link.specs.LinkWords.{head_of}
use Rattle.node_core.specs.Acted.{Acted}
use Rattle.node_core.specs.Pace.{is_let}
use Rattle.node_core.specs.Paces.{paces_after, rows_let}
use Rattle.node_core.specs.Rows.{beat_where, fits}
use Rattle.node_core.specs.declared.paces.EachRow.{EachRow}
use Rattle.node_core.specs.declared.paces.Paces.{Paces}
use Rattle.subordinate.specs.Service.{Service}
use Rattle.subordinate.specs.SubordinateState.{Subordinate}
use Rattle.subordinate.specs.SubordinateTable.{after_ar, after_aw, after_b, after_r, after_w, answer_to, its_rows, its_wishes, kept_after_w, moved_ar, moved_aw, moved_b, moved_r, moved_w, next_beat, wanted_rows}
use Rattle.subordinate.specs.declared.entry.ReadEntry.{ReadEntry}
use Rattle.subordinate.specs.declared.entry.WriteEntry.{WriteEntry}
use Rattle.memory_node.specs.MemoryInside.{memory_state}
use Rattle.memory_node.specs.MemoryState.{IsMemory, IsWriteEntry, MemoryState}
use Rattle.memory_node.specs.Store.{Store}
use Rattle.memory_node.specs.MemoryTable.{CanMemory, memory_next, memory_service}
use Rattle.memory_node.proofs.StayLemmas.{after_b-stays, memory-stays}
use Rattle.subordinate.proofs.EntryLemmas.{length-after_b, length-after_r, length-after_w, let-fits}
use Rattle.memory_node.proofs.memory.MemoryNode.act.Goals as goal

pub take_w-requires-clause-writes : goal.take_w-requires-clause-writes
take_w-requires-clause-writes c =
    let Has : WriteEntry → Type 0 = IsWriteEntry c.self.inside.area c.self.inside.store.lines in
    subst (λ (es : List WriteEntry). All Has es) (sym c.put_b.ensures.entries)
    (after_b-stays c.self.inside.area c.self.inside.store.lines (beat_where c.ask-rows.result.b (option_map answer_to (head_of c.self.inside.writes))) c.self.inside.writes c.self.invariant.state.writes)

pub take_aw-requires : goal.take_aw-requires
take_aw-requires c = λ done.
    let link : LinkView = c.link_at-link.result.now in
    let rows : c.ask-rows.result ≡ rows_let (wanted_rows link c.self.inside.writes c.self.inside.reads) c.self.inside.paces =
    c.ask-rows.ensures.rows ∙ ap (λ (w : EachRow). rows_let w c.self.inside.paces) c.wanted.ensures in
    let here : IsTrue (is_let (is_some (head_of link.aw) && fits c.self.inside.writes) c.self.inside.paces.aw) = sym (ap (λ (r : EachRow). r.aw) rows) ∙ done in
    let before : length c.self.inside.writes < 16 = let-fits (is_some (head_of link.aw)) c.self.inside.writes c.self.inside.paces.aw here in
    let answered : length c.put_b.new.entries ≤ length c.self.inside.writes =
    subst (λ (n : ℕ). n ≤ length c.self.inside.writes) (sym (ap (λ (es : List WriteEntry). length es) c.put_b.ensures.entries))
    (length-after_b (beat_where c.ask-rows.result.b (option_map answer_to (head_of c.self.inside.writes))) c.self.inside.writes) in
    let filled : length c.take_w.new.entries ≡ length c.put_b.new.entries =
    ap (λ (es : List WriteEntry). length es) c.take_w.ensures.entries
    ∙ length-after_w (memory_service c.self.inside.area) (beat_where c.ask-rows.result.w (option_copied c.head_w.result)) c.put_b.new.entries in
    omega (arith, before, answered, filled)

pub take_ar-requires : goal.take_ar-requires
take_ar-requires c = λ done.
    let link : LinkView = c.link_at-link.result.now in
    let rows : c.ask-rows.result ≡ rows_let (wanted_rows link c.self.inside.writes c.self.inside.reads) c.self.inside.paces =
    c.ask-rows.ensures.rows ∙ ap (λ (w : EachRow). rows_let w c.self.inside.paces) c.wanted.ensures in
    let here : IsTrue (is_let (is_some (head_of link.ar) && fits c.self.inside.reads) c.self.inside.paces.ar) = sym (ap (λ (r : EachRow). r.ar) rows) ∙ done in
    let before : length c.self.inside.reads < 16 = let-fits (is_some (head_of link.ar)) c.self.inside.reads c.self.inside.paces.ar here in
    let answered : length c.put_r.new.entries ≤ length c.self.inside.reads =
    subst (λ (n : ℕ). n ≤ length c.self.inside.reads) (sym (ap (λ (es : List ReadEntry). length es) c.put_r.ensures.entries))
    (length-after_r (beat_where c.ask-rows.result.r (option_map (next_beat (memory_service c.self.inside.area) c.self.inside.store) (head_of c.self.inside.reads))) c.self.inside.reads) in
    omega (arith, before, answered)

-- what is taken and put is what the table says
abbrev state_of : goal.After-take_ar → MemoryState
state_of c = memory_state c.self.inside

abbrev service_of : goal.After-take_ar → Service Store
service_of c = memory_service c.self.inside.area

abbrev rows_of : goal.After-take_ar → EachRow
rows_of c = its_rows (service_of c) c.args.links.now (state_of c).inner

the-wishes : (c : goal.After-take_ar) → c.wanted.result ≡ its_wishes (service_of c) c.args.links.now (state_of c).inner
the-wishes c = c.wanted.ensures ∙ ap (λ (l : LinkView). wanted_rows l c.self.inside.writes c.self.inside.reads) c.link_at-link.ensures

the-rows : (c : goal.After-take_ar) → c.ask-rows.result ≡ rows_of c
the-rows c = c.ask-rows.ensures.rows ∙ ap (λ (w : EachRow). rows_let w c.self.inside.paces) (the-wishes c)

the-b : (c : goal.After-take_ar) → beat_where c.ask-rows.result.b (option_map answer_to (head_of c.self.inside.writes)) ≡ moved_b (service_of c) c.args.links.now (state_of c).inner
the-b c = ap (λ (r : EachRow). beat_where r.b (option_map answer_to (head_of c.self.inside.writes))) (the-rows c)

the-r : (c : goal.After-take_ar) → beat_where c.ask-rows.result.r (option_map (next_beat (service_of c) c.self.inside.store) (head_of c.self.inside.reads)) ≡ moved_r (service_of c) c.args.links.now (state_of c).inner
the-r c = ap (λ (r : EachRow). beat_where r.r (option_map (next_beat (service_of c) c.self.inside.store) (head_of c.self.inside.reads))) (the-rows c)

the-w : (c : goal.After-take_ar) → beat_where c.ask-rows.result.w (option_copied c.head_w.result) ≡ moved_w (service_of c) c.args.links.now (state_of c).inner
the-w c =
    ap (λ (r : EachRow). beat_where r.w (option_copied c.head_w.result)) (the-rows c)
    ∙ ap (beat_where (rows_of c).w) (c.head_w.ensures ∙ ap (λ (l : LinkView). head_of l.w) c.link_at-link.ensures)

the-aw : (c : goal.After-take_ar) → beat_where c.ask-rows.result.aw (option_copied c.head_aw.result) ≡ moved_aw (service_of c) c.args.links.now (state_of c).inner
the-aw c =
    ap (λ (r : EachRow). beat_where r.aw (option_copied c.head_aw.result)) (the-rows c)
    ∙ ap (beat_where (rows_of c).aw) (c.head_aw.ensures ∙ ap (λ (l : LinkView). head_of l.aw) c.link_at-link.ensures)

the-ar : (c : goal.After-take_ar) → beat_where c.ask-rows.result.ar (option_copied c.head_ar.result) ≡ moved_ar (service_of c) c.args.links.now (state_of c).inner
the-ar c =
    ap (λ (r : EachRow). beat_where r.ar (option_copied c.head_ar.result)) (the-rows c)
    ∙ ap (beat_where (rows_of c).ar) (c.head_ar.ensures ∙ ap (λ (l : LinkView). head_of l.ar) c.link_at-link.ensures)

-- and so are the entries and the bytes
the-answered : (c : goal.After-take_ar) → c.put_b.new.entries ≡ after_b (moved_b (service_of c) c.args.links.now (state_of c).inner) c.self.inside.writes
the-answered c = c.put_b.ensures.entries ∙ ap (λ (o : Option BBeat). after_b o c.self.inside.writes) (the-b c)

the-writes : (c : goal.After-take_ar) → c.take_aw.new.entries ≡ (memory_next c.args.links.now (state_of c)).inner.writes
the-writes c =
    let links : List LinkView = c.args.links.now in
    let inner : Subordinate Store = (state_of c).inner in
    c.take_aw.ensures.entries
    ∙ ap (λ (o : Option Addr). after_aw o c.take_w.new.entries) (the-aw c)
    ∙ ap (after_aw (moved_aw (service_of c) links inner)) (c.take_w.ensures.entries
    ∙ ap (λ (o : Option WBeat). after_w (service_of c) o c.put_b.new.entries) (the-w c)
    ∙ ap (after_w (service_of c) (moved_w (service_of c) links inner)) (the-answered c))

the-reads : (c : goal.After-take_ar) → c.take_ar.new.entries ≡ (memory_next c.args.links.now (state_of c)).inner.reads
the-reads c =
    let links : List LinkView = c.args.links.now in
    let inner : Subordinate Store = (state_of c).inner in
    c.take_ar.ensures.entries
    ∙ ap (λ (o : Option Addr). after_ar o c.put_r.new.entries) (the-ar c)
    ∙ ap (after_ar (moved_ar (service_of c) links inner)) (c.put_r.ensures.entries ∙ ap (λ (o : Option RBeat). after_r o c.self.inside.reads) (the-r c))

the-store : (c : goal.After-take_ar) → c.take_w.new.store ≡ (memory_next c.args.links.now (state_of c)).inner.kept
the-store c =
    let links : List LinkView = c.args.links.now in
    let inner : Subordinate Store = (state_of c).inner in
    c.take_w.ensures.store
    ∙ ap (λ (o : Option WBeat). kept_after_w (service_of c) o c.put_b.new.entries c.self.inside.store) (the-w c)
    ∙ ap (λ (es : List WriteEntry). kept_after_w (service_of c) (moved_w (service_of c) links inner) es c.self.inside.store) (the-answered c)

the-paces : (c : goal.After-take_ar) → c.ask-rows.new.self ≡ (memory_next c.args.links.now (state_of c)).inner.paces
the-paces c = c.ask-rows.ensures.paces ∙ ap (λ (w : EachRow). paces_after w c.self.inside.paces) (the-wishes c)

abbrev state_with : (c : goal.After-take_ar) → Paces → List WriteEntry → List ReadEntry → Store → MemoryState
state_with c paces writes reads store = record { area = c.self.inside.area; inner = record { upper = c.self.inside.upper; paces = paces; writes = writes; reads = reads; kept = store } }

the-state : (c : goal.After-take_ar) → state_with c c.ask-rows.new.self c.take_aw.new.entries c.take_ar.new.entries c.take_w.new.store ≡ memory_next c.args.links.now (state_of c)
the-state c =
    let next : Subordinate Store = (memory_next c.args.links.now (state_of c)).inner in
    ap (λ (p : Paces). state_with c p c.take_aw.new.entries c.take_ar.new.entries c.take_w.new.store) (the-paces c)
    ∙ ap (λ (es : List WriteEntry). state_with c next.paces es c.take_ar.new.entries c.take_w.new.store) (the-writes c)
    ∙ ap (λ (es : List ReadEntry). state_with c next.paces next.writes es c.take_w.new.store) (the-reads c)
    ∙ ap (state_with c next.paces next.writes next.reads) (the-store c)

stays : (c : goal.After-take_ar) → IsMemory (state_with c c.ask-rows.new.self c.take_aw.new.entries c.take_ar.new.entries c.take_w.new.store)
stays c =
    let links : List LinkView = c.args.links.now in
    let can : CanMemory links (state_of c) = subst (λ (a : Acted MemoryState). CanMemory links a.state) (sym c.self.view_is) c.requires in
    subst (λ (s : MemoryState). IsMemory s) (sym (the-state c)) (memory-stays links (state_of c) c.self.invariant.state can)

pub invariant_of-self : goal.invariant_of-self
invariant_of-self c = record {
  state = stays c;
  aw_put = c.self.invariant.aw_put;
  w_put = c.self.invariant.w_put;
  b_take = c.self.invariant.b_take;
  ar_put = c.self.invariant.ar_put;
  r_take = c.self.invariant.r_take;
}

pub returns-clause-fact : goal.returns-clause-fact
returns-clause-fact c = stays c
