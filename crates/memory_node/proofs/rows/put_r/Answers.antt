use Rattle.std.proofs.Common.{◌≡◌, ◌≢◌, ◌∙◌, ◌<◌, ℕ, true, false, Option, Some, sym, ap, subst, arith, eq-eqb, true≢false}
use Rattle.std.specs.Prelude.{IfSome, IsSome, option_map}
use Rattle.axi_beats.specs.declared.beat.RBeat.{RBeat}
use Rattle.axi_link.specs.LinkWords.{head_of}
use Rattle.memory_node.specs.MemoryState.{IsReadEntry}
use Rattle.memory_node.specs.MemoryTable.{memory_service}
use Rattle.node_core.specs.Rows.{beat_where, put_of}
use Rattle.plain_lists.proofs.PlaceLemmas.{at-has}
use Rattle.subordinate.specs.SubordinateTable.{next_beat}
use Rattle.subordinate.specs.declared.entry.ReadEntry.{ReadEntry}
use Rattle.memory_node.proofs.rows.put_r.Goals.{in-Some, in_default}
use Rattle.memory_node.proofs.rows.put_r.Goals as goal

pub note_put-requires-clause-more : goal.note_put-requires-clause-more
note_put-requires-clause-more c = λ differs.
    let is : IsReadEntry c.args.area.now c.get.result.now = at-has (IsReadEntry c.args.area.now) c.args.entries.now 0 c.get.result.now c.get.ensures c.requires.reads in
    let other : c.get.result.now.put ≢ c.get.result.now.request.len = λ same. true≢false (sym (eq-eqb c.get.result.now.put c.from.result (same ∙ sym c.from.ensures)) ∙ differs) in
    subst (λ (o : Option ReadEntry). IfSome o (λ entry. entry.put < entry.request.len)) (sym c.get.ensures) (omega (arith, is.put, other))

pub returns-clause-put : goal.returns-clause-put
returns-clause-put c =
    let next : ReadEntry → RBeat = next_beat (memory_service c.args.area.now) c.args.store.now in
    let done : beat_where c.args.done (option_map next (head_of c.args.entries.now)) ≡ Some (next c.get.result.now) =
    ap (λ b. beat_where b (option_map next (head_of c.args.entries.now))) c.if-not-done.false ∙ ap (option_map next) c.get.ensures in
    elim c.match-put.branch [
      | in-Some w ↦
          let link : w.in-Some.field-0-0 ≡ c.args.number = subst (λ (o : Option (ℕ × RBeat)). IfSome o (λ standing. standing.0 ≡ c.args.number)) w.in-Some.is c.open_put.ensures.link in
          w.put-is
          ∙ ap (λ (n : ℕ). Some (n, w.write_answer.new.beat)) link
          ∙ ap (λ (b : RBeat). Some (c.args.number, b)) w.write_answer.ensures
          ∙ sym (ap (put_of c.args.number) done)
      | in_default w ↦ absurd (let no : false ≡ true = subst (λ (o : Option (ℕ × RBeat)). IsSome o) w.in_default.is c.open_put.ensures.some in cc)
    ]
