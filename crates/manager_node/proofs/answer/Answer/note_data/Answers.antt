use Rattle.std.proofs.Common.{◌≡◌, ◌≤◌, ◌+◌, ◌-◌, ◌++◌, [], ℕ, List, arith, length, take, refl, sym, ◌∙◌, ap, subst}
use Rattle.std.specs.Prelude.{drop}
use Rattle.std.proofs.lemmas.List.{take_at}
use Rattle.manager_node.specs.Answer.{answered_in}
use Rattle.burst_address.specs.Lanes.{last_lane, first_lane}
use Rattle.manager_node.specs.Beats.{bytes_on_valid_lanes}
use Rattle.manager_node.proofs.AnswerLemmas.{beat-fits, came-is, noted-after}
use Rattle.manager_node.proofs.BurstLemmas.{lane-order}
use Rattle.manager_node.proofs.answer.Answer.note_data.Goals as goal

pub overflow_sub-high : goal.overflow_sub-high
overflow_sub-high c = omega (arith, c.lanes-low.ensures.lower, c.lanes-low.ensures.upper, lane-order c.args.request.now c.args.bus c.self.inside.came c.requires.bus c.requires.legal)

pub put_lanes-requires-clause-within : goal.put_lanes-requires-clause-within
put_lanes-requires-clause-within c =
    subst (λ (bytes : List ℕ). c.self.inside.read + c.from.result + 1 ≤ length bytes) (sym c.deref_mut.ensures.value) (beat-fits c.self.inside c.args.self.now c.args.request.now c.args.bus c.lanes-low.result.0 c.lanes-low.result.1 c.from.result c.self.view_is c.self.invariant c.requires.more c.requires.resps c.requires.came c.requires.bytes c.requires.bus c.requires.legal c.lanes-low.ensures.lower c.lanes-low.ensures.upper c.from.ensures)

pub invariant_of-self : goal.invariant_of-self
invariant_of-self c = record {
  came = c.self.invariant.came;
  read =
      let back : take c.self.inside.bytes.len (c.put_lanes.new.bytes ++ drop (length c.put_lanes.new.bytes) c.self.inside.bytes.items) ≡ c.put_lanes.new.bytes = take_at c.put_lanes.new.bytes (drop (length c.put_lanes.new.bytes) c.self.inside.bytes.items) c.self.inside.bytes.len (c.put_lanes.ensures.length ∙ c.deref_mut.ensures.len)
      in subst (λ (bytes : List ℕ). c.self.inside.read + c.from.result + 1 ≤ length bytes) (sym back)
      (subst (λ (k : ℕ). c.self.inside.read + c.from.result + 1 ≤ k) (sym (c.put_lanes.ensures.length ∙ ap length c.deref_mut.ensures.value)) (beat-fits c.self.inside c.args.self.now c.args.request.now c.args.bus c.lanes-low.result.0 c.lanes-low.result.1 c.from.result c.self.view_is c.self.invariant c.requires.more c.requires.resps c.requires.came c.requires.bytes c.requires.bus c.requires.legal c.lanes-low.ensures.lower c.lanes-low.ensures.upper c.from.ensures));
  counted = c.self.invariant.counted;
}

pub returns-clause-note : goal.returns-clause-note
returns-clause-note c =
    let came = came-is c.self.inside c.args.self.now c.self.view_is c.self.invariant
    in let back : take c.self.inside.bytes.len (c.put_lanes.new.bytes ++ drop (length c.put_lanes.new.bytes) c.self.inside.bytes.items) ≡ c.put_lanes.new.bytes = take_at c.put_lanes.new.bytes (drop (length c.put_lanes.new.bytes) c.self.inside.bytes.items) c.self.inside.bytes.len (c.put_lanes.ensures.length ∙ c.deref_mut.ensures.len)
    in c.note_response.ensures.note
    ∙ ap (λ (bytes : List ℕ). answered_in c.args.round c.args.beat.now.resp [] (record { issued = c.self.inside.issued; answered = c.self.inside.answered; resps = take c.self.inside.came c.self.inside.resps.items; bytes = take (c.self.inside.read + c.from.result + 1) bytes; due_resps = length c.self.inside.resps.items; due_bytes = length bytes })) back
    ∙ noted-after c.args.round c.args.beat.now.resp c.self.inside c.args.self.now c.put_lanes.new.bytes c.args.beat.now.lanes (first_lane c.args.request.now c.self.inside.came c.args.bus) (last_lane c.args.request.now c.self.inside.came c.args.bus) c.from.result _ _ c.self.view_is
    (c.from.ensures ∙ ap (λ (k : ℕ). k - c.lanes-low.result.0) c.lanes-low.ensures.upper ∙ ap (λ (k : ℕ). last_lane c.args.request.now c.self.inside.came c.args.bus - k) c.lanes-low.ensures.lower)
    (lane-order c.args.request.now c.args.bus c.self.inside.came c.requires.bus c.requires.legal)
    c.lanes-low.ensures.lower refl
    (c.put_lanes.ensures.put ∙ ap (λ (bytes : List ℕ). take c.self.inside.read bytes ++ take (c.self.inside.read + c.from.result + 1 - c.self.inside.read) (drop c.lanes-low.result.0 c.args.beat.now.lanes)) c.deref_mut.ensures.value)
    (c.put_lanes.ensures.length ∙ ap length c.deref_mut.ensures.value)
    ∙ ap (λ (k : ℕ). answered_in c.args.round c.args.beat.now.resp (bytes_on_valid_lanes c.args.bus c.args.request.now k c.args.beat.now.lanes) c.args.self.now) (sym came)
