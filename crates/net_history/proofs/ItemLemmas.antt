-- A transaction of a manager: what its own link carries of it, and what has come on that link where it is answered.
use Rattle.std.proofs.Common.{◌≡◌, ◌<◌, ◌≤◌, ℕ, suc, Bool, true, false, List, Option, Some, length, append-nil, sym, ap, ◌∙◌, subst, inl, inr, arith}
use Rattle.std.specs.Prelude.{Contains, map, slice_get, unwrap_or}
use Rattle.std.specs.List.{range_with_len}
use Rattle.std.proofs.lemmas.Bool.{cases_Bool}
use Rattle.std.proofs.lemmas.List.{length-map}
use Rattle.std.proofs.lemmas.List.FromFn.{length-range_with_len}
use Rattle.axi_beats.specs.declared.response.Resp.{Resp}
use Rattle.axi_trail.proofs.SlackFacts.{answered_through_link}
use Rattle.axi_trail.proofs.TrailFacts.{taken_was_put_before}
use Rattle.axi_trail.specs.LinkContracts.{Answers, without_id}
use Rattle.axi_trail.specs.Schedule.{Grows, Progress, Schedule, Share, no_share}
use Rattle.axi_trail.specs.Trail.{IsBehind, IsLinkRun}
use Rattle.axi_trail.specs.Words.{number_of_read_data, number_of_response}
use Rattle.burst_address.specs.Formulas.{beats_of}
use Rattle.manager_node.specs.Beats.{item_request}
use Rattle.manager_node.specs.ManagerState.{ManagerState}
use Rattle.manager_node.specs.ManagerTrail.{IsReadNote, IsWriteNote, item_origin}
use Rattle.manager_node.specs.Script.{ScriptItem}
use Rattle.net_history.proofs.EndLemmas.{first-carried, first_share, responses-few}
use Rattle.net_history.proofs.ManagerRuns.{at-run, has-origin, manager-keeps, manager_run, note_after, own-link, run-keeps}
use Rattle.net_history.proofs.RoundLemmas.{IsItem}
use Rattle.net_kinds.specs.NodeCuts.{most_responses}
use Rattle.net_kinds.specs.NodeKind.{NodeState, node_kind}
use Rattle.net_model.specs.Network.{Network, lower_node, upper_node}
use Rattle.net_runs.proofs.RoundLemmas.{links-run}
use Rattle.net_runs.specs.Run.{chosen, lower_end, queues_after, upper_end}
use Rattle.net_ways.specs.Known.{known_by_nodes}
use Rattle.net_ways.specs.Sound.{IsSound}
use Rattle.net_ways.specs.Ways.{carried, origins_in, responses_from, schedules_of, way_of}
use Rattle.node_shape.specs.LinkForm.{LinkForm}
use Rattle.node_shape.specs.Way.{Origin}
use Rattle.plain_lists.proofs.PlaceLemmas.{contains-at}
use Rattle.plain_lists.proofs.PrefixLemmas.{prefix_itself, prefix_whole}
use Rattle.plain_lists.specs.Keys.{of_key}
use Rattle.subordinate.specs.Parts.{BeatOf, beats_of_parts}

pub grows-itself : (now : Progress) → Grows now now
grows-itself now = record { issued = λ t known. known; written = λ t known. known; filled = λ t. prefix_itself (now.filled t) }

module _ (net : Network NodeState) (forms : ℕ → LinkForm) (sound : IsSound node_kind net forms) where
  abbrev pub schedules : ℕ → Schedule
  schedules = schedules_of node_kind net forms

  -- what is known after so many rounds
  abbrev pub now : ℕ → Progress
  now = known_by_nodes node_kind net schedules

  -- ---- a link over the rounds

  module _ (link : ℕ) (known : link < length net.links) where
    pub link-run : IsLinkRun link (queues_after node_kind net) (chosen node_kind net (upper_node net.links link)) (chosen node_kind net (lower_node net.links link))
    link-run = links-run node_kind net sound.wired link known

    -- the upper end has the answers that the lower end gave
    pub answers-above : (n : ℕ) → Answers (schedules link) (now n) (upper_end node_kind net link n)
    answers-above n =
        (answered_through_link (schedules link) (now n) (now n) link (queues_after node_kind net) (chosen node_kind net (upper_node net.links link)) (chosen node_kind net (lower_node net.links link))
        (grows-itself (now n)) link-run n ((run-keeps net forms sound n).answered link known)).0

    -- what the upper end has taken after one more round the lower end has put by now
    pub taken-before : (n : ℕ) → IsBehind (lower_end node_kind net link n) (upper_end node_kind net link (suc n))
    taken-before n =
        (taken_was_put_before link (queues_after node_kind net) (chosen node_kind net (upper_node net.links link)) (chosen node_kind net (lower_node net.links link)) link-run n).1

  -- what a link carries is in its schedule
  pub carried-is : (write : Bool) (link number : ℕ) (share : Share) → carried node_kind net write link number ≡ Some share →
      (elim write as (λ b. Share) [ true ↦ (schedules link).writes number | false ↦ (schedules link).reads number ]) ≡ share
  carried-is true link number share there = ap (λ (o : Option Share). unwrap_or o no_share) there
  carried-is false link number share there = ap (λ (o : Option Share). unwrap_or o no_share) there

  -- ---- a transaction by its place

  module _ (node : ℕ) (s : ManagerState) (place : ℕ) (item : ScriptItem) (own : IsItem net node s place item) where
    abbrev pub origin : Origin
    origin = item_origin s.bus s.lower item

    pub among : Contains (origins_in node_kind net.nodes) origin
    among = has-origin net forms sound node s own.is item (contains-at s.script place item own.at)

    -- its responses, by the way back
    abbrev pub its_responses : List Resp
    its_responses = responses_from (way_of node_kind net origin)

    pub own-writes : item.txn.write ≡ true → (schedules s.lower).writes item.txn.number ≡ first_share net forms sound origin among
    own-writes writes =
        carried-is true s.lower item.txn.number (first_share net forms sound origin among)
        (ap (λ (b : Bool). carried node_kind net b s.lower item.txn.number) (sym writes) ∙ first-carried net forms sound origin among)

    pub own-reads : item.txn.write ≡ false → (schedules s.lower).reads item.txn.number ≡ first_share net forms sound origin among
    own-reads reads =
        carried-is false s.lower item.txn.number (first_share net forms sound origin among)
        (ap (λ (b : Bool). carried node_kind net b s.lower item.txn.number) (sym reads) ∙ first-carried net forms sound origin among)

    -- a transaction has one part, with as many beats as its request asks for
    pub beat-count : length (beats_of_parts (first_share net forms sound origin among).parts) ≡ suc item.txn.request.len
    beat-count =
        let beat : ℕ → BeatOf = λ n. record { request = without_id (item_request item); beat = n } in
        let more : beats_of (without_id (item_request item)) ≡ suc item.txn.request.len = omega arith in
        ap (λ (bs : List BeatOf). length bs) (append-nil (map beat (range_with_len 0 (beats_of (without_id (item_request item))))))
        ∙ length-map (range_with_len 0 (beats_of (without_id (item_request item)))) beat ∙ length-range_with_len 0 (beats_of (without_id (item_request item))) ∙ more

    responses-most : length its_responses ≤ most_responses item.txn.write (first_share net forms sound origin among)
    responses-most = responses-few net forms sound origin among

    pub one-response : item.txn.write ≡ true → length its_responses ≤ 1
    one-response writes = subst (λ (b : Bool). length its_responses ≤ most_responses b (first_share net forms sound origin among)) writes responses-most

    pub beat-responses : item.txn.write ≡ false → length its_responses ≤ suc item.txn.request.len
    beat-responses reads =
        let few : length its_responses ≤ length (beats_of_parts (first_share net forms sound origin among).parts) =
        subst (λ (b : Bool). length its_responses ≤ most_responses b (first_share net forms sound origin among)) reads responses-most in
        omega (arith, few, beat-count)

    module _ (n : ℕ) where
      abbrev here : slice_get (manager_run net s n).script place ≡ Some item
      here = at-run net forms sound node s own.is n place item own.at

      pub write-note : item.txn.write ≡ true → IsWriteNote (manager_run net s n) (upper_end node_kind net s.lower n) place item
      write-note writes = (manager-keeps net forms sound node s own.is n).passed.write_notes place item here writes

      pub read-note : item.txn.write ≡ false → IsReadNote (schedules s.lower) (manager_run net s n) (upper_end node_kind net s.lower n) place item
      read-note reads = (manager-keeps net forms sound node s own.is n).passed.read_notes place item here reads

      above : Answers (schedules s.lower) (now n) (upper_end node_kind net s.lower n)
      above = answers-above s.lower (own-link net forms sound node s own.is).0 n

      -- where it is answered, the responses are those that are due
      pub responses-noted : 0 < (note_after net s n place).answered → (note_after net s n place).resps ≡ its_responses
      responses-noted answered = elim (cases_Bool item.txn.write) [
        | inl writes ↦
            let beats = of_key number_of_response item.txn.number (upper_end node_kind net s.lower n).b in
            let came = (write-note writes).answered.0 answered in
            let due : ((schedules s.lower).writes item.txn.number).responses ≡ its_responses = ap (λ (share : Share). share.responses) (own-writes writes) in
            (write-note writes).responses
            ∙ sym (prefix_whole _ _ (above.responses_are_the_schedules item.txn.number) (omega (arith, came, one-response writes, ap length due, length-map beats (λ b. b.resp)))) ∙ due
        | inr reads ↦
            let beats = of_key number_of_read_data item.txn.number (upper_end node_kind net s.lower n).r in
            let came = (read-note reads).answered.0 answered in
            let due : ((schedules s.lower).reads item.txn.number).responses ≡ its_responses = ap (λ (share : Share). share.responses) (own-reads reads) in
            (read-note reads).responses
            ∙ sym (prefix_whole _ _ (above.read_responses_are_the_schedules item.txn.number) (omega (arith, came, beat-responses reads, ap length due, length-map beats (λ r. r.resp)))) ∙ due
      ]
