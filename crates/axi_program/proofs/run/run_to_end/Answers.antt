use Rattle.std.proofs.Common.{◌≡◌, ◌<◌, ◌≤◌, ◌+◌, ◌-◌, ◌++◌, ℕ, List, Bool, true, false, refl, sym, ap, ap₂, subst, ◌∙◌, arith}
use Rattle.std.specs.Io.KnownBytes.{Appends}
use Rattle.std.proofs.KnownBytes.{Appends-trans}
use Rattle.document.specs.Document.{Asked}
use Rattle.net_build.specs.NetRun.{NetRun, network_of_run}
use Rattle.net_kinds.specs.NodeKind.{node_kind}
use Rattle.net_model.specs.Network.{after_rounds, is_finished}
use Rattle.axi_program.proofs.LeastLemmas.{least-at_bound, least-finished, least-more}
use Rattle.axi_program.proofs.RunLaws.{on-err, prefix-later}
use Rattle.axi_program.proofs.TraceLaws.{asked-more, asked-nothing, asked-parts, over-front, over-more, run-goes-on}
use Rattle.axi_program.specs.DeviceBytes.{AppendsPrefix}
use Rattle.axi_program.specs.Opening.{IsOpening, asked_by}
use Rattle.axi_program.specs.Outcome.{run_trace}
use Rattle.axi_program.specs.Run.{bound, least_finished, opened_network, run_after, run_end, run_length, run_rounds}
use Rattle.axi_program.specs.Text.{where_asked}
use Rattle.axi_program.specs.Trace.{lines_after, round_lines, trace_lines}
use Rattle.axi_program.proofs.run.run_to_end.Goals as goal

-- the rounds of a run, and its trace
rounds-are : (asked : Asked) (n : ℕ) → least_finished (opened_network asked) 0 (bound asked) ≡ n → run_rounds asked ≡ n
unfolding run_rounds run_length
rounds-are asked n is = is

length-is : (asked : Asked) → run_length (opened_network asked) (bound asked) ≡ run_rounds asked
unfolding run_rounds
length-is asked = refl

trace-is : (asked : Asked) → run_trace asked ≡ trace_lines (run_rounds asked) (opened_network asked)
unfolding run_trace
trace-is asked = refl

-- a network before its first round is the one of what its document asks for
begins : (net : NetRun) → IsOpening net → net ≡ run_after (asked_by net) 0
begins net opening =
    ap₂ (λ (rounds : ℕ) (decided : Bool). record { nodes = net.nodes; items = net.items; rounds = rounds; decided = decided }) opening.rounds opening.undecided

module _ (asked : Asked) (n most : ℕ) (is_most : most ≡ bound asked) (so_far : least_finished (opened_network asked) 0 most ≡ least_finished (opened_network asked) n (most - n)) where
  whole : least_finished (opened_network asked) 0 (bound asked) ≡ least_finished (opened_network asked) n (most - n)
  whole = ap (least_finished (opened_network asked) 0) (sym is_most) ∙ so_far

  -- the count ends at a round after which all is answered, and at the bound
  ends-finished : is_finished node_kind (network_of_run (run_after asked n)) ≡ true → run_rounds asked ≡ n
  ends-finished ended = rounds-are asked n (whole ∙ least-finished (opened_network asked) n (most - n) ended)

  ends-bound : n ≡ most → run_rounds asked ≡ n
  ends-bound at = rounds-are asked n (whole ∙ least-at_bound (opened_network asked) n most at)

  -- where it ends, the run is over and all lines are written
  is-end : run_rounds asked ≡ n → run_after asked n ≡ run_end asked
  is-end ends = ap (run_after asked) (sym ends)

  lines-whole : (trace : Bool) → run_rounds asked ≡ n → where_asked trace (trace_lines n (opened_network asked)) ≡ where_asked trace (run_trace asked)
  lines-whole trace ends = ap (λ (k : ℕ). where_asked trace (trace_lines k (opened_network asked))) (sym ends) ∙ ap (where_asked trace) (sym (trace-is asked))

-- the lines of a round that was decided are those of the round after so many
lines-are :
    (trace : Bool) (asked : Asked) (now : NetRun) (n : ℕ) → now ≡ record (run_after asked n) { decided = true } →
    where_asked trace (round_lines (now.rounds + 1) (network_of_run now)) ≡ where_asked trace (lines_after (opened_network asked) n)
lines-are trace asked now n decided = ap (λ (run : NetRun). where_asked trace (round_lines (run.rounds + 1) (network_of_run run))) decided

pub decide-requires-clause-undecided : goal.decide-requires-clause-undecided
decide-requires-clause-undecided g c = ap (λ (run : NetRun). run.decided) c.loop-round.invariant.0

pub decide-requires-clause-room : goal.decide-requires-clause-room
decide-requires-clause-room g c =
    let counted = ap (λ (run : NetRun). run.rounds) c.loop-round.invariant.0 in
    let same = ap (λ (run : NetRun). bound (asked_by run)) c.loop-round.invariant.0 in
    omega (arith, counted, same, c.bound-most.ensures)

pub commit-requires : goal.commit-requires
commit-requires g c = ap (λ (run : NetRun). run.decided) c.decide.ensures

pub loop-round-init : goal.loop-round-init
loop-round-init g c =
    let all : c.bound-most.result ≡ c.bound-most.result - 0 = omega arith in
    (begins c.args.net.now c.requires, ap (least_finished (opened_network (asked_by c.args.net.now)) 0) all, asked-nothing c.args.trace (g.K.Sink.written c.args.sink.now), omega arith)

pub returns-then-finished-clause-ran : goal.returns-then-finished-clause-ran
returns-then-finished-clause-ran g c =
    let inv = c.loop-round.invariant in
    let asked = asked_by c.args.net.now in
    let n = c.loop-round._round in
    let ended = ap (λ (run : NetRun). is_finished node_kind (network_of_run run)) (sym inv.0) ∙ sym c.finished.ensures ∙ c.if-finished.true in
    inv.0 ∙ is-end asked n c.bound-most.result c.bound-most.ensures inv.1 (ends-finished asked n c.bound-most.result c.bound-most.ensures inv.1 ended)

pub returns-then-finished-clause-ok : goal.returns-then-finished-clause-ok
returns-then-finished-clause-ok g c =
    let inv = c.loop-round.invariant in
    let asked = asked_by c.args.net.now in
    let n = c.loop-round._round in
    let ended = ap (λ (run : NetRun). is_finished node_kind (network_of_run run)) (sym inv.0) ∙ sym c.finished.ensures ∙ c.if-finished.true in
    subst (λ (text : List ℕ). Appends (g.K.Sink.written c.args.sink.now) (g.K.Sink.written c.loop-round.sink) text)
    (lines-whole asked n c.bound-most.result c.bound-most.ensures inv.1 c.args.trace (ends-finished asked n c.bound-most.result c.bound-most.ensures inv.1 ended)) inv.2

-- what a round adds to the trace
module _ (asked : Asked) (n most : ℕ) (is_most : most ≡ bound asked) (below : n < most) where
  -- a run that isn't finished after so many rounds has the lines of one more
  goes-on :
      (trace : Bool) → least_finished (opened_network asked) 0 most ≡ least_finished (opened_network asked) n (most - n) →
      is_finished node_kind (after_rounds node_kind n (opened_network asked)) ≡ false →
      (rest : List ℕ) × (where_asked trace (run_trace asked)
      ≡ (where_asked trace (trace_lines n (opened_network asked)) ++ where_asked trace (lines_after (opened_network asked) n)) ++ where_asked trace rest)
  goes-on trace so_far running =
      let more : n + 1 ≤ run_rounds asked =
      subst (λ (k : ℕ). n + 1 ≤ k) (ap (run_length (opened_network asked)) is_most ∙ length-is asked) (run-goes-on (opened_network asked) n most below running so_far) in
      let front = over-front (lines_after (opened_network asked)) (n + 1) (run_rounds asked) more in
      let all = trace-is asked ∙ front.1 ∙ ap (λ (text : List ℕ). text ++ front.0) (over-more (lines_after (opened_network asked)) n) in
      (front.0, asked-parts trace (trace_lines n (opened_network asked)) (lines_after (opened_network asked) n) front.0 (run_trace asked) all)

  lines-more : (trace : Bool) → where_asked trace (trace_lines n (opened_network asked)) ++ where_asked trace (lines_after (opened_network asked) n) ≡ where_asked trace (trace_lines (n + 1) (opened_network asked))
  lines-more trace =
      sym (asked-more trace (trace_lines n (opened_network asked)) (lines_after (opened_network asked) n)) ∙ ap (where_asked trace) (sym (over-more (lines_after (opened_network asked)) n))

pub returns-in_err-write_round-clause-err : goal.returns-in_err-write_round-clause-err
returns-in_err-write_round-clause-err g c =
    let inv = c.loop-round.invariant in
    let asked = asked_by c.args.net.now in
    let n = c.loop-round._round in
    let running = ap (λ (run : NetRun). is_finished node_kind (network_of_run run)) (sym inv.0) ∙ sym c.finished.ensures ∙ c.if-finished.false in
    let decided : c.decide.new.self ≡ record (run_after asked n) { decided = true } = c.decide.ensures ∙ ap (λ (run : NetRun). record run { decided = true }) inv.0 in
    let parts = goes-on asked n c.bound-most.result c.bound-most.ensures c.loop-round-test.true c.args.trace inv.1 running in
    let part = subst (λ (bytes : List ℕ). AppendsPrefix (g.K.Sink.written c.loop-round.sink) (g.K.Sink.written c.write_round.new.sink) bytes)
    (lines-are c.args.trace asked c.decide.new.self n decided) c.in_err-write_round.ensures.err in
    on-err c.from_residual.result _
    (prefix-later (g.K.Sink.written c.args.sink.now) (g.K.Sink.written c.loop-round.sink) (g.K.Sink.written c.write_round.new.sink)
    (where_asked c.args.trace (trace_lines n (opened_network asked))) (where_asked c.args.trace (lines_after (opened_network asked) n)) (where_asked c.args.trace parts.0) (where_asked c.args.trace (run_trace asked))
    inv.2 part parts.1)

pub loop-round-preserved : goal.loop-round-preserved
loop-round-preserved g c =
    let inv = c.loop-round.invariant in
    let asked = asked_by c.args.net.now in
    let n = c.loop-round._round in
    let running = ap (λ (run : NetRun). is_finished node_kind (network_of_run run)) (sym inv.0) ∙ sym c.finished.ensures ∙ c.if-finished.false in
    let decided : c.decide.new.self ≡ record (run_after asked n) { decided = true } = c.decide.ensures ∙ ap (λ (run : NetRun). record run { decided = true }) inv.0 in
    let line = subst (λ (bytes : List ℕ). Appends (g.K.Sink.written c.loop-round.sink) (g.K.Sink.written c.write_round.new.sink) bytes)
    (lines-are c.args.trace asked c.decide.new.self n decided) c.in_ok-write_round.ensures.ok in
    let all = Appends-trans (g.K.Sink.written c.args.sink.now) (g.K.Sink.written c.loop-round.sink) (g.K.Sink.written c.write_round.new.sink)
    (where_asked c.args.trace (trace_lines n (opened_network asked))) (where_asked c.args.trace (lines_after (opened_network asked) n)) inv.2 line in
    let faults = inv.3 in
    let stays = c.in_ok-write_round.ensures.cause.stays in (
      c.commit.ensures ∙ ap (λ (run : NetRun). record run { rounds = run.rounds + 1; decided = false }) decided,
      inv.1 ∙ least-more (opened_network asked) n c.bound-most.result c.loop-round-test.true running,
      subst (λ (text : List ℕ). Appends (g.K.Sink.written c.args.sink.now) (g.K.Sink.written c.write_round.new.sink) text)
          (lines-more asked n c.bound-most.result c.bound-most.ensures c.loop-round-test.true c.args.trace) all,
      omega arith,
    )

pub returns-clause-ran : goal.returns-clause-ran
returns-clause-ran g c =
    let inv = c.loop-round.invariant in
    let asked = asked_by c.args.net.now in
    let n = c.loop-round._round in
    let end : n ≡ c.bound-most.result = omega arith in
    inv.0 ∙ is-end asked n c.bound-most.result c.bound-most.ensures inv.1 (ends-bound asked n c.bound-most.result c.bound-most.ensures inv.1 end)

pub returns-clause-ok : goal.returns-clause-ok
returns-clause-ok g c =
    let inv = c.loop-round.invariant in
    let asked = asked_by c.args.net.now in
    let n = c.loop-round._round in
    let end : n ≡ c.bound-most.result = omega arith in
    subst (λ (text : List ℕ). Appends (g.K.Sink.written c.args.sink.now) (g.K.Sink.written c.loop-round.sink) text)
    (lines-whole asked n c.bound-most.result c.bound-most.ensures inv.1 c.args.trace (ends-bound asked n c.bound-most.result c.bound-most.ensures inv.1 end)) inv.2
