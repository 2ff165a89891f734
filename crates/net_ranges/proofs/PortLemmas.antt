-- What each port of a network that can be run shows has a trace line.
use Rattle.std.proofs.Common.{◌≡◌, ◌<◌, ◌≤◌, ◌^◌, ◌&&◌, ◌++◌, ◌∷◌, [], ℕ, zero, suc, Bool, true, false, List, length, refl, sym, ap, ◌∙◌, subst, arith}
use Rattle.std.specs.Prelude.{◌||◌, All, IfSome, nat_le, not}
use Rattle.std.proofs.lemmas.Bool.{le-leb}
use Rattle.std.proofs.lemmas.List.Elements.{All-nil, All-push}
use Rattle.axi_beats.specs.Bus.{is_bus_width}
use Rattle.axi_history.specs.declared.port.PortRound.{PortRound}
use Rattle.axi_history.specs.declared.port.Seen.{Seen}
use Rattle.axi_link.specs.LinkWords.{link_of}
use Rattle.axi_link.specs.Moves.{takes_from}
use Rattle.link_ports.specs.PortView.{channel_seen, port_of, seen_address, seen_itself, seen_read_beat, seen_response}
use Rattle.net_kinds.specs.NodeKind.{NodeState, node_kind}
use Rattle.net_model.specs.Network.{Network, after_decide, after_rounds, lower_node, net_link, upper_node}
use Rattle.net_model.specs.declared.net_link.NetLink.{NetLink}
use Rattle.net_ranges.proofs.BeatRanges.{IsReadDataInRange}
use Rattle.net_ranges.proofs.LinkRanges.{answers-in_range, fifo}
use Rattle.net_ranges.proofs.RequestRanges.{data-sent, reads-asked, writes-asked}
use Rattle.net_ranges.specs.TraceLines.{FitsTraces, RunsShowTraceLines}
use Rattle.net_runs.proofs.RoundLemmas.{links-stay}
use Rattle.net_runs.specs.Ports.{history_of, port_at, port_kind}
use Rattle.net_runs.specs.Run.{chosen, lower_end, queues_after, upper_end}
use Rattle.net_ways.specs.Sound.{IsSound}
use Rattle.node_shape.specs.LinkForm.{LinkForm}
use Rattle.plain_lists.proofs.PartLemmas.{All-middle}
use Rattle.trace_text.specs.Ranges.{IsTraceAddress, IsTraceReadData, IsTraceResponse, IsTraceRound, IsTraceWriteData}

-- what a channel shows is the first that waits, which has passed one end of the link
shown-has : {X Y : Type 0} (P : Y → Type 0) (seen_as : X → Y) (takes : Bool) (all front queue : List X) → all ≡ front ++ queue → All (λ x. P (seen_as x)) all →
    IfSome (channel_seen seen_as takes queue) (λ (seen : Seen Y). P seen.beat)
shown-has P seen_as takes all front [] are has = tt
shown-has P seen_as takes all front (x ∷ queue) are has = All-middle (λ y. P (seen_as y)) front x queue (subst (All (λ y. P (seen_as y))) are has)

-- a port with a bus that there is, on AXI4-Lite a small one
kind-fits : (wide lite small : Bool) → wide ≡ true → (lite ≡ true → small ≡ true) → (wide && (not lite || small)) ≡ true
kind-fits true true small is short = short refl
kind-fits true false small is short = refl
kind-fits false lite small is short = is

module _ (net : Network NodeState) (forms : ℕ → LinkForm) (sound : IsSound node_kind net forms) (fits : FitsTraces net forms) (link : ℕ) (known : link < length net.links) where
  -- the port of a round
  abbrev port_by : List NetLink → ℕ → PortRound
  port_by links n =
      port_of (suc n) link (port_kind (net_link links link)) (link_of (queues_after node_kind net n) link) (chosen node_kind net (upper_node links link) n) (chosen node_kind net (lower_node links link) n)

  port-is : (n : ℕ) → port_at (suc n) (after_decide node_kind (suc n) (after_rounds node_kind n net)) link ≡ port_by (after_rounds node_kind n net).links n
  unfolding after_decide
  port-is n = refl

  round-in_range : (n : ℕ) → suc n < 2 ^ 63 → IsTraceRound (port_by net.links n)
  round-in_range n counted =
      let all = fifo net forms sound fits link known n in
      let above = chosen node_kind net (upper_node net.links link) n in
      let below = chosen node_kind net (lower_node net.links link) n in
      let above_end = upper_end node_kind net link n in
      let below_end = lower_end node_kind net link n in
      let queue = link_of (queues_after node_kind net n) link in
      let bus_here = (net_link net.links link).bus in
      let answers = answers-in_range net forms sound fits n link known in
      let form = fits.links link known in
      let record_is = sound.formed link known in
      let bus : (forms link).bus ≡ (net_link net.links link).bus = record_is.bus in
      let short : (net_link net.links link).lite ≡ true → nat_le (net_link net.links link).bus 8 ≡ true =
      λ lite. le-leb (net_link net.links link).bus 8 (subst (λ (b : ℕ). b ≤ 8) bus (form.short (record_is.lite ∙ lite))) in
      let wide : is_bus_width (net_link net.links link).bus ≡ true = subst (λ (b : ℕ). is_bus_width b ≡ true) bus form.width in
      record {
        first_round = omega arith;
        last_round = counted;
        link = omega (arith, known, fits.few_links);
        kind = kind-fits (is_bus_width (net_link net.links link).bus) (net_link net.links link).lite (nat_le (net_link net.links link).bus 8) wide short;
        aw = shown-has IsTraceAddress seen_address (takes_from link below.aw_take) above_end.aw below_end.aw queue.aw all.aw (writes-asked net forms sound fits link known n);
        w = shown-has (IsTraceWriteData bus_here) seen_itself (takes_from link below.w_take) above_end.w below_end.w queue.w all.w
            (subst (λ (b : ℕ). All (IsTraceWriteData b) above_end.w) bus (data-sent net forms sound fits link known n));
        b = shown-has IsTraceResponse seen_response (takes_from link above.b_take) below_end.b above_end.b queue.b all.b answers.b;
        ar = shown-has IsTraceAddress seen_address (takes_from link below.ar_take) above_end.ar below_end.ar queue.ar all.ar (reads-asked net forms sound fits link known n);
        r = shown-has (IsTraceReadData bus_here) seen_read_beat (takes_from link above.r_take) below_end.r above_end.r queue.r all.r
            (subst (λ (b : ℕ). All (IsReadDataInRange b) below_end.r) bus answers.r);
      }

  pub history-in_range : (n : ℕ) → n < 2 ^ 63 → All IsTraceRound (history_of node_kind n net link)
  history-in_range zero counted = All-nil IsTraceRound
  history-in_range (suc n) counted =
      let before : n < 2 ^ 63 = omega (arith, counted) in
      let is = port-is n ∙ ap (λ (links : List NetLink). port_by links n) (links-stay node_kind net n) in
      All-push IsTraceRound (history_of node_kind n net link) (port_at (suc n) (after_decide node_kind (suc n) (after_rounds node_kind n net)) link) (history-in_range n before)
      (subst IsTraceRound (sym is) (round-in_range n counted))

pub runs-show_lines : RunsShowTraceLines
runs-show_lines net forms sound fits rounds counted link known = history-in_range net forms sound fits link known rounds counted
