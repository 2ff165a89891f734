use Rattle.std.proofs.Common.{◌≡◌, ◌+◌, [], ◌++◌, ℕ, List, Bool, true, false, cond, sym, ap, subst, ◌∙◌}
use Rattle.std.specs.Prelude.{OnErr, OnOk, codes}
use Rattle.std.specs.Io.KnownBytes.{Appends}
use Rattle.axi_history.specs.declared.port.PortRound.{PortRound}
use Rattle.net_build.specs.NetRun.{NetRun, network_of_run}
use Rattle.net_build.specs.Shown.{is_shown}
use Rattle.net_runs.specs.Ports.{port_at}
use Rattle.trace_text.specs.Form.{line_text}
use Rattle.axi_program.proofs.TraceLaws.{appends-nothing}
use Rattle.axi_program.specs.Trace.{link_line, port_line}
use Rattle.axi_program.specs.DeviceBytes.{AppendsPrefix}
use Rattle.axi_program.proofs.trace.write_link.Goals as goal

-- a port has its own line where it shows something, and none where it doesn't
seen : (r : PortRound) → is_shown r ≡ true → port_line r ≡ line_text r ++ codes "\n"
unfolding port_line
seen r shown = ap (λ (b : Bool). cond b (line_text r ++ codes "\n") []) shown

unseen : (r : PortRound) → is_shown r ≡ false → port_line r ≡ []
unfolding port_line
unseen r hidden = ap (λ (b : Bool). cond b (line_text r ++ codes "\n") []) hidden

pub returns-then-not-offers-clause-ok : goal.returns-then-not-offers-clause-ok
returns-then-not-offers-clause-ok g c =
    let run = c.args.net.now in
    let port = port_at (run.rounds + 1) (network_of_run run) c.args.number in
    let hidden = sym (c.offers.ensures.shown (run.rounds + 1)) ∙ c.if-not-offers.true in
    subst (λ (text : List ℕ). Appends (g.K.Sink.written c.args.sink.now) (g.K.Sink.written c.args.sink.now) text) (sym (unseen port hidden)) (appends-nothing (g.K.Sink.written c.args.sink.now))

module _ (run : NetRun) (number : ℕ) (port : PortRound) (offers : Bool) (is : port ≡ port_at (run.rounds + 1) (network_of_run run) number)
    (shown : (round : ℕ) → offers ≡ is_shown (port_at round (network_of_run run) number)) (does : offers ≡ true) where
  -- what is written for a link that offers something is its line
  line-is : line_text port ++ codes "\n" ≡ link_line (run.rounds + 1) (network_of_run run) number
  line-is = ap (λ (r : PortRound). line_text r ++ codes "\n") is ∙ sym (seen (port_at (run.rounds + 1) (network_of_run run) number) (sym (shown (run.rounds + 1)) ∙ does))

pub returns-clause-ok : goal.returns-clause-ok
returns-clause-ok g c =
    let piece = c.bytes.ensures ∙ c.render_round.ensures.text ∙ line-is c.args.net.now c.args.number c.port.result c.offers.result c.port.ensures.port c.offers.ensures.shown c.if-not-offers.false in
    subst (λ (bytes : List ℕ). OnOk c.write_piece.result (Appends (g.K.Sink.written c.args.sink.now) (g.K.Sink.written c.write_piece.new.sink) bytes)) piece c.write_piece.ensures.ok

pub returns-clause-err : goal.returns-clause-err
returns-clause-err g c =
    let piece = c.bytes.ensures ∙ c.render_round.ensures.text ∙ line-is c.args.net.now c.args.number c.port.result c.offers.result c.port.ensures.port c.offers.ensures.shown c.if-not-offers.false in
    subst (λ (bytes : List ℕ). OnErr c.write_piece.result (AppendsPrefix (g.K.Sink.written c.args.sink.now) (g.K.Sink.written c.write_piece.new.sink) bytes)) piece c.write_piece.ensures.err
