use Rattle.std.proofs.Common.{◌≡◌, ◌==◌, ◌∙◌, ℕ, Bool, true, false, sym, arith, eq-eqb}
use Rattle.std.proofs.lemmas.Bool.{ne_eqb}
use Rattle.std.specs.Int.{bit_at}
use Rattle.std.proofs.lemmas.Nat.Bits.{shr_and_one}
use Rattle.node_core.proofs.TurnLemmas.{passes-over, stops-at}
use Rattle.node_core.proofs.turn.first_of.Goals as goal

-- src/turn.rt:73:13
pub returns-then-ready-port-eq1 : goal.returns-then-ready-port-eq1
returns-then-ready-port-eq1 c =
    let is_ready : ℕ → Bool = λ port. bit_at c.args.ready port == 1 in
    let bit : is_ready c.loop-port.port ≡ true = eq-eqb (bit_at c.args.ready c.loop-port.port) 1 (sym (shr_and_one c.args.ready c.loop-port.port) ∙ c.if-ready-port-eq1.true) in
    sym (c.loop-port.invariant.1 ∙ stops-at is_ready c.loop-port.port c.args.end c.loop-port-test.true bit)

-- src/turn.rt:71:5
pub loop-port-preserved : goal.loop-port-preserved
loop-port-preserved c =
    let is_ready : ℕ → Bool = λ port. bit_at c.args.ready port == 1 in
    let bit : is_ready c.loop-port.port ≡ false = ne_eqb (bit_at c.args.ready c.loop-port.port) 1 (λ one. c.if-ready-port-eq1.false (shr_and_one c.args.ready c.loop-port.port ∙ one)) in
    (omega (arith, c.loop-port-test.true), c.loop-port.invariant.1 ∙ passes-over is_ready c.loop-port.port c.args.end c.loop-port-test.true bit)
