use Rattle.std.proofs.Common.{◌==◌, ◌<◌, ◌∙◌, ℕ, Bool, sym, ap, subst}
use Rattle.std.specs.Int.{bit_at}
use Rattle.std.specs.Prelude.{IfSome}
use Rattle.node_core.proofs.TurnLemmas.{picked-behind, picked-up_to, picked-within}
use Rattle.node_core.specs.Turn.{TurnState, first_in_turn}
use Rattle.node_core.specs.TurnInside.{turn_view}
use Rattle.node_core.proofs.turn.Turn.first.Goals as goal

-- src/turn.rt:51:13
pub returns-then-is_some : goal.returns-then-is_some
returns-then-is_some c =
    let is_ready : ℕ → Bool = λ port. bit_at c.args.ready port == 1 in
    let port = picked-behind is_ready (turn_view c.self.inside) c.first_of-behind.result c.first_of-behind.ensures (sym c.if-is_some.ensures) in
    record {
      port = port ∙ ap (λ (t : TurnState). first_in_turn is_ready t) c.self.view_is;
      within = subst (λ (t : TurnState). IfSome c.first_of-behind.result (λ port. port < t.ports)) c.self.view_is
          (picked-within is_ready (turn_view c.self.inside) c.first_of-behind.result c.self.invariant port);
    }

-- src/turn.rt:46:5
pub returns : goal.returns
returns c =
    let is_ready : ℕ → Bool = λ port. bit_at c.args.ready port == 1 in
    let port = picked-up_to is_ready (turn_view c.self.inside) c.first_of-behind.result c.first_of.result c.first_of-behind.ensures (sym c.if-is_some.ensures) c.first_of.ensures in
    record {
      port = port ∙ ap (λ (t : TurnState). first_in_turn is_ready t) c.self.view_is;
      within = subst (λ (t : TurnState). IfSome c.first_of.result (λ port. port < t.ports)) c.self.view_is
          (picked-within is_ready (turn_view c.self.inside) c.first_of.result c.self.invariant port);
    }
