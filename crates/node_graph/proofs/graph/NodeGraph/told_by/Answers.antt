use Rattle.std.proofs.Common.{◌≡◌, ◌∙◌, None, Some, length, sym, true, rules}
use Rattle.std.specs.Prelude.{find, not}
use Rattle.node_graph.specs.Graph.{is_on_cycle, numbers}
use Rattle.node_graph.specs.Ranks.{NeverFalls, is_risen}
use Rattle.node_graph.proofs.Ranked.{risen-first, risen-none}
use Rattle.node_graph.proofs.graph.NodeGraph.told_by.Goals as goal

pub returns-in_default : goal.returns-in_default
returns-in_default c =
    let never : NeverFalls c.args.self.now c.args.ranks.now = c.never_falls.ensures (search rules) in
    let none : find (λ node. not (is_risen c.args.self.now c.args.ranks.now node)) (numbers (length c.args.self.now)) ≡ None = sym c.first_not_risen.ensures.first ∙ c.in_default.is in
    sym (risen-none c.args.self.now c.args.ranks.now never none)

pub returns-then-branch : goal.returns-then-branch
returns-then-branch c =
    let never : NeverFalls c.args.self.now c.args.ranks.now = c.never_falls.ensures (search rules) in
    let first : find (λ node. not (is_risen c.args.self.now c.args.ranks.now node)) (numbers (length c.args.self.now)) ≡ Some c.in-Some.node = sym c.first_not_risen.ensures.first ∙ c.in-Some.is in
    let on : is_on_cycle c.args.self.now c.in-Some.node ≡ true = sym c.in_ok-is_on_cycle.ensures ∙ c.if-branch.true in
    sym (risen-first c.args.self.now c.args.ranks.now never c.in-Some.node on first)
