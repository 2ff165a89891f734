use Rattle.std.proofs.Common.{◌≡◌, ◌<◌, ◌-◌, ◌∙◌, ℕ, false, ap, length, not, sym, arith, rules}
use Rattle.std.specs.Prelude.{find}
use Rattle.std.specs.List.{range_with_len}
use Rattle.node_graph.specs.Graph.{numbers}
use Rattle.node_graph.proofs.Finds.{find-here, find-next}
use Rattle.topology.specs.Document.{node_at}
use Rattle.topology.specs.Joined.{texts}
use Rattle.topology.specs.Refused.{is_duplicate}
use Rattle.topology.proofs.NameLemmas.{duplicate-is, names-next, not-false, not-true}
use Rattle.topology.proofs.names.names_of.Goals as goal

pub loop-place-init : goal.loop-place-init
unfolding numbers
loop-place-init c =
    let whole : length c.args.nodes.now - 0 ≡ length c.args.nodes.now = omega arith in
    (ap (λ (k : ℕ). find (is_duplicate c.args.nodes.now) (range_with_len 0 k)) whole, ap texts c.new-names.ensures.empty)

pub loop-place-preserved : goal.loop-place-preserved
loop-place-preserved c =
    let less : c.loop-place.place < length c.args.nodes.now = omega (arith, c.loop-place-test.true, c.requires.few) in
    let is : c.name.result.now ≡ (node_at c.args.nodes.now c.loop-place.place).name = search rules in
    let new : c.in_ok-add_name.field-0 ≡ not (is_duplicate c.args.nodes.now c.loop-place.place) =
    duplicate-is c.args.nodes.now c.loop-place.place c.loop-place.names.keys c.name.result.now c.in_ok-add_name.field-0 c.loop-place.invariant.1 is c.in_ok-add_name.ensures.added in (
      sym (find-next (is_duplicate c.args.nodes.now) (length c.args.nodes.now) c.loop-place.place less (not-true (is_duplicate c.args.nodes.now c.loop-place.place) (sym new ∙ c.if-not-branch.false))) ∙ c.loop-place.invariant.0,
      ap texts (c.in_ok-add_name.ensures.keys c.if-not-branch.false) ∙ names-next c.args.nodes.now c.loop-place.place c.loop-place.names.keys c.name.result less c.loop-place.invariant.1 is,
    )

pub returns-then-not-branch-clause-first : goal.returns-then-not-branch-clause-first
returns-then-not-branch-clause-first c =
    let less : c.loop-place.place < length c.args.nodes.now = omega (arith, c.loop-place-test.true, c.requires.few) in
    let is : c.name.result.now ≡ (node_at c.args.nodes.now c.loop-place.place).name = search rules in
    let new : c.in_ok-add_name.field-0 ≡ not (is_duplicate c.args.nodes.now c.loop-place.place) =
    duplicate-is c.args.nodes.now c.loop-place.place c.loop-place.names.keys c.name.result.now c.in_ok-add_name.field-0 c.loop-place.invariant.1 is c.in_ok-add_name.ensures.added in
    let old : c.in_ok-add_name.field-0 ≡ false = search rules in
    sym c.loop-place.invariant.0 ∙ find-here (is_duplicate c.args.nodes.now) (length c.args.nodes.now) c.loop-place.place less (not-false (is_duplicate c.args.nodes.now c.loop-place.place) (sym new ∙ old))
