use Rattle.std.proofs.Common.{◌≡◌, ◌<◌, ◌+◌, ◌++◌, ◌∙◌, ℕ, List, [], ◌∷◌, ap, ap₂, arith, get_or, length, subst, sym}
use Rattle.std.specs.Prelude.{Vec}
use Rattle.std.specs.declared.alloc.Global.{Global}
use Rattle.std.proofs.Math.ListN.{set}
use Rattle.elaborate.specs.Plan.{plan_link_at, plan_links, plan_nodes}
use Rattle.net_build.proofs.ListLemmas.{listed-more, listed-none, upper-known}
use Rattle.net_build.specs.Linked.{AreBelow}
use Rattle.node_graph.proofs.Uppers.{length-lists, taken-back}
use Rattle.node_graph.specs.Simple.{lists_in}
use Rattle.net_build.proofs.ends.links_below.Goals as goal

pub loop-link-init : goal.loop-link-init
loop-link-init c =
    listed-none (λ link. (plan_link_at c.args.plan.now link).upper) (length (plan_nodes c.args.plan.now)) (lists_in c.in_ok-lists.lists.items)
    (c.in_ok-lists.ensures.long ∙ c.nodes.ensures.count) c.in_ok-lists.ensures.empty

pub add_link-requires : goal.add_link-requires
add_link-requires c =
    let less : c.loop-link.link < length (plan_links c.args.plan.now) = omega (arith, c.loop-link-test.true, c.links-link-end.ensures.count) in
    let known : (plan_link_at c.args.plan.now c.loop-link.link).upper < length (plan_nodes c.args.plan.now) = upper-known c.args.plan.now c.loop-link.link less in
    let upper : c.ends.result.0 ≡ (plan_link_at c.args.plan.now c.loop-link.link).upper = ap (λ (ends : ℕ × ℕ). ends.0) c.ends.ensures.ends in
    omega (arith, known, upper, c.loop-link.invariant.long, length-lists c.loop-link.lists.items, ap length c.deref_mut.ensures.value)

pub loop-link-preserved : goal.loop-link-preserved
loop-link-preserved c =
    let less : c.loop-link.link < length (plan_links c.args.plan.now) = omega (arith, c.loop-link-test.true, c.links-link-end.ensures.count) in
    let known : (plan_link_at c.args.plan.now c.loop-link.link).upper < length (plan_nodes c.args.plan.now) = upper-known c.args.plan.now c.loop-link.link less in
    let upper : c.ends.result.0 ≡ (plan_link_at c.args.plan.now c.loop-link.link).upper = ap (λ (ends : ℕ × ℕ). ends.0) c.ends.ensures.ends in
    let whole = taken-back c.loop-link.lists.len c.add_link.new.lists c.loop-link.lists.items (omega (arith, c.add_link.auto.lists, ap length c.deref_mut.ensures.value))
    (omega (arith, c.add_link.auto.lists, c.deref_mut.ensures.len)) in
    let added : lists_in c.add_link.new.lists ≡ set (lists_in c.loop-link.lists.items) (plan_link_at c.args.plan.now c.loop-link.link).upper (get_or (lists_in c.loop-link.lists.items) (plan_link_at c.args.plan.now c.loop-link.link).upper [] ++ c.loop-link.link ∷ []) =
    c.in_ok-add_link.ensures
    ∙ ap₂ (λ (all : List (Vec ℕ Global)) (node : ℕ). set (lists_in all) node (get_or (lists_in all) node [] ++ c.loop-link.link ∷ [])) c.deref_mut.ensures.value upper in
    subst (λ (items : List (Vec ℕ Global)). AreBelow c.args.plan.now (c.loop-link.link + 1) (lists_in items)) (sym whole)
    (listed-more (λ link. (plan_link_at c.args.plan.now link).upper) (length (plan_nodes c.args.plan.now)) c.loop-link.link (lists_in c.loop-link.lists.items) (lists_in c.add_link.new.lists)
    known c.loop-link.invariant added)

pub returns : goal.returns
returns c =
    let all : c.loop-link.link ≡ length (plan_links c.args.plan.now) = omega (arith, c.loop-link-test.false, c.loop-link.auto.link-end, c.links-link-end.ensures.count) in
    subst (λ (links : ℕ). AreBelow c.args.plan.now links (lists_in c.loop-link.lists.items)) all c.loop-link.invariant
