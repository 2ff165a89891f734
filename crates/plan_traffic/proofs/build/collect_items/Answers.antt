use Rattle.std.proofs.Common.{◌≡◌, ℕ, ◌+◌, ◌≤◌, ◌||◌, false, nat_lt, length, List, sym, ◌∙◌, ap, subst, rules, arith}
use Rattle.std.specs.Prelude.{All, replicate}
use Rattle.std.proofs.lemmas.List.{length-map}
use Rattle.plan_traffic.specs.Inside.{traffic_item, traffic_items}
use Rattle.plan_traffic.specs.Traffic.{none_yet}
use Rattle.plan_traffic.specs.declared.build.Count.{Count}
use Rattle.plan_traffic.specs.declared.build.Item.{Item}
use Rattle.plan_traffic.proofs.BuildLemmas.{built-small}
use Rattle.plan_traffic.proofs.ReadLemmas.{IsRead, read-end, read-first, read-line, within-most}
use Rattle.plan_traffic.proofs.build.collect_items.Goals as goal

pub loop-rest-init : goal.loop-rest-init
loop-rest-init c =
    subst (λ (items : List Item). IsRead c.args.nodes.now c.args.text.now (traffic_items items) c.in_ok-counts.counts.items 0 c.args.text.now) (sym c.new-items.ensures.items)
    (read-first c.args.nodes.now c.args.text.now c.in_ok-counts.counts.items (c.in_ok-counts.ensures ∙ ap (λ n. replicate n none_yet) c.count.ensures.count))

pub add_line-requires-clause-small : goal.add_line-requires-clause-small
add_line-requires-clause-small c =
    subst (λ (n : ℕ). All (λ (count : Count). count.all ≤ n) c.loop-rest.counts.items) (length-map c.loop-rest.items.items traffic_item)
    (built-small c.args.nodes.now c.args.text.now (traffic_items c.loop-rest.items.items) c.loop-rest.counts.items c.loop-rest.rest.now c.loop-rest.invariant.built)

pub loop-rest-preserved : goal.loop-rest-preserved
loop-rest-preserved c =
    let line = c.in_ok-beats.ensures in
    let many : c.len.result ≡ length c.add_line.new.items.items = search rules in
    let over : (nat_lt 16384 c.len.result || nat_lt 262144 (c.loop-rest.beats + c.in_ok-beats.field-0)) ≡ false = sym c.is_over.ensures ∙ c.if-is_over.false in
    let most = within-most c.len.result (c.loop-rest.beats + c.in_ok-beats.field-0) over in
    let items : length (traffic_items c.add_line.new.items.items) ≡ length c.add_line.new.items.items = length-map c.add_line.new.items.items traffic_item in
    read-line c.args.nodes.now c.args.text.now (traffic_items c.loop-rest.items.items) (traffic_items c.add_line.new.items.items) c.loop-rest.counts.items c.add_line.new.counts.items c.loop-rest.beats c.in_ok-beats.field-0
    c.next_line.result.0.now c.loop-rest.rest.now c.next_line.result.1.now c.next_line.ensures.lines c.next_line.ensures.shorter
    line (omega (arith, items, many, most.0)) most.1 c.loop-rest.invariant

pub returns-clause-accepted : goal.returns-clause-accepted
returns-clause-accepted c =
    (read-end c.args.nodes.now c.args.text.now (traffic_items c.loop-rest.items.items) c.loop-rest.counts.items c.loop-rest.beats c.loop-rest.rest.now (search rules) c.loop-rest.invariant).0
