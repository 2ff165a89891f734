use Rattle.std.proofs.Common.{◌≡◌, ℕ, ◌+◌, ◌<◌, ◌++◌, ◌∷◌, [], List, get_or, set, length, ap, ap₂, sym, ◌∙◌, rules, arith}
use Rattle.std.proofs.lemmas.List.{get_or_default, length-map}
use Rattle.axi_beats.specs.declared.beat.Addr.{Addr}
use Rattle.plan_traffic.specs.Inside.{traffic_item, traffic_items}
use Rattle.plan_traffic.specs.Line.{Access}
use Rattle.plan_traffic.specs.Seen.{access_of, start_seen}
use Rattle.plan_traffic.specs.Steps.{item_of}
use Rattle.plan_traffic.specs.Traffic.{TrafficItem, after_issue, none_yet}
use Rattle.plan_traffic.specs.declared.build.Count.{Count}
use Rattle.plan_traffic.proofs.ReadLemmas.{added-burst}
use Rattle.plan_traffic.proofs.build.add_burst.Goals as goal

pub returns : goal.returns
returns c =
    let access : Access = access_of (start_seen c.args.start.now) c.args.write c.args.beats c.args.bytes.items in
    let place = c.in_ok-place.place in
    let items = traffic_items c.args.items.now.items in
    let counts = c.args.counts.now.items in
    let number : c.len.result ≡ length items = search (rules, sym (length-map c.args.items.now.items traffic_item)) in
    let made : TrafficItem → List TrafficItem = λ item. items ++ item ∷ [] in
    let item : ℕ → ℕ → Addr → TrafficItem = λ n after request. record { manager = place; txn = record { number = n + 1; write = c.args.write; request = request; after = after }; bytes = c.args.bytes.items } in
    let inside : place < length counts = omega (arith, c.requires.many, c.in_ok-place.ensures.inside) in
    let awaited : c.index-count.result.now ≡ get_or counts place none_yet = c.index-count.ensures ∙ get_or_default counts place c.index-count.result.now none_yet inside in
    let added : traffic_items c.push_item.new.items.items ≡ items ++ item_of (length items + 1) (get_or counts place none_yet).awaited place access ∷ [] =
    c.in_ok-push_item.ensures
    ∙ ap (λ n. made (item n c.index-count.result.now.awaited c.in_ok-request.request)) number
    ∙ ap₂ (λ (count : Count) request. made (item (length items) count.awaited request)) awaited c.in_ok-request.ensures.request in
    let after : c.after_issue.result ≡ after_issue (get_or counts place none_yet) = search (rules, ap after_issue awaited) in
    added-burst c.args.nodes.now access place items (traffic_items c.push_item.new.items.items) counts (set counts place c.after_issue.result)
    (search (rules, c.in_ok-place.ensures.number)) c.in_ok-place.ensures.inside c.in_ok-request.ensures.allowed c.in_ok-request.ensures.few added (ap (set counts place) after)
