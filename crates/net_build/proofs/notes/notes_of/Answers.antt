use Rattle.std.proofs.Common.{◌≡◌, ◌<◌, ◌+◌, ◌-◌, ◌++◌, [], ◌∷◌, ℕ, List, ap₂, arith, get_or, length, set, subst, sym, ◌∙◌}
use Rattle.elaborate.specs.Plan.{first_part}
use Rattle.net_build.proofs.ItemLemmas.{item-suits, item_at, manager-known, told}
use Rattle.net_build.proofs.NoteLemmas.{AreNotes, count-few, note, notes-more, read-count}
use Rattle.net_build.proofs.notes.notes_of.Goals as goal
use Rattle.net_build.specs.declared.notes.Note.{Note}
use Rattle.plan_traffic.specs.Traffic.{TrafficItem}

pub overflow_add-index_mut : goal.overflow_add-index_mut
overflow_add-index_mut c =
    let less : c.loop-place.place < length c.args.traffic.now = omega (arith, c.loop-place-test.true, c.count-place-end.ensures.count) in
    let same : (item_at c.args.traffic.now c.loop-place.place).manager ≡ c.manager-manager.result =
    told (λ (item : TrafficItem). item.manager) c.args.traffic.now c.loop-place.place (c.loop-place.place + 1 - 1) c.manager-manager.result less (omega arith) c.manager-manager.ensures in
    let known : c.manager-manager.result < length c.args.plan.now =
    subst (λ (m : ℕ). m < length c.args.plan.now) same
    (manager-known c.args.plan.now (item_at c.args.traffic.now c.loop-place.place) (item-suits c.args.plan.now c.args.traffic.now c.loop-place.place c.requires.traffic.suit less)) in
    let few =
    count-few c.args.plan.now c.args.traffic.now c.loop-place.notes.items c.loop-place.counts.items c.loop-place.place c.manager-manager.result c.index_mut.result.now c.loop-place.invariant known
    c.index_mut.ensures.value in
    omega (arith, few, c.requires.traffic.transactions)

pub loop-place-preserved : goal.loop-place-preserved
loop-place-preserved c =
    let less : c.loop-place.place < length c.args.traffic.now = omega (arith, c.loop-place-test.true, c.count-place-end.ensures.count) in
    let same : (item_at c.args.traffic.now c.loop-place.place).manager ≡ c.manager-manager.result =
    told (λ (item : TrafficItem). item.manager) c.args.traffic.now c.loop-place.place (c.loop-place.place + 1 - 1) c.manager-manager.result less (omega arith) c.manager-manager.ensures in
    let known : c.manager-manager.result < length c.args.plan.now =
    subst (λ (m : ℕ). m < length c.args.plan.now) same
    (manager-known c.args.plan.now (item_at c.args.traffic.now c.loop-place.place) (item-suits c.args.plan.now c.args.traffic.now c.loop-place.place c.requires.traffic.suit less)) in
    let place =
    read-count c.args.plan.now c.args.traffic.now c.loop-place.notes.items c.loop-place.counts.items c.loop-place.place c.manager-manager.result c.index.result.now c.loop-place.invariant known
    c.index.ensures in
    let count =
    read-count c.args.plan.now c.args.traffic.now c.loop-place.notes.items c.loop-place.counts.items c.loop-place.place c.manager-manager.result c.index_mut.result.now c.loop-place.invariant known
    c.index_mut.ensures.value in
    let notes : c.push.new.self.items ≡ c.loop-place.notes.items ++ note (first_part c.args.plan.now c.manager-manager.result) (get_or c.loop-place.counts.items c.manager-manager.result 0) ∷ [] =
    c.in_ok-push.ensures.items ∙ ap₂ (λ (node place : ℕ). c.loop-place.notes.items ++ note node place ∷ []) c.first.ensures place in
    subst (λ (ns : List Note). AreNotes c.args.plan.now c.args.traffic.now ns (set c.loop-place.counts.items c.manager-manager.result (c.index_mut.result.now + 1)) (c.loop-place.place + 1)) (sym notes)
    (subst
    (λ (n : ℕ). AreNotes c.args.plan.now c.args.traffic.now (c.loop-place.notes.items ++ note (first_part c.args.plan.now c.manager-manager.result) (get_or c.loop-place.counts.items c.manager-manager.result 0) ∷ []) (set c.loop-place.counts.items c.manager-manager.result (n + 1)) (c.loop-place.place + 1))
    (sym count)
    (notes-more c.args.plan.now c.args.traffic.now c.loop-place.notes.items c.loop-place.counts.items c.loop-place.place c.manager-manager.result c.loop-place.invariant less same known))
