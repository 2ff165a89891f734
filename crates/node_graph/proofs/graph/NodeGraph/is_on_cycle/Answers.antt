use Rattle.std.proofs.Common.{◌<◌, ◌≤◌, ◌∙◌, ℕ, false, ap, get_or, length, replicate, subst, sym, arith}
use Rattle.node_graph.specs.Graph.{is_on_cycle}
use Rattle.node_graph.proofs.Searched.{get-mark, search-begin, search-ended, search-started}
use Rattle.node_graph.proofs.graph.NodeGraph.is_on_cycle.Goals as goal

pub loop-place-init : goal.loop-place-init
loop-place-init c =
    record {
      search =
          search-started c.args.self.now (record { start = c.args.node; found = c.in_ok-no_marks.field-0; queue = c.new.result }) c.pass.new.search
          (search-begin c.args.self.now c.args.node c.in_ok-no_marks.field-0.items c.new.result.items
          (c.in_ok-no_marks.ensures ∙ ap (λ (k : ℕ). replicate k false) c.count.ensures) c.new.ensures.items)
          c.new.ensures.items c.in_ok-pass.ensures;
      start = c.in_ok-pass.ensures.start;
    }

pub returns : goal.returns
returns c =
    let all : length c.args.self.now ≤ c.loop-place.place = omega (arith, c.loop-place-test.false, c.count-place-end.ensures) in
    let less : c.loop-place.search.start < length c.args.self.now = subst (λ (k : ℕ). k < length c.args.self.now) (sym c.loop-place.invariant.start) c.requires in
    let inside : c.args.node < length c.loop-place.search.found.items = omega (arith, c.requires, c.loop-place.invariant.search.long) in
    c.index.ensures ∙ get-mark c.loop-place.search.found.items c.args.node c.index.result.now inside
    ∙ ap (λ (k : ℕ). get_or c.loop-place.search.found.items k false) (sym c.loop-place.invariant.start)
    ∙ search-ended c.args.self.now c.loop-place.place c.loop-place.search all less c.loop-place.invariant.search
    ∙ ap (is_on_cycle c.args.self.now) c.loop-place.invariant.start
