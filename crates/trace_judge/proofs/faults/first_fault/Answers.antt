-- The links come in the order of their numbers.
use Rattle.std.proofs.Common.{sym, refl, ◌+◌, ◌∙◌, ap, rules}
use Rattle.std.proofs.lemmas.Iterator.Adapters.{YieldsList-from_vec}
use Rattle.std.proofs.lemmas.Iterator.Consumers.{YieldsList-turn}
use Rattle.std.proofs.lemmas.List.{length_push}
use Rattle.trace_judge.proofs.FaultLemmas.{below_none, below_next, serves_at, stands_at}
use Rattle.trace_judge.proofs.faults.first_fault.Goals as goal

pub loop-entry-init : goal.loop-entry-init
loop-entry-init c = record { can = tt; finite = tt; count = refl; first = λ lines greatest stands. sym (below_none lines) }

pub fault_of-requires : goal.fault_of-requires
fault_of-requires c =
    let gives = c.into_iter-entry-iterator.ensures.into_iter_gives in
    let t = YieldsList-turn (YieldsList-from_vec c.args.links.items gives.0 (gives.1 ∙ search rules)) c.loop-entry.yielded c.loop-entry.entry-iterator c.loop-entry.yielded_by c.next.result c.next.new.self c.in-Some.entry c.in-Some.is c.next.ensures.steps in
    record { serves = serves_at c.args.links.items _ c.in-Some.entry t c.requires.serves }

pub loop-entry-preserved : goal.loop-entry-preserved
loop-entry-preserved c =
    let gives = c.into_iter-entry-iterator.ensures.into_iter_gives in
    let t = YieldsList-turn (YieldsList-from_vec c.args.links.items gives.0 (gives.1 ∙ search rules)) c.loop-entry.yielded c.loop-entry.entry-iterator c.loop-entry.yielded_by c.next.result c.next.new.self c.in-Some.entry c.in-Some.is c.next.ensures.steps in
    record {
      can = tt;
      finite = tt;
      count = ap (λ n. n + 1) c.loop-entry.invariant.count ∙ sym (length_push c.loop-entry.yielded c.in-Some.entry);
      first = λ lines greatest stands.
          below_next lines c.loop-entry.link c.loop-entry.first c.in_ok-fault.fault c.with_link-first.result (c.loop-entry.invariant.first lines greatest stands) c.with_link-first.ensures
          (c.in_ok-fault.ensures.fault lines c.loop-entry.link greatest (stands_at c.args.links.items _ c.loop-entry.link c.in-Some.entry lines c.loop-entry.invariant.count t stands));
    }
