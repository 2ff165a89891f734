use Rattle.std.proofs.Common.{arith}
use Rattle.manager_node.proofs.BurstLemmas.{bytes-most}
use Rattle.manager_node.proofs.SendingLemmas.{placed-within}
use Rattle.manager_node.proofs.sending.Sending.step.Goals as goal

pub overflow_add-self-else-self-from : goal.overflow_add-self-else-self-from
overflow_add-self-else-self-from c =
    let within = placed-within c.args.self.now c.args.script.now c.args.place c.in-Some.place c.request-request.result.now c.in-Some.is c.request-request.ensures.value c.requires.within
    in let most = bytes-most c.request-request.result.now c.args.self.now.beats c.request-request.ensures.legal
    in omega (arith, within.0, within.1, most, c.beat_count.ensures.most)
