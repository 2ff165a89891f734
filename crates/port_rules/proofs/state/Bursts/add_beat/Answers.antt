-- The W beat belongs to the oldest address that lacks beats, if there is one.
use Rattle.std.proofs.Common.{None, refl, sym, ◌∙◌}
use Rattle.port_rules.specs.Kept.{unpaired_in}
use Rattle.port_rules.proofs.BurstLemmas.{none_left, none_last, none_strobes, one_last, one_strobes, burst_done}
use Rattle.port_rules.proofs.state.Bursts.add_beat.Goals as goal

pub returns-in_default-clause-last : goal.returns-in_default-clause-last
returns-in_default-clause-last c = none_last (unpaired_in c.args.self.now) None c.args.w.now refl c.in_default.is c.args.self.now.parted

pub returns-in_default-clause-strobes : goal.returns-in_default-clause-strobes
returns-in_default-clause-strobes c = none_strobes (unpaired_in c.args.self.now) None c.args.w.now refl c.in_default.is c.args.self.now.bus c.args.self.now.parted

pub returns-in_default-clause-kept : goal.returns-in_default-clause-kept
returns-in_default-clause-kept c = λ _. none_left (unpaired_in c.args.self.now) None c.args.w.now refl c.in_default.is c.args.self.now.fresh c.args.self.now.parted

pub returns-then-w-clause-last : goal.returns-then-w-clause-last
returns-then-w-clause-last c =
    c.if-not-last_fits.ensures.value
    ∙ sym (one_last (unpaired_in c.args.self.now) c.in-Some-front.a.now c.in-Some.w c.args.w.now c.in-Some.is c.in-Some-front.ensures.item.0 c.in-Some-front.ensures.item.1 c.args.self.now.parted)

pub returns-then-w-clause-strobes : goal.returns-then-w-clause-strobes
returns-then-w-clause-strobes c =
    c.strobes_fit-strobes.ensures
    ∙ sym (one_strobes c.args.self.now.bus (unpaired_in c.args.self.now) c.in-Some-front.a.now c.in-Some.w c.args.w.now c.in-Some.is c.in-Some-front.ensures.item.0 c.in-Some-front.ensures.item.1 c.args.self.now.parted)

pub returns-then-w-clause-kept : goal.returns-then-w-clause-kept
returns-then-w-clause-kept c = λ _.
    burst_done (unpaired_in c.args.self.now) c.pop_front-whole.new.self.items c.in-Some-front.a.now c.in-Some.w c.args.w.now c.in-Some.is c.in-Some-front.ensures.item.0 c.in-Some-front.ensures.item.1
    c.pop_front-whole.ensures.rest c.args.self.now.parted c.if-w.true
