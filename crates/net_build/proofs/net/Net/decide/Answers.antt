use Rattle.std.proofs.Common.{◌≡◌, ◌<◌, ◌∙◌, ap, arith, false, subst, sym}
use Rattle.net_build.proofs.NetLemmas.{can-decide, stands-decided}
use Rattle.net_build.proofs.net.Net.decide.Goals as goal
use Rattle.net_build.specs.NetRun.{NetRun}
use Rattle.plan_traffic.specs.Bound.{round_bound}

pub decide-requires : goal.decide-requires
decide-requires c =
    let undecided : c.self.inside.net.decided ≡ false = ap (λ (run : NetRun). run.decided) c.self.view_is ∙ c.requires.undecided in
    let below : c.self.inside.net.rounds < round_bound c.self.inside.plan c.self.inside.traffic =
    subst (λ (run : NetRun). run.rounds < round_bound run.nodes run.items) (sym c.self.view_is) c.requires.room in
    can-decide c.self.inside.plan c.self.inside.traffic c.self.inside.net c.self.invariant.sound c.self.invariant.stands_at undecided
    (omega (arith, below, c.self.invariant.bound, c.self.invariant.small))

pub invariant_of-self : goal.invariant_of-self
invariant_of-self c =
    let undecided : c.self.inside.net.decided ≡ false = ap (λ (run : NetRun). run.decided) c.self.view_is ∙ c.requires.undecided in
    record {
      accepted = c.self.invariant.accepted;
      formed = c.self.invariant.formed;
      traffic = c.self.invariant.traffic;
      sound = c.self.invariant.sound;
      stands_at =
          stands-decided c.self.inside.plan c.self.inside.traffic c.self.inside.net c.decide.new.self c.self.invariant.sound c.self.invariant.stands_at undecided
          c.decide.ensures.net c.decide.ensures.network;
      notes = c.self.invariant.notes;
      bound = c.self.invariant.bound;
      small = c.self.invariant.small;
    }
