use Rattle.std.proofs.Common.{◌≡◌, ◌∙◌, ap, true}
use Rattle.net_build.proofs.NetLemmas.{stands-committed}
use Rattle.net_build.proofs.net.Net.commit.Goals as goal
use Rattle.net_build.specs.NetRun.{NetRun}

pub invariant_of-self : goal.invariant_of-self
invariant_of-self c =
    let decided : c.self.inside.net.decided ≡ true = ap (λ (run : NetRun). run.decided) c.self.view_is ∙ c.requires in
    record {
      accepted = c.self.invariant.accepted;
      formed = c.self.invariant.formed;
      traffic = c.self.invariant.traffic;
      sound = c.self.invariant.sound;
      stands_at =
          stands-committed c.self.inside.plan c.self.inside.traffic c.self.inside.net c.commit.new.self c.self.invariant.stands_at decided
          c.commit.ensures.network c.commit.ensures.rounds c.commit.ensures.decided;
      notes = c.self.invariant.notes;
      bound = c.self.invariant.bound;
      small = c.self.invariant.small;
    }
