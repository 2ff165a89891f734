-- The address goes first, and then the W beat.
use Rattle.std.proofs.Common.{◌≡◌, ◌∷◌, [], ◌&&◌, Some, None, refl, ◌∙◌}
use Rattle.axi_history.specs.PortRules.{least_broken}
use Rattle.port_rules.specs.Kept.{unpaired_in}
use Rattle.port_rules.specs.Unpaired.{with_offers}
use Rattle.port_rules.proofs.BurstLemmas.{left_in_two, early_nine, now_nine, no_nine}
use Rattle.port_rules.proofs.state.Bursts.add.Goals as goal
use Rattle.port_rules.proofs.state.Bursts.add.Goals.{else-early-via-then-early+else-now, else-early-via-else-early}

pub returns-in_default-clause-fault : goal.returns-in_default-clause-fault
returns-in_default-clause-fault c =
    let u = unpaired_in c.args.self.now in
    early_nine u (with_offers c.args.aw.now None u) c.args.aw.now c.args.w.now c.args.self.now.fresh refl c.args.self.now.bus c.in_default.ensures.last

pub returns-in_default-add_beat-clause-fault : goal.returns-in_default-add_beat-clause-fault
returns-in_default-add_beat-clause-fault c =
    now_nine (unpaired_in c.args.self.now) (unpaired_in c.add_address.new.self) c.args.aw.now c.args.w.now c.args.self.now.fresh (c.in-Some.ensures.kept refl) c.args.self.now.bus
    c.in-Some.ensures.last c.in_default-add_beat.ensures.last

pub returns-then-now-clause-fault : goal.returns-then-now-clause-fault
returns-then-now-clause-fault c =
    let right : None ≡ least_broken ((10, c.in-Some.early && c.in-Some-add_beat.now) ∷ []) = rw (c.if-early.true, c.if-now.true) refl in
    right
    ∙ no_nine (unpaired_in c.args.self.now) (unpaired_in c.add_address.new.self) c.args.aw.now c.args.w.now c.args.self.now.fresh (c.in-Some.ensures.kept refl) c.args.self.now.bus c.add_address.new.self.bus
    c.in-Some.early c.in-Some-add_beat.now c.in-Some.ensures.bus c.in-Some.ensures.last c.in-Some-add_beat.ensures.last c.in-Some.ensures.strobes c.in-Some-add_beat.ensures.strobes

pub returns-then-now-clause-kept : goal.returns-then-now-clause-kept
returns-then-now-clause-kept c =
    c.in-Some-add_beat.ensures.kept refl
    ∙ left_in_two (unpaired_in c.args.self.now) (unpaired_in c.add_address.new.self) c.args.aw.now c.args.w.now c.args.self.now.fresh (c.in-Some.ensures.kept refl)

pub returns-else-early-clause-fault : goal.returns-else-early-clause-fault
returns-else-early-clause-fault c =
    let wrong : Some 10 ≡ least_broken ((10, c.in-Some.early && c.in-Some-add_beat.now) ∷ []) = elim c.else-early.branch [
      | else-early-via-then-early+else-now w ↦ rw (w.if-early.true, w.if-now.false) refl
      | else-early-via-else-early w ↦ rw w.if-early.false refl
    ] in
    wrong
    ∙ no_nine (unpaired_in c.args.self.now) (unpaired_in c.add_address.new.self) c.args.aw.now c.args.w.now c.args.self.now.fresh (c.in-Some.ensures.kept refl) c.args.self.now.bus c.add_address.new.self.bus
    c.in-Some.early c.in-Some-add_beat.now c.in-Some.ensures.bus c.in-Some.ensures.last c.in-Some-add_beat.ensures.last c.in-Some.ensures.strobes c.in-Some-add_beat.ensures.strobes
