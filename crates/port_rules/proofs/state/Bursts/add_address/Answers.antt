-- The address takes the beats that came before it, unless an earlier one lacks beats.
use Rattle.std.proofs.Common.{ℕ, ◌==◌, List, None, refl, sym, ◌∙◌, ap}
use Rattle.axi_history.specs.declared.port.RawAddr.{RawAddr}
use Rattle.port_rules.specs.Kept.{unpaired_in}
use Rattle.port_rules.proofs.BurstLemmas.{none_left, none_last, none_strobes, behind_left, behind_last, behind_strobes}
use Rattle.port_rules.proofs.state.Bursts.add_address.Goals as goal

pub returns-in_default-clause-last : goal.returns-in_default-clause-last
returns-in_default-clause-last c = none_last (unpaired_in c.args.self.now) c.args.aw.now None c.in_default.is refl c.args.self.now.parted

pub returns-in_default-clause-strobes : goal.returns-in_default-clause-strobes
returns-in_default-clause-strobes c = none_strobes (unpaired_in c.args.self.now) c.args.aw.now None c.in_default.is refl c.args.self.now.bus c.args.self.now.parted

pub returns-in_default-clause-kept : goal.returns-in_default-clause-kept
returns-in_default-clause-kept c = λ _. none_left (unpaired_in c.args.self.now) c.args.aw.now None c.in_default.is refl c.args.self.now.fresh c.args.self.now.parted

pub returns-clause-last : goal.returns-clause-last
returns-clause-last c = behind_last (unpaired_in c.args.self.now) c.in-Some.a c.args.aw.now c.in-Some.is (sym (ap (λ (n : ℕ). n == 0) c.args.self.now.addresses.ok.0) ∙ sym c.is_empty.ensures ∙ c.if-is_empty.false) c.args.self.now.parted

pub returns-clause-strobes : goal.returns-clause-strobes
returns-clause-strobes c = behind_strobes (unpaired_in c.args.self.now) c.in-Some.a c.args.aw.now c.in-Some.is (sym (ap (λ (n : ℕ). n == 0) c.args.self.now.addresses.ok.0) ∙ sym c.is_empty.ensures ∙ c.if-is_empty.false) c.args.self.now.parted c.args.self.now.bus

pub returns-clause-kept : goal.returns-clause-kept
returns-clause-kept c = λ _.
    ap (λ (xs : List RawAddr). record { addresses = xs; passed = c.args.self.now.passed; beats = c.args.self.now.beats.items }) c.push_back_reserved.ensures.items
    ∙ behind_left (unpaired_in c.args.self.now) c.in-Some.a c.args.aw.now c.in-Some.is (sym (ap (λ (n : ℕ). n == 0) c.args.self.now.addresses.ok.0) ∙ sym c.is_empty.ensures ∙ c.if-is_empty.false) c.args.self.now.parted
