-- What a checker stands for after a round, in each of three cases: a rule was broken before, one is broken in this
-- round, or none is.
use Rattle.std.proofs.Common.{◌≡◌, ◌+◌, ℕ, Some, refl, sym, ap, ◌∙◌}
use Rattle.port_rules.proofs.StandsLemmas.{stays_broken, broken_stays, breaks, broken_told, grows, legal_told, if_none, not_none}
use Rattle.port_rules.proofs.state.PortChecker.round.Goals as goal

pub returns-in-Some-clause-added : goal.returns-in-Some-clause-added
returns-in-Some-clause-added c = λ _ h s. stays_broken c.args.self.now _ h c.args.r.now (c.in-Some.channel, c.in-Some.rule) s c.in-Some.is c.in-Some.is refl refl refl refl

pub returns-in-Some-clause-broken : goal.returns-in-Some-clause-broken
returns-in-Some-clause-broken c = λ rule channel e h s.
    let same_rule : c.in-Some.rule ≡ rule = cc in
    let same_channel : c.in-Some.channel ≡ channel = cc in
    let told = broken_stays c.args.self.now h c.args.r.now (c.in-Some.channel, c.in-Some.rule) s c.in-Some.is in
    told ∙ ap (λ (n : ℕ). Some (n, c.in-Some.rule)) same_channel ∙ ap (λ (n : ℕ). Some (channel, n)) same_rule

pub returns-in-Some-add-clause-added : goal.returns-in-Some-add-clause-added
returns-in-Some-add-clause-added c = λ _ h s.
    breaks c.args.self.now c.reserve.new.self _ h c.args.r.now (c.in-Some-add.channel, c.in-Some-add.rule) s c.in_default.is c.reserve.ensures.port c.reserve.ensures.kept
    (sym c.add.ensures.fault ∙ c.in-Some-add.is) refl
    (c.add.ensures.writes (not_none c.in-Some-add.is)) (c.add.ensures.reads (not_none c.in-Some-add.is))
    (c.add.ensures.port ∙ c.reserve.ensures.port) (c.add.ensures.rounds ∙ ap (λ (n : ℕ). n + 1) c.reserve.ensures.rounds)

pub returns-in-Some-add-clause-broken : goal.returns-in-Some-add-clause-broken
returns-in-Some-add-clause-broken c = λ rule channel e h s.
    let same_rule : c.in-Some-add.rule ≡ rule = cc in
    let same_channel : c.in-Some-add.channel ≡ channel = cc in
    let told = broken_told c.args.self.now c.reserve.new.self h c.args.r.now (c.in-Some-add.channel, c.in-Some-add.rule) s c.in_default.is c.reserve.ensures.port c.reserve.ensures.kept (sym c.add.ensures.fault ∙ c.in-Some-add.is) in
    told ∙ ap (λ (n : ℕ). Some (n, c.in-Some-add.rule)) same_channel ∙ ap (λ (n : ℕ). Some (channel, n)) same_rule

pub returns-in-None-clause-added : goal.returns-in-None-clause-added
returns-in-None-clause-added c = λ _ h s.
    grows c.args.self.now c.reserve.new.self c.add.new.self h c.args.r.now s c.in_default.is c.reserve.ensures.port c.reserve.ensures.kept
    (sym c.add.ensures.fault ∙ c.in-None.is) (if_none c.in-None.is c.add.ensures.kept) (c.add.ensures.same_fault ∙ c.reserve.ensures.fault ∙ c.in_default.is)
    (c.add.ensures.port ∙ c.reserve.ensures.port) (c.add.ensures.rounds ∙ ap (λ (n : ℕ). n + 1) c.reserve.ensures.rounds)

pub returns-in-None-clause-legal : goal.returns-in-None-clause-legal
returns-in-None-clause-legal c = λ _ h s.
    legal_told c.args.self.now c.reserve.new.self h c.args.r.now s c.in_default.is c.reserve.ensures.port c.reserve.ensures.kept (sym c.add.ensures.fault ∙ c.in-None.is)
