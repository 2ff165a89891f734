use Rattle.std.proofs.Common.{◌≡◌, ◌<◌, ◌^◌, ◌∙◌, ap, sym, subst, ℕ, arith}
use Rattle.burst_address.specs.Formulas.{address_by_kind, size_of, beats_of, beat_at}
use Rattle.burst_address.proofs.Beats.{beat-limit}
use Rattle.burst_address.proofs.address.beat_address.Goals as goal

pub returns-in-Incr-clause-limit : goal.returns-in-Incr-clause-limit
returns-in-Incr-clause-limit c =
    let same : c.ascending.result ≡ beat_at c.args.a.now c.args.n = c.ascending.ensures ∙ ap (λ k. address_by_kind k (size_of c.args.a.now) (beats_of c.args.a.now) c.args.a.now.addr c.args.n) (sym c.in-Incr.is) in
    subst (λ (x : ℕ). x < 2 ^ 63) (sym same) (beat-limit c.args.a.now 128 c.args.n (omega arith) c.requires.legal (omega arith) c.requires.start)

pub returns-in-Wrap-clause-limit : goal.returns-in-Wrap-clause-limit
returns-in-Wrap-clause-limit c =
    let same : c.wrapping.result ≡ beat_at c.args.a.now c.args.n = c.wrapping.ensures ∙ ap (λ k. address_by_kind k (size_of c.args.a.now) (beats_of c.args.a.now) c.args.a.now.addr c.args.n) (sym c.in-Wrap.is) in
    subst (λ (x : ℕ). x < 2 ^ 63) (sym same) (beat-limit c.args.a.now 128 c.args.n (omega arith) c.requires.legal (omega arith) c.requires.start)
