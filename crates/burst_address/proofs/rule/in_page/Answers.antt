use Rattle.std.proofs.Common.{◌≤◌, ◌+◌, ◌*◌, ◌%◌, ◌^◌, ◌∙◌, ap, sym, arith}
use Rattle.std.proofs.Math.Dec.{leb}
use Rattle.std.proofs.Math.Nat.{mul-le-mul_right}
use Rattle.burst_address.specs.Formulas.{aligned, size_of, beats_of}
use Rattle.burst_address.specs.Legal.{is_in_page}
use Rattle.burst_address.proofs.Numbers.{one_page, exponent_below}
use Rattle.burst_address.proofs.rule.in_page.Goals as goal

pub returns-in-Incr : goal.returns-in-Incr
returns-in-Incr c =
    let below : c.args.a.now.size ≤ 7 = omega (arith, exponent_below c.args.a.now.size c.requires) in
    let one : 1 * 2 ^ c.args.a.now.size ≤ beats_of c.args.a.now * 2 ^ c.args.a.now.size = mul-le-mul_right (2 ^ c.args.a.now.size) (omega arith) in
    ap (λ t. leb (t % 4096 + (c.from.result + 1) * c.beat_size.result) 4096) c.aligned_address-offset.ensures
    ∙ ap (λ t. leb (aligned (size_of c.args.a.now) c.args.a.now.addr % 4096 + (t + 1) * c.beat_size.result) 4096) c.from.ensures
    ∙ ap (λ t. leb (aligned (size_of c.args.a.now) c.args.a.now.addr % 4096 + beats_of c.args.a.now * t) 4096) c.beat_size.ensures.value
    ∙ one_page c.args.a.now.size c.args.a.now.addr (beats_of c.args.a.now * size_of c.args.a.now) below (omega arith)
    ∙ ap (λ k. is_in_page k (size_of c.args.a.now) (beats_of c.args.a.now) c.args.a.now.addr) (sym c.in-Incr.is)
