-- A burst has at most the bytes of a page.
use Rattle.std.proofs.Common.{◌≡◌, ◌≤◌, ◌+◌, ◌-◌, ◌*◌, ◌/◌, ◌<◌, ◌^◌, ℕ, zero, suc, length, ap, arith, refl, subst, sym, ◌∙◌}
use Rattle.std.proofs.lemmas.Bool.{eqb-true, ltb-true}
use Rattle.std.proofs.lemmas.List.FromFn.{length-range_with_len}
use Rattle.axi_beats.specs.declared.beat.Addr.{Addr}
use Rattle.axi_beats.specs.declared.beat.Burst.{Burst}
use Rattle.axi_beats.specs.declared.beat.Burst.TheVariants.{Fixed, Incr, Wrap}
use Rattle.burst_address.proofs.Beats.{incr-bytes}
use Rattle.burst_address.proofs.Legality.{legal-length, legal-page, wrap_length}
use Rattle.burst_address.specs.Bytes.{burst_bytes}
use Rattle.burst_address.specs.Formulas.{aligned, beats_of, size_of}
use Rattle.burst_address.specs.Legal.{IsLegal, is_in_page, is_length_of}
use Rattle.manager_node.proofs.BurstLemmas.{bytes-most}

-- so many numbers from a start on that end on its page
in-page : (start last long : ℕ) → start / 4096 ≡ last / 4096 → long + start ≤ last + 1 → long ≤ 4096
in-page start last long same sum = omega arith

few-powers : (j : ℕ) → j ≤ 4 → 2 ^ j ≤ 16
few-powers zero few = omega arith
few-powers (suc zero) few = omega arith
few-powers (suc (suc zero)) few = omega arith
few-powers (suc (suc (suc zero))) few = omega arith
few-powers (suc (suc (suc (suc zero)))) few = omega arith
few-powers (suc (suc (suc (suc (suc j))))) few = absurd (omega arith)

pub burst-long : (a : Addr) → IsLegal a 128 → length (burst_bytes a) ≤ 4096
burst-long a legal = by a.burst refl
  where
    most : length (burst_bytes a) ≤ beats_of a * 128
    most = bytes-most a (beats_of a) legal

    by : (kind : Burst) → a.burst ≡ kind → length (burst_bytes a) ≤ 4096
    by Fixed is =
        let few : beats_of a < 17 = ltb-true (beats_of a) 17 (sym (ap (λ (k : Burst). is_length_of k (beats_of a)) is) ∙ legal-length a 128 legal) in
        omega (arith, few, most)
    by Wrap is =
        let few = wrap_length (beats_of a) (sym (ap (λ (k : Burst). is_length_of k (beats_of a)) is) ∙ legal-length a 128 legal) in
        omega (arith, few.1, few-powers few.0 few.2, most)
    by Incr is =
        let page = eqb-true (a.addr / 4096) ((aligned (size_of a) a.addr + beats_of a * size_of a - 1) / 4096) (sym (ap (λ (k : Burst). is_in_page k (size_of a) (beats_of a) a.addr) is) ∙ legal-page a 128 legal) in
        let long : length (burst_bytes a) ≡ aligned (size_of a) a.addr + beats_of a * size_of a - a.addr =
        ap length (incr-bytes a is) ∙ length-range_with_len a.addr (aligned (size_of a) a.addr + beats_of a * size_of a - a.addr) in
        subst (λ (n : ℕ). n ≤ 4096) (sym long) (short (aligned (size_of a) a.addr + beats_of a * size_of a) page)
      where
        short : (end : ℕ) → a.addr / 4096 ≡ (end - 1) / 4096 → end - a.addr ≤ 4096
        short end same = omega arith
