use Rattle.std.proofs.Common.{◌≡◌, ◌<◌, ◌∙◌, List, ap, arith, length, refl, subst, ℕ}
use Rattle.std.specs.Prelude.{All}
use Rattle.demux_node.proofs.PortLemmas.{all-next, all-taken}
use Rattle.demux_node.specs.DemuxState.{DemuxShape}
use Rattle.demux_node.proofs.shape.Shape.fits_on.Goals as goal

pub loop-lower-preserved : goal.loop-lower-preserved
loop-lower-preserved c =
    all-next (λ link. link < length c.args.links.now) c.as_slice-lower-items.result.now c.loop-lower.lower-index 0 c.loop-lower-test.true c.loop-lower.invariant (c.if-not-is_there.ensures refl)

pub returns : goal.returns
returns c = λ upper.
    let links = c.args.links.now in
    let IsThere : ℕ → Type 0 = λ link. link < length links in
    let same : c.as_slice-lower-items.result.now ≡ c.args.self.now.lowers = c.as_slice-lower-items.ensures.value ∙ ap (λ (s : DemuxShape). s.lowers) c.self.view_is in
    record {
      upper = subst IsThere (ap (λ (s : DemuxShape). s.upper) c.self.view_is) (c.is_there-2.ensures upper);
      lowers = subst (λ (xs : List ℕ). All IsThere xs) same (all-taken IsThere c.as_slice-lower-items.result.now c.loop-lower.lower-index (omega (arith, c.loop-lower-test.false)) c.loop-lower.invariant);
    }
