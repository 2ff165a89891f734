use Rattle.std.proofs.Common.{◌+◌, ◌*◌, ◌%◌, ◌^◌, arith, ap, ◌∙◌, refl, set, take_all}
use Rattle.std.specs.Prelude.{bit_or}
use Rattle.manager_node.specs.Beats.{strobe_of}
use Rattle.manager_node.proofs.BeatLemmas.{lanes-first, lanes-step, strobe-shifted, strobe-step}
use Rattle.manager_node.proofs.beats.on_lanes.Goals as goal

pub loop-n-init : goal.loop-n-init
loop-n-init c = record { lanes = c.zero-lanes.ensures ∙ lanes-first c.args.low (omega (arith, c.requires.low)); strobe = refl }

pub loop-n-preserved : goal.loop-n-preserved
loop-n-preserved c = record {
  lanes = c.set.ensures.byte ∙ ap (set c.loop-n.lanes (c.args.low + c.loop-n.n)) c.on_lane.ensures ∙ lanes-step c.args.low c.args.bytes.now c.loop-n.n _ c.loop-n-test.true c.requires.few c.loop-n.lanes c.loop-n.invariant.lanes;
  strobe = ap (λ bit. bit_or c.loop-n.strobe (bit * 2 ^ c.loop-n.n % 2 ^ 128)) c.from.ensures ∙ strobe-step c.args.low c.args.bytes.now c.loop-n.n _ c.loop-n-test.true c.requires.few c.loop-n.strobe c.loop-n.invariant.strobe;
}

pub returns-clause-strobe : goal.returns-clause-strobe
returns-clause-strobe c = strobe-shifted c.args.low c.args.bytes.now c.loop-n.strobe c.requires.few (c.loop-n.invariant.strobe ∙ ap strobe_of (take_all c.loop-n.n c.args.bytes.now c.loop-n-test.false))
