use Rattle.std.proofs.Common.{◌≡◌, ◌∙◌, drop, sym}
use Rattle.refusals.specs.declared.cause.Cause.TheVariants.{WidthMismatch, IdOverflow, LiteMismatch, TooLarge}
use Rattle.topology.specs.Refused.{checks, fault_of, first_cause, has_id_overflow, has_lite_mismatch, has_width_mismatch, is_too_large}
use Rattle.topology.proofs.PastLemmas.{past-next, refused-here}
use Rattle.topology.proofs.read.first_misfit.Goals as goal

pub returns-in-Some-clause-fault : goal.returns-in-Some-clause-fault
returns-in-Some-clause-fault c =
    refused-here c.args.nodes.now WidthMismatch has_width_mismatch (drop 8 checks) c.in-Some.place c.refused.result c.requires.few c.requires.past (sym c.first_width_mismatch.ensures ∙ c.in-Some.is) c.refused.ensures

pub returns-in-Some-first_id_overflow-clause-fault : goal.returns-in-Some-first_id_overflow-clause-fault
returns-in-Some-first_id_overflow-clause-fault c =
    let widths : fault_of c.args.nodes.now ≡ first_cause c.args.nodes.now (drop 8 checks) = past-next c.args.nodes.now WidthMismatch has_width_mismatch (drop 8 checks) c.requires.past (sym c.first_width_mismatch.ensures ∙ c.in_default.is) in
    refused-here c.args.nodes.now IdOverflow has_id_overflow (drop 9 checks) c.in-Some-first_id_overflow.place c.refused-in-Some-first_id_overflow.result c.requires.few widths (sym c.first_id_overflow.ensures ∙ c.in-Some-first_id_overflow.is) c.refused-in-Some-first_id_overflow.ensures

pub returns-in-Some-first_lite_mismatch-clause-fault : goal.returns-in-Some-first_lite_mismatch-clause-fault
returns-in-Some-first_lite_mismatch-clause-fault c =
    let widths : fault_of c.args.nodes.now ≡ first_cause c.args.nodes.now (drop 8 checks) = past-next c.args.nodes.now WidthMismatch has_width_mismatch (drop 8 checks) c.requires.past (sym c.first_width_mismatch.ensures ∙ c.in_default.is) in
    let ids : fault_of c.args.nodes.now ≡ first_cause c.args.nodes.now (drop 9 checks) = past-next c.args.nodes.now IdOverflow has_id_overflow (drop 9 checks) widths (sym c.first_id_overflow.ensures ∙ c.in_default-first_id_overflow.is) in
    refused-here c.args.nodes.now LiteMismatch has_lite_mismatch (drop 10 checks) c.in-Some-first_lite_mismatch.place c.refused-in-Some-first_lite_mismatch.result c.requires.few ids (sym c.first_lite_mismatch.ensures ∙ c.in-Some-first_lite_mismatch.is) c.refused-in-Some-first_lite_mismatch.ensures

pub returns-in-Some-first_too_large-clause-fault : goal.returns-in-Some-first_too_large-clause-fault
returns-in-Some-first_too_large-clause-fault c =
    let widths : fault_of c.args.nodes.now ≡ first_cause c.args.nodes.now (drop 8 checks) = past-next c.args.nodes.now WidthMismatch has_width_mismatch (drop 8 checks) c.requires.past (sym c.first_width_mismatch.ensures ∙ c.in_default.is) in
    let ids : fault_of c.args.nodes.now ≡ first_cause c.args.nodes.now (drop 9 checks) = past-next c.args.nodes.now IdOverflow has_id_overflow (drop 9 checks) widths (sym c.first_id_overflow.ensures ∙ c.in_default-first_id_overflow.is) in
    let protocols : fault_of c.args.nodes.now ≡ first_cause c.args.nodes.now (drop 10 checks) = past-next c.args.nodes.now LiteMismatch has_lite_mismatch (drop 10 checks) ids (sym c.first_lite_mismatch.ensures ∙ c.in_default-first_lite_mismatch.is) in
    refused-here c.args.nodes.now TooLarge is_too_large (drop 11 checks) c.in-Some-first_too_large.place c.refused-in-Some-first_too_large.result c.requires.few protocols (sym c.first_too_large.ensures ∙ c.in-Some-first_too_large.is) c.refused-in-Some-first_too_large.ensures
