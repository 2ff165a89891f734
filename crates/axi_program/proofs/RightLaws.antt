-- The run of every document that is accepted is right.
use Rattle.std.proofs.Common.{ℕ, ◌<◌, Ok, Some, length, sym, ◌∙◌, arith}
use Rattle.std.proofs.lemmas.List.{length-map}
use Rattle.document.proofs.PlanLemmas.{plans-follow_documents}
use Rattle.document.proofs.RunnableLemmas.{accepted-are_runnable}
use Rattle.document.specs.Document.{Asked}
use Rattle.document.specs.Runnable.{IsRunnable}
use Rattle.elaborate.specs.Plan.{plan_links}
use Rattle.net_bound.proofs.InTime.{runs-end_in_time}
use Rattle.net_due.proofs.PlanRuns.{plan-runs_are_right}
use Rattle.net_kinds.specs.NodeHolds.{node_holds}
use Rattle.net_kinds.specs.NodeKind.{node_kind}
use Rattle.net_opening.specs.Opening.{opening}
use Rattle.net_opening.specs.PlanLinks.{form_of_link, net_link_of}
use Rattle.net_plan.proofs.LinkProtocols.{lite-forms}
use Rattle.net_plan.proofs.OpeningSound.{openings-are_sound}
use Rattle.net_plan.specs.PlanLaws.{CanRun}
use Rattle.net_ranges.proofs.PlanLemmas.{plans-show_lines}
use Rattle.net_ways.proofs.SoundLemmas.{sound-ports_are_legal}
use Rattle.net_ways.specs.Sound.{IsSound}
use Rattle.axi_program.proofs.CallLaws.{planned-outcome}
use Rattle.axi_program.proofs.LeastLemmas.{run_length-is}
use Rattle.axi_program.specs.Planning.{PlansTellBounds}
use Rattle.axi_program.specs.Right.{DocumentsRunRight, PortsLegal, RunIsRight}
use Rattle.axi_program.specs.Run.{bound, opened_network, run_rounds}

-- the network of a document that is accepted can be run
pub can-run : (asked : Asked) → IsRunnable asked → CanRun asked.nodes
can-run asked runnable = record { formed = runnable.formed; accepted = runnable.accepted; built = runnable.built }

pub sound-opening : (asked : Asked) → IsRunnable asked → IsSound node_kind (opening asked.nodes asked.items) (form_of_link asked.nodes)
sound-opening asked runnable = openings-are_sound asked.nodes asked.items (can-run asked runnable) runnable.traffic

-- each port keeps the rules of its protocol
ports-legal : (asked : Asked) → IsRunnable asked → (rounds : ℕ) → PortsLegal asked rounds
ports-legal asked runnable rounds link less =
    let sound = sound-opening asked runnable in
    let form = lite-forms asked.nodes (can-run asked runnable) link (omega (arith, less, length-map (plan_links asked.nodes) net_link_of)) in
    sound-ports_are_legal node_kind node_holds (opened_network asked) (form_of_link asked.nodes) sound link less form.words rounds

run-is-right : (asked : Asked) → IsRunnable asked → RunIsRight asked
unfolding run_rounds
run-is-right asked runnable =
    let run = can-run asked runnable in
    let ends = runs-end_in_time asked.nodes asked.items run runnable.traffic in
    record {
      right = plan-runs_are_right asked.nodes asked.items run runnable.traffic;
      legal = ports-legal asked runnable;
      ends = run_length-is (opened_network asked) (bound asked) ends.0 ends.1 ends.2;
      traced = plans-show_lines asked.nodes asked.items run runnable.traffic;
    }

pub documents-run-right : DocumentsRunRight
documents-run-right input asked accepted = run-is-right asked (accepted-are_runnable input asked accepted)

-- the plan of every such document tells the bound of its run
pub plans-tell-bounds : PlansTellBounds
plans-tell-bounds input asked accepted =
    sym (planned-outcome input (Ok (record { nodes = asked.nodes; bound = Some (bound asked) })) (plans-follow_documents.accepted input asked accepted))
