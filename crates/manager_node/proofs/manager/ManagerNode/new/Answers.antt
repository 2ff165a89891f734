use Rattle.std.proofs.Common.{refl, rules, subst, sym}
use Rattle.node_core.specs.Paces.{new_paces}
use Rattle.manager_node.specs.ManagerState.{IsManager, new_manager}
use Rattle.manager_node.specs.Script.{IsScript}
use Rattle.manager_node.proofs.StateLemmas.{manager-begins}
use Rattle.manager_node.proofs.StepLemmas.{sending-begins, state-same}
use Rattle.manager_node.proofs.manager.ManagerNode.new.Goals as goal

pub invariant_of-result : goal.invariant_of-result
invariant_of-result c =
    let script : IsScript c.args.script = subst IsScript c.script.view_is c.script.invariant
    in let begins : IsManager (new_manager c.args.script c.args.lower c.args.bus (new_paces c.args.give.now c.args.accept.now)) = manager-begins c.args.script c.args.lower c.args.bus (new_paces c.args.give.now c.args.accept.now) script c.requires.bus c.requires.legal
    in record {
      state = subst IsManager (state-same c.args.script c.args.lower c.args.bus _ _ _ _ _ _ 0 0 0 0 _ _ _ _ 0 0 _ _ (sym c.new-paces.ensures) (sym c.in_ok-writes.ensures.issued) (sym c.in_ok-reads.ensures.issued) refl refl (sym c.in_ok-writes.ensures.entries) (sym c.in_ok-reads.ensures.entries) refl (sym c.in_ok-answers.ensures)) begins;
      write_places = c.in_ok-writes.ensures.places;
      read_places = c.in_ok-reads.ensures.places;
      sending = sending-begins c.args.script;
      above = record { aw_take = search rules; w_take = search rules; b_put = search rules; ar_take = search rules; r_put = search rules };
    }
