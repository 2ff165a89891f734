use Rattle.burst_cuts.proofs.CutLemmas.{answered-of_cut, completed-of_cut, marks-of_cut, one-id_of_whole, whole-groups_in_order}
use Rattle.burst_cuts.proofs.HeldLemmas.{held-of_cut, part-is_of_oldest}
use Rattle.burst_cuts.proofs.OneIdLemmas.{one-id_of_cut}
use Rattle.burst_cuts.proofs.WholeLemmas.{whole-groups_held}
use Rattle.burst_cuts.proofs.cut_laws.laws_of_cuts.Goals as goal

pub returns : goal.returns
returns c = record {
  marks = marks-of_cut;
  held = held-of_cut;
  answered = answered-of_cut;
  one_id = one-id_of_cut;
  part = part-is_of_oldest;
  order = whole-groups_in_order;
  groups_held = whole-groups_held;
  whole = completed-of_cut;
  whole_id = one-id_of_whole;
}
