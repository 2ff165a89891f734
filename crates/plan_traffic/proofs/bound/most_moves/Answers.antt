use Rattle.plan_traffic.proofs.BurstLemmas.{legal-exponent}
use Rattle.plan_traffic.proofs.bound.most_moves.Goals as goal

pub pieces_of-requires : goal.pieces_of-requires
pieces_of-requires c = legal-exponent c.args.item.now.txn.request c.requires.legal_on_widest
