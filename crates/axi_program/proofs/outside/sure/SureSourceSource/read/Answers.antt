use Rattle.std.proofs.Common.{arith, ℕ, List, ◌≡◌, ◌++◌, ◌+◌, ◌-◌, length, take, drop, min, ap, sym, ◌∙◌}
use Rattle.std.proofs.lemmas.List.{take_rest, drop-drop}
use Rattle.axi_program.proofs.TransferLemmas.{read-moves}
use Rattle.axi_program.proofs.outside.sure.SureSourceSource.read.Goals as goal

pub returns-clause-bytes : goal.returns-clause-bytes
returns-clause-bytes c =
    let bytes = c.self.inside.bytes.items in
    let next = c.self.inside.next in
    let n = c.min-count.result in
    let left = drop next bytes in
    let rest : take (length c.deref.result.now - next) (drop next c.deref.result.now) ≡ left =
    take_rest c.deref.result.now next ∙ ap (drop next) c.deref.ensures.value in
    let count : n ≡ min (min (length c.args.buf.now + 1) (length c.args.buf.now)) (length left) =
    omega (arith, ap length rest) in
    let copied : c.copy_front.new.to ≡ take n left ++ drop n c.args.buf.now =
    c.copy_front.ensures ∙ ap (λ (bytes : List ℕ). take n bytes ++ drop n c.args.buf.now) rest in
    let moves = read-moves left c.args.buf.now c.copy_front.new.to (length c.args.buf.now + 1) n (omega arith) count copied in
    let later : drop n left ≡ drop (next + n) bytes = drop-drop n next bytes in
    (grind (arith, moves.0, later, c.self.view_is), λ none room. sym later ∙ moves.1 none room)
