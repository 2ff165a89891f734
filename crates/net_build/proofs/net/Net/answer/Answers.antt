use Rattle.std.proofs.Common.{◌<◌, ◌≤◌, ◌-◌, ap, arith, length, subst, sym, ◌∙◌}
use Rattle.std.specs.Prelude.{IfSome}
use Rattle.std.specs.Option.{option_copied}
use Rattle.net_build.proofs.AnswerLemmas.{lent-some}
use Rattle.net_build.proofs.TellLemmas.{answer-is, answer-known, node-inside, note-inside, place-inside}
use Rattle.net_build.proofs.net.Net.answer.Goals as goal
use Rattle.net_build.specs.NetRun.{NetRun}
use Rattle.net_build.specs.Noted.{IsAnswerTo, answer_of_number}

pub index-note-requires : goal.index-note-requires
index-note-requires c =
    let last = subst (λ (run : NetRun). c.args.number ≤ length run.items) (sym c.self.view_is) c.requires.last in
    let within : c.args.number - 1 < length c.self.inside.notes.items = note-inside c.self.inside c.self.invariant c.args.number c.requires.first last in
    omega arith

pub node-requires : goal.node-requires
node-requires c =
    let last = subst (λ (run : NetRun). c.args.number ≤ length run.items) (sym c.self.view_is) c.requires.last in
    node-inside c.self.inside c.self.invariant c.args.number c.requires.first last c.index-note.result.now c.index-note.ensures

pub answer_of-requires : goal.answer_of-requires
answer_of-requires c =
    let last = subst (λ (run : NetRun). c.args.number ≤ length run.items) (sym c.self.view_is) c.requires.last in
    place-inside c.self.inside c.self.invariant c.args.number c.requires.first last c.index-note.result.now c.index-note.ensures c.node.result.now c.node.ensures

pub returns-clause-answer : goal.returns-clause-answer
returns-clause-answer c =
    let last = subst (λ (run : NetRun). c.args.number ≤ length run.items) (sym c.self.view_is) c.requires.last in
    c.answer_of.ensures
    ∙ answer-is c.self.inside c.self.invariant c.args.number c.requires.first last c.index-note.result.now c.index-note.ensures c.node.result.now c.node.ensures
    ∙ ap (λ (run : NetRun). answer_of_number run c.args.number) c.self.view_is

pub returns-clause-known : goal.returns-clause-known
returns-clause-known c =
    let last = subst (λ (run : NetRun). c.args.number ≤ length run.items) (sym c.self.view_is) c.requires.last in
    let is =
    c.answer_of.ensures
    ∙ answer-is c.self.inside c.self.invariant c.args.number c.requires.first last c.index-note.result.now c.index-note.ensures c.node.result.now c.node.ensures in
    lent-some (IsAnswerTo c.args.self.now c.args.number) c.answer_of.result
    (subst (λ (run : NetRun). IfSome (option_copied c.answer_of.result) (IsAnswerTo run c.args.number)) c.self.view_is
    (answer-known c.self.inside c.self.invariant c.args.number c.requires.first last (option_copied c.answer_of.result) is))
