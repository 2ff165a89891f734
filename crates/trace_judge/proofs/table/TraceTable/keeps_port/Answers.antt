-- The port that is kept of a link decides whether a line agrees with all lines before it.
use Rattle.std.proofs.Common.{◌∙◌, sym, ap, subst, refl, List, Option, Some, None, true}
use Rattle.trace_judge.specs.Entries.{EntryStands}
use Rattle.trace_judge.specs.Table.{link_entry}
use Rattle.trace_judge.specs.declared.link_state.LinkState.{LinkState}
use Rattle.trace_judge.proofs.TableLemmas.{entry_agrees}
use Rattle.trace_judge.proofs.table.TraceTable.keeps_port.Goals as goal

pub returns-in-Some : goal.returns-in-Some
returns-in-Some c = λ lines s.
    let at = c.in-Some.ensures ∙ ap (λ (links : List (Option LinkState)). link_entry links c.args.r.now.link) c.deref.ensures.value in
    entry_agrees (Some c.in-Some.state.now) lines c.args.r.now (subst (λ (e : Option LinkState). EntryStands e lines c.args.r.now.link) (sym at) (s.links c.args.r.now.link)) c.is_same_port.result c.is_same_port.ensures

pub returns-in-None : goal.returns-in-None
returns-in-None c = λ lines s.
    let at = c.in-None.ensures ∙ ap (λ (links : List (Option LinkState)). link_entry links c.args.r.now.link) c.deref.ensures.value in
    entry_agrees None lines c.args.r.now (subst (λ (e : Option LinkState). EntryStands e lines c.args.r.now.link) (sym at) (s.links c.args.r.now.link)) true refl
