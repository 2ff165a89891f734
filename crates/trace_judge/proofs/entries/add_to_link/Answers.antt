-- What is kept of the link is changed at its place.
use Rattle.std.proofs.Common.{◌≡◌, List, Option, None, sym, subst, set}
use Rattle.std.specs.Result.{OnOk}
use Rattle.std.proofs.lemmas.List.{get_or-set_same}
use Rattle.trace_judge.specs.Entries.{HasTaken}
use Rattle.trace_judge.specs.Table.{link_entry}
use Rattle.trace_judge.specs.declared.link_state.LinkState.{LinkState}
use Rattle.trace_judge.proofs.FaultLemmas.{entry_at}
use Rattle.trace_judge.proofs.entries.add_to_link.Goals as goal

pub returns-clause-entry : goal.returns-clause-entry
returns-clause-entry c =
    let items : List (Option LinkState) = c.args.links.now.items in
    let after : Option LinkState = c.add_line.new.entry in
    let was : link_entry items c.args.r.now.link ≡ c.index_mut.result.now = entry_at items c.args.r.now.link c.index_mut.result.now c.requires.place c.index_mut.ensures.value in
    let is : link_entry (set items c.args.r.now.link after) c.args.r.now.link ≡ after = get_or-set_same items c.args.r.now.link after None c.requires.place in
    subst (λ (e : Option LinkState). OnOk c.add_line.result (HasTaken e (link_entry (set items c.args.r.now.link after) c.args.r.now.link) c.args.line c.args.r.now)) (sym was)
    (subst (λ (e : Option LinkState). OnOk c.add_line.result (HasTaken c.index_mut.result.now e c.args.line c.args.r.now)) (sym is) c.add_line.ensures)
