-- The place of a line's link can take the line, and the table then stands for the lines with this one.
use Rattle.std.proofs.Common.{◌<◌, ◌+◌, ◌^◌, ◌∙◌, sym, subst, refl, arith, List, Option, Some, length}
use Rattle.axi_history.specs.declared.port.PortRound.{PortRound}
use Rattle.trace_judge.specs.Entries.{EntryTakes, EntryFollows}
use Rattle.trace_judge.specs.Table.{link_entry}
use Rattle.trace_judge.specs.declared.link_state.LinkState.{LinkState}
use Rattle.trace_judge.specs.declared.table.TraceTable.{TraceTable}
use Rattle.trace_judge.proofs.TableLemmas.{entry_takes, table_grows}
use Rattle.trace_judge.proofs.table.TraceTable.add.Goals as goal

pub add_to_link-requires-clause-takes : goal.add_to_link-requires-clause-takes
add_to_link-requires-clause-takes c =
    let r : PortRound = c.args.r.now in
    let lines : List PortRound = c.requires.stands.0 in
    let s = c.requires.stands.1 in
    let same = c.in_ok-grow.ensures.entries r.link in
    let few : length lines < 2 ^ 25 = omega (arith, s.count, c.requires.few) in
    subst (λ (e : Option LinkState). EntryTakes e r.kind) (sym same) (entry_takes (link_entry c.args.self.now.links.items r.link) lines r (s.links r.link) c.requires.stands.2 few)

pub returns-clause-stands : goal.returns-clause-stands
returns-clause-stands c = λ lines s may.
    let r : PortRound = c.args.r.now in
    let after : TraceTable = record { links = c.add_to_link.new.links; lines = c.args.self.now.lines + 1; last = Some (r.round, r.link) } in
    let new = c.in_ok-add_to_link.ensures.entry in
    let same = c.in_ok-grow.ensures.entries r.link in
    table_grows c.args.self.now after lines r c.requires.ranges.link s may refl refl
    (c.in_ok-add_to_link.ensures.size ∙ c.in_ok-grow.ensures.size)
    (λ k ne. c.in_ok-add_to_link.ensures.others k ne ∙ c.in_ok-grow.ensures.entries k)
    new.state new.kept new.port new.rounds
    (λ xs n follows. new.follows xs n (subst (λ (e : Option LinkState). EntryFollows e xs r) (sym same) follows))
