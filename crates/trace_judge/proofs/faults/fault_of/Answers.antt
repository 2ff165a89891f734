-- A link that has lines is judged to the end of the trace.
use Rattle.std.proofs.Common.{subst, Option}
use Rattle.trace_judge.specs.Entries.{EntryStands}
use Rattle.trace_judge.specs.declared.link_state.LinkState.{LinkState}
use Rattle.trace_judge.proofs.FaultLemmas.{ok_map, told_fault}
use Rattle.trace_judge.proofs.faults.fault_of.Goals as goal

pub returns-in-Some : goal.returns-in-Some
returns-in-Some c = record {
  fault = ok_map (λ fault tells lines link greatest stands.
      let P : Option LinkState → Type 0 = λ e. EntryStands e lines link in
      let s = subst P c.in-Some.is stands in
      told_fault fault c.in-Some.state lines link s (tells lines link greatest s.follows))
      c.fault.result c.fault.ensures.tells;
}
