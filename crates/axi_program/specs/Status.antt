-- The statuses of the top call, and the program's exit codes.
use Rattle.std.specs.Prelude.{ℕ}
use Rattle.axi_program.specs.declared.status.Ending.{Ending}
use Rattle.axi_program.specs.declared.status.Ending.TheVariants.{Broken as EndsBroken, Done as EndsDone, Refused as EndsRefused}
use Rattle.axi_program.specs.declared.status.Status.{Status}
use Rattle.axi_program.specs.declared.status.Status.TheVariants.{Done, Usage, Refused, Broken, ReadFault, WriteFault, NoMemory}
use Rattle.axi_program.specs.declared.status.Stop.{Stop}
use Rattle.axi_program.specs.declared.status.Stop.TheVariants.{NoMemory as StopsNoMemory, ReadFault as StopsReadFault, Usage as StopsUsage}

-- the exit code that tells how the program ended
abbrev pub exit_code : Status → ℕ
exit_code Done = 0
exit_code Usage = 2
exit_code (Refused refusal) = 3
exit_code (Broken fault) = 4
exit_code ReadFault = 5
exit_code WriteFault = 6
exit_code NoMemory = 7

-- the status of a command whose text was written
abbrev pub status_of_ending : Ending → Status
status_of_ending EndsDone = Done
status_of_ending (EndsRefused refusal) = Refused refusal
status_of_ending (EndsBroken fault) = Broken fault

-- and of one that writes nothing
abbrev pub status_of_stop : Stop → Status
status_of_stop StopsUsage = Usage
status_of_stop StopsReadFault = ReadFault
status_of_stop StopsNoMemory = NoMemory
