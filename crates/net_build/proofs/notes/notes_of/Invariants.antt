-- The notes of the transactions so far, and how many each document node has of them.
use Rattle.net_build.proofs.NoteLemmas.{AreNotes}
use Rattle.net_build.proofs.notes.notes_of.Given as goal

abbrev pub invariant-loop-place : goal.invariant-loop-place
invariant-loop-place l = AreNotes l.plan l.traffic l.notes.items l.counts.items l.place
