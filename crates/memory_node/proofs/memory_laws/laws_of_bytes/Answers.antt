use Rattle.memory_node.proofs.BurstLemmas.{lines-of_burst, reads-burst_bytes, writes-beat_bytes, writes-burst_bytes}
use Rattle.memory_node.proofs.DueLemmas.{due-reads, due-writes}
use Rattle.memory_node.proofs.ReadLemmas.{reads-others, reads-written}
use Rattle.memory_node.proofs.memory_laws.laws_of_bytes.Goals as goal

pub returns : goal.returns
returns c = record {
  reads_written = reads-written;
  reads_others = reads-others;
  burst_lines = lines-of_burst;
  reads = reads-burst_bytes;
  beat_writes = writes-beat_bytes;
  writes = writes-burst_bytes;
  due_reads = due-reads;
  due_writes = due-writes;
}
