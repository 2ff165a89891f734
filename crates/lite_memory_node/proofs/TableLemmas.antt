-- A Lite memory's table, of every state and all links: it is a memory's.
use Rattle.std.proofs.Common.{refl}
use Rattle.lite_memory_node.specs.LiteMemoryLaws.{lite_memory_paced}
use Rattle.lite_memory_node.specs.LiteMemoryTrail.{SuitsLiteMemory, lite_memory_kind}
use Rattle.memory_node.specs.MemoryTable.{memory_service}
use Rattle.memory_node.proofs.TableLemmas.{lines-stay, memory-begins, memory-is_steady, memory-moves_own, memory-rests, memory-stays_memory, memory_fits}
use Rattle.node_shape.specs.KindLaws.{Begins, Fit, Own, Rests, Stays, Steady}
use Rattle.node_shape.specs.Paced.{ArePaced}
use Rattle.subordinate.proofs.IdleLemmas.{are-paced}

pub lite_memory-always_fits : Fit lite_memory_kind
lite_memory-always_fits round links s = memory_fits links s

pub lite_memory-moves_own : Own lite_memory_kind
lite_memory-moves_own round links s = memory-moves_own round links s

pub lite_memory-is_steady : Steady lite_memory_kind
lite_memory-is_steady round links s = record {
  uppers = refl;
  lowers = refl;
  patience = (memory-is_steady round links s).patience;
  suits = λ schedules suits. lines-stay links s (λ lines. SuitsLiteMemory s.area lines (schedules s.inner.upper)) suits;
}

pub lite_memory-begins : Begins lite_memory_kind
lite_memory-begins s new = memory-begins s new

pub lite_memory-stays_memory : Stays lite_memory_kind
lite_memory-stays_memory round links s fact can = memory-stays_memory round links s fact can

pub lite_memory-rests : Rests lite_memory_kind
lite_memory-rests round links s quiet = memory-rests round links s quiet

pub lite_memory-is_paced : ArePaced lite_memory_kind lite_memory_paced
lite_memory-is_paced = are-paced lite_memory_kind (λ s. memory_service s.area) (λ s. s.inner) (λ round links s. refl) (λ round links s. refl)
