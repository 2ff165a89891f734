-- A memory's table, of every state and all links.
use Rattle.std.proofs.Common.{◌*◌, ◌<◌, ℕ, suc, List, length, refl, sym, ap, subst}
use Rattle.std.specs.Prelude.{AllPairs}
use Rattle.std.proofs.lemmas.List.{length-replicate}
use Rattle.std.proofs.lemmas.List.Elements.{All-nil}
use Rattle.axi_link.specs.LinkView.{LinkView}
use Rattle.memory_node.specs.MemoryArea.{IsMemoryArea, MemoryArea}
use Rattle.memory_node.specs.MemoryLaws.{memory_paced}
use Rattle.memory_node.specs.MemoryState.{IsMemory, IsReadEntry, IsWriteEntry, MemoryState, new_memory}
use Rattle.memory_node.specs.MemoryTable.{memory_out, memory_service}
use Rattle.memory_node.specs.MemoryTrail.{SuitsMemory, memory_kind}
use Rattle.memory_node.specs.Store.{Store}
use Rattle.node_core.specs.Acted.{Acted}
use Rattle.node_core.specs.Fits.{MovesFit}
use Rattle.node_shape.specs.KindLaws.{Begins, Fit, Own, Rests, Stays, Steady}
use Rattle.node_shape.specs.Paced.{ArePaced}
use Rattle.subordinate.specs.SubordinateState.{Subordinate}
use Rattle.subordinate.specs.SubordinateTable.{after_b, its_wishes, moved_b, moved_w}
use Rattle.subordinate.proofs.IdleLemmas.{are-paced}
use Rattle.subordinate.proofs.TableLemmas.{patience-stays, serves-fit, serves-own, serves-rests}
use Rattle.memory_node.proofs.StayLemmas.{kept_after_w-keeps, memory-stays}

pub memory_fits : (links : List LinkView) (s : MemoryState) → MovesFit links (memory_out links s)
memory_fits links s = serves-fit (memory_service s.area) links s.inner

pub memory-always_fits : Fit memory_kind
memory-always_fits round links s = memory_fits links s

pub memory-moves_own : Own memory_kind
memory-moves_own round links s = serves-own (memory_service s.area) links s.inner

-- the lines that are kept stay
pub lines-stay : (links : List LinkView) (s : MemoryState) (P : List ℕ → Type 0) → P s.inner.kept.lines → P (memory_kind.table 0 links s).state.inner.kept.lines
lines-stay links s P is =
    let service = memory_service s.area in
    subst P (sym (kept_after_w-keeps s.area (moved_w service links s.inner) (after_b (moved_b service links s.inner) s.inner.writes) s.inner.kept).lines) is

pub memory-is_steady : Steady memory_kind
memory-is_steady round links s = record {
  uppers = refl;
  lowers = refl;
  patience = ap suc (patience-stays (its_wishes (memory_service s.area) links s.inner) s.inner.paces);
  suits = λ schedules suits. lines-stay links s (λ lines. SuitsMemory s.area lines (schedules s.inner.upper)) suits;
}

new-is_memory : (area : MemoryArea) (accept give : List ℕ) (upper : ℕ) (touched : List ℕ) → IsMemoryArea area → AllPairs (λ (a b : ℕ). a < b) touched → IsMemory (new_memory area accept give upper touched)
new-is_memory area accept give upper touched is ascending = record {
  area = is;
  store = record { ascending = ascending; whole = length-replicate (128 * length touched) area.fill };
  writes = All-nil (IsWriteEntry area touched);
  reads = All-nil (IsReadEntry area);
}

pub memory-begins : Begins memory_kind
memory-begins s new = subst (λ (m : MemoryState). IsMemory m) (sym new.is_new) (new-is_memory s.area new.accept new.give s.inner.upper new.touched new.area new.ascending)

pub memory-stays_memory : Stays memory_kind
memory-stays_memory round links s fact can = memory-stays links s fact can

pub memory-rests : Rests memory_kind
memory-rests round links s quiet =
    ap (λ (a : Acted (Subordinate Store)). record { state = record { area = s.area; inner = a.state }; out = a.out }) (serves-rests (memory_service s.area) links s.inner quiet)

pub memory-is_paced : ArePaced memory_kind memory_paced
memory-is_paced = are-paced memory_kind (λ s. memory_service s.area) (λ s. s.inner) (λ round links s. refl) (λ round links s. refl)
