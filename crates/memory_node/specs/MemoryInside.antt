-- How a memory is kept: what contracts see of its fields, and what holds of them.
use Rattle.std.specs.Prelude.{◌≡◌, None}
use Rattle.node_core.specs.Acted.{Acted}
use Rattle.memory_node.specs.MemoryState.{IsMemory, MemoryState}
use Rattle.memory_node.specs.declared.memory.MemoryNode.TheInside.{Inside}

-- the state that contracts see
abbrev pub memory_state : Inside → MemoryState
memory_state m = record {
  area = m.area;
  inner = record { upper = m.upper; paces = m.paces; writes = m.writes; reads = m.reads; kept = m.store };
}

-- and with it the moves of the round
abbrev pub memory_view : Inside → Acted MemoryState
memory_view m = record { state = memory_state m; out = m.out }

-- the state is that of a memory, which puts no request and no write data, and takes no answer
pub record IsMemoryInside (m : Inside) : Type 0 where
  pub state : IsMemory (memory_state m)
  pub aw_put : m.out.aw_put ≡ None
  pub w_put : m.out.w_put ≡ None
  pub b_take : m.out.b_take ≡ None
  pub ar_put : m.out.ar_put ≡ None
  pub r_take : m.out.r_take ≡ None
