-- How a byte store is kept, and what contracts see of it.
use Rattle.memory_node.specs.Store.{Store, IsStore}
use Rattle.memory_node.specs.declared.store.ByteStore.TheInside.{Inside}

-- the store that contracts see
abbrev pub store_view : Inside → Store
store_view store = record { lines = store.lines.items; bytes = store.bytes.items; fill = store.fill }

-- what holds of its fields
abbrev pub IsByteStore : Inside → Type 0
IsByteStore store = IsStore (store_view store)
