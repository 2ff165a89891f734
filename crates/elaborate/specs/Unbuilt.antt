-- Documents with nodes of kinds that no network runs yet.
use Rattle.std.specs.Prelude.{ℕ, List, Bool, true, false, Option, position}
use Rattle.topology.specs.Document.{DocumentNode}
use Rattle.topology_text.specs.declared.kind.Kind.{Kind}
use Rattle.topology_text.specs.declared.kind.Kind.TheVariants.{Down}

-- the kinds that don't run yet
abbrev pub is_unbuilt : Kind → Bool
is_unbuilt Down = true
is_unbuilt other = false

-- the first node of such a kind, by its number from 0
abbrev pub unbuilt_at : List DocumentNode → Option ℕ
unbuilt_at nodes = position (λ (node : DocumentNode). is_unbuilt node.kind) nodes
