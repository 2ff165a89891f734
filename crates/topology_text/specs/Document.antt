-- The nodes of a document, with their keys.
use Rattle.std.specs.Prelude.{ℕ, List, [], slice_index_or}
use Rattle.topology_text.specs.declared.kind.Kind.{Kind}
use Rattle.topology_text.specs.declared.kind.Kind.TheVariants.{Slice}
use Rattle.topology_text.specs.declared.kind.Span.{Span}

-- a span of addresses, and the name of the node that serves them
pub record NamedRegion : Type 0 where
  pub base : ℕ
  pub size : ℕ
  pub to : List ℕ

-- A node with its keys. A key that the kind doesn't have is 0 or empty.
pub record DocumentNode : Type 0 where
  pub name : List ℕ
  pub kind : Kind
  pub to : List ℕ
  pub region : List NamedRegion
  pub bus : ℕ
  pub id_width : ℕ
  pub depth : ℕ
  pub base : ℕ
  pub size : ℕ
  pub fill : ℕ
  pub read_only : List Span
  pub hole : List Span
  pub accept : List ℕ
  pub give : List ℕ

-- a node of this kind with none of the other keys
abbrev pub node_of_kind : List ℕ → Kind → DocumentNode
node_of_kind name kind = record {
  name = name;
  kind = kind;
  to = [];
  region = [];
  bus = 0;
  id_width = 0;
  depth = 0;
  base = 0;
  size = 0;
  fill = 0;
  read_only = [];
  hole = [];
  accept = [];
  give = [];
}

-- the node of this number, counted from 0
abbrev pub node_at : List DocumentNode → ℕ → DocumentNode
node_at nodes place = slice_index_or nodes place (node_of_kind [] Slice)
