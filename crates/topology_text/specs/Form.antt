-- The kinds by their names, and which keys the table of a node of each kind has.
use Rattle.std.specs.Prelude.{ℕ, List, Option, Some, None, codes, if◌then◌else◌}
use Rattle.std.specs.Str.{bytes_eq}
use Rattle.topology_text.specs.declared.form.Form.{Form}
use Rattle.topology_text.specs.declared.form.Presence.TheVariants.{Never, Optional, Required}
use Rattle.topology_text.specs.declared.kind.Kind.{Kind}
use Rattle.topology_text.specs.declared.kind.Kind.TheVariants.{Manager, Memory, LiteMemory, Slice, Mux, Demux, Crossbar, Remap, Up, Down, Lite}

unfoldable pub kind_named : List ℕ → Option Kind
kind_named name =
    if bytes_eq name (codes "manager") then Some Manager
    else if bytes_eq name (codes "memory") then Some Memory
    else if bytes_eq name (codes "lite_memory") then Some LiteMemory
    else if bytes_eq name (codes "slice") then Some Slice
    else if bytes_eq name (codes "mux") then Some Mux
    else if bytes_eq name (codes "demux") then Some Demux
    else if bytes_eq name (codes "crossbar") then Some Crossbar
    else if bytes_eq name (codes "remap") then Some Remap
    else if bytes_eq name (codes "up") then Some Up
    else if bytes_eq name (codes "down") then Some Down
    else if bytes_eq name (codes "lite") then Some Lite
    else None

-- a table with none of the keys
abbrev pub no_keys : Form
no_keys = record {
  to = Never;
  region = Never;
  bus = Never;
  id_width = Never;
  depth = Never;
  base = Never;
  size = Never;
  fill = Never;
  read_only = Never;
  hole = Never;
  accept = Never;
  give = Never;
}

-- the tables of nodes that have one node below, that choose one by the address, and that answer from bytes
abbrev pub passing : Form
passing = record no_keys { to = Required; depth = Optional }

abbrev pub choosing : Form
choosing = record no_keys { region = Required; depth = Optional }

abbrev pub storing : Form
storing = record no_keys {
  base = Required;
  size = Required;
  fill = Optional;
  read_only = Optional;
  hole = Optional;
  accept = Optional;
  give = Optional;
}

-- the keys of each kind, besides its name and kind
unfoldable pub table_form : Kind → Form
table_form Manager = record passing { bus = Required; id_width = Required; accept = Optional; give = Optional }
table_form Memory = record storing { bus = Required }
table_form LiteMemory = storing
table_form Slice = passing
table_form Mux = passing
table_form Lite = passing
table_form Demux = choosing
table_form Crossbar = choosing
table_form Remap = record passing { id_width = Required }
table_form Up = record passing { bus = Required }
table_form Down = record passing { bus = Required }
