-- A node does as its kind says.
use Rattle.std.proofs.Common.{refl}
use Rattle.net_kinds.specs.NodeTable.{NodesDoAsTheirKind}
use Rattle.net_kinds.specs.declared.node.Node.TheVariants.{Demux, Error, Lite, LiteMemory, Manager, Memory, Mux, Remap, Slice, Split, Up}

pub nodes-do : NodesDoAsTheirKind
nodes-do round links (Slice n) = record { can = λ can. can; table = refl; out = refl; done = refl; fact = λ fact. fact }
nodes-do round links (Memory n) = record { can = λ can. can; table = refl; out = refl; done = refl; fact = λ fact. fact }
nodes-do round links (Manager n) = record { can = λ can. can; table = refl; out = refl; done = refl; fact = λ fact. fact }
nodes-do round links (Mux n) = record { can = λ can. can; table = refl; out = refl; done = refl; fact = λ fact. fact }
nodes-do round links (Error n) = record { can = λ can. can; table = refl; out = refl; done = refl; fact = λ fact. fact }
nodes-do round links (Demux n) = record { can = λ can. can; table = refl; out = refl; done = refl; fact = λ fact. fact }
nodes-do round links (Remap n) = record { can = λ can. can; table = refl; out = refl; done = refl; fact = λ fact. fact }
nodes-do round links (Up n) = record { can = λ can. can; table = refl; out = refl; done = refl; fact = λ fact. fact }
nodes-do round links (Split n) = record { can = λ can. can; table = refl; out = refl; done = refl; fact = λ fact. fact }
nodes-do round links (Lite n) = record { can = λ can. can; table = refl; out = refl; done = refl; fact = λ fact. fact }
nodes-do round links (LiteMemory n) = record { can = λ can. can; table = refl; out = refl; done = refl; fact = λ fact. fact }
