use Rattle.std.proofs.Common.{◌∙◌, ap}
use Rattle.std.specs.Prelude.{is_none}
use Rattle.std.specs.List.{list_any}
use Rattle.topology.specs.Document.{DocumentNode, named, names_of, node_at}
use Rattle.topology.specs.Joined.{name_place}
use Rattle.topology.proofs.JoinedLemmas.{any-unknown, place-named}
use Rattle.topology.proofs.names.names_unknown.Goals as goal

pub returns : goal.returns
returns c =
    c.is_unknown.ensures
    ∙ ap (λ (node : DocumentNode). list_any (λ name. is_none (name_place c.args.names.now.keys name)) (names_of node)) c.node_at.ensures
    ∙ any-unknown (name_place c.args.names.now.keys) (named c.args.nodes.now) (λ name. place-named name c.args.names.now.keys c.args.nodes.now c.requires.names) (names_of (node_at c.args.nodes.now c.args.place))
