use Rattle.std.proofs.Common.{◌++◌, ◌∙◌, ℕ, [], ◌∷◌, ap, sym}
use Rattle.std.specs.Prelude.{Vec, vec_items}
use Rattle.std.specs.declared.alloc.Global.{Global}
use Rattle.node_graph.proofs.Uppers.{pushed-at}
use Rattle.net_build.proofs.ends.add_link.Goals as goal

pub returns : goal.returns
returns c =
    pushed-at c.args.lists.now c.args.node c.args.link c.index-lists-node.result c.push.new.self c.requires c.index-lists-node.is
    (c.in_ok-push.ensures.items ∙ ap (λ (v : Vec ℕ Global). vec_items v ++ c.args.link ∷ []) (sym c.index-lists-node.is))
