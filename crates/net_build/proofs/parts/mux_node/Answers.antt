use Rattle.std.proofs.Common.{◌<◌, ◌≤◌, ◌∙◌, ℕ, List, ap, length, map, subst, sym}
use Rattle.std.specs.Prelude.{All}
use Rattle.elaborate.specs.Plan.{plan_link_at, plan_links}
use Rattle.net_build.proofs.LinkLemmas.{into-known}
use Rattle.net_build.proofs.MadeLemmas.{as_node, mux-made}
use Rattle.net_build.proofs.SourceLemmas.{mux-begins}
use Rattle.net_build.proofs.parts.mux_node.Goals as goal
use Rattle.net_kinds.specs.NodeKind.{AMux}
use Rattle.topology.specs.Document.{widest}

pub widest-width-requires : goal.widest-width-requires
widest-width-requires c =
    subst (All (λ link. link < length (plan_links c.args.source.now.plan.now))) (sym c.links_into-uppers.ensures) (into-known c.args.source.now.plan.now c.args.number)

pub new-requires-clause-some : goal.new-requires-clause-some
new-requires-clause-some c =
    subst (λ (links : List ℕ). 0 < length links) (sym c.links_into-uppers.ensures)
    (mux-begins c.args.number c.requires.source c.requires.known c.requires.mux).shape.some

pub new-requires-clause-most : goal.new-requires-clause-most
new-requires-clause-most c =
    subst (λ (links : List ℕ). length links ≤ 16) (sym c.links_into-uppers.ensures)
    (mux-begins c.args.number c.requires.source c.requires.known c.requires.mux).shape.most

pub new-requires-clause-narrow : goal.new-requires-clause-narrow
new-requires-clause-narrow c =
    subst (λ (width : ℕ). width ≤ 16)
    (sym (c.widest-width.ensures ∙ ap (λ (links : List ℕ). widest (map (λ link. (plan_link_at c.args.source.now.plan.now link).link) links)) c.links_into-uppers.ensures))
    (mux-begins c.args.number c.requires.source c.requires.known c.requires.mux).shape.narrow

pub returns : goal.returns
returns c =
    ap (as_node AMux)
    (mux-made c.args.source.now.plan.now c.args.source.now.traffic.now c.args.number c.links_into-uppers.result.now c.link_out_of-lower.result c.widest-width.result c.new.result
    c.links_into-uppers.ensures c.link_out_of-lower.ensures
    c.widest-width.ensures c.new.ensures)
