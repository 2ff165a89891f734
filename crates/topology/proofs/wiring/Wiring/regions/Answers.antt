use Rattle.std.proofs.Common.{◌≡◌, ◌∙◌, List, map, subst}
use Rattle.std.specs.Prelude.{vec_items}
use Rattle.topology.specs.Document.{DocumentNode}
use Rattle.topology.specs.Wiring.{regions_of}
use Rattle.topology.proofs.WiringFacts.{regions-at}
use Rattle.topology.proofs.wiring.Wiring.regions.Goals as goal

pub returns : goal.returns
returns c =
    let kept : map vec_items c.self.inside.regions.items ≡ map (regions_of c.args.self.now) c.args.self.now =
    subst (λ (nodes : List DocumentNode). map vec_items c.self.inside.regions.items ≡ map (regions_of nodes) nodes) c.self.view_is c.self.invariant.regions_are in
    c.deref.ensures.value ∙ regions-at c.args.self.now c.self.inside.regions.items c.args.node c.index.result.now kept c.requires c.index.ensures
