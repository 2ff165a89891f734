use Rattle.std.proofs.Common.{◌≡◌, ◌∙◌, List, ℕ, ap, false, rules, true}
use Rattle.std.specs.Prelude.{is_none}
use Rattle.std.specs.List.{list_any}
use Rattle.topology.specs.Document.{NamedRegion, has_regions, is_memory}
use Rattle.topology.specs.Joined.{name_place}
use Rattle.topology.proofs.JoinedLemmas.{unknown-other, unknown-region}
use Rattle.topology.proofs.names.is_unknown.Goals as goal

pub returns-then-has_regions : goal.returns-then-has_regions
returns-then-has_regions c =
    let here : has_regions c.args.node.now.kind ≡ true = search rules in
    let found : c.is_any_unknown.result ≡ list_any (λ (region : NamedRegion). is_none (name_place c.args.names.now.keys region.to)) c.args.node.now.region = search rules in
    found ∙ unknown-region c.args.node.now (name_place c.args.names.now.keys) here

pub returns-then-not-is_memory : goal.returns-then-not-is_memory
returns-then-not-is_memory c =
    let here : has_regions c.args.node.now.kind ≡ false = search rules in
    let other : is_memory c.args.node.now.kind ≡ false = search rules in
    c.is_unknown_name.ensures ∙ ap (λ (name : List ℕ). is_none (name_place c.args.names.now.keys name)) c.to.ensures ∙ unknown-other c.args.node.now (name_place c.args.names.now.keys) here other
