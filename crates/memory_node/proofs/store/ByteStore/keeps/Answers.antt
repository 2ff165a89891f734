use Rattle.std.proofs.Common.{◌≡◌, ◌∙◌, ap, sym}
use Rattle.flight.specs.Entries.{place_of}
use Rattle.memory_node.specs.Store.{Store, line_number}
use Rattle.memory_node.proofs.StoreLemmas.{placed-among}
use Rattle.memory_node.proofs.store.ByteStore.keeps.Goals as goal

pub returns : goal.returns
returns c = λ is.
    let line = line_number c.args.address in
    let lines : c.deref.result.now ≡ c.args.self.now.lines = c.deref.ensures.value ∙ ap (λ (s : Store). s.lines) c.self.view_is in
    let place : place_of line c.args.self.now.lines ≡ c.line_place.result = sym (c.line_place.ensures.place ∙ ap (place_of line) lines) in
    placed-among line c.args.self.now.lines c.line_place.result place (sym c.is_some.ensures ∙ is)
