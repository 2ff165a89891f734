use Rattle.std.proofs.Common.{◌≡◌, ◌≢◌, map, get_or, sym, ◌∙◌, ap, add-one}
use Rattle.flight.specs.Entries.{place_of}
use Rattle.flight.proofs.EntryFacts.{place_of-at, place_of-none_more, place_of-found}
use Rattle.flight.proofs.entries.Flight.oldest.Goals as goal

pub returns-then-key-clause-oldest : goal.returns-then-key-clause-oldest
returns-then-key-clause-oldest g c =
    let at : g.T.Filed.key_of (get_or c.as_slice-entry-items.result.now c.loop-place.place c.entry-item.result) ≡ c.args.key =
    ap g.T.Filed.key_of (sym c.entry-item.is) ∙ sym c.key.ensures ∙ c.if-key.true
    in sym (ap (λ xs. place_of c.args.key (map g.T.Filed.key_of xs)) (sym (c.as_slice-entry-items.ensures.value ∙ c.self.view_is))
    ∙ place_of-at g.T.Filed.key_of c.args.key c.as_slice-entry-items.result.now c.loop-place.place c.entry-item.result c.loop-place-test.true c.loop-place.invariant at)

pub returns-then-key-clause-found : goal.returns-then-key-clause-found
returns-then-key-clause-found g c =
    place_of-found c.args.key (map g.T.Filed.key_of c.args.self.now) c.loop-place.place (sym (returns-then-key-clause-oldest g c))

pub loop-place-preserved : goal.loop-place-preserved
loop-place-preserved g c =
    let other : g.T.Filed.key_of (get_or c.as_slice-entry-items.result.now c.loop-place.place c.entry-item.result) ≢ c.args.key =
    λ e. c.if-key.false (c.key.ensures ∙ ap g.T.Filed.key_of c.entry-item.is ∙ e)
    in rw add-one (place_of-none_more g.T.Filed.key_of c.args.key c.as_slice-entry-items.result.now c.loop-place.place c.entry-item.result c.loop-place-test.true c.loop-place.invariant other)
