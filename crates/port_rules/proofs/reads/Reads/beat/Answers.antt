-- The last beat of a read removes it.
use Rattle.std.proofs.Common.{sym, ◌∙◌, ap, leb}
use Rattle.std.proofs.lemmas.Bool.{le-leb}
use Rattle.port_rules.specs.declared.reads.Read.{Read}
use Rattle.port_rules.proofs.PlaceLemmas.{read_removed}
use Rattle.port_rules.proofs.reads.Reads.beat.Goals as goal

pub returns-then-left-le1-clause-reads : goal.returns-then-left-le1-clause-reads
returns-then-left-le1-clause-reads c =
    c.remove-answered.ensures.items
    ∙ read_removed c.args.id c.args.self.now.reads.items c.in-Some.place c.index.result.now (sym c.place.ensures ∙ c.in-Some.is)
    (ap (λ (r : Read). leb r.left 1) (sym c.index.ensures) ∙ le-leb c.index.result.now.left 1 c.if-left-le1.true)
