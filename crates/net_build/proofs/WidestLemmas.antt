-- The widest IDs of some links, and of one more.
use Rattle.std.proofs.Common.{◌≡◌, ◌<◌, ◌+◌, ◌++◌, ℕ, List, [], ◌∷◌, ap, arith, get_or, length, map, sym, take, ◌∙◌}
use Rattle.std.specs.Prelude.{max}
use Rattle.std.proofs.lemmas.List.{map_more}
use Rattle.plan_traffic.proofs.BoundLemmas.{max_assoc}
use Rattle.topology.specs.Document.{widest}
use Rattle.topology.specs.declared.link.LinkKind.{LinkKind}

widest-push : (links : List LinkKind) (link : LinkKind) → widest (links ++ link ∷ []) ≡ max (widest links) link.id_width
widest-push [] link = omega arith
widest-push (first ∷ more) link = ap (max first.id_width) (widest-push more link) ∙ sym (max_assoc first.id_width (widest more) link.id_width)

pub widest-more : (f : ℕ → LinkKind) (xs : List ℕ) (i : ℕ) → i < length xs → widest (map f (take (i + 1) xs)) ≡ max (widest (map f (take i xs))) (f (get_or xs i 0)).id_width
widest-more f xs i less = ap widest (map_more f xs i 0 less) ∙ widest-push (map f (take i xs)) (f (get_or xs i 0))
