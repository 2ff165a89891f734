-- Where the moves of both nodes fit the links, each link can make them.
use Rattle.std.proofs.Common.{◌≡◌, ◌<◌, ℕ, List, [], ◌∷◌, Option, Some, None, Bool, true, false, cond, length, subst, eqb, IsTrue, arith, refl}
use Rattle.std.proofs.lemmas.Bool.{eqb-true}
use Rattle.axi_link.specs.LinkView.{LinkView}
use Rattle.axi_link.specs.Moves.{takes_from, appended}
use Rattle.axi_link.specs.LinkWords.{link_of}
use Rattle.node_core.specs.Fits.{TakeFits, PutFits, FittingMovesCanBeMade}

module _ {X : Type 0} (queue_of : LinkView → List X) (links : List LinkView) (number : ℕ) where
  -- a take that fits the links has its head on the link that it is made on
  pub take-fits : (take : Option ℕ) → TakeFits queue_of links take → IsTrue (takes_from number take) → 0 < length (queue_of (link_of links number))
  take-fits None fits here = absurd (cc)
  take-fits (Some link) fits here = subst (λ (n : ℕ). 0 < length (queue_of (link_of links n))) (eqb-true link number here) fits

  -- a put that fits the links has its room on the link that it is made on
  pub put-fits : (put : Option (ℕ × X)) → PutFits queue_of links put → 0 < length (appended number put) → length (queue_of (link_of links number)) < (link_of links number).depth
  put-fits None fits some = absurd (omega arith)
  put-fits (Some put) fits some =
      let go : (same : Bool) → eqb put.0 number ≡ same → 0 < length (cond same (put.1 ∷ []) []) → length (queue_of (link_of links number)) < (link_of links number).depth =
      λ same is more. elim same as (λ same. eqb put.0 number ≡ same → 0 < length (cond same (put.1 ∷ []) []) → length (queue_of (link_of links number)) < (link_of links number).depth) [
        | true ↦ λ is more. subst (λ (n : ℕ). length (queue_of (link_of links n)) < (link_of links n).depth) (eqb-true put.0 number is) fits
        | false ↦ λ is more. absurd (omega arith)
      ] is more
      in go (eqb put.0 number) refl some

pub fitting_moves : FittingMovesCanBeMade
fitting_moves links upper lower above below number = record {
  aw = record { head = take-fits (λ l. l.aw) links number lower.aw_take below.aw_take; room = put-fits (λ l. l.aw) links number upper.aw_put above.aw_put };
  w = record { head = take-fits (λ l. l.w) links number lower.w_take below.w_take; room = put-fits (λ l. l.w) links number upper.w_put above.w_put };
  b = record { head = take-fits (λ l. l.b) links number upper.b_take above.b_take; room = put-fits (λ l. l.b) links number lower.b_put below.b_put };
  ar = record { head = take-fits (λ l. l.ar) links number lower.ar_take below.ar_take; room = put-fits (λ l. l.ar) links number upper.ar_put above.ar_put };
  r = record { head = take-fits (λ l. l.r) links number upper.r_take above.r_take; room = put-fits (λ l. l.r) links number lower.r_put below.r_put };
}
