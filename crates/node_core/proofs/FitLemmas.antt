-- A row that takes a head, and one that puts a beat where there is room, fit the links.
use Rattle.std.proofs.Common.{ℕ, ◌<◌, Bool, true, false, ◌≡◌, List, [], ◌∷◌, Option, Some, None, length, refl, sym, subst, arith}
use Rattle.std.specs.Prelude.{is_some}
use Rattle.std.proofs.lemmas.Bool.{ltb-true}
use Rattle.axi_link.specs.LinkView.{LinkView}
use Rattle.axi_link.specs.LinkWords.{has_room, head_of, link_of}
use Rattle.node_core.specs.Fits.{PutFits, TakeFits}
use Rattle.node_core.specs.Rows.{beat_where, put_of, take_of}

module _ {X : Type 0} (queue_of : LinkView → List X) (links : List LinkView) (number : ℕ) where
  -- a head is taken only where there is one
  pub take-fits : (may : Bool) → TakeFits queue_of links (take_of number (is_some (beat_where may (head_of (queue_of (link_of links number))))))
  take-fits may =
      let go : (may : Bool) (beats : List X) → queue_of (link_of links number) ≡ beats → TakeFits queue_of links (take_of number (is_some (beat_where may (head_of beats)))) =
      elim [
        | true ↦ elim [
          | [] ↦ λ is. tt
          | x ∷ xs ↦ λ is. subst (λ (beats : List X). 0 < length beats) (sym is) (omega arith)
        ]
        | false ↦ λ beats is. tt
      ]
      in go may (queue_of (link_of links number)) refl

  -- a beat is put only where there is room
  pub put-fits : (o : Option X) → PutFits queue_of links (put_of number (beat_where (has_room (link_of links number).depth (queue_of (link_of links number))) o))
  put-fits o =
      let go : (room : Bool) (o : Option X) → has_room (link_of links number).depth (queue_of (link_of links number)) ≡ room → PutFits queue_of links (put_of number (beat_where room o)) =
      elim [
        | true ↦ elim [
          | None ↦ λ is. tt
          | Some beat ↦ λ is. ltb-true (length (queue_of (link_of links number))) (link_of links number).depth is
        ]
        | false ↦ λ o is. tt
      ]
      in go (has_room (link_of links number).depth (queue_of (link_of links number))) o refl
