use Rattle.std.proofs.Common.{◌≡◌, ◌<◌, ◌∙◌, List, ap, arith, length, refl, slice_index_or, subst, ℕ}
use Rattle.std.specs.Prelude.{All, IfSome}
use Rattle.std.proofs.lemmas.Bool.{ltb-true}
use Rattle.std.proofs.lemmas.List.Elements.{All-weaker}
use Rattle.axi_link.specs.LinkWords.{head_of, link_of}
use Rattle.mux_node.proofs.CodeLemmas.{all-next, all-taken}
use Rattle.mux_node.specs.MuxState.{MuxShape}
use Rattle.mux_node.specs.MuxTable.{ids_of}
use Rattle.mux_node.proofs.shape.Shape.fits_on.Goals as goal

-- src/shape.rt:126:9
pub loop-upper-preserved : goal.loop-upper-preserved
loop-upper-preserved c =
    let links = c.args.links.now in
    let Narrow : ℕ → Type 0 = λ link. (link < length links) × IfSome (head_of (link_of links link).aw) (λ a. a.id < ids_of c.args.self.now) × IfSome (head_of (link_of links link).ar) (λ a. a.id < ids_of c.args.self.now) in
    let number : ℕ = slice_index_or c.as_slice-upper-items.result.now c.loop-upper.upper-index 0 in
    all-next Narrow c.as_slice-upper-items.result.now c.loop-upper.upper-index 0 c.loop-upper-test.true c.loop-upper.invariant (
      c.if-not-is_narrow.ensures.within refl,
      subst (λ (n : ℕ). IfSome (head_of (link_of links number).aw) (λ a. a.id < n)) c.ids.ensures.count (c.if-not-is_narrow.ensures.aw refl),
      subst (λ (n : ℕ). IfSome (head_of (link_of links number).ar) (λ a. a.id < n)) c.ids.ensures.count (c.if-not-is_narrow.ensures.ar refl),
    )

-- src/shape.rt:122:5
pub returns : goal.returns
returns c = λ lower.
    let links = c.args.links.now in
    let ids = ids_of c.args.self.now in
    let Narrow : ℕ → Type 0 = λ link. (link < length links) × IfSome (head_of (link_of links link).aw) (λ a. a.id < ids) × IfSome (head_of (link_of links link).ar) (λ a. a.id < ids) in
    let same : c.as_slice-upper-items.result.now ≡ c.args.self.now.uppers = c.as_slice-upper-items.ensures.value ∙ ap (λ (s : MuxShape). s.uppers) c.self.view_is in
    let all : All Narrow c.args.self.now.uppers = subst (λ (xs : List ℕ). All Narrow xs) same (all-taken Narrow c.as_slice-upper-items.result.now c.loop-upper.upper-index (omega (arith, c.loop-upper-test.false)) c.loop-upper.invariant) in
    record {
      uppers = All-weaker Narrow (λ link. link < length links) (λ link is. is.0) c.args.self.now.uppers all;
      lower = subst (λ (n : ℕ). n < length links) (ap (λ (s : MuxShape). s.lower) c.self.view_is) (ltb-true c.self.inside.lower (length links) lower);
      aw_ids = All-weaker Narrow (λ link. IfSome (head_of (link_of links link).aw) (λ a. a.id < ids)) (λ link is. is.1) c.args.self.now.uppers all;
      ar_ids = All-weaker Narrow (λ link. IfSome (head_of (link_of links link).ar) (λ a. a.id < ids)) (λ link is. is.2) c.args.self.now.uppers all;
    }
