-- A slice's table, of every state and all links.
use Rattle.std.proofs.Common.{◌≡◌, ℕ, false, List, [], ◌∷◌, Option, None, Some, refl, ap}
use Rattle.std.specs.Prelude.{◌||◌, is_some}
use Rattle.axi_beats.specs.declared.beat.Addr.{Addr}
use Rattle.axi_beats.specs.declared.beat.WBeat.{WBeat}
use Rattle.axi_beats.specs.declared.beat.BBeat.{BBeat}
use Rattle.axi_beats.specs.declared.beat.RBeat.{RBeat}
use Rattle.axi_link.specs.LinkView.{LinkView}
use Rattle.axi_link.specs.LinkWords.{has_room, head_of}
use Rattle.axi_link.specs.declared.out.Out.{Out}
use Rattle.node_core.specs.Acted.{no_moves}
use Rattle.node_core.specs.Fits.{MovesFit}
use Rattle.node_core.specs.Rows.{put_of, take_of}
use Rattle.node_core.proofs.FitLemmas.{put-fits, take-fits}
use Rattle.node_shape.specs.KindLaws.{Begins, Fit, Own, Rests, Stays, Steady}
use Rattle.node_shape.proofs.OneLinkLemmas.{one-has, puts-own, takes-own}
use Rattle.slice_node.specs.SliceState.{SliceState}
use Rattle.slice_node.specs.SliceTable.{slice_above, slice_ar, slice_aw, slice_b, slice_below, slice_out, slice_r, slice_w}
use Rattle.slice_node.specs.SliceTrail.{slice_kind}

pub slice_fits : (links : List LinkView) (s : SliceState) → MovesFit links (slice_out links s)
slice_fits links s =
    let above = slice_above links s in
    let below = slice_below links s in
    record {
      aw_take = take-fits (λ l. l.aw) links s.upper (has_room below.depth below.aw);
      aw_put = put-fits (λ l. l.aw) links s.lower (head_of above.aw);
      w_take = take-fits (λ l. l.w) links s.upper (has_room below.depth below.w);
      w_put = put-fits (λ l. l.w) links s.lower (head_of above.w);
      b_take = take-fits (λ l. l.b) links s.lower (has_room above.depth above.b);
      b_put = put-fits (λ l. l.b) links s.upper (head_of below.b);
      ar_take = take-fits (λ l. l.ar) links s.upper (has_room below.depth below.ar);
      ar_put = put-fits (λ l. l.ar) links s.lower (head_of above.ar);
      r_take = take-fits (λ l. l.r) links s.lower (has_room above.depth above.r);
      r_put = put-fits (λ l. l.r) links s.upper (head_of below.r);
    }

module _ (E : Type 0) where
  pub slice-always_fits : Fit (slice_kind {E = E})
  slice-always_fits round links s = slice_fits links s

  pub slice-moves_own : Own (slice_kind {E = E})
  slice-moves_own round links s = record {
    aw_take = takes-own (s.upper ∷ []) s.upper _ (one-has s.upper);
    aw_put = puts-own (s.lower ∷ []) s.lower _ (one-has s.lower);
    w_take = takes-own (s.upper ∷ []) s.upper _ (one-has s.upper);
    w_put = puts-own (s.lower ∷ []) s.lower _ (one-has s.lower);
    b_take = takes-own (s.lower ∷ []) s.lower _ (one-has s.lower);
    b_put = puts-own (s.upper ∷ []) s.upper _ (one-has s.upper);
    ar_take = takes-own (s.upper ∷ []) s.upper _ (one-has s.upper);
    ar_put = puts-own (s.lower ∷ []) s.lower _ (one-has s.lower);
    r_take = takes-own (s.lower ∷ []) s.lower _ (one-has s.lower);
    r_put = puts-own (s.upper ∷ []) s.upper _ (one-has s.upper);
  }

  pub slice-is_steady : Steady (slice_kind {E = E})
  slice-is_steady round links s = record { uppers = refl; lowers = refl; patience = refl; suits = λ schedules suits. suits }

  pub slice-begins : Begins (slice_kind {E = E})
  slice-begins s new = tt

  pub slice-stays : Stays (slice_kind {E = E})
  slice-stays round links s fact can = tt

-- without a beat to pass on nothing moves
still : (upper lower : ℕ) (aw : Option Addr) (w : Option WBeat) (b : Option BBeat) (ar : Option Addr) (r : Option RBeat) →
    (is_some aw || is_some w || is_some b || is_some ar || is_some r) ≡ false →
    record {
      aw_take = take_of upper (is_some aw);
      aw_put = put_of lower aw;
      w_take = take_of upper (is_some w);
      w_put = put_of lower w;
      b_take = take_of lower (is_some b);
      b_put = put_of upper b;
      ar_take = take_of upper (is_some ar);
      ar_put = put_of lower ar;
      r_take = take_of lower (is_some r);
      r_put = put_of upper r;
    } ≡ no_moves
still upper lower None None None None None quiet = refl
still upper lower (Some x) w b ar r quiet = absurd (cc)
still upper lower None (Some x) b ar r quiet = absurd (cc)
still upper lower None None (Some x) ar r quiet = absurd (cc)
still upper lower None None None (Some x) r quiet = absurd (cc)
still upper lower None None None None (Some x) quiet = absurd (cc)

module _ (E : Type 0) where
  pub slice-rests : Rests (slice_kind {E = E})
  slice-rests round links s quiet =
      ap (λ (out : Out). record { state = s; out = out })
      (still s.upper s.lower (slice_aw links s) (slice_w links s) (slice_b links s) (slice_ar links s) (slice_r links s) quiet)
