-- A slice that does nothing holds nothing back.
use Rattle.std.proofs.Common.{◌≡◌, ◌<◌, ℕ, Bool, true, false, List, [], ◌∷◌, None, length, map, refl, sym, ◌∙◌, ap, subst, arith}
use Rattle.std.specs.Prelude.{Contains, is_some}
use Rattle.std.proofs.lemmas.Bool.{lt-ltb}
use Rattle.std.proofs.lemmas.List.Elements.{All-contains}
use Rattle.axi_link.specs.LinkView.{LinkView}
use Rattle.axi_link.specs.LinkWords.{has_room, head_of, link_of}
use Rattle.axi_link.specs.declared.out.Out.{Out}
use Rattle.axi_trail.specs.Trail.{Beats, Trail}
use Rattle.axi_trail.specs.Words.{beats_due, burst_asked, held_asked, read_replies, reads_asked, write_replies, writes_asked}
use Rattle.node_core.specs.Acted.{no_moves}
use Rattle.node_core.specs.Rows.{beat_where, take_of}
use Rattle.node_shape.specs.KindLaws.{IdleHoldsNothing}
use Rattle.node_shape.specs.Quiet.{AreDeep, HasNoRead, HasNoWrite, HoldsNothingBack, LacksData}
use Rattle.node_shape.proofs.OneLinkLemmas.{all-one, of-one, one-has}
use Rattle.slice_node.specs.SliceState.{SliceState}
use Rattle.slice_node.specs.SliceTable.{slice_above, slice_below, slice_out}
use Rattle.slice_node.specs.SliceTrail.{slice_kind}

-- what isn't taken isn't there, where there is room
not-taken : {X : Type 0} (room : Bool) (queue : List X) (from : ℕ) → take_of from (is_some (beat_where room (head_of queue))) ≡ None → room ≡ true → length queue ≡ 0
not-taken false queue from quiet roomy = absurd (cc)
not-taken true [] from quiet roomy = refl
not-taken true (x ∷ queue) from quiet roomy = absurd (cc)

roomy : {X : Type 0} (xs : List X) (depth : ℕ) → length xs ≡ 0 → 0 < depth → has_room depth xs ≡ true
roomy xs depth empty deep = lt-ltb (length xs) depth (omega (arith, empty, deep))

holds-nothing : (links : List LinkView) (s : SliceState) (uppers lowers : Trail) → lowers s.lower ≡ uppers s.upper →
    AreDeep (link_of links) (s.lower ∷ []) → slice_out links s ≡ no_moves →
    HoldsNothingBack (link_of links) uppers lowers (s.upper ∷ []) (s.lower ∷ []) true
holds-nothing links s uppers lowers same deep quiet =
    let u = slice_above links s in
    let l = slice_below links s in
    let depth : 0 < l.depth = of-one (λ k. 0 < (link_of links k).depth) s.lower deep in
    record {
      responses = λ room. all-one (λ k. length (link_of links k).b ≡ 0) s.lower
          (not-taken (has_room u.depth u.b) l.b s.lower (ap (λ (o : Out). o.b_take) quiet) (lt-ltb (length u.b) u.depth (of-one (λ k. length (link_of links k).b < (link_of links k).depth) s.upper room)));
      read_data = λ room. all-one (λ k. length (link_of links k).r ≡ 0) s.lower
          (not-taken (has_room u.depth u.r) l.r s.lower (ap (λ (o : Out). o.r_take) quiet) (lt-ltb (length u.r) u.depth (of-one (λ k. length (link_of links k).r < (link_of links k).depth) s.upper room)));
      reads = λ room none quiet_below.
          let below : HasNoRead l (lowers s.lower) = of-one (λ k. HasNoRead (link_of links k) (lowers k)) s.lower quiet_below in
          all-one (λ k. HasNoRead (link_of links k) (uppers k)) s.upper (record {
            none_waits = not-taken (has_room l.depth l.ar) u.ar s.upper (ap (λ (o : Out). o.ar_take) quiet) (roomy l.ar l.depth below.none_waits depth);
            none_held = ap (λ (t : Beats). held_asked (reads_asked t) (read_replies t)) (sym same) ∙ below.none_held;
          });
      data_lacks = λ k among.
          All-contains (λ k. LacksData (link_of links k) (lowers k) → (v : ℕ) × Contains (s.upper ∷ []) v × LacksData (link_of links v) (uppers v)) (s.lower ∷ []) k
          (all-one (λ k. LacksData (link_of links k) (lowers k) → (v : ℕ) × Contains (s.upper ∷ []) v × LacksData (link_of links v) (uppers v)) s.lower
          (λ lacking. (
            s.upper,
            one-has s.upper,
            record {
              none_waits = not-taken (has_room l.depth l.w) u.w s.upper (ap (λ (o : Out). o.w_take) quiet) (roomy l.w l.depth lacking.none_waits depth);
              lacks = subst (λ (t : Beats). length t.w < beats_due (map burst_asked t.aw)) same lacking.lacks;
            },
          )))
          among;
      writes = λ room none fed quiet_below.
          let below : HasNoWrite l (lowers s.lower) = of-one (λ k. HasNoWrite (link_of links k) (lowers k)) s.lower quiet_below in
          all-one (λ k. HasNoWrite (link_of links k) (uppers k)) s.upper (record {
            none_waits = not-taken (has_room l.depth l.aw) u.aw s.upper (ap (λ (o : Out). o.aw_take) quiet) (roomy l.aw l.depth below.none_waits depth);
            none_held = ap (λ (t : Beats). held_asked (writes_asked t) (write_replies t)) (sym same) ∙ below.none_held;
          });
      ends = λ none_b none_r reads writes. refl;
    }

module _ (E : Type 0) where
  pub slice-holds_nothing : IdleHoldsNothing (slice_kind {E = E})
  slice-holds_nothing schedules now rounds links s passed fact keeps around above below idle =
      holds-nothing links s passed.uppers passed.lowers keeps.same below (idle 0 (omega arith))
