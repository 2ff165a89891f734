-- A remapper's table, of every state and all links.
use Rattle.std.proofs.Common.{◌≡◌, ◌<◌, ◌≤◌, ℕ, Bool, true, false, cond, List, [], ◌∷◌, Option, None, Some, length, refl, sym, subst, arith}
use Rattle.std.specs.Option.{option_map}
use Rattle.std.specs.Prelude.{◌||◌, Contains, is_some}
use Rattle.std.proofs.lemmas.Bool.{ltb-true}
use Rattle.std.proofs.lemmas.List.Elements.{All-contains, All-nil}
use Rattle.axi_beats.specs.declared.beat.Addr.{Addr}
use Rattle.axi_beats.specs.declared.beat.WBeat.{WBeat}
use Rattle.axi_beats.specs.declared.beat.BBeat.{BBeat}
use Rattle.axi_beats.specs.declared.beat.RBeat.{RBeat}
use Rattle.axi_link.specs.LinkView.{LinkView}
use Rattle.axi_link.specs.LinkWords.{has_room, head_of, link_of}
use Rattle.node_core.proofs.FitLemmas.{put-fits, take-fits}
use Rattle.node_core.specs.Acted.{opened}
use Rattle.node_core.specs.Fits.{MovesFit, PutFits, TakeFits}
use Rattle.node_core.specs.Rows.{put_of, take_of}
use Rattle.node_shape.proofs.OneLinkLemmas.{one-has, puts-own, takes-own}
use Rattle.node_shape.specs.KindLaws.{Begins, Fit, Own, Rests, Stays, Steady}
use Rattle.remap_node.proofs.PairLemmas.{StandsFor, length-without, one-fewer, one-more, output_for-is, stands-fewer}
use Rattle.remap_node.proofs.RowLemmas.{TakesAnswer, TakesRequest, answer-is, request-is}
use Rattle.remap_node.specs.RemapState.{AreInFlight, IsRemap, RemapShape, RemapState, ids_below}
use Rattle.remap_node.specs.RemapTable.{Renamed, address_as, ids_of_request, output_of_pair, pairs_after_read_data, pairs_after_request, pairs_after_response, read_data_as, remap_above, remap_ar, remap_aw, remap_b, remap_below, remap_next, remap_out, remap_r, remap_w, response_as}
use Rattle.remap_node.specs.RemapTrail.{remap_kind}
use Rattle.remap_node.specs.declared.pair.IdPair.{IdPair}
use Rattle.plain_lists.specs.Keys.{without_oldest}

-- Its moves can be made.
module _ {X : Type 0} (queue_of : LinkView → List X) (links : List LinkView) (number : ℕ) where
  row-takes : (row : Option (Renamed X)) → ((m : Renamed X) → row ≡ Some m → (rest : List X) × (queue_of (link_of links number) ≡ m.beat ∷ rest)) → TakeFits queue_of links (take_of number (is_some row))
  row-takes None is = tt
  row-takes (Some m) is = let first = is m refl in subst (λ (xs : List X). 0 < length xs) (sym first.1) (omega arith)

  row-puts : (new_beat : Renamed X → X) (row : Option (Renamed X)) → ((m : Renamed X) → row ≡ Some m → has_room (link_of links number).depth (queue_of (link_of links number)) ≡ true) →
      PutFits queue_of links (put_of number (option_map new_beat row))
  row-puts new_beat None is = tt
  row-puts new_beat (Some m) is = ltb-true (length (queue_of (link_of links number))) (link_of links number).depth (is m refl)

module _ (links : List LinkView) (s : RemapState) where
  pub aw-is : (m : Renamed Addr) → remap_aw links s ≡ Some m → TakesRequest s.writes (ids_below s.shape) (has_room (remap_below links s).depth (remap_below links s).aw) (remap_above links s).aw m
  aw-is m is = request-is s.writes (ids_below s.shape) (has_room (remap_below links s).depth (remap_below links s).aw) (remap_above links s).aw m is

  pub ar-is : (m : Renamed Addr) → remap_ar links s ≡ Some m → TakesRequest s.reads (ids_below s.shape) (has_room (remap_below links s).depth (remap_below links s).ar) (remap_above links s).ar m
  ar-is m is = request-is s.reads (ids_below s.shape) (has_room (remap_below links s).depth (remap_below links s).ar) (remap_above links s).ar m is

  pub b-is : (m : Renamed BBeat) → remap_b links s ≡ Some m → TakesAnswer (λ b. b.id) s.writes (has_room (remap_above links s).depth (remap_above links s).b) (remap_below links s).b m
  b-is m is = answer-is (λ b. b.id) s.writes (has_room (remap_above links s).depth (remap_above links s).b) (remap_below links s).b m is

  pub r-is : (m : Renamed RBeat) → remap_r links s ≡ Some m → TakesAnswer (λ r. r.id) s.reads (has_room (remap_above links s).depth (remap_above links s).r) (remap_below links s).r m
  r-is m is = answer-is (λ r. r.id) s.reads (has_room (remap_above links s).depth (remap_above links s).r) (remap_below links s).r m is

  pub remap_fits : MovesFit links (remap_out links s)
  remap_fits = record {
    aw_take = row-takes (λ k. k.aw) links s.shape.upper (remap_aw links s) (λ m e. let is = aw-is m e in (is.rest, is.queue_is));
    aw_put = row-puts (λ k. k.aw) links s.shape.lower address_as (remap_aw links s) (λ m e. (aw-is m e).there);
    w_take = take-fits (λ k. k.w) links s.shape.upper (has_room (remap_below links s).depth (remap_below links s).w);
    w_put = put-fits (λ k. k.w) links s.shape.lower (head_of (remap_above links s).w);
    b_take = row-takes (λ k. k.b) links s.shape.lower (remap_b links s) (λ m e. let is = b-is m e in (is.rest, is.queue_is));
    b_put = row-puts (λ k. k.b) links s.shape.upper response_as (remap_b links s) (λ m e. (b-is m e).there);
    ar_take = row-takes (λ k. k.ar) links s.shape.upper (remap_ar links s) (λ m e. let is = ar-is m e in (is.rest, is.queue_is));
    ar_put = row-puts (λ k. k.ar) links s.shape.lower address_as (remap_ar links s) (λ m e. (ar-is m e).there);
    r_take = row-takes (λ k. k.r) links s.shape.lower (remap_r links s) (λ m e. let is = r-is m e in (is.rest, is.queue_is));
    r_put = row-puts (λ k. k.r) links s.shape.upper read_data_as (remap_r links s) (λ m e. (r-is m e).there);
  }

-- What holds of it is kept.
module _ (shape : RemapShape) where
  pub after-response : (row : Option (Renamed BBeat)) (pairs : List IdPair) → AreInFlight shape pairs → AreInFlight shape (pairs_after_response row pairs)
  after-response None pairs are = are
  after-response (Some m) pairs are = one-fewer shape m.beat.id pairs are

  pub after-read_data : (row : Option (Renamed RBeat)) (pairs : List IdPair) → AreInFlight shape pairs → AreInFlight shape (pairs_after_read_data row pairs)
  after-read_data None pairs are = are
  after-read_data (Some m) pairs are =
      let go : (b : Bool) → AreInFlight shape (cond b (without_oldest output_of_pair m.beat.id pairs) pairs) = elim [ true ↦ one-fewer shape m.beat.id pairs are | false ↦ are ]
      in go m.beat.last

  -- `left` are the pairs that the answers of the round have left
  after-request : (row : Option (Renamed Addr)) (room : Bool) (queue : List Addr) (pairs left : List IdPair) → ((m : Renamed Addr) → row ≡ Some m → TakesRequest pairs (ids_below shape) room queue m) →
      AreInFlight shape pairs → AreInFlight shape left → length left ≤ length pairs → ((input output : ℕ) → StandsFor pairs input output → StandsFor left input output) →
      AreInFlight shape (pairs_after_request row left)
  after-request None room queue pairs left is are fewer shorter stands = fewer
  after-request (Some m) room queue pairs left is are fewer shorter stands =
      let row = is m refl in
      let chosen = output_for-is shape pairs m.beat.id m.id are row.output in
      one-more shape left (ids_of_request m) fewer (omega (arith, row.few, shorter)) chosen.0 (stands m.beat.id m.id chosen.1)

-- what answers leave is no more, and an ID stands there for what it did
pub response-stands : (row : Option (Renamed BBeat)) (pairs : List IdPair) (input output : ℕ) → StandsFor pairs input output → StandsFor (pairs_after_response row pairs) input output
response-stands None pairs input output stands = stands
response-stands (Some m) pairs input output stands = stands-fewer pairs m.beat.id input output stands

pub read_data-stands : (row : Option (Renamed RBeat)) (pairs : List IdPair) (input output : ℕ) → StandsFor pairs input output → StandsFor (pairs_after_read_data row pairs) input output
read_data-stands None pairs input output stands = stands
read_data-stands (Some m) pairs input output stands =
    let go : (b : Bool) → StandsFor (cond b (without_oldest output_of_pair m.beat.id pairs) pairs) input output = elim [ true ↦ stands-fewer pairs m.beat.id input output stands | false ↦ stands ]
    in go m.beat.last

pub response-shorter : (row : Option (Renamed BBeat)) (pairs : List IdPair) → length (pairs_after_response row pairs) ≤ length pairs
response-shorter None pairs = omega arith
response-shorter (Some m) pairs = length-without m.beat.id pairs

pub read_data-shorter : (row : Option (Renamed RBeat)) (pairs : List IdPair) → length (pairs_after_read_data row pairs) ≤ length pairs
read_data-shorter None pairs = omega arith
read_data-shorter (Some m) pairs =
    let go : (b : Bool) → length (cond b (without_oldest output_of_pair m.beat.id pairs) pairs) ≤ length pairs = elim [ true ↦ length-without m.beat.id pairs | false ↦ omega arith ]
    in go m.beat.last

pub remap_stays : (links : List LinkView) (s : RemapState) → IsRemap s → IsRemap (remap_next links s)
remap_stays links s is = record {
  narrow = is.narrow;
  writes = after-request s.shape (remap_aw links s) _ (remap_above links s).aw s.writes (pairs_after_response (remap_b links s) s.writes) (aw-is links s) is.writes
      (after-response s.shape (remap_b links s) s.writes is.writes) (response-shorter (remap_b links s) s.writes) (response-stands (remap_b links s) s.writes);
  reads = after-request s.shape (remap_ar links s) _ (remap_above links s).ar s.reads (pairs_after_read_data (remap_r links s) s.reads) (ar-is links s) is.reads
      (after-read_data s.shape (remap_r links s) s.reads is.reads) (read_data-shorter (remap_r links s) s.reads) (read_data-stands (remap_r links s) s.reads);
}

no-pair : (pair : IdPair) → Contains [] pair → ⊥
no-pair pair has = All-contains (λ (p : IdPair). ⊥) [] pair (All-nil (λ (p : IdPair). ⊥)) has

none-in-flight : (shape : RemapShape) → AreInFlight shape []
none-in-flight shape = record { few = omega arith; small = All-nil (λ (p : IdPair). p.output < ids_below shape); one_to_one = λ p q in_p in_q. absurd (no-pair p in_p) }

module _ (E : Type 0) where
  pub remap-always_fits : Fit (remap_kind {E = E})
  remap-always_fits round links s = remap_fits links s

  pub remap-moves_own : Own (remap_kind {E = E})
  remap-moves_own round links s = record {
    aw_take = takes-own (s.shape.upper ∷ []) s.shape.upper _ (one-has s.shape.upper);
    aw_put = puts-own (s.shape.lower ∷ []) s.shape.lower _ (one-has s.shape.lower);
    w_take = takes-own (s.shape.upper ∷ []) s.shape.upper _ (one-has s.shape.upper);
    w_put = puts-own (s.shape.lower ∷ []) s.shape.lower _ (one-has s.shape.lower);
    b_take = takes-own (s.shape.lower ∷ []) s.shape.lower _ (one-has s.shape.lower);
    b_put = puts-own (s.shape.upper ∷ []) s.shape.upper _ (one-has s.shape.upper);
    ar_take = takes-own (s.shape.upper ∷ []) s.shape.upper _ (one-has s.shape.upper);
    ar_put = puts-own (s.shape.lower ∷ []) s.shape.lower _ (one-has s.shape.lower);
    r_take = takes-own (s.shape.lower ∷ []) s.shape.lower _ (one-has s.shape.lower);
    r_put = puts-own (s.shape.upper ∷ []) s.shape.upper _ (one-has s.shape.upper);
  }

  pub remap-is_steady : Steady (remap_kind {E = E})
  remap-is_steady round links s = record { uppers = refl; lowers = refl; patience = refl; suits = λ schedules suits. suits }

  pub remap-begins : Begins (remap_kind {E = E})
  remap-begins s new = subst IsRemap (sym new.new) (record { narrow = new.narrow; writes = none-in-flight s.shape; reads = none-in-flight s.shape })

  pub remap-stays : Stays (remap_kind {E = E})
  remap-stays round links s fact can = remap_stays links s fact

-- without a beat to pass on nothing moves, and nothing changes
still : (s : RemapState) (aw : Option (Renamed Addr)) (w : Option WBeat) (b : Option (Renamed BBeat)) (ar : Option (Renamed Addr)) (r : Option (Renamed RBeat)) →
    (is_some aw || is_some w || is_some b || is_some ar || is_some r) ≡ false →
    record {
      state = record {
        shape = s.shape;
        writes = pairs_after_request aw (pairs_after_response b s.writes);
        reads = pairs_after_request ar (pairs_after_read_data r s.reads);
      };
      out = record {
        aw_take = take_of s.shape.upper (is_some aw);
        aw_put = put_of s.shape.lower (option_map address_as aw);
        w_take = take_of s.shape.upper (is_some w);
        w_put = put_of s.shape.lower w;
        b_take = take_of s.shape.lower (is_some b);
        b_put = put_of s.shape.upper (option_map response_as b);
        ar_take = take_of s.shape.upper (is_some ar);
        ar_put = put_of s.shape.lower (option_map address_as ar);
        r_take = take_of s.shape.lower (is_some r);
        r_put = put_of s.shape.upper (option_map read_data_as r);
      };
    } ≡ opened s
still s None None None None None quiet = refl
still s (Some x) w b ar r quiet = absurd (cc)
still s None (Some x) b ar r quiet = absurd (cc)
still s None None (Some x) ar r quiet = absurd (cc)
still s None None None (Some x) r quiet = absurd (cc)
still s None None None None (Some x) quiet = absurd (cc)

module _ (E : Type 0) where
  pub remap-rests : Rests (remap_kind {E = E})
  remap-rests round links s quiet = still s (remap_aw links s) (remap_w links s) (remap_b links s) (remap_ar links s) (remap_r links s) quiet
