-- What an error subordinate keeps stays sound from round to round.
use Rattle.std.proofs.Common.{◌≡◌, ◌≢◌, ◌+◌, ◌<◌, ◌==◌, Bool, true, false, cond, List, [], ◌∷◌, Option, Some, None, refl, sym, ◌∙◌, arith, eq-eqb, true≢false}
use Rattle.std.specs.Prelude.{All, option_map}
use Rattle.std.proofs.lemmas.Bool.{ltb-true}
use Rattle.std.proofs.lemmas.List.Elements.{All-append, All-cons, All-drop, All-head, All-nil, All-tail}
use Rattle.axi_beats.specs.declared.beat.Addr.{Addr}
use Rattle.axi_beats.specs.declared.beat.BBeat.{BBeat}
use Rattle.axi_beats.specs.declared.beat.WBeat.{WBeat}
use Rattle.axi_beats.specs.declared.response.Resp.TheVariants.{DecErr, Okay}
use Rattle.axi_link.specs.LinkView.{LinkView}
use Rattle.axi_link.specs.LinkWords.{head_of}
use Rattle.burst_address.specs.Formulas.{beats_of}
use Rattle.error_node.specs.ErrorState.{ErrorState, IsError}
use Rattle.error_node.specs.ErrorTable.{error_service}
use Rattle.node_core.specs.Rows.{beat_where}
use Rattle.subordinate.specs.SubordinateState.{HasABeat, HasItsData}
use Rattle.subordinate.specs.SubordinateTable.{after_ar, after_aw, after_b, after_r, after_w, its_rows, lacks_data, moved_ar, moved_aw, moved_b, moved_r, moved_w, next_beat, served, with_beat, with_data}
use Rattle.subordinate.specs.declared.entry.ReadEntry.{ReadEntry}
use Rattle.subordinate.specs.declared.entry.WriteEntry.{WriteEntry}

after_b-stays : (o : Option BBeat) (entries : List WriteEntry) → All HasItsData entries → All HasItsData (after_b o entries)
after_b-stays None entries all = all
after_b-stays (Some beat) entries all = All-drop HasItsData 1 entries all

with_data-stays : (w : WBeat) (entries : List WriteEntry) → All HasItsData entries → All HasItsData (with_data error_service w entries)
with_data-stays w [] all = all
with_data-stays w (e ∷ es) all =
    let head : HasItsData e = All-head HasItsData e es all in
    let tail : All HasItsData es = All-tail HasItsData e es all in
    let go : (b : Bool) → lacks_data e ≡ b → All HasItsData (cond b (with_beat DecErr e ∷ es) (e ∷ with_data error_service w es)) =
    elim [
      | true ↦ λ is.
          let more : e.taken < beats_of e.request = ltb-true e.taken (beats_of e.request) is in
          All-cons HasItsData (with_beat DecErr e) es (omega (arith, more)) tail
      | false ↦ λ is. All-cons HasItsData e (with_data error_service w es) head (with_data-stays w es tail)
    ]
    in go (lacks_data e) refl

after_w-stays : (o : Option WBeat) (entries : List WriteEntry) → All HasItsData entries → All HasItsData (after_w error_service o entries)
after_w-stays None entries all = all
after_w-stays (Some w) entries all = with_data-stays w entries all

after_aw-stays : (o : Option Addr) (entries : List WriteEntry) → All HasItsData entries → All HasItsData (after_aw o entries)
after_aw-stays None entries all = all
after_aw-stays (Some request) entries all =
    let new : WriteEntry = record { request = request; taken = 0; worst = Okay } in
    All-append HasItsData entries (new ∷ []) all (All-cons HasItsData new [] (omega arith) (All-nil HasItsData))

after_r-stays : (done : Bool) (entries : List ReadEntry) → All HasABeat entries → All HasABeat (after_r (beat_where done (option_map (next_beat error_service tt) (head_of entries))) entries)
after_r-stays false entries all = all
after_r-stays true [] all = all
after_r-stays true (e ∷ es) all =
    let head : HasABeat e = All-head HasABeat e es all in
    let tail : All HasABeat es = All-tail HasABeat e es all in
    let next : ReadEntry = record { request = e.request; put = e.put + 1 } in
    let step : (last : Bool) → (e.put == e.request.len) ≡ last → All HasABeat (cond last es (record { request = e.request; put = e.put + 1 } ∷ es)) =
    elim [
      | true ↦ λ is. tail
      | false ↦ λ is.
          let other : e.put ≢ e.request.len = λ same. true≢false (sym (eq-eqb e.put e.request.len same) ∙ is) in
          All-cons HasABeat next es (omega (arith, head, other)) tail
    ] in
    step (e.put == e.request.len) refl

after_ar-stays : (o : Option Addr) (entries : List ReadEntry) → All HasABeat entries → All HasABeat (after_ar o entries)
after_ar-stays None entries all = all
after_ar-stays (Some request) entries all =
    let new : ReadEntry = record { request = request; put = 0 } in
    All-append HasABeat entries (new ∷ []) all (All-cons HasABeat new [] (omega arith) (All-nil HasABeat))

pub error-stays : (links : List LinkView) (s : ErrorState) → IsError s → IsError (served error_service links s)
error-stays links s is =
    let answered : List WriteEntry = after_b (moved_b error_service links s) s.writes in
    let filled : List WriteEntry = after_w error_service (moved_w error_service links s) answered in
    record {
      writes = after_aw-stays (moved_aw error_service links s) filled (after_w-stays (moved_w error_service links s) answered (after_b-stays (moved_b error_service links s) s.writes is.writes));
      reads = after_ar-stays (moved_ar error_service links s) (after_r (moved_r error_service links s) s.reads) (after_r-stays (its_rows error_service links s).r s.reads is.reads);
    }
