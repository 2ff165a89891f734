-- A trace line is read as it was written, and written as it was read.
use Rattle.std.proofs.Common.{◌≡◌, ℕ, ◌≤◌, Bool, true, false, List, ◌∷◌, ◌++◌, Some, None, refl, ap, sym, subst, ◌∙◌, lit≤}
use Rattle.std.specs.Prelude.{IfSome, if◌then◌else◌}
use Rattle.std.proofs.lemmas.Option.{none-some}
use Rattle.std.specs.Fmt.{decimal}
use Rattle.plain_text.specs.Exact.{IsExact, IsExactBefore, write_before}
use Rattle.plain_text.proofs.FieldLaws.{bind_some, some_is}
use Rattle.axi_beats.specs.declared.beat.WBeat.{WBeat}
use Rattle.axi_history.specs.declared.port.PortRound.{PortRound}
use Rattle.axi_history.specs.declared.port.RawAddr.{RawAddr}
use Rattle.axi_history.specs.declared.port.RawB.{RawB}
use Rattle.axi_history.specs.declared.port.RawR.{RawR}
use Rattle.axi_history.specs.declared.port.Seen.{Seen}
use Rattle.trace_text.specs.Form.{address_text, channel_text, line_text, read_data_text, response_text, write_data_text}
use Rattle.trace_text.specs.Line.{Line}
use Rattle.trace_text.specs.LineLaws.{LinesAreUnique}
use Rattle.trace_text.specs.Ranges.{IsTraceAddress, IsTraceReadData, IsTraceResponse, IsTraceRound, IsTraceWriteData}
use Rattle.trace_text.specs.Reading.{address_in, channel_before, channel_in, trace_round_of, read_data_in, response_in, write_data_in}
use Rattle.trace_text.proofs.FieldForms.{step, decimal_form, kind_form, port_bus_within, round_form, write_kind}
use Rattle.trace_text.proofs.BeatForms.{address_form, write_data_form, response_form, read_data_form, channel_form, channel_before_form, Avoids-address, Avoids-write_data, Avoids-response}

-- ---- the channels

addresses : IsExactBefore (channel_before address_in) (write_before 32 (channel_text address_text)) (λ offered. IfSome offered (λ (seen : Seen RawAddr). IsTraceAddress seen.beat))
addresses = channel_before_form address_in address_text IsTraceAddress address_form Avoids-address

write_data : (bus : ℕ) → bus ≤ 128 → IsExactBefore (channel_before (write_data_in bus)) (write_before 32 (channel_text (write_data_text bus))) (λ offered. IfSome offered (λ (seen : Seen WBeat). IsTraceWriteData bus seen.beat))
write_data bus within = channel_before_form (write_data_in bus) (write_data_text bus) (IsTraceWriteData bus) (write_data_form bus within) (Avoids-write_data bus within)

responses : IsExactBefore (channel_before response_in) (write_before 32 (channel_text response_text)) (λ offered. IfSome offered (λ (seen : Seen RawB). IsTraceResponse seen.beat))
responses = channel_before_form response_in response_text IsTraceResponse response_form Avoids-response

read_data : (bus : ℕ) → bus ≤ 128 → IsExact (channel_in (read_data_in bus)) (channel_text (read_data_text bus)) (λ offered. IfSome offered (λ (seen : Seen RawR). IsTraceReadData bus seen.beat))
read_data bus within = channel_form (read_data_in bus) (read_data_text bus) (IsTraceReadData bus) (read_data_form bus within)

-- ---- the line

pub line_sound : (text : List ℕ) (r : PortRound) → trace_round_of text ≡ Some r → Line r text
unfolding trace_round_of line_text
line_sound text r e =
    let round = step round_form text _ r e in
    let link = step (decimal_form 32 4096 (lit≤ tt) (lit≤ tt)) round.0.1 _ r round.3 in
    let kind = step kind_form link.0.1 _ r link.3 in
    let within : kind.0.0.bus ≤ 128 = port_bus_within kind.0.0 kind.1 in
    let aw = step addresses kind.0.1 _ r kind.3 in
    let w = step (write_data kind.0.0.bus within) aw.0.1 _ r aw.3 in
    let b = step responses w.0.1 _ r w.3 in
    let ar = step addresses b.0.1 _ r b.3 in
    let last = bind_some (channel_in (read_data_in kind.0.0.bus) ar.0.1) _ r ar.3 in
    let end = (read_data kind.0.0.bus within).sound ar.0.1 last.0 last.1 in
    let made : PortRound = record { round = round.0.0; link = link.0.0; kind = kind.0.0; aw = aw.0.0; w = w.0.0; b = b.0.0; ar = ar.0.0; r = last.0 } in
    let whole : text ≡ line_text made =
    round.2 ∙ ap (λ (t : List ℕ). decimal round.0.0 ++ 32 ∷ t) (link.2 ∙ ap (λ (t : List ℕ). decimal link.0.0 ++ 32 ∷ t) (kind.2 ∙ ap (λ (t : List ℕ). write_kind kind.0.0 t) (aw.2 ∙ ap (λ (t : List ℕ). channel_text address_text aw.0.0 ++ 32 ∷ t) (w.2 ∙ ap (λ (t : List ℕ). channel_text (write_data_text kind.0.0.bus) w.0.0 ++ 32 ∷ t) (b.2 ∙ ap (λ (t : List ℕ). channel_text response_text b.0.0 ++ 32 ∷ t) (ar.2 ∙ ap (λ (t : List ℕ). channel_text address_text ar.0.0 ++ 32 ∷ t) end.1))))))
    in
    subst (λ (x : PortRound). Line x text) {x = made} (some_is made r last.2)
    (record { ranges = record { first_round = round.1.0; last_round = round.1.1; link = link.1; kind = kind.1; aw = aw.1; w = w.1; b = b.1; ar = ar.1; r = end.0 }; text_is = whole })

line_complete : (r : PortRound) → IsTraceRound r → trace_round_of (line_text r) ≡ Some r
unfolding trace_round_of line_text
line_complete r fits =
    let within : r.kind.bus ≤ 128 = port_bus_within r.kind fits.kind in
    let after_b : List ℕ = channel_text address_text r.ar ++ 32 ∷ channel_text (read_data_text r.kind.bus) r.r in
    let after_w : List ℕ = channel_text response_text r.b ++ 32 ∷ after_b in
    let after_aw : List ℕ = channel_text (write_data_text r.kind.bus) r.w ++ 32 ∷ after_w in
    let after_kind : List ℕ = channel_text address_text r.aw ++ 32 ∷ after_aw in
    rw (round_form.complete r.round (decimal r.link ++ 32 ∷ write_kind r.kind after_kind) (fits.first_round, fits.last_round), (decimal_form 32 4096 (lit≤ tt) (lit≤ tt)).complete r.link (write_kind r.kind after_kind) fits.link, kind_form.complete r.kind after_kind fits.kind, addresses.complete r.aw after_aw fits.aw, (write_data r.kind.bus within).complete r.w after_w fits.w, responses.complete r.b after_b fits.b, addresses.complete r.ar (channel_text (read_data_text r.kind.bus) r.r) fits.ar, (read_data r.kind.bus within).complete r.r fits.r) refl

-- the trace lines are exactly the texts that are read
pub line_is_exact : IsExact trace_round_of line_text IsTraceRound
line_is_exact = record { sound = λ text r e. (let s = line_sound text r e in (s.ranges, s.text_is)); complete = line_complete }

-- the line of a round is read as that round
pub trace_round_of-line : (r : PortRound) (text : List ℕ) → Line r text → trace_round_of text ≡ Some r
trace_round_of-line r text line = ap trace_round_of line.text_is ∙ line_complete r line.ranges

pub lines_are_unique : LinesAreUnique
lines_are_unique r s text p q = some_is r s (sym (trace_round_of-line r text p) ∙ trace_round_of-line s text q)

-- what is told of a text by an answer that says whether its round was taken over
pub line_into : (text : List ℕ) (r : PortRound) (taken : Bool) → trace_round_of text ≡ (if taken then Some r else None) → taken ≡ true → Line r text
line_into text r taken e is = line_sound text r (e ∙ ap (λ b. if b then Some r else None) is)

pub line_only : (text : List ℕ) (r s : PortRound) (taken : Bool) → trace_round_of text ≡ (if taken then Some s else None) → taken ≡ true → Line r text → s ≡ r
line_only text r s taken e is line = some_is s r (sym (e ∙ ap (λ b. if b then Some s else None) is) ∙ trace_round_of-line r text line)

pub line_none : (text : List ℕ) (r s : PortRound) (taken : Bool) → trace_round_of text ≡ (if taken then Some s else None) → taken ≡ false → Line r text → ⊥
line_none text r s taken e is line = none-some r (sym (e ∙ ap (λ b. if b then Some s else None) is) ∙ trace_round_of-line r text line)
