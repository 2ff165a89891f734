-- The beats of the five channels are read as they are written.
use Rattle.std.proofs.Common.{◌≡◌, ℕ, ◌-◌, ◌^◌, ◌<◌, ◌≤◌, Bool, true, false, cond, eqb, List, [], ◌∷◌, ◌++◌, Option, Some, None, length, take, refl, ap, sym, subst, ◌∙◌, arith, lit<, lit≤, zero, suc}
use Rattle.std.specs.Prelude.{IfSome, codes, replicate}
use Rattle.std.specs.Fmt.{decimal}
use Rattle.std.specs.Str.{bytes_eq}
use Rattle.std.proofs.Math.Nat.{pow-le-pow_right}
use Rattle.std.proofs.lemmas.Bool.{eqb-true, eq-eqb}
use Rattle.std.proofs.lemmas.List.{take_at, drop_at, take-append-drop, length-append, length-take, length-replicate}
use Rattle.std.proofs.lemmas.Slice.Eq.{bytes_eq-Decides}
use Rattle.plain_text.specs.Exact.{◌>>=◌, IsExact, IsExactBefore, write_before}
use Rattle.plain_text.specs.ExactLaws.{AreBytes}
use Rattle.plain_text.specs.Printing.{hexadecimal, pairs}
use Rattle.plain_text.specs.Spelling.{read_pairs}
use Rattle.plain_text.proofs.FieldLaws.{Avoids, Avoids-append, bind_some, some_is, before_is_exact}
use Rattle.plain_text.proofs.HexadecimalLaws.{Avoids-hexadecimal, Avoids-pairs, pairs_is_exact}
use Rattle.axi_beats.specs.declared.beat.WBeat.{WBeat}
use Rattle.axi_history.specs.declared.port.RawAddr.{RawAddr}
use Rattle.axi_history.specs.declared.port.RawB.{RawB}
use Rattle.axi_history.specs.declared.port.RawR.{RawR}
use Rattle.axi_history.specs.declared.port.Seen.{Seen}
use Rattle.trace_text.specs.Form.{address_text, bit_text, channel_text, lanes_text, mark, read_data_text, response_text, tag_text, write_data_text}
use Rattle.trace_text.specs.Ranges.{IsOnBus, IsTraceAddress, IsTraceReadData, IsTraceResponse, IsTraceWriteData}
use Rattle.trace_text.specs.Reading.{address_in, channel_before, channel_in, lanes_before, lanes_in, mark_before, read_data_in, response_in, tag_in, write_data_in}
use Rattle.trace_text.proofs.FieldForms.{step, passes, decimal_form, hexadecimal_form, bit_form, tag_form, Avoids-bit, Avoids-number, Avoids-tag}

-- ---- lanes

AreBytes-append : (xs ys : List ℕ) → AreBytes xs → AreBytes ys → AreBytes (xs ++ ys)
AreBytes-append [] ys p q = q
AreBytes-append (x ∷ xs) ys p q = (p.0, AreBytes-append xs ys p.1 q)

AreBytes-take : (n : ℕ) (xs : List ℕ) → AreBytes xs → AreBytes (take n xs)
AreBytes-take zero xs p = tt
AreBytes-take (suc n) [] p = tt
AreBytes-take (suc n) (x ∷ xs) p = (p.0, AreBytes-take n xs p.1)

AreBytes-zeros : (n : ℕ) → AreBytes (replicate n 0)
AreBytes-zeros zero = tt
AreBytes-zeros (suc n) = (lit< tt, AreBytes-zeros n)

lanes_sound : (bus : ℕ) → bus ≤ 128 → (word lanes : List ℕ) → lanes_in bus word ≡ Some lanes → IsOnBus bus lanes × (word ≡ lanes_text bus lanes)
unfolding lanes_in
lanes_sound bus within word lanes e =
    let bytes = bind_some (read_pairs word) (λ bytes. cond (eqb (length bytes) bus) (Some (bytes ++ replicate (128 - bus) 0)) None) lanes e in
    let p = passes (eqb (length bytes.0) bus) (bytes.0 ++ replicate (128 - bus) 0) lanes bytes.2 in
    let count : length bytes.0 ≡ bus = eqb-true (length bytes.0) bus p.0 in
    let s = pairs_is_exact.sound word bytes.0 bytes.1 in
    subst (λ (xs : List ℕ). IsOnBus bus xs × (word ≡ lanes_text bus xs)) p.1 (
      record {
        lanes_128 = omega (arith, count, length-append bytes.0 (replicate (128 - bus) 0), length-replicate {A = ℕ} (128 - bus) 0);
        bytes = AreBytes-append bytes.0 (replicate (128 - bus) 0) s.0 (AreBytes-zeros (128 - bus));
        above = drop_at bytes.0 (replicate (128 - bus) 0) bus count;
      },
      s.1 ∙ ap pairs (sym (take_at bytes.0 (replicate (128 - bus) 0) bus count)),
    )

lanes_complete : (bus : ℕ) → bus ≤ 128 → (lanes : List ℕ) → IsOnBus bus lanes → lanes_in bus (lanes_text bus lanes) ≡ Some lanes
unfolding lanes_in
lanes_complete bus within lanes fits =
    let count : length (take bus lanes) ≡ bus = omega (arith, length-take bus lanes, fits.lanes_128) in
    let whole : take bus lanes ++ replicate (128 - bus) 0 ≡ lanes = ap (λ (t : List ℕ). take bus lanes ++ t) (sym fits.above) ∙ take-append-drop bus lanes in
    rw (pairs_is_exact.complete (take bus lanes) (AreBytes-take bus lanes fits.bytes), count, eq-eqb bus bus refl, whole) refl

lanes_form : (bus : ℕ) → bus ≤ 128 → IsExactBefore (lanes_before 44 bus) (write_before 44 (lanes_text bus)) (IsOnBus bus)
unfolding lanes_before
lanes_form bus within =
    before_is_exact (lanes_in bus) (lanes_text bus) (IsOnBus bus) (record { sound = lanes_sound bus within; complete = lanes_complete bus within }) 44 (λ lanes fits. Avoids-pairs 44 (take bus lanes) (lit≤ tt) (AreBytes-take bus lanes fits.bytes))

Avoids-lanes : (bus : ℕ) (lanes : List ℕ) → IsOnBus bus lanes → Avoids 32 (lanes_text bus lanes)
Avoids-lanes bus lanes fits = Avoids-pairs 32 (take bus lanes) (lit≤ tt) (AreBytes-take bus lanes fits.bytes)

-- a field, a comma and what follows have no space
Avoids-before : (text rest : List ℕ) → Avoids 32 text → Avoids 32 rest → Avoids 32 (text ++ 44 ∷ rest)
Avoids-before text rest p q = Avoids-append 32 text (44 ∷ rest) p (refl, q)

-- ---- addresses

address_sound : (text : List ℕ) (beat : RawAddr) → address_in text ≡ Some beat → IsTraceAddress beat × (text ≡ address_text beat)
unfolding address_in address_text
address_sound text beat e =
    let id = step (decimal_form 44 (2 ^ 32) (lit≤ tt) (lit≤ tt)) text _ beat e in
    let addr = step (hexadecimal_form 44 (2 ^ 63) (lit≤ tt) (lit≤ tt)) id.0.1 _ beat id.3 in
    let len = step (decimal_form 44 256 (lit≤ tt) (lit≤ tt)) addr.0.1 _ beat addr.3 in
    let size = step (decimal_form 44 8 (lit≤ tt) (lit≤ tt)) len.0.1 _ beat len.3 in
    let burst = step (decimal_form 44 4 (lit≤ tt) (lit≤ tt)) size.0.1 _ beat size.3 in
    let lock = step bit_form burst.0.1 _ beat burst.3 in
    let tag = bind_some (tag_in lock.0.1) _ beat lock.3 in
    let last = tag_form.sound lock.0.1 tag.0 tag.1 in
    let made : RawAddr = record { id = id.0.0; addr = addr.0.0; len = len.0.0; size = size.0.0; burst = burst.0.0; lock = lock.0.0; tag = tag.0 } in
    subst (λ (b : RawAddr). IsTraceAddress b × (text ≡ decimal b.id ++ 44 ∷ (hexadecimal b.addr ++ 44 ∷ (decimal b.len ++ 44 ∷ (decimal b.size ++ 44 ∷ (decimal b.burst ++ 44 ∷ (bit_text b.lock ++ 44 ∷ tag_text b.tag))))))) {x = made} (some_is made beat tag.2) (
      record { id = id.1; addr = addr.1; len = omega (arith, len.1); size = omega (arith, size.1); burst = omega (arith, burst.1); tag = last.0 },
      id.2 ∙ ap (λ (t : List ℕ). decimal id.0.0 ++ 44 ∷ t) (addr.2 ∙ ap (λ (t : List ℕ). hexadecimal addr.0.0 ++ 44 ∷ t) (len.2 ∙ ap (λ (t : List ℕ). decimal len.0.0 ++ 44 ∷ t) (size.2 ∙ ap (λ (t : List ℕ). decimal size.0.0 ++ 44 ∷ t) (burst.2 ∙ ap (λ (t : List ℕ). decimal burst.0.0 ++ 44 ∷ t) (lock.2 ∙ ap (λ (t : List ℕ). bit_text lock.0.0 ++ 44 ∷ t) last.1))))),
    )

address_complete : (beat : RawAddr) → IsTraceAddress beat → address_in (address_text beat) ≡ Some beat
unfolding address_in address_text
address_complete beat fits =
    let len : beat.len < 256 = omega (arith, fits.len) in
    let size : beat.size < 8 = omega (arith, fits.size) in
    let burst : beat.burst < 4 = omega (arith, fits.burst) in
    let after_burst : List ℕ = bit_text beat.lock ++ 44 ∷ tag_text beat.tag in
    let after_size : List ℕ = decimal beat.burst ++ 44 ∷ after_burst in
    let after_len : List ℕ = decimal beat.size ++ 44 ∷ after_size in
    let after_addr : List ℕ = decimal beat.len ++ 44 ∷ after_len in
    rw ((decimal_form 44 (2 ^ 32) (lit≤ tt) (lit≤ tt)).complete beat.id (hexadecimal beat.addr ++ 44 ∷ after_addr) fits.id, (hexadecimal_form 44 (2 ^ 63) (lit≤ tt) (lit≤ tt)).complete beat.addr after_addr fits.addr, (decimal_form 44 256 (lit≤ tt) (lit≤ tt)).complete beat.len after_len len, (decimal_form 44 8 (lit≤ tt) (lit≤ tt)).complete beat.size after_size size, (decimal_form 44 4 (lit≤ tt) (lit≤ tt)).complete beat.burst after_burst burst, bit_form.complete beat.lock (tag_text beat.tag) tt, tag_form.complete beat.tag fits.tag) refl

pub address_form : IsExact address_in address_text IsTraceAddress
address_form = record { sound = address_sound; complete = address_complete }

pub Avoids-address : (beat : RawAddr) → IsTraceAddress beat → Avoids 32 (address_text beat)
unfolding address_text
Avoids-address beat fits =
    Avoids-before _ _ (Avoids-number beat.id (omega (arith, fits.id)))
    (Avoids-before _ _ (Avoids-hexadecimal 32 beat.addr (lit≤ tt) (omega (arith, fits.addr)))
    (Avoids-before _ _ (Avoids-number beat.len (omega (arith, fits.len)))
    (Avoids-before _ _ (Avoids-number beat.size (omega (arith, fits.size)))
    (Avoids-before _ _ (Avoids-number beat.burst (omega (arith, fits.burst)))
    (Avoids-before _ _ (Avoids-bit beat.lock) (Avoids-tag beat.tag fits.tag))))))

-- ---- write data

strobe_within : (bus : ℕ) → bus ≤ 128 → 2 ^ bus ≤ 2 ^ 128
strobe_within bus within = pow-le-pow_right {n = 2} (lit< tt) within

write_data_sound : (bus : ℕ) → bus ≤ 128 → (text : List ℕ) (beat : WBeat) → write_data_in bus text ≡ Some beat → IsTraceWriteData bus beat × (text ≡ write_data_text bus beat)
unfolding write_data_in write_data_text
write_data_sound bus within text beat e =
    let lanes = step (lanes_form bus within) text _ beat e in
    let strobe = step (hexadecimal_form 44 (2 ^ bus) (lit≤ tt) (strobe_within bus within)) lanes.0.1 _ beat lanes.3 in
    let last = step bit_form strobe.0.1 _ beat strobe.3 in
    let tag = bind_some (tag_in last.0.1) _ beat last.3 in
    let end = tag_form.sound last.0.1 tag.0 tag.1 in
    let made : WBeat = record { lanes = lanes.0.0; strobe = strobe.0.0; last = last.0.0; tag = tag.0 } in
    subst (λ (b : WBeat). IsTraceWriteData bus b × (text ≡ lanes_text bus b.lanes ++ 44 ∷ (hexadecimal b.strobe ++ 44 ∷ (bit_text b.last ++ 44 ∷ tag_text b.tag)))) {x = made} (some_is made beat tag.2) (
      record { lanes = lanes.1; strobe = strobe.1; tag = end.0 },
      lanes.2 ∙ ap (λ (t : List ℕ). lanes_text bus lanes.0.0 ++ 44 ∷ t) (strobe.2 ∙ ap (λ (t : List ℕ). hexadecimal strobe.0.0 ++ 44 ∷ t) (last.2 ∙ ap (λ (t : List ℕ). bit_text last.0.0 ++ 44 ∷ t) end.1)),
    )

write_data_complete : (bus : ℕ) → bus ≤ 128 → (beat : WBeat) → IsTraceWriteData bus beat → write_data_in bus (write_data_text bus beat) ≡ Some beat
unfolding write_data_in write_data_text
write_data_complete bus within beat fits =
    let after_strobe : List ℕ = bit_text beat.last ++ 44 ∷ tag_text beat.tag in
    rw ((lanes_form bus within).complete beat.lanes (hexadecimal beat.strobe ++ 44 ∷ after_strobe) fits.lanes, (hexadecimal_form 44 (2 ^ bus) (lit≤ tt) (strobe_within bus within)).complete beat.strobe after_strobe fits.strobe, bit_form.complete beat.last (tag_text beat.tag) tt, tag_form.complete beat.tag fits.tag) refl

pub write_data_form : (bus : ℕ) → bus ≤ 128 → IsExact (write_data_in bus) (write_data_text bus) (IsTraceWriteData bus)
write_data_form bus within = record { sound = write_data_sound bus within; complete = write_data_complete bus within }

pub Avoids-write_data : (bus : ℕ) → bus ≤ 128 → (beat : WBeat) → IsTraceWriteData bus beat → Avoids 32 (write_data_text bus beat)
unfolding write_data_text
Avoids-write_data bus within beat fits =
    Avoids-before _ _ (Avoids-lanes bus beat.lanes fits.lanes)
    (Avoids-before _ _ (Avoids-hexadecimal 32 beat.strobe (lit≤ tt) (omega (arith, fits.strobe, strobe_within bus within)))
    (Avoids-before _ _ (Avoids-bit beat.last) (Avoids-tag beat.tag fits.tag)))

-- ---- responses

response_sound : (text : List ℕ) (beat : RawB) → response_in text ≡ Some beat → IsTraceResponse beat × (text ≡ response_text beat)
unfolding response_in response_text
response_sound text beat e =
    let id = step (decimal_form 44 (2 ^ 32) (lit≤ tt) (lit≤ tt)) text _ beat e in
    let resp = step (decimal_form 44 4 (lit≤ tt) (lit≤ tt)) id.0.1 _ beat id.3 in
    let tag = bind_some (tag_in resp.0.1) _ beat resp.3 in
    let last = tag_form.sound resp.0.1 tag.0 tag.1 in
    let made : RawB = record { id = id.0.0; resp = resp.0.0; tag = tag.0 } in
    subst (λ (b : RawB). IsTraceResponse b × (text ≡ decimal b.id ++ 44 ∷ (decimal b.resp ++ 44 ∷ tag_text b.tag))) {x = made} (some_is made beat tag.2) (
      record { id = id.1; resp = omega (arith, resp.1); tag = last.0 },
      id.2 ∙ ap (λ (t : List ℕ). decimal id.0.0 ++ 44 ∷ t) (resp.2 ∙ ap (λ (t : List ℕ). decimal resp.0.0 ++ 44 ∷ t) last.1),
    )

response_complete : (beat : RawB) → IsTraceResponse beat → response_in (response_text beat) ≡ Some beat
unfolding response_in response_text
response_complete beat fits =
    let resp : beat.resp < 4 = omega (arith, fits.resp) in
    rw ((decimal_form 44 (2 ^ 32) (lit≤ tt) (lit≤ tt)).complete beat.id (decimal beat.resp ++ 44 ∷ tag_text beat.tag) fits.id, (decimal_form 44 4 (lit≤ tt) (lit≤ tt)).complete beat.resp (tag_text beat.tag) resp, tag_form.complete beat.tag fits.tag) refl

pub response_form : IsExact response_in response_text IsTraceResponse
response_form = record { sound = response_sound; complete = response_complete }

pub Avoids-response : (beat : RawB) → IsTraceResponse beat → Avoids 32 (response_text beat)
unfolding response_text
Avoids-response beat fits =
    Avoids-before _ _ (Avoids-number beat.id (omega (arith, fits.id))) (Avoids-before _ _ (Avoids-number beat.resp (omega (arith, fits.resp))) (Avoids-tag beat.tag fits.tag))

-- ---- read data

read_data_sound : (bus : ℕ) → bus ≤ 128 → (text : List ℕ) (beat : RawR) → read_data_in bus text ≡ Some beat → IsTraceReadData bus beat × (text ≡ read_data_text bus beat)
unfolding read_data_in read_data_text
read_data_sound bus within text beat e =
    let id = step (decimal_form 44 (2 ^ 32) (lit≤ tt) (lit≤ tt)) text _ beat e in
    let lanes = step (lanes_form bus within) id.0.1 _ beat id.3 in
    let resp = step (decimal_form 44 4 (lit≤ tt) (lit≤ tt)) lanes.0.1 _ beat lanes.3 in
    let last = step bit_form resp.0.1 _ beat resp.3 in
    let tag = bind_some (tag_in last.0.1) _ beat last.3 in
    let end = tag_form.sound last.0.1 tag.0 tag.1 in
    let made : RawR = record { id = id.0.0; lanes = lanes.0.0; resp = resp.0.0; last = last.0.0; tag = tag.0 } in
    subst (λ (b : RawR). IsTraceReadData bus b × (text ≡ decimal b.id ++ 44 ∷ (lanes_text bus b.lanes ++ 44 ∷ (decimal b.resp ++ 44 ∷ (bit_text b.last ++ 44 ∷ tag_text b.tag))))) {x = made} (some_is made beat tag.2) (
      record { id = id.1; lanes = lanes.1; resp = omega (arith, resp.1); tag = end.0 },
      id.2 ∙ ap (λ (t : List ℕ). decimal id.0.0 ++ 44 ∷ t) (lanes.2 ∙ ap (λ (t : List ℕ). lanes_text bus lanes.0.0 ++ 44 ∷ t) (resp.2 ∙ ap (λ (t : List ℕ). decimal resp.0.0 ++ 44 ∷ t) (last.2 ∙ ap (λ (t : List ℕ). bit_text last.0.0 ++ 44 ∷ t) end.1))),
    )

read_data_complete : (bus : ℕ) → bus ≤ 128 → (beat : RawR) → IsTraceReadData bus beat → read_data_in bus (read_data_text bus beat) ≡ Some beat
unfolding read_data_in read_data_text
read_data_complete bus within beat fits =
    let resp : beat.resp < 4 = omega (arith, fits.resp) in
    let after_resp : List ℕ = bit_text beat.last ++ 44 ∷ tag_text beat.tag in
    let after_lanes : List ℕ = decimal beat.resp ++ 44 ∷ after_resp in
    rw ((decimal_form 44 (2 ^ 32) (lit≤ tt) (lit≤ tt)).complete beat.id (lanes_text bus beat.lanes ++ 44 ∷ after_lanes) fits.id, (lanes_form bus within).complete beat.lanes after_lanes fits.lanes, (decimal_form 44 4 (lit≤ tt) (lit≤ tt)).complete beat.resp after_resp resp, bit_form.complete beat.last (tag_text beat.tag) tt, tag_form.complete beat.tag fits.tag) refl

pub read_data_form : (bus : ℕ) → bus ≤ 128 → IsExact (read_data_in bus) (read_data_text bus) (IsTraceReadData bus)
read_data_form bus within = record { sound = read_data_sound bus within; complete = read_data_complete bus within }

-- ---- channels

marked_parts : (word : List ℕ) (found : Bool × List ℕ) → mark_before word ≡ Some found → word ≡ mark found.0 ∷ found.1
marked_parts [] found = λ e. absurd cc
marked_parts (byte ∷ rest) found = by (eqb byte 43) (eqb byte 61) refl refl
  where
    by : (a b : Bool) → eqb byte 43 ≡ a → eqb byte 61 ≡ b → cond a (Some (true, rest)) (cond b (Some (false, rest)) None) ≡ Some found → byte ∷ rest ≡ mark found.0 ∷ found.1
    by true b p q e = subst (λ (f : Bool × List ℕ). byte ∷ rest ≡ mark f.0 ∷ f.1) (some_is (true, rest) found e) (ap (λ (x : ℕ). x ∷ rest) (eqb-true byte 43 p))
    by false true p q e = subst (λ (f : Bool × List ℕ). byte ∷ rest ≡ mark f.0 ∷ f.1) (some_is (false, rest) found e) (ap (λ (x : ℕ). x ∷ rest) (eqb-true byte 61 q))
    by false false p q e = absurd cc

module _ {B : Type 0} (read_beat : List ℕ → Option B) (beat_text : B → List ℕ) (Fits : B → Type 0) (exact : IsExact read_beat beat_text Fits) where
  -- what is offered fits
  abbrev IsOffered : Option (Seen B) → Type 0
  IsOffered offered = IfSome offered (λ (seen : Seen B). Fits seen.beat)

  channel_sound : (word : List ℕ) (offered : Option (Seen B)) → channel_in read_beat word ≡ Some offered → IsOffered offered × (word ≡ channel_text beat_text offered)
  channel_sound word offered = by (bytes_eq word (codes "-")) refl
    where
      by : (b : Bool) → bytes_eq word (codes "-") ≡ b → cond b (Some None) (mark_before word >>= λ mark. read_beat mark.1 >>= λ beat. Some (Some (record { beat = beat; taken = mark.0 }))) ≡ Some offered → IsOffered offered × (word ≡ channel_text beat_text offered)
      by true p e = subst (λ (o : Option (Seen B)). IsOffered o × (word ≡ channel_text beat_text o)) (some_is None offered e) (tt, (bytes_eq-Decides word (codes "-")).0 p)
      by false p e =
          let m = bind_some (mark_before word) _ offered e in
          let b = bind_some (read_beat m.0.1) _ offered m.2 in
          let s = exact.sound m.0.1 b.0 b.1 in
          let made : Seen B = record { beat = b.0; taken = m.0.0 } in
          subst (λ (o : Option (Seen B)). IsOffered o × (word ≡ channel_text beat_text o)) (some_is (Some made) offered b.2) (s.0, marked_parts word m.0 m.1 ∙ ap (λ (t : List ℕ). mark m.0.0 ∷ t) s.1)

  seen_complete : (taken : Bool) (beat : B) → Fits beat → channel_in read_beat (mark taken ∷ beat_text beat) ≡ Some (Some (record { beat = beat; taken = taken }))
  seen_complete true beat fits = rw (exact.complete beat fits) refl
  seen_complete false beat fits = rw (exact.complete beat fits) refl

  channel_complete : (offered : Option (Seen B)) → IsOffered offered → channel_in read_beat (channel_text beat_text offered) ≡ Some offered
  channel_complete None fits = refl
  channel_complete (Some seen) fits = seen_complete seen.taken seen.beat fits

  pub channel_form : IsExact (channel_in read_beat) (channel_text beat_text) (λ offered. IfSome offered (λ (seen : Seen B). Fits seen.beat))
  channel_form = record { sound = channel_sound; complete = channel_complete }

  pub channel_before_form : ((beat : B) → Fits beat → Avoids 32 (beat_text beat)) → IsExactBefore (channel_before read_beat) (write_before 32 (channel_text beat_text)) (λ offered. IfSome offered (λ (seen : Seen B). Fits seen.beat))
  unfolding channel_before
  channel_before_form avoids = before_is_exact (channel_in read_beat) (channel_text beat_text) (λ offered. IfSome offered (λ (seen : Seen B). Fits seen.beat)) channel_form 32 none
    where
      marked_avoids : (taken : Bool) (text : List ℕ) → Avoids 32 text → Avoids 32 (mark taken ∷ text)
      marked_avoids true text h = (refl, h)
      marked_avoids false text h = (refl, h)

      none : (offered : Option (Seen B)) → IsOffered offered → Avoids 32 (channel_text beat_text offered)
      none None fits = (refl, tt)
      none (Some seen) fits = marked_avoids seen.taken (beat_text seen.beat) (avoids seen.beat fits)
