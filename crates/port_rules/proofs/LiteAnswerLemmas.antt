-- What answers of an AXI4-Lite port follow, by what is kept.
use Rattle.std.proofs.Common.{◌≡◌, ℕ, ◌+◌, ◌&&◌, Bool, true, false, List, length, refl, sym, ap, ◌∙◌, inl, inr, arith, subst, ltb, take, min}
use Rattle.std.specs.Prelude.{count_by, sum, nat_lt}
use Rattle.std.specs.Bool.{beq}
use Rattle.std.specs.List.{list_all}
use Rattle.std.proofs.lemmas.Bool.{cases_Bool, and_parts, eqb-true, ltb-true, lt-ltb}
use Rattle.std.proofs.lemmas.Bool.Decides.{nat_tests}
use Rattle.std.proofs.lemmas.List.{length-take}
use Rattle.axi_beats.specs.declared.beat.WBeat.{WBeat}
use Rattle.axi_history.specs.declared.port.RawAddr.{RawAddr}
use Rattle.axi_history.specs.declared.port.RawB.{RawB}
use Rattle.axi_history.specs.declared.port.RawR.{RawR}
use Rattle.axi_history.specs.PortHistory.{ends_a_request}
use Rattle.axi_history.specs.PortRules.{responses_of, writes_of, read_beats_of, reads_of}
use Rattle.lite_rules.specs.LiteRules.{has_no_id, is_lite_access, is_lite_read_beat}
use Rattle.lite_rules.proofs.WordLemmas.{all_taken, all_counted, writes_all, responses_all, read_beats_all, lasts_all, ones, reads_all, ones_sum, ones_end}
use Rattle.port_rules.specs.declared.reads.Read.{Read}
use Rattle.port_rules.specs.OpenWrites.{OpenWrites}
use Rattle.port_rules.specs.ReadsHeld.{ReadsHeld}
use Rattle.port_rules.specs.WritesHeld.{WritesHeld}
use Rattle.port_rules.proofs.KeptLemmas.{FollowsWrite, FollowsRead}

-- ---- rule 6, by what is kept

both_less : (x b a w : ℕ) → x + b ≡ min w a → nat_lt 0 x ≡ (nat_lt b a && nat_lt b w)
both_less x b a w e =
    elim (cases_Bool (ltb b a)) [
      | inl f ↦ elim (cases_Bool (ltb b w)) [
        | inl g ↦ let s : ltb 0 x ≡ true = (let f' = ltb-true b a f in let g' = ltb-true b w g in lt-ltb 0 x (omega arith)) in rw (f, g, s) refl
        | inr g ↦ let s : ltb 0 x ≡ false = grind (arith, nat_tests) in rw (f, g, s) refl
      ]
      | inr f ↦ let s : ltb 0 x ≡ false = grind (arith, nat_tests) in rw (f, s) refl
    ]

pub whole_where : (o : OpenWrites) (addresses : List RawAddr) (ws : List WBeat) (responses : List RawB) → list_all (λ (w : WBeat). w.last) ws ≡ true →
    WritesHeld o addresses (count_by (λ (w : WBeat). w.last) ws) responses →
    nat_lt 0 (length o.whole) ≡ (nat_lt (length responses) (length addresses) && nat_lt (length responses) (length ws))
whole_where o addresses ws responses lasts held =
    both_less (length o.whole) (length responses) (length addresses) (length ws)
    (held.all ∙ length-take (count_by (λ (w : WBeat). w.last) ws) addresses ∙ ap (λ (n : ℕ). min n (length addresses)) (all_counted (λ (w : WBeat). w.last) ws lasts))

pub open_where : (reads : List Read) (addresses : List RawAddr) (beats : List RawR) → list_all is_lite_read_beat beats ≡ true → ReadsHeld reads addresses beats →
    nat_lt 0 (length reads) ≡ nat_lt (length beats) (length addresses)
open_where reads addresses beats lasts held =
    let all = held.all in
    let counted = lasts_all beats lasts in
    let sums : length reads + length beats ≡ length addresses = omega arith in
    let s : ltb 0 (length reads) ≡ ltb (length beats) (length addresses) = grind (arith, nat_tests) in
    s

-- ---- what an answer that keeps rules 4 and 6 follows

pub response_follows : (bus : ℕ) (addresses : List RawAddr) (ws : List WBeat) (responses : List RawB) (b : RawB) → list_all (is_lite_access bus) addresses ≡ true → list_all (λ (w : WBeat). w.last) ws ≡ true → list_all (λ (x : RawB). has_no_id x.id) responses ≡ true →
    has_no_id b.id ≡ true → (nat_lt (length responses) (length addresses) && nat_lt (length responses) (length ws)) ≡ true → FollowsWrite addresses (count_by (λ (w : WBeat). w.last) ws) responses b
response_follows bus addresses ws responses b accesses lasts answers none less =
    let n = count_by (λ (w : WBeat). w.last) ws in
    let counted : n ≡ length ws = all_counted (λ (w : WBeat). w.last) ws lasts in
    let both = and_parts (nat_lt (length responses) (length addresses)) (nat_lt (length responses) (length ws)) less in
    let few = ltb-true (length responses) (length addresses) both.0 in
    let few' = ltb-true (length responses) (length ws) both.1 in
    let size : length (take n addresses) ≡ min n (length addresses) = length-take n addresses in
    let told : ltb (length responses) (length (take n addresses)) ≡ true = lt-ltb (length responses) (length (take n addresses)) (omega arith) in
    subst (λ (id : ℕ). ltb (length (responses_of id responses)) (length (writes_of id (take n addresses))) ≡ true) (sym (eqb-true b.id 0 none))
    (ap (λ (xs : List RawB). ltb (length xs) (length (writes_of 0 (take n addresses)))) (responses_all responses answers)
    ∙ ap (λ (xs : List RawAddr). ltb (length responses) (length xs)) (writes_all bus (take n addresses) (all_taken (is_lite_access bus) n addresses accesses))
    ∙ told)

pub read_follows : (bus : ℕ) (addresses : List RawAddr) (beats : List RawR) (r : RawR) → list_all (is_lite_access bus) addresses ≡ true → list_all is_lite_read_beat beats ≡ true →
    is_lite_read_beat r ≡ true → nat_lt (length beats) (length addresses) ≡ true → FollowsRead addresses beats r
read_follows bus addresses beats r accesses answers lite less =
    let parts = and_parts (has_no_id r.id) r.last lite in
    let few = ltb-true (length beats) (length addresses) less in
    let asked : reads_of 0 addresses ≡ ones addresses = reads_all bus addresses accesses in
    let came : length (read_beats_of 0 beats) ≡ length beats = ap length (read_beats_all beats answers) in
    let more : ltb (length (read_beats_of 0 beats)) (sum (reads_of 0 addresses)) ≡ true =
    ap (λ (n : ℕ). ltb n (sum (reads_of 0 addresses))) came ∙ ap (λ (ns : List ℕ). ltb (length beats) (sum ns)) asked ∙ ap (λ (n : ℕ). ltb (length beats) n) (ones_sum addresses) ∙ less in
    let ends : ends_a_request (reads_of 0 addresses) (length (read_beats_of 0 beats)) ≡ true =
    ap (λ (n : ℕ). ends_a_request (reads_of 0 addresses) n) came ∙ ap (λ (ns : List ℕ). ends_a_request ns (length beats)) asked ∙ ones_end addresses (length beats) few in
    subst (λ (id : ℕ). (ltb (length (read_beats_of id beats)) (sum (reads_of id addresses)) ≡ true) × (beq r.last (ends_a_request (reads_of id addresses) (length (read_beats_of id beats))) ≡ true)) (sym (eqb-true r.id 0 parts.0))
    (more, ap (λ (v : Bool). beq v (ends_a_request (reads_of 0 addresses) (length (read_beats_of 0 beats)))) parts.1 ∙ ap (λ (v : Bool). beq true v) ends)
