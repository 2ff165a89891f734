-- How many requests are unanswered, by what is kept of a history that breaks no rule.
use Rattle.std.proofs.Common.{◌≡◌, ℕ, ◌+◌, ◌-◌, ◌≤◌, ◌∷◌, [], ◌++◌, List, Option, Some, None, length, refl, sym, ap, ◌∙◌, arith, subst, append_assoc}
use Rattle.std.specs.Prelude.{count_by}
use Rattle.std.proofs.lemmas.List.{append-nil}
use Rattle.axi_beats.specs.declared.beat.WBeat.{WBeat}
use Rattle.axi_history.specs.declared.port.PortKind.{PortKind}
use Rattle.axi_history.specs.declared.port.PortRound.{PortRound}
use Rattle.axi_history.specs.PortHistory.{transferred, on_aw, on_w, on_b}
use Rattle.axi_history.specs.PortRules.{or_else, first_fault}
use Rattle.lite_rules.specs.PortFaults.{round_fault, history_fault}
use Rattle.port_rules.specs.Kept.{Kept, kept_after_round}
use Rattle.port_rules.specs.LiteHeld.{HeldOn}
use Rattle.port_rules.specs.Unanswered.{write_requests, write_answers, read_requests, read_answers, unanswered_writes, unanswered_reads}
use Rattle.port_rules.proofs.LegalLemmas.{whole_beginning}
use Rattle.port_rules.proofs.PortLemmas.{kept_on, nothing, reads_on, start_on, writes_on}
use Rattle.port_rules.proofs.WriteLemmas.{writes_counted}

writes_held : (port : PortKind) (k : Kept) (h : List PortRound) → HeldOn port k h → length k.writes.issued + length k.writes.whole + write_answers h ≡ write_requests h
writes_held port k h held = writes_counted k.writes (transferred on_aw h) (count_by (λ (beat : WBeat). beat.last) (transferred on_w h)) (transferred on_b h) (writes_on port k h held)

pub writes_left : (port : PortKind) (k : Kept) (h : List PortRound) → HeldOn port k h → history_fault port h ≡ None → length k.writes.issued + length k.writes.whole ≡ unanswered_writes port h
writes_left port k h held legal =
    let counted = writes_held port k h held in
    let left : length k.writes.issued + length k.writes.whole ≡ write_requests h - write_answers h = omega arith in
    left ∙ ap (λ (xs : List PortRound). write_requests xs - write_answers xs) (sym (whole_beginning port h legal))

pub reads_left : (port : PortKind) (k : Kept) (h : List PortRound) → HeldOn port k h → history_fault port h ≡ None → length k.reads ≡ unanswered_reads port h
reads_left port k h held legal =
    let counted = (reads_on port k h held).all in
    let left : length k.reads ≡ read_requests h - read_answers h = omega arith in
    left ∙ ap (λ (xs : List PortRound). read_requests xs - read_answers xs) (sym (whole_beginning port h legal))

-- ---- no more answers than requests

abbrev Follow : List PortRound → Type 0
Follow h = (write_answers h ≤ write_requests h) × (read_answers h ≤ read_requests h)

held_follow : (port : PortKind) (k : Kept) (h : List PortRound) → HeldOn port k h → Follow h
held_follow port k h held =
    let writes = writes_held port k h held in
    let reads = (reads_on port k h held).all in
    (omega arith, omega arith)

both_none : (a b : Option (ℕ × ℕ)) → or_else a b ≡ None → (a ≡ None) × (b ≡ None)
both_none None b e = (refl, e)
both_none (Some x) b e = absurd cc

later_follow : (port : PortKind) (k : Kept) (earlier rounds : List PortRound) → HeldOn port k earlier → first_fault (round_fault port) earlier rounds ≡ None → Follow (earlier ++ rounds)
later_follow port k earlier [] held legal = subst Follow (sym (append-nil earlier)) (held_follow port k earlier held)
later_follow port k earlier (r ∷ rounds) held legal =
    let parts = both_none (round_fault port earlier r) (first_fault (round_fault port) (earlier ++ r ∷ []) rounds) legal in
    subst Follow (append_assoc earlier (r ∷ []) rounds) (later_follow port (kept_after_round port.lite k r) (earlier ++ r ∷ []) rounds (kept_on port k earlier r held parts.0) parts.1)

pub answers_follow : (port : PortKind) (h : List PortRound) → history_fault port h ≡ None → Follow h
answers_follow port h legal = later_follow port nothing [] h (start_on port) legal
