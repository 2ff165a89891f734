-- The text of a run, one piece after the other.
use Rattle.std.proofs.Common.{◌≡◌, ◌<◌, ◌≤◌, ◌+◌, ◌-◌, ◌∷◌, [], ◌++◌, ℕ, zero, suc, List, Option, Some, None, Bool, length, take, refl, sym, ap, ◌∙◌, subst, arith, append_assoc, append-nil, length-append}
use Rattle.std.specs.Prelude.{Err, Ok, OnErr, OnOk, Result, slice_get}
use Rattle.std.specs.Option.{option_map_or}
use Rattle.std.specs.Io.KnownBytes.{Appends}
use Rattle.std.proofs.KnownBytes.{Appends-trans}
use Rattle.std.proofs.Math.Seq.{take-append-add}
use Rattle.std.proofs.lemmas.List.{take-append-le}
use Rattle.document.specs.Document.{Asked}
use Rattle.net_build.specs.NetRun.{NetRun}
use Rattle.plan_traffic.specs.Traffic.{TrafficItem}
use Rattle.axi_program.specs.DeviceBytes.{AppendsPrefix}
use Rattle.axi_program.specs.Faults.{Rose}
use Rattle.axi_program.specs.Outcome.{Answers, run_outcome, run_trace, text_of}
use Rattle.axi_program.specs.Run.{run_end}
use Rattle.axi_program.specs.Text.{answer_lines, item_line, run_text, separator_line, where_asked}

-- a part of what comes next is a part of the whole
pub prefix-later :
    (first then last : Option (List ℕ)) (front next rest whole : List ℕ) → Appends first then front → AppendsPrefix then last next → whole ≡ (front ++ next) ++ rest → AppendsPrefix first last whole
prefix-later first then last front next rest whole before part is =
    let parts : whole ≡ front ++ (next ++ rest) = is ∙ append_assoc front next rest in
    let long : length whole ≡ length front + (length next + length rest) = ap length parts ∙ length-append front (next ++ rest) ∙ ap (λ (n : ℕ). length front + n) (length-append next rest) in
    let taken : take (length front + part.count) whole ≡ front ++ take part.count next =
    ap (take (length front + part.count)) parts ∙ take-append-add front (next ++ rest) part.count
    ∙ ap (λ (bytes : List ℕ). front ++ bytes) (take-append-le part.count next rest (omega (arith, part.proper))) in
    record {
      count = length front + part.count;
      proper = omega (arith, part.proper);
      appends = subst (λ (bytes : List ℕ). Appends first last bytes) (sym taken) (Appends-trans first then last front (take part.count next) before part.appends);
    }

pub prefix-whole : (first last : Option (List ℕ)) (front rest whole : List ℕ) → AppendsPrefix first last front → whole ≡ front ++ rest → AppendsPrefix first last whole
prefix-whole first last front rest whole part is =
    let long : length whole ≡ length front + length rest = ap length is ∙ length-append front rest in
    record {
      count = part.count;
      proper = omega (arith, part.proper);
      appends = subst (λ (bytes : List ℕ). Appends first last bytes) (sym (ap (take part.count) is ∙ take-append-le part.count front rest (omega (arith, part.proper)))) part.appends;
    }

-- a count that rose later rose from before
pub Rose-later : (before then now : ℕ) → before ≤ then → Rose then now → Rose before now
Rose-later before then now stays rose = omega arith

pub on-err : {X E : Type 0} (r : Result X E) (P : Type 0) → P → OnErr r P
on-err (Ok x) P holds = tt
on-err (Err e) P holds = holds

pub on-ok-map : {X E : Type 0} (r : Result X E) (P Q : Type 0) → (P → Q) → OnOk r P → OnOk r Q
on-ok-map (Ok x) P Q step holds = step holds
on-ok-map (Err e) P Q step holds = tt

pub on-err-map : {X E : Type 0} (r : Result X E) (P Q : Type 0) → (P → Q) → OnErr r P → OnErr r Q
on-err-map (Ok x) P Q step holds = tt
on-err-map (Err e) P Q step holds = step holds

-- the lines of some transactions and of one more
module _ (run : NetRun) where
  abbrev line_at : List TrafficItem → ℕ → List ℕ
  line_at items place = option_map_or (item_line run) (slice_get items place) []

  pub lines-next : (items : List TrafficItem) (place : ℕ) → place < length items → answer_lines run (take (place + 1) items) ≡ answer_lines run (take place items) ++ line_at items place
  lines-next [] place within = absurd (omega arith)
  lines-next (item ∷ items) zero within = append-nil (item_line run item)
  lines-next (item ∷ items) (suc place) within =
      let next : suc place + 1 ≡ suc (place + 1) = omega arith in
      rw next
      (ap (λ (text : List ℕ). item_line run item ++ text) (lines-next items place (omega (arith, within)))
      ∙ sym (append_assoc (item_line run item) (answer_lines run (take place items)) (line_at items place)))

  -- the first lines are the front of all lines
  pub lines-front : (items : List TrafficItem) (n : ℕ) → (rest : List ℕ) × (answer_lines run items ≡ answer_lines run (take n items) ++ rest)
  lines-front items zero = (answer_lines run items, refl)
  lines-front [] (suc n) = ([], refl)
  lines-front (item ∷ items) (suc n) =
      let later = lines-front items n in (
        later.0,
        ap (λ (text : List ℕ). item_line run item ++ text) later.1
            ∙ sym (append_assoc (item_line run item) (answer_lines run (take n items)) later.0),
      )

-- what the run of what is asked comes to
pub outcome-answers : (trace : Bool) (asked : Asked) → run_outcome trace asked ≡ Answers (where_asked trace (run_trace asked) ++ (where_asked trace separator_line ++ run_text (run_end asked)))
unfolding run_outcome
outcome-answers trace asked = refl

-- the text of every run begins with its trace
pub outcome-traces : (trace : Bool) (asked : Asked) → (rest : List ℕ) × (text_of (run_outcome trace asked) ≡ where_asked trace (run_trace asked) ++ rest)
outcome-traces trace asked = (where_asked trace separator_line ++ run_text (run_end asked), ap text_of (outcome-answers trace asked))
