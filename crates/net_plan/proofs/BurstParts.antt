-- The parts of a burst that a link carries of it, whole or cut: they lie in the burst's page and on its lines.
use Rattle.std.proofs.Common.{◌≡◌, ◌<◌, ◌≤◌, ◌+◌, ◌-◌, ◌*◌, ◌/◌, ℕ, zero, suc, Bool, true, cond, List, [], ◌∷◌, length, map, refl, sym, ◌∙◌, ap, arith}
use Rattle.std.specs.List.{range_with_len}
use Rattle.std.specs.Prelude.{All, nat_lt}
use Rattle.std.proofs.lemmas.Bool.{lt-ltb}
use Rattle.std.proofs.lemmas.List.{length-append}
use Rattle.std.proofs.lemmas.List.Elements.{All-append, All-cons, All-head, All-nil, All-tail}
use Rattle.std.proofs.lemmas.Nat.{pow_pos}
use Rattle.axi_beats.specs.Bus.{IsBusWidth}
use Rattle.axi_beats.specs.declared.beat.Addr.{Addr}
use Rattle.axi_beats.specs.declared.beat.Burst.{Burst}
use Rattle.axi_beats.specs.declared.beat.Burst.TheVariants.{Fixed, Incr, Wrap}
use Rattle.burst_address.proofs.Beats.{bus-most}
use Rattle.burst_address.proofs.Legality.{legal-wider}
use Rattle.burst_address.proofs.Numbers.{aligned-near}
use Rattle.burst_address.proofs.Widths.{width-cases}
use Rattle.burst_address.specs.Formulas.{address_by_kind, beat_at, beats_of, size_of, wrap_boundary}
use Rattle.burst_address.specs.Legal.{IsLegal, page}
use Rattle.burst_cuts.proofs.LegalLemmas.{part-legal, part-page}
use Rattle.burst_cuts.proofs.ShownLemmas.{cut_all}
use Rattle.burst_cuts.specs.Parts.{part_of, parts_of}
use Rattle.elaborate.proofs.Lists.{mapped-in}
use Rattle.lite_node.proofs.WordLemmas.{word-legal, word-page}
use Rattle.lite_node.specs.LiteTable.{word_request}
use Rattle.memory_node.specs.Store.{line_number}
use Rattle.net_opening.specs.Touched.{lines_of_burst}
use Rattle.node_graph.proofs.Members.{numbers-in}
use Rattle.node_graph.specs.Graph.{is_in, numbers}

-- each beat of a part lies on a line of the burst
abbrev pub IsOnLines : Addr → Addr → Type 0
IsOnLines request part = (beat : ℕ) → beat < beats_of part → is_in (lines_of_burst request) (line_number (beat_at part beat)) ≡ true

-- a part of a burst: a legal burst in its page, on its lines
pub record IsOfBurst (request part : Addr) : Type 0 where
  pub legal : IsLegal part 128
  pub same_page : page part.addr ≡ page request.addr
  pub lines : IsOnLines request part

-- what is carried of a burst: some parts of it
pub record AreOfBurst (request : Addr) (parts : List Addr) : Type 0 where
  pub some : 0 < length parts
  pub each : All (IsOfBurst request) parts

-- ---- the burst itself

pub of-itself : (request : Addr) → IsLegal request 128 → AreOfBurst request (request ∷ [])
of-itself request legal = record {
  some = omega arith;
  each = All-cons (IsOfBurst request) request []
      (record {
        legal = legal;
        same_page = refl;
        lines = λ beat few. mapped-in (λ beat. line_number (beat_at request beat)) (numbers (beats_of request)) beat (numbers-in (beats_of request) beat few);
      })
      (All-nil (IsOfBurst request));
}

-- ---- single beats

-- a beat of a part, as a burst of its own
part-is : (request part : Addr) (n : ℕ) → n < beats_of part → IsOfBurst request part → IsOfBurst request (part_of part n)
part-is request part n within is = record {
  legal = part-legal part 128 n refl is.legal;
  same_page = part-page part 128 n refl is.legal within ∙ is.same_page;
  lines = lines;
}
  where
    lines : IsOnLines request (part_of part n)
    lines zero few = is.lines n within
    lines (suc beat) few = absurd (omega (arith, few))

parts-are : (request part : Addr) (from count : ℕ) → from + count ≤ beats_of part → IsOfBurst request part → All (IsOfBurst request) (map (part_of part) (range_with_len from count))
parts-are request part from zero few is = All-nil (IsOfBurst request)
parts-are request part from (suc count) few is =
    All-cons (IsOfBurst request) (part_of part from) (map (part_of part) (range_with_len (from + 1) count)) (part-is request part from (omega (arith, few)) is)
    (parts-are request part (from + 1) count (omega (arith, few)) is)

cut-are : (request : Addr) (parts : List Addr) → All (IsOfBurst request) parts → All (IsOfBurst request) (cut_all parts)
cut-are request [] all = All-nil (IsOfBurst request)
cut-are request (part ∷ parts) all =
    All-append (IsOfBurst request) (parts_of part) (cut_all parts) (parts-are request part 0 (suc part.len) (omega arith) (All-head (IsOfBurst request) part parts all))
    (cut-are request parts (All-tail (IsOfBurst request) part parts all))

pub of-cut : (request : Addr) (parts : List Addr) → AreOfBurst request parts → AreOfBurst request (cut_all parts)
of-cut request [] are = absurd (omega (arith, are.some))
of-cut request (part ∷ parts) are = record {
  some = omega (arith, length-append (parts_of part) (cut_all parts));
  each = cut-are request (part ∷ parts) are.each;
}

-- ---- whole words

-- a word lies on the line of each of its bytes
pub word-line : (bus x : ℕ) → IsBusWidth bus → x / bus * bus / 128 ≡ x / 128
word-line bus x width =
    width-cases (λ n. x / n * n / 128 ≡ x / 128) bus width (omega arith) (omega arith) (omega arith) (omega arith) (omega arith) (omega arith)

wrap-starts : (start below total : ℕ) → start < below + total → cond (nat_lt start (below + total)) start (start - total) ≡ start
wrap-starts start below total less = ap (λ (b : Bool). cond b start (start - total)) (lt-ltb start (below + total) less)

starts-by : (b : Burst) (size beats start : ℕ) → 0 < size * beats → address_by_kind b size beats start 0 ≡ start
starts-by Fixed size beats start some = refl
starts-by Incr size beats start some = refl
starts-by Wrap size beats start some = wrap-starts start (wrap_boundary size beats start) (size * beats) (aligned-near (size * beats) start some)

-- the first beat of a burst is at its address
pub first-beat : (a : Addr) → beat_at a 0 ≡ a.addr
first-beat a =
    let some : 0 < size_of a = pow_pos a.size in
    starts-by a.burst (size_of a) (beats_of a) a.addr (product (size_of a) a.len some)
  where
    product : (size len : ℕ) → 0 < size → 0 < size * (len + 1)
    product zero len some = absurd (omega (arith, some))
    product (suc size) len some = omega (arith, some)

word-is : (bus : ℕ) (request part : Addr) → IsBusWidth bus → IsOfBurst request part → IsOfBurst request (word_request bus part)
word-is bus request part width is = record {
  legal = legal-wider (word_request bus part) bus 128 (bus-most bus width) (word-legal bus part width);
  same_page = word-page bus part width ∙ is.same_page;
  lines = lines;
}
  where
    lines : IsOnLines request (word_request bus part)
    lines zero few =
        ap (is_in (lines_of_burst request)) (word-line bus part.addr width ∙ ap line_number (sym (first-beat part)))
        ∙ is.lines 0 (omega arith)
    lines (suc beat) few = absurd (omega (arith, few))

words-are : (bus : ℕ) (request : Addr) (parts : List Addr) → IsBusWidth bus → All (IsOfBurst request) parts → All (IsOfBurst request) (map (word_request bus) parts)
words-are bus request [] width all = All-nil (IsOfBurst request)
words-are bus request (part ∷ parts) width all =
    All-cons (IsOfBurst request) (word_request bus part) (map (word_request bus) parts) (word-is bus request part width (All-head (IsOfBurst request) part parts all))
    (words-are bus request parts width (All-tail (IsOfBurst request) part parts all))

pub of-words : (bus : ℕ) (request : Addr) (parts : List Addr) → IsBusWidth bus → AreOfBurst request parts → AreOfBurst request (map (word_request bus) parts)
of-words bus request [] width are = absurd (omega (arith, are.some))
of-words bus request (part ∷ parts) width are = record { some = omega arith; each = words-are bus request (part ∷ parts) width are.each }
