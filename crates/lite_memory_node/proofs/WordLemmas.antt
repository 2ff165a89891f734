-- The lanes of a request for a whole word.
use Rattle.std.proofs.Common.{◌≡◌, ◌+◌, ◌-◌, ◌*◌, ◌/◌, ◌%◌, ◌&&◌, ℕ, Bool, cond, List, [], ◌∷◌, map, refl, ◌∙◌, ap, ap₂, arith}
use Rattle.std.specs.Prelude.{nat_le, nat_lt}
use Rattle.std.specs.List.{range_with_len}
use Rattle.std.proofs.lemmas.Bool.{le-leb}
use Rattle.axi_beats.specs.Bus.{IsBusWidth}
use Rattle.axi_beats.specs.declared.beat.Addr.{Addr}
use Rattle.axi_beats.specs.declared.beat.Burst.{Burst}
use Rattle.burst_address.specs.Formulas.{address_by_kind, aligned, beat_at, beats_of, size_of}
use Rattle.burst_address.specs.Lanes.{first_lane, is_valid, lane_address, lane_count, last_lane, valid_lanes, word_address}
use Rattle.burst_address.specs.Status.{worst_among}
use Rattle.burst_address.proofs.Widths.{width-cases}
use Rattle.lite_memory_node.specs.LiteMemoryTable.{tag_span}
use Rattle.lite_memory_node.specs.WordLaws.{AnswersWholeWord, AnswersWordStatus}
use Rattle.memory_node.specs.Beats.{answered_byte}
use Rattle.memory_node.specs.Status.{read_status}
use Rattle.memory_node.proofs.LaneLemmas.{AreWithin}
use Rattle.node_shape.specs.LinkForm.{IsSingle, IsWordRequest}

module _ (bus : ℕ) (request : Addr) (width : IsBusWidth bus) (word : IsWordRequest bus request) (single : IsSingle request) where
  starts : beat_at request 0 ≡ request.addr
  starts = ap (λ (b : Burst). address_by_kind b (size_of request) (beats_of request) request.addr 0) single.burst

  pub first-is : first_lane request 0 bus ≡ 0
  first-is = ap (λ (x : ℕ). x % bus) starts ∙ word.aligned

  pub last-is : last_lane request 0 bus + 1 ≡ bus
  last-is =
      ap (λ (x : ℕ). (aligned (size_of request) x + size_of request - 1) % bus + 1) starts
      ∙ ap (λ (n : ℕ). (aligned n request.addr + n - 1) % bus + 1) word.size
      ∙ width-cases (λ n. (request.addr / n * n + n - 1) % n + 1 ≡ n) bus width (omega arith) (omega arith) (omega arith) (omega arith) (omega arith) (omega arith)

  many-are : lane_count request 0 bus ≡ bus
  many-are = omega (arith, first-is, last-is)

  -- the word is the request's
  word-is : word_address request 0 bus ≡ request.addr
  word-is = ap (aligned bus) starts ∙ width-cases (λ n. request.addr % n ≡ 0 → request.addr / n * n ≡ request.addr) bus width
      (λ e. omega (arith, e)) (λ e. omega (arith, e)) (λ e. omega (arith, e)) (λ e. omega (arith, e)) (λ e. omega (arith, e)) (λ e. omega (arith, e)) word.aligned

  -- all lanes of the bus are valid
  pub lanes-are : valid_lanes request 0 bus ≡ range_with_len 0 bus
  lanes-are = ap₂ (λ (first many : ℕ). range_with_len first many) first-is many-are

  pub valid-is : (lane : ℕ) → is_valid request 0 bus lane ≡ nat_lt lane bus
  valid-is lane =
      let end : first_lane request 0 bus + lane_count request 0 bus ≡ bus = omega (arith, first-is, many-are) in
      ap₂ (λ (first end : ℕ). nat_le first lane && nat_lt lane end) first-is end
      ∙ ap (λ (b : Bool). b && nat_lt lane bus) (le-leb 0 lane (omega arith))

  -- so its wanted lanes are valid
  pub tag-within : AreWithin bus (tag_span (record { request = request; beat = 0 })) (record { request = request; beat = 0 })
  tag-within = record {
    from = omega (arith, first-is);
    some = word.low;
    to = omega (arith, last-is, word.high);
  }

pub answers-whole_word : AnswersWholeWord
answers-whole_word area store request is word single =
    go (range_with_len 0 128)
  where
    go : (lanes : List ℕ) → map (λ lane. cond (is_valid request 0 area.bus lane) (answered_byte area store (lane_address request 0 area.bus lane)) 0) lanes
        ≡ map (λ lane. cond (nat_lt lane area.bus) (answered_byte area store (request.addr + lane)) 0) lanes
    go [] = refl
    go (lane ∷ lanes) =
        ap₂ (λ (x : ℕ) (t : List ℕ). x ∷ t)
        (ap₂ (λ (b : Bool) (w : ℕ). cond b (answered_byte area store (w + lane)) 0) (valid-is area.bus request is.bus word single lane) (word-is area.bus request is.bus word single))
        (go lanes)

pub answers-word_status : AnswersWordStatus
answers-word_status area request is word single =
    ap₂ (λ (w : ℕ) (lanes : List ℕ). worst_among (map (λ lane. read_status area (w + lane)) lanes)) (word-is area.bus request is.bus word single) (lanes-are area.bus request is.bus word single)
