-- A Lite memory over what it has passed on its link and accessed.
use Rattle.std.proofs.Common.{◌≡◌, ◌<◌, ◌+◌, ℕ, suc, false, List, [], ◌∷◌, length, map, refl, sym, ap, subst}
use Rattle.std.specs.Prelude.{All}
use Rattle.std.specs.List.{range_with_len}
use Rattle.std.proofs.lemmas.List.Elements.{All-append, All-cons, All-drop, All-head, All-nil, All-tail}
use Rattle.axi_beats.specs.declared.beat.Addr.{Addr}
use Rattle.axi_link.specs.LinkWords.{link_of}
use Rattle.axi_trail.specs.LinkContracts.{Answers, Asks, without_id}
use Rattle.axi_trail.specs.Schedule.{Schedule}
use Rattle.axi_trail.specs.Trail.{seen_below}
use Rattle.axi_trail.specs.Words.{number_of_read_data}
use Rattle.burst_address.specs.Formulas.{beats_of}
use Rattle.axi_beats.specs.Bus.{IsBusWidth}
use Rattle.lite_memory_node.specs.LiteMemoryTable.{tag_span}
use Rattle.lite_memory_node.specs.LiteMemoryTrail.{SuitsLiteMemory, lite_memory_kind}
use Rattle.lite_memory_node.proofs.WordLemmas.{tag-within}
use Rattle.memory_node.specs.Accesses.{accesses_of}
use Rattle.memory_node.specs.Events.{Access}
use Rattle.memory_node.proofs.LaneLemmas.{AreWithin}
use Rattle.memory_node.proofs.TableLemmas.{lines-stay}
use Rattle.memory_node.proofs.TrailLemmas.{answers-on, begun-stands, comes-of, decides, stands-after}
use Rattle.node_shape.specs.Kind.{passed_after}
use Rattle.node_shape.specs.KindLaws.{AnswersAbove, AsksBelow, Lasts, MayDecide, Opens}
use Rattle.node_shape.specs.LinkForm.{IsSingle, IsWordRequest}
use Rattle.node_shape.specs.WayLaws.{FillsAtEnds}
use Rattle.node_shape.proofs.OneLinkLemmas.{all-one, of-one, one-has}
use Rattle.plain_lists.specs.Keys.{of_key}
use Rattle.subordinate.specs.Parts.{BeatOf, beats_of_parts}

-- ---- the wanted lanes of each beat are valid

one-beat : {X : Type 0} (f : ℕ → X) (len : ℕ) → len ≡ 0 → map f (range_with_len 0 (len + 1)) ≡ f 0 ∷ []
one-beat f len single = ap (λ (n : ℕ). map f (range_with_len 0 (n + 1))) single

beats-fit : (bus : ℕ) → IsBusWidth bus → (parts : List Addr) → All (IsWordRequest bus) parts → All IsSingle parts → All (λ (b : BeatOf). AreWithin bus (tag_span b) b) (beats_of_parts parts)
beats-fit bus width [] words single = All-nil (λ (b : BeatOf). AreWithin bus (tag_span b) b)
beats-fit bus width (a ∷ parts) words single =
    let Fit : BeatOf → Type 0 = λ b. AreWithin bus (tag_span b) b in
    let word = All-head (IsWordRequest bus) a parts words in
    let alone = All-head IsSingle a parts single in
    All-append Fit (map (λ n. record { request = a; beat = n }) (range_with_len 0 (beats_of a))) (beats_of_parts parts)
    (subst (λ (bs : List BeatOf). All Fit bs) (sym (one-beat (λ n. record { request = a; beat = n }) a.len alone.len))
    (All-cons Fit (record { request = a; beat = 0 }) [] (tag-within bus a width word alone) (All-nil Fit)))
    (beats-fit bus width parts (All-tail (IsWordRequest bus) a parts words) (All-tail IsSingle a parts single))

-- ---- the trail

pub lite_memory-opens : Opens lite_memory_kind
lite_memory-opens schedules s new suits =
    let stands = begun-stands tag_span (schedules s.inner.upper) s new in
    record { suits = suits; order = stands.order; reads = stands.reads; accessed = stands.accessed }

pub lite_memory-may_decide : MayDecide lite_memory_kind
lite_memory-may_decide schedules now rounds links s passed fact suits above below asked =
    let u : ℕ = s.inner.upper in
    decides (schedules u) now links s (passed.uppers u) (of-one (λ l. l < length links) u above) suits.writes suits.lines_kept suits.reads suits.strobes
    (of-one (λ l. Asks (schedules l) now (seen_below (passed.uppers l) (link_of links l))) u asked)

pub lite_memory-lasts : Lasts lite_memory_kind
lite_memory-lasts schedules now rounds links s passed fact keeps can around =
    let u : ℕ = s.inner.upper in
    let schedule : Schedule = schedules u in
    let after = stands-after tag_span schedule now links s (passed.uppers u) passed.noted fact keeps.suits.service keeps.suits.lanes (λ a n. refl)
    (record { order = keeps.order; reads = keeps.reads; accessed = keeps.accessed })
    (of-one (λ l. Asks (schedules l) now (passed.uppers l)) u around.asked)
    (of-one (λ l. Asks (schedules l) now ((passed_after lite_memory_kind (suc rounds) links s passed).uppers l)) u around.asked_next)
    (λ e rest entry place.
    let t : ℕ = e.request.tag.txn in
    let Fit : BeatOf → Type 0 = λ b. AreWithin s.area.bus (tag_span b) b in
    let beats : List BeatOf = beats_of_parts (schedule.reads t).parts in
    let all : All Fit beats = beats-fit s.area.bus fact.area.bus (schedule.reads t).parts (keeps.suits.words t) (keeps.suits.single t) in
    let left : All Fit (record { request = without_id e.request; beat = e.put } ∷ rest) =
    subst (λ (bs : List BeatOf). All Fit bs) place (All-drop Fit (length (of_key number_of_read_data t (passed.uppers u).r)) beats all) in
    let fit = All-head Fit (record { request = without_id e.request; beat = e.put }) rest left in
    record { from = fit.from; some = fit.some; to = fit.to }) in
    record {
      suits = lines-stay links s (λ lines. SuitsLiteMemory s.area lines schedule) keeps.suits;
      order = after.order;
      reads = after.reads;
      accessed = after.accessed;
    }

pub lite_memory-asks_below : AsksBelow lite_memory_kind
lite_memory-asks_below schedules now rounds s passed fact keeps known asked = All-nil (λ l. Asks (schedules l) now (passed.lowers l))

pub lite_memory-answers_above : AnswersAbove lite_memory_kind
lite_memory-answers_above schedules now rounds s passed fact keeps known above below answered =
    let u : ℕ = s.inner.upper in
    all-one (λ l. Answers (schedules l) now (passed.uppers l)) u
    (answers-on tag_span (schedules u) now s (passed.uppers u) passed.noted keeps.suits.service
    (record { order = keeps.order; reads = keeps.reads; accessed = keeps.accessed })
    (of-one (λ l. Asks (schedules l) now (passed.uppers l)) u above) known.written known.filled)

pub lite_memory-fills_at_ends : FillsAtEnds lite_memory_kind
lite_memory-fills_at_ends schedules rounds s passed keeps number some = record {
  none_below = refl;
  link = s.inner.upper;
  among = one-has s.inner.upper;
  comes = comes-of s.area tag_span ((schedules s.inner.upper).reads number).parts (map (λ (a : Access). a.byte.value) (accesses_of false number passed.noted)) some;
}
