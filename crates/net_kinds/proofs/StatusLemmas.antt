-- Nodes make the responses to a transaction of those to what they send on: each is the worst status of its bytes.
use Rattle.std.proofs.Common.{◌≡◌, ◌≤◌, ◌+◌, ◌-◌, ◌++◌, ℕ, zero, suc, Bool, true, false, cond, List, [], ◌∷◌, Some, map, refl, sym, ◌∙◌, ap, ap₂, subst, arith}
use Rattle.std.specs.Prelude.{All, Contains, zip}
use Rattle.std.specs.List.{AllZip, range_with_len}
use Rattle.std.proofs.lemmas.List.{append-nil}
use Rattle.std.proofs.lemmas.List.Elements.{All-cons, All-contains, All-head, All-nil, All-tail}
use Rattle.std.proofs.lemmas.Option.{none-some, same_Some}
use Rattle.axi_beats.specs.Bus.{IsBusWidth}
use Rattle.axi_beats.specs.declared.beat.Addr.{Addr}
use Rattle.axi_beats.specs.declared.beat.WBeat.{WBeat}
use Rattle.axi_beats.specs.declared.response.Resp.{Resp}
use Rattle.axi_trail.specs.Schedule.{Schedule, Share}
use Rattle.burst_address.proofs.Legality.{legal-wider}
use Rattle.burst_address.proofs.LaneBytes.{lanes-are_bytes, lanes-ordered}
use Rattle.burst_address.specs.Bytes.{Byte, beat_bytes, written_bytes}
use Rattle.burst_address.specs.Formulas.{beats_of}
use Rattle.burst_address.specs.Lanes.{first_lane, last_lane, valid_span, word_address}
use Rattle.burst_address.specs.Legal.{IsLegal}
use Rattle.burst_cuts.proofs.CutLemmas.{map-append}
use Rattle.demux_node.specs.DemuxTrail.{port_of_parts}
use Rattle.lite_node.proofs.WordLemmas.{word-same, word-written}
use Rattle.lite_node.specs.LiteTable.{word_request}
use Rattle.net_kinds.proofs.CutLemmas.{beats-cut}
use Rattle.net_kinds.proofs.GroupStatuses.{groups-written}
use Rattle.net_kinds.specs.NodeCuts.{StatusesMerge, bytes_of_beat, responses_by, worst_from}
use Rattle.net_kinds.specs.NodeKind.{KindName, StateOf, kind_by_name}
use Rattle.net_kinds.specs.NodeKind.KindName.{ADemux, ALite, ALiteMemory, AManager, AMemory, AMux, ARemap, ASlice, ASplit, AnError, AnUp}
use Rattle.node_shape.specs.LegalSchedule.{IsDataOf}
use Rattle.node_shape.specs.LinkForm.{IsAlike, IsSingle, LinkForm, bytes_within, wanted_span}
use Rattle.node_shape.specs.WaysAround.{IsCarried}
use Rattle.plain_lists.proofs.PlaceLemmas.{contains-at}
use Rattle.split_node.specs.SplitTrail.{joined_responses, split_share}
use Rattle.subordinate.specs.Parts.{BeatOf, beats_of_parts}
use Rattle.up_node.proofs.CutLemmas.{written-moved}
use Rattle.up_node.specs.UpBeats.{beat_widened}
use Rattle.up_node.specs.UpCut.{beat_shifts, data_widened, moved_each, share_widened}
use Rattle.up_node.specs.UpState.{IsUpShape}
use Rattle.up_node.specs.UpTrail.{on_wider}
use Rattle.up_node.specs.declared.shape.UpShape.{UpShape}

only : (x y : ℕ) → Contains (y ∷ []) x → x ≡ y
only x y (zero, within, same) = sym same
only x y (suc k, within, same) = absurd (omega (arith, within))

-- ---- the bytes that are wanted of a beat on an AXI4 link

shifted : (word a n : ℕ) → map (λ k. word + k) (range_with_len a n) ≡ range_with_len (word + a) n
shifted word a zero = refl
shifted word a (suc n) =
    let next : word + (a + 1) ≡ word + a + 1 = omega arith in
    ap (λ (rest : List ℕ). (word + a) ∷ rest) (shifted word (a + 1) n ∙ ap (λ b. range_with_len b n) next)

bytes-on : (a : Addr) (n bus : ℕ) → IsBusWidth bus → IsLegal a bus → bytes_within (word_address a n bus) (valid_span a n bus) ≡ beat_bytes a n
bytes-on a n bus width legal =
    let order = lanes-ordered a n bus width legal in
    let word = word_address a n bus in
    let first = first_lane a n bus in
    let count : last_lane a n bus + 1 - first_lane a n bus ≡ last_lane a n bus - first_lane a n bus + 1 = omega (arith, order) in
    ap (λ (k : ℕ). range_with_len (word_address a n bus + first_lane a n bus) k) count
    ∙ sym (shifted word first (last_lane a n bus - first_lane a n bus + 1)) ∙ lanes-are_bytes a n bus width legal

span-full : (form : LinkForm) (a : Addr) (n : ℕ) → form.lite ≡ false → wanted_span form a n ≡ valid_span a n form.bus
span-full form a n full = ap (λ (b : Bool). cond b (record { low = a.tag.low; high = a.tag.high }) (valid_span a n form.bus)) full

pub wanted-on_full : (form : LinkForm) (b : BeatOf) → form.lite ≡ false → IsBusWidth form.bus → IsLegal b.request form.bus → bytes_of_beat form b ≡ beat_bytes b.request b.beat
wanted-on_full form b full width legal =
    ap (bytes_within (word_address b.request b.beat form.bus)) (span-full form b.request b.beat full) ∙ bytes-on b.request b.beat form.bus width legal

-- ---- where it goes on as it is

module _ (least : Resp) (status : ℕ → Resp) where
  abbrev written_response : ℕ → Addr × List WBeat → Resp
  written_response bus p = worst_from least (λ (byte : Byte). status byte.address) (written_bytes bus p.0 p.1)

  abbrev beat_response : LinkForm → BeatOf → Resp
  beat_response form b = worst_from least status (bytes_of_beat form b)

  -- only the protocol and the bus of a link have a say
  same-form : (form other : LinkForm) → other.lite ≡ form.lite → other.bus ≡ form.bus → (write : Bool) (share : Share) → responses_by least status other write share ≡ responses_by least status form write share
  same-form form other lite bus write share =
      ap (λ (b : Bool). responses_by least status (record { lite = b; bus = other.bus; id_width = 0; single = false }) write share) lite
      ∙ ap (λ (n : ℕ). responses_by least status (record { lite = form.lite; bus = n; id_width = 0; single = false }) write share) bus

  -- ---- a splitter

  split-statuses : (form : LinkForm) (write : Bool) (link : ℕ) (share : Share) → form.lite ≡ false → IsCarried form write link share →
      joined_responses write share (responses_by least status form write (split_share share)) ≡ responses_by least status form write share
  split-statuses form true link share full is = groups-written least (λ (byte : Byte). status byte.address) form.bus share.parts share.write_data (is.fits.write_data refl)
  split-statuses form false link share full is = beats-cut (beat_response form) (λ a n. refl) share.parts

  -- ---- a Lite bridge

  module _ (bus : ℕ) (above below : LinkForm) (is : IsBusWidth bus) (full : above.lite ≡ false) (lite : below.lite ≡ true) (bus_above : above.bus ≡ bus) (bus_below : below.bus ≡ bus) where
    abbrev word : Addr → Addr
    word = word_request bus

    word-beat : (a : Addr) → IsSingle a → bytes_of_beat below (record { request = word a; beat = 0 }) ≡ bytes_of_beat above (record { request = a; beat = 0 })
    word-beat a single =
        ap (λ (n : ℕ). bytes_within (word_address (word a) 0 n) (wanted_span below (word a) 0)) bus_below
        ∙ ap (λ (w : ℕ). bytes_within w (wanted_span below (word a) 0)) (word-same bus a is single.burst)
        ∙ ap (λ (b : Bool). bytes_within (word_address a 0 bus) (cond b (valid_span a 0 bus) (valid_span (word a) 0 below.bus))) lite
        ∙ sym (ap (bytes_within (word_address a 0 above.bus)) (span-full above a 0 full) ∙ ap (λ (n : ℕ). bytes_within (word_address a 0 n) (valid_span a 0 n)) bus_above)

    words-reads : (parts : List Addr) → All IsSingle parts → map (beat_response below) (beats_of_parts (map word parts)) ≡ map (beat_response above) (beats_of_parts parts)
    words-reads [] all = refl
    words-reads (a ∷ parts) all =
        let single = All-head IsSingle a parts all in
        ap₂ (λ (x : Resp) (xs : List Resp). x ∷ xs) (ap (worst_from least status) (word-beat a single)) (words-reads parts (All-tail IsSingle a parts all))
        ∙ ap (λ (n : ℕ). map (beat_response above) (map (λ k. record { request = a; beat = k }) (range_with_len 0 (n + 1)) ++ beats_of_parts parts)) (sym single.len)

    words-writes : (parts : List Addr) (ws : List (List WBeat)) → All IsSingle parts → All (λ (part : Addr). IsLegal part bus) parts → AllZip (IsDataOf bus) parts ws →
        map (written_response bus) (zip (map word parts) ws) ≡ map (written_response bus) (zip parts ws)
    words-writes [] ws all legal fit = refl
    words-writes (a ∷ parts) [] all legal fit = refl
    words-writes (a ∷ parts) (w ∷ ws) all legal fit =
        let single = All-head IsSingle a parts all in
        ap₂ (λ (x : Resp) (xs : List Resp). x ∷ xs)
        (ap (worst_from least (λ (byte : Byte). status byte.address)) (word-written bus a w is (All-head (λ (part : Addr). IsLegal part bus) a parts legal) single.len single.burst fit.0))
        (words-writes parts ws (All-tail IsSingle a parts all) (All-tail (λ (part : Addr). IsLegal part bus) a parts legal) fit.1)

    lite-statuses : (write : Bool) (link : ℕ) (share : Share) → above.single ≡ true → IsCarried above write link share →
        responses_by least status below write (record share { parts = map word share.parts }) ≡ responses_by least status above write share
    lite-statuses true link share single carried =
        ap (λ (n : ℕ). map (written_response n) (zip (map word share.parts) share.write_data)) bus_below
        ∙ words-writes share.parts share.write_data (carried.fits.single single) (subst (λ (n : ℕ). All (λ (part : Addr). IsLegal part n) share.parts) bus_above carried.fits.legal)
        (subst (λ (n : ℕ). AllZip (IsDataOf n) share.parts share.write_data) bus_above (carried.fits.write_data refl))
        ∙ sym (ap (λ (n : ℕ). map (written_response n) (zip share.parts share.write_data)) bus_above)
    lite-statuses false link share single carried = words-reads share.parts (carried.fits.single single)

  -- ---- an up converter

  module _ (shape : UpShape) (is : IsUpShape shape) (form : LinkForm) (full : form.lite ≡ false) (narrow : form.bus ≡ shape.narrow) where
    one-moved : (a : Addr) (w : List WBeat) → IsLegal a shape.narrow → IsDataOf shape.narrow a w →
        written_bytes shape.wide a (moved_each (beat_widened shape) (beat_shifts shape a) w) ≡ written_bytes shape.narrow a w
    one-moved a w legal fit =
        let L : Addr → Type 0 = λ part. IsLegal part shape.narrow in
        sym (append-nil (written_bytes shape.wide a (moved_each (beat_widened shape) (beat_shifts shape a) w)))
        ∙ written-moved shape is (a ∷ []) (w ∷ []) (All-cons L a [] legal (All-nil L)) (fit, tt)
        ∙ append-nil (written_bytes shape.narrow a w)

    wider-writes : (parts : List Addr) (ws : List (List WBeat)) → All (λ (part : Addr). IsLegal part shape.narrow) parts → AllZip (IsDataOf shape.narrow) parts ws →
        map (written_response shape.wide) (zip parts (data_widened shape parts ws)) ≡ map (written_response shape.narrow) (zip parts ws)
    wider-writes [] ws legal fit = refl
    wider-writes (a ∷ parts) [] legal fit = refl
    wider-writes (a ∷ parts) (w ∷ ws) legal fit =
        let L : Addr → Type 0 = λ part. IsLegal part shape.narrow in
        ap₂ (λ (x : Resp) (xs : List Resp). x ∷ xs)
        (ap (worst_from least (λ (byte : Byte). status byte.address)) (one-moved a w (All-head L a parts legal) fit.0))
        (wider-writes parts ws (All-tail L a parts legal) fit.1)

    wider-beat : (a : Addr) (n : ℕ) → IsLegal a shape.narrow → bytes_of_beat (on_wider shape.wide form) (record { request = a; beat = n }) ≡ bytes_of_beat form (record { request = a; beat = n })
    wider-beat a n legal =
        let wider : shape.narrow ≤ shape.wide = let less = is.wider in omega (arith, less) in
        wanted-on_full (on_wider shape.wide form) (record { request = a; beat = n }) full is.wide (legal-wider a shape.narrow shape.wide wider legal)
        ∙ sym (wanted-on_full form (record { request = a; beat = n }) full (subst IsBusWidth (sym narrow) is.narrow) (subst (IsLegal a) (sym narrow) legal))

    wider-beats : (a : Addr) (ns : List ℕ) → IsLegal a shape.narrow →
        map (beat_response (on_wider shape.wide form)) (map (λ n. record { request = a; beat = n }) ns) ≡ map (beat_response form) (map (λ n. record { request = a; beat = n }) ns)
    wider-beats a [] legal = refl
    wider-beats a (n ∷ ns) legal = ap₂ (λ (x : Resp) (xs : List Resp). x ∷ xs) (ap (worst_from least status) (wider-beat a n legal)) (wider-beats a ns legal)

    wider-reads : (parts : List Addr) → All (λ (part : Addr). IsLegal part shape.narrow) parts →
        map (beat_response (on_wider shape.wide form)) (beats_of_parts parts) ≡ map (beat_response form) (beats_of_parts parts)
    wider-reads [] legal = refl
    wider-reads (a ∷ parts) legal =
        let L : Addr → Type 0 = λ part. IsLegal part shape.narrow in
        let own : List BeatOf = map (λ n. record { request = a; beat = n }) (range_with_len 0 (beats_of a)) in
        map-append (beat_response (on_wider shape.wide form)) own (beats_of_parts parts)
        ∙ ap₂ (λ (xs ys : List Resp). xs ++ ys) (wider-beats a (range_with_len 0 (beats_of a)) (All-head L a parts legal)) (wider-reads parts (All-tail L a parts legal))
        ∙ sym (map-append (beat_response form) own (beats_of_parts parts))

    up-statuses : (write : Bool) (link : ℕ) (share : Share) → IsCarried form write link share →
        responses_by least status (on_wider shape.wide form) write (share_widened shape share) ≡ responses_by least status form write share
    up-statuses true link share carried =
        wider-writes share.parts share.write_data (subst (λ (n : ℕ). All (λ (part : Addr). IsLegal part n) share.parts) narrow carried.fits.legal)
        (subst (λ (n : ℕ). AllZip (IsDataOf n) share.parts share.write_data) narrow (carried.fits.write_data refl))
        ∙ sym (ap (λ (n : ℕ). map (written_response n) (zip share.parts share.write_data)) narrow)
    up-statuses false link share carried = wider-reads share.parts (subst (λ (n : ℕ). All (λ (part : Addr). IsLegal part n) share.parts) narrow carried.fits.legal)

-- ---- by kind

abbrev StatusesOf : (name : KindName) → StateOf name → Type 0
StatusesOf name s =
    (forms : ℕ → LinkForm) (schedules : ℕ → Schedule) → (kind_by_name name).begins s → (kind_by_name name).is_sound forms schedules s →
    (write : Bool) (link next : ℕ) (share : Share) → Contains ((kind_by_name name).uppers s) link → IsCarried (forms link) write link share →
    ((kind_by_name name).way s).goes_on share ≡ Some next → (least : Resp) (status : ℕ → Resp) →
    ((kind_by_name name).way s).merged write share (responses_by least status (forms next) write (((kind_by_name name).way s).cut share)) ≡ responses_by least status (forms link) write share

by-slice : (s : StateOf ASlice) → StatusesOf ASlice s
by-slice s forms schedules new sound write link next share among carried goes least status =
    let below : forms next ≡ forms link = ap forms (sym (same_Some s.lower next goes)) ∙ sound ∙ ap forms (sym (only link s.upper among)) in
    ap (λ (f : LinkForm). responses_by least status f write share) below

by-mux : (s : StateOf AMux) → StatusesOf AMux s
by-mux s forms schedules new sound write link next share among carried goes least status =
    let alike = All-contains (λ l. IsAlike (forms l) (forms s.shape.lower)) s.shape.uppers link sound.alike among in
    ap (λ (l : ℕ). responses_by least status (forms l) write share) (sym (same_Some s.shape.lower next goes))
    ∙ same-form least status (forms link) (forms s.shape.lower) alike.lite alike.bus write share

by-demux : (s : StateOf ADemux) → StatusesOf ADemux s
by-demux s forms schedules new sound write link next share among carried goes least status =
    let equal : forms next ≡ forms s.shape.upper = All-contains (λ l. forms l ≡ forms s.shape.upper) s.shape.lowers next sound.alike (contains-at s.shape.lowers (port_of_parts s.shape share.parts) next goes) in
    ap (λ (f : LinkForm). responses_by least status f write share) (equal ∙ ap forms (sym (only link s.shape.upper among)))

by-remap : (s : StateOf ARemap) → StatusesOf ARemap s
by-remap s forms schedules new sound write link next share among carried goes least status =
    ap (λ (l : ℕ). responses_by least status (forms l) write share) (sym (same_Some s.shape.lower next goes))
    ∙ same-form least status (forms s.shape.upper) (forms s.shape.lower) sound.alike.lite sound.alike.bus write share
    ∙ ap (λ (l : ℕ). responses_by least status (forms l) write share) (sym (only link s.shape.upper among))

by-up : (s : StateOf AnUp) → StatusesOf AnUp s
by-up s forms schedules new sound write link next share among carried goes least status =
    let shape = s.shape in
    let upper : link ≡ shape.upper = only link shape.upper among in
    let below : forms next ≡ on_wider shape.wide (forms link) = ap forms (sym (same_Some shape.lower next goes)) ∙ sound.below ∙ ap (λ l. on_wider shape.wide (forms l)) (sym upper) in
    ap (λ (f : LinkForm). responses_by least status f write (share_widened shape share)) below
    ∙ up-statuses least status shape new.shape (forms link) (ap (λ l. (forms l).lite) upper ∙ sound.full) (ap (λ l. (forms l).bus) upper ∙ sound.narrow) write link share carried

by-split : (s : StateOf ASplit) → StatusesOf ASplit s
by-split s forms schedules new sound write link next share among carried goes least status =
    let upper : link ≡ s.upper = only link s.upper among in
    let lower : next ≡ s.lower = sym (same_Some s.lower next goes) in
    let full : (forms link).lite ≡ false = ap (λ l. (forms l).lite) upper ∙ sound.above in
    let lite : (forms next).lite ≡ (forms link).lite = ap (λ l. (forms l).lite) lower ∙ sound.below ∙ sym full in
    let bus : (forms next).bus ≡ (forms link).bus = ap (λ l. (forms l).bus) lower ∙ sound.bus ∙ ap (λ l. (forms l).bus) (sym upper) in
    ap (joined_responses write share) (same-form least status (forms link) (forms next) lite bus write (split_share share))
    ∙ split-statuses least status (forms link) write link share full carried

by-lite : (s : StateOf ALite) → StatusesOf ALite s
by-lite s forms schedules new sound write link next share among carried goes least status =
    let upper : link ≡ s.shape.upper = only link s.shape.upper among in
    let lower : next ≡ s.shape.lower = sym (same_Some s.shape.lower next goes) in
    lite-statuses least status s.shape.bus (forms link) (forms next) new.bus (ap (λ l. (forms l).lite) upper ∙ sound.full) (ap (λ l. (forms l).lite) lower ∙ sound.lite)
    (ap (λ l. (forms l).bus) upper ∙ sound.bus_above) (ap (λ l. (forms l).bus) lower ∙ sound.bus_below) write link share (ap (λ l. (forms l).single) upper ∙ sound.single) carried

statuses-by : (name : KindName) (s : StateOf name) → StatusesOf name s
statuses-by ASlice s = by-slice s
statuses-by AMux s = by-mux s
statuses-by ADemux s = by-demux s
statuses-by ARemap s = by-remap s
statuses-by AnUp s = by-up s
statuses-by ASplit s = by-split s
statuses-by ALite s = by-lite s
statuses-by AManager s = λ forms schedules new sound write link next share among carried goes least status. absurd (none-some next goes)
statuses-by AMemory s = λ forms schedules new sound write link next share among carried goes least status. absurd (none-some next goes)
statuses-by AnError s = λ forms schedules new sound write link next share among carried goes least status. absurd (none-some next goes)
statuses-by ALiteMemory s = λ forms schedules new sound write link next share among carried goes least status. absurd (none-some next goes)

pub statuses-merge : StatusesMerge
statuses-merge forms schedules s new sound write link next share among carried goes least status =
    statuses-by s.kind s.state forms schedules new sound write link next share among carried goes least status
