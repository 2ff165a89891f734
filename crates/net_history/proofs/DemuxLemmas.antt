-- Where two transactions of a chain part at a demux, all answers to the earlier one have been put on the link above it when
-- the later one has come there.
use Rattle.std.proofs.Common.{◌≡◌, ◌≢◌, ◌<◌, ◌≤◌, ◌==◌, ◌++◌, [], ◌∷◌, ℕ, zero, suc, Bool, true, false, List, Option, Some, append-nil, append_assoc, length, length-append, map, refl, sym, ap, ◌∙◌, subst, inl, inr, arith}
use Rattle.std.specs.Prelude.{◌⊎◌, Contains}
use Rattle.std.specs.List.{range_with_len}
use Rattle.std.specs.Option.{option_map_or}
use Rattle.std.proofs.lemmas.Bool.{cases_eq}
use Rattle.std.proofs.lemmas.List.{length-map}
use Rattle.std.proofs.lemmas.List.FromFn.{length-range_with_len}
use Rattle.std.proofs.lemmas.List.Folds.{Any-from_list_any}
use Rattle.axi_beats.specs.declared.beat.Addr.{Addr}
use Rattle.axi_trail.proofs.OrderFacts.{own_requests_in_order}
use Rattle.axi_trail.specs.LinkContracts.{Asks, OneIdAtATime, WholeBeforeTheNext, without_id}
use Rattle.axi_trail.specs.Schedule.{ComesBefore, SameChain, Schedule, Share}
use Rattle.axi_trail.specs.Trail.{Beats, trail_below}
use Rattle.axi_trail.specs.Words.{Asked, InOrderOfId, Reply, beats_due, burst_asked, number_of_address, number_of_asked, number_of_read_data, number_of_reply, number_of_response, read_replies, read_reply, reads_asked, write_asked, write_replies, write_reply, writes_asked}
use Rattle.burst_address.specs.Formulas.{beats_of}
use Rattle.burst_cuts.proofs.ShownLemmas.{same-beats}
use Rattle.demux_node.specs.DemuxState.{DemuxShape, DemuxState}
use Rattle.demux_node.specs.DemuxTrail.{OthersAreAnswered, lower_of_parts}
use Rattle.manager_node.specs.ManagerState.{ManagerState}
use Rattle.manager_node.specs.Script.{ScriptItem}
use Rattle.net_history.proofs.AskedLemmas.{asked_on, is_asked, some-all}
use Rattle.net_history.proofs.DoneLemmas.{AreAnswersThere, read-share, some-on, written-share}
use Rattle.net_history.proofs.ItemLemmas.{carried-is, now, schedules}
use Rattle.net_history.proofs.ManagerRuns.{run-keeps}
use Rattle.net_history.proofs.PartLemmas.{IsDemuxAt}
use Rattle.net_history.proofs.RoundLemmas.{IsItem}
use Rattle.net_history.proofs.RunStates.{holds-at, run_state}
use Rattle.net_kinds.specs.NodeHolds.{node_holds}
use Rattle.net_kinds.specs.NodeKind.{NodeState, node_kind}
use Rattle.net_kinds.specs.NodeKind.KindName.{ADemux}
use Rattle.net_model.specs.Network.{Network, lower_node}
use Rattle.net_runs.proofs.ContractFacts.{asked-below}
use Rattle.net_runs.specs.Run.{chosen, lower_end, passed_by, queues_after}
use Rattle.net_ways.proofs.KnownLemmas.{is-scheduled}
use Rattle.net_ways.specs.Sound.{IsSound}
use Rattle.net_ways.specs.Ways.{carried}
use Rattle.node_core.specs.Acted.{Acted}
use Rattle.node_shape.specs.LinkForm.{LinkForm}
use Rattle.plain_lists.proofs.KeyLemmas.{find_key, of_key-append, of_key-map, of_key-skip}
use Rattle.plain_lists.proofs.PrefixLemmas.{prefix_append, prefix_length, prefix_of_key, prefix_whole}
use Rattle.plain_lists.specs.Keys.{of_key}
use Rattle.plain_lists.specs.Prefixes.{IsPrefix}
use Rattle.subordinate.specs.Parts.{BeatOf, beats_of_parts}

-- ---- over plain lists

-- the last element of a key
find-last : {X : Type 0} (key_of : X → ℕ) (key : ℕ) (xs : List X) →
    (of_key key_of key xs ≡ []) ⊎ ((before : List X) × (x : X) × (after : List X) × (xs ≡ before ++ x ∷ after) × (key_of x ≡ key) × (of_key key_of key after ≡ []))
find-last key_of key [] = inl refl
find-last {X} key_of key (y ∷ xs) = elim (find-last key_of key xs) [
  | inr found ↦ inr (y ∷ found.0, found.1, found.2, ap (λ (l : List X). y ∷ l) found.3, found.4, found.5)
  | inl none ↦ elim (cases_eq (key_of y) key) [
    | inl own ↦ inr ([], y, xs, refl, own, none)
    | inr other ↦ inl (of_key-skip key_of key y xs other ∙ none)
  ]
]

-- The requests that a transaction is cut into, among the first ones: all of them, and all their answers have come.
pub record AreWhollyAnswered (shares : ℕ → Share) (asked : List Asked) (replies : List Reply) (t : ℕ) : Type 0 where
  pub front : List Asked
  pub first : IsPrefix (of_key number_of_asked t front) (of_key number_of_asked t asked)
  pub many : length (of_key number_of_asked t front) ≡ length (shares t).parts
  pub answers : beats_due (of_key number_of_asked t front) ≤ length (of_key number_of_reply t replies)

module _ (shares : ℕ → Share) (lower : ℕ → ℕ) (asked : List Asked) (replies : List Reply) (whole : WholeBeforeTheNext shares asked) (one_id : OneIdAtATime shares asked replies) (order : InOrderOfId asked replies)
    (others : OthersAreAnswered shares lower asked replies) where
  -- where the last of some requests of a transaction is answered, all of them are
  answered-last : (front : List Asked) (next : Asked) (after : List Asked) → asked ≡ front ++ next ∷ after →
      (before : List Asked) (a : Asked) (between : List Asked) → front ≡ before ++ a ∷ between → of_key number_of_asked a.number between ≡ [] → SameChain shares a.number next.number → lower a.number ≢ lower next.number →
      beats_due (of_key number_of_asked a.number front) ≤ length (of_key number_of_reply a.number replies)
  answered-last front next after are before a between is last chain apart =
      let key = a.number in
      let own = of_key number_of_asked key (before ++ a ∷ []) in
      let split : asked ≡ (before ++ a ∷ between) ++ next ∷ after = are ∙ ap (λ (xs : List Asked). xs ++ next ∷ after) is in
      let cut : asked ≡ before ++ a ∷ (between ++ next ∷ after) = split ∙ append_assoc before (a ∷ between) (next ∷ after) in
      let enough = (own_requests_in_order shares asked replies one_id order before a (between ++ next ∷ after) cut).0 (others before a between next after split chain apart) in
      let all : of_key number_of_asked key front ≡ own =
      ap (of_key number_of_asked key) (is ∙ sym (append_assoc before (a ∷ []) between)) ∙ of_key-append number_of_asked key (before ++ a ∷ []) between
      ∙ ap (λ (xs : List Asked). own ++ xs) last ∙ append-nil own in
      subst (λ (xs : List Asked). beats_due xs ≤ length (of_key number_of_reply key replies)) (sym all) enough

  -- so it is of a transaction that comes before another one in its chain and goes another way, where a request of the other
  -- one is there
  answered-before : (t u : ℕ) → ComesBefore shares t u → 0 < length (shares t).parts → lower t ≢ lower u → 0 < length (of_key number_of_asked u asked) → AreWhollyAnswered shares asked replies t
  answered-before t u first some apart there = elim (find_key number_of_asked u asked) [
    | inl none ↦ absurd (omega (arith, there, ap length none))
    | inr later ↦
        let next = later.1 in
        let before : ComesBefore shares t next.number = subst (λ (k : ℕ). ComesBefore shares t k) (sym later.4) first in
        let count = whole later.0 next later.2 t later.3 before in
        elim (find-last number_of_asked t later.0) [
          | inl none ↦ absurd (omega (arith, count, some, ap length none))
          | inr found ↦
              let a = found.1 in
              let answers =
              answered-last later.0 next later.2 later.3 found.0 a found.2 found.3 (subst (λ (k : ℕ). of_key number_of_asked k found.2 ≡ []) (sym found.4) found.5)
              (subst (λ (k : ℕ). SameChain shares k next.number) (sym found.4) before.1) (λ same. apart (sym (ap lower found.4) ∙ same ∙ ap lower later.4)) in
              record {
                front = later.0;
                first = subst (λ (xs : List Asked). IsPrefix (of_key number_of_asked t later.0) (of_key number_of_asked t xs)) (sym later.3) (prefix_of_key number_of_asked t (prefix_append later.0 (next ∷ later.2)));
                many = count;
                answers = subst (λ (k : ℕ). beats_due (of_key number_of_asked k later.0) ≤ length (of_key number_of_reply k replies)) found.4 answers;
              }
        ]
  ]

-- each request has an answer
beats-some : (asked : List Asked) → length asked ≤ beats_due asked
beats-some [] = omega arith
beats-some (a ∷ asked) = omega (arith, beats-some asked)

-- and a burst one for each of its beats
beats-counted : (parts : List Addr) → beats_due (map burst_asked parts) ≡ length (beats_of_parts parts)
beats-counted [] = refl
beats-counted (a ∷ parts) =
    let beat : ℕ → BeatOf = λ n. record { request = a; beat = n } in
    let own = map beat (range_with_len 0 (beats_of a)) in
    let count : length own ≡ suc a.len = length-map (range_with_len 0 (beats_of a)) beat ∙ length-range_with_len 0 (beats_of a) ∙ omega arith in
    omega (arith, beats-counted parts, count, length-append own (beats_of_parts parts))

-- the addresses of a transaction, of which there are as many as it has parts, ask for its beats
whole-beats : (addresses : List Addr) (front : List Asked) (parts : List Addr) → IsPrefix (map without_id addresses) parts → IsPrefix front (map burst_asked addresses) → length front ≡ length parts → beats_due front ≡ length (beats_of_parts parts)
whole-beats addresses front parts few first many =
    let most = prefix_length few in
    let shown = length-map addresses without_id in
    let asked = length-map addresses burst_asked in
    let least = prefix_length first in
    let all : map burst_asked addresses ≡ front = prefix_whole front (map burst_asked addresses) first (omega (arith, most, shown, asked, many)) in
    let are : parts ≡ map without_id addresses = prefix_whole (map without_id addresses) parts few (omega (arith, shown, asked, least, many)) in
    ap beats_due (sym all) ∙ sym (same-beats addresses) ∙ ap (λ (ps : List Addr). beats_due (map burst_asked ps)) (sym are) ∙ beats-counted parts

-- a transaction of which an address is there has some
some-asked : (write : Bool) (u : ℕ) (trail : Beats) → is_asked write u trail ≡ true → 0 < length (of_key number_of_address u (asked_on write trail))
some-asked write u trail come =
    let test : Addr → Bool = λ a. number_of_address a == u in
    let some = Any-from_list_any test (asked_on write trail) come in
    some-all test (asked_on write trail) some.1 (some.0, some.2, some.3) some.4

module _ (net : Network NodeState) (forms : ℕ → LinkForm) (sound : IsSound node_kind net forms) where
  -- ---- a demux over the rounds

  module _ (link : ℕ) (known : link < length net.links) (s : DemuxState) (is : IsDemuxAt net (lower_node net.links link) s) (n : ℕ) where
    abbrev node : ℕ
    node = lower_node net.links link

    abbrev schedule : Schedule
    schedule = schedules net forms sound link

    abbrev trail : Beats
    trail = lower_end node_kind net link n

    shape-is : (k : ℕ) → (run_state net ADemux s k).shape ≡ s.shape
    shape-is zero = refl
    shape-is (suc k) = shape-is k

    -- the link above it is this one
    upper-is : s.shape.upper ≡ link
    upper-is =
        only link s.shape.upper
        (subst (λ (o : Option (Acted NodeState)). Contains (option_map_or (λ (a : Acted NodeState). node_kind.uppers a.state) o []) link) is.at (sound.wired.below link known))
      where
        only : (x y : ℕ) → Contains (y ∷ []) x → y ≡ x
        only x y (zero, within, same) = same
        only x y (suc k, within, same) = absurd (omega (arith, within))

    -- answers come in order of each ID, and what goes another way is answered first
    abbrev PartsInOrder : DemuxShape → (ℕ → Share) → List Asked → List Reply → Type 0
    PartsInOrder shape shares asked replies = InOrderOfId asked replies × OthersAreAnswered shares (λ t. lower_of_parts shape (shares t).parts) asked replies

    abbrev BothInOrder : DemuxShape → ℕ → Type 0
    BothInOrder shape upper =
        let beats = trail_below (chosen node_kind net node) (queues_after node_kind net) n upper in
        PartsInOrder shape (schedules net forms sound upper).writes (writes_asked beats) (write_replies beats)
        × PartsInOrder shape (schedules net forms sound upper).reads (reads_asked beats) (read_replies beats)

    both-in_order : BothInOrder s.shape link
    both-in_order =
        let keeps = holds-at net (λ (x : NodeState). node_kind.keeps (schedules net forms sound) n x (passed_by node_kind net node n)) node ADemux s is.out is.at n ((run-keeps net forms sound n).nodes node) in
        let here : BothInOrder (run_state net ADemux s n).shape (run_state net ADemux s n).shape.upper = ((keeps.writes.in_order, keeps.writes.others), (keeps.reads.in_order, keeps.reads.others)) in
        subst (λ (upper : ℕ). BothInOrder s.shape upper) upper-is (subst (λ (shape : DemuxShape). BothInOrder shape shape.upper) (shape-is n) here)

    asks : Asks schedule (now net forms sound n) trail
    asks =
        (asked-below node_kind node_holds net (schedules net forms sound) (now net forms sound) sound.wired (is-scheduled node_kind node_holds net forms sound) n link known
        ((run-keeps net forms sound n).asked link known)).0

    module _ (t u : ℕ) where
      writes-answered : ComesBefore schedule.writes t u → 0 < length (schedule.writes t).parts → lower_of_parts s.shape (schedule.writes t).parts ≢ lower_of_parts s.shape (schedule.writes u).parts →
          is_asked true u trail ≡ true → length (schedule.writes t).parts ≤ length (of_key number_of_response t trail.b)
      writes-answered before some apart come =
          let there : length (of_key number_of_asked u (writes_asked trail)) ≡ length (of_key number_of_address u trail.aw) =
          ap length (of_key-map number_of_asked write_asked u trail.aw) ∙ length-map (of_key number_of_address u trail.aw) write_asked in
          let done =
          answered-before schedule.writes (λ k. lower_of_parts s.shape (schedule.writes k).parts) (writes_asked trail) (write_replies trail) asks.writes.whole_before_the_next asks.writes.one_id_at_a_time
          both-in_order.0.0 both-in_order.0.1 t u before some apart (omega (arith, there, some-asked true u trail come)) in
          let answers : length (of_key number_of_reply t (write_replies trail)) ≡ length (of_key number_of_response t trail.b) =
          ap length (of_key-map number_of_reply write_reply t trail.b) ∙ length-map (of_key number_of_response t trail.b) write_reply in
          omega (arith, done.answers, done.many, beats-some (of_key number_of_asked t done.front), answers)

      reads-answered : ComesBefore schedule.reads t u → 0 < length (schedule.reads t).parts → lower_of_parts s.shape (schedule.reads t).parts ≢ lower_of_parts s.shape (schedule.reads u).parts →
          is_asked false u trail ≡ true → length (beats_of_parts (schedule.reads t).parts) ≤ length (of_key number_of_read_data t trail.r)
      reads-answered before some apart come =
          let there : length (of_key number_of_asked u (reads_asked trail)) ≡ length (of_key number_of_address u trail.ar) =
          ap length (of_key-map number_of_asked burst_asked u trail.ar) ∙ length-map (of_key number_of_address u trail.ar) burst_asked in
          let done =
          answered-before schedule.reads (λ k. lower_of_parts s.shape (schedule.reads k).parts) (reads_asked trail) (read_replies trail) asks.reads.whole_before_the_next asks.reads.one_id_at_a_time
          both-in_order.1.0 both-in_order.1.1 t u before some apart (omega (arith, there, some-asked false u trail come)) in
          let answers : length (of_key number_of_reply t (read_replies trail)) ≡ length (of_key number_of_read_data t trail.r) =
          ap length (of_key-map number_of_reply read_reply t trail.r) ∙ length-map (of_key number_of_read_data t trail.r) read_reply in
          let own = of_key number_of_address t trail.ar in
          let first : IsPrefix (of_key number_of_asked t done.front) (map burst_asked own) =
          subst (IsPrefix (of_key number_of_asked t done.front)) (of_key-map number_of_asked burst_asked t trail.ar) done.first in
          let beats = whole-beats own (of_key number_of_asked t done.front) (schedule.reads t).parts (asks.reads.asks_only_its_parts t) first done.many in
          omega (arith, done.answers, beats, answers)

  -- ---- so its answers are there

  module _ (node : ℕ) (s : ManagerState) (place : ℕ) (item : ScriptItem) (own : IsItem net node s place item) where
    pub answers-apart : (link : ℕ) → link < length net.links → (demux : DemuxState) → IsDemuxAt net (lower_node net.links link) demux → (n u : ℕ) (share other : Share) →
        carried node_kind net item.txn.write link item.txn.number ≡ Some share → carried node_kind net item.txn.write link u ≡ Some other → item.txn.number < u → share.chain ≡ other.chain →
        lower_of_parts demux.shape share.parts ≢ lower_of_parts demux.shape other.parts → is_asked item.txn.write u (lower_end node_kind net link n) ≡ true → AreAnswersThere net forms sound node s place item own n
    answers-apart link known demux is n u share other comes later less chain apart come =
        let t = item.txn.number in
        let some = some-on net forms sound node s place item own link share comes in
        record {
          link = link;
          known = known;
          share = share;
          comes = comes;
          responses = λ writes.
              let mine : (schedules net forms sound link).writes t ≡ share = written-share net forms sound node s place item own link share comes writes in
              let its : (schedules net forms sound link).writes u ≡ other = carried-is net forms sound true link u other (ap (λ (b : Bool). carried node_kind net b link u) (sym writes) ∙ later) in
              subst (λ (x : Share). length x.parts ≤ length (of_key number_of_response t (lower_end node_kind net link n).b)) mine
              (writes-answered link known demux is n t u (less, ap (λ (x : Share). x.chain) mine ∙ chain ∙ sym (ap (λ (x : Share). x.chain) its))
              (omega (arith, ap (λ (x : Share). length x.parts) mine, some))
              (λ same. apart (sym (ap (λ (x : Share). lower_of_parts demux.shape x.parts) mine) ∙ same ∙ ap (λ (x : Share). lower_of_parts demux.shape x.parts) its))
              (subst (λ (b : Bool). is_asked b u (lower_end node_kind net link n) ≡ true) writes come));
          beats = λ reads.
              let mine : (schedules net forms sound link).reads t ≡ share = read-share net forms sound node s place item own link share comes reads in
              let its : (schedules net forms sound link).reads u ≡ other = carried-is net forms sound false link u other (ap (λ (b : Bool). carried node_kind net b link u) (sym reads) ∙ later) in
              subst (λ (x : Share). length (beats_of_parts x.parts) ≤ length (of_key number_of_read_data t (lower_end node_kind net link n).r)) mine
              (reads-answered link known demux is n t u (less, ap (λ (x : Share). x.chain) mine ∙ chain ∙ sym (ap (λ (x : Share). x.chain) its))
              (omega (arith, ap (λ (x : Share). length x.parts) mine, some))
              (λ same. apart (sym (ap (λ (x : Share). lower_of_parts demux.shape x.parts) mine) ∙ same ∙ ap (λ (x : Share). lower_of_parts demux.shape x.parts) its))
              (subst (λ (b : Bool). is_asked b u (lower_end node_kind net link n) ≡ true) reads come));
        }
