-- A link that has words alone to carry shows nothing else, so the port of an AXI4-Lite link keeps the six rules.
use Rattle.std.proofs.Common.{◌≡◌, ℕ, zero, suc, ◌<◌, ◌^◌, ◌==◌, ◌&&◌, Bool, true, false, IsTrue, List, [], ◌∷◌, ◌++◌, None, All, take, refl, ap, ◌∙◌, subst, arith, eq-eqb}
use Rattle.std.specs.Prelude.{flat_map}
use Rattle.std.specs.List.{AllByRecursion, AllZip}
use Rattle.std.specs.Option.{ForSome}
use Rattle.std.proofs.lemmas.Bool.{and_from}
use Rattle.std.proofs.lemmas.List.Elements.{All-cons, All-head, All-nil, All-tail}
use Rattle.std.proofs.lemmas.Option.{none-some, same_Some}
use Rattle.axi_beats.specs.Codes.{burst_code}
use Rattle.axi_beats.specs.declared.beat.Addr.{Addr}
use Rattle.axi_beats.specs.declared.beat.WBeat.{WBeat}
use Rattle.axi_history.specs.declared.port.PortKind.{PortKind}
use Rattle.axi_history.specs.declared.port.PortRound.{PortRound}
use Rattle.axi_history.specs.declared.port.RawAddr.{RawAddr}
use Rattle.axi_history.specs.PortHistory.{offer_of}
use Rattle.axi_history.specs.PortRules.{axi4_history_fault, is_not_exclusive, request_of}
use Rattle.axi_link.specs.LinkView.{LinkView}
use Rattle.axi_link.specs.LinkWords.{link_of}
use Rattle.axi_link.specs.Moves.{takes_from}
use Rattle.axi_link.specs.declared.out.Out.{Out}
use Rattle.axi_trail.specs.LinkContracts.{Asks, Requests, without_id}
use Rattle.axi_trail.specs.Schedule.{Progress, Schedule, Share}
use Rattle.axi_trail.specs.Trail.{IsLinkRun, seen_below, trail_above, trail_below}
use Rattle.axi_trail.specs.Words.{Asked, Reply, burst_asked, number_of_data, read_replies, write_asked, write_replies}
use Rattle.burst_address.specs.Formulas.{size_of}
use Rattle.lite_rules.proofs.LawLemmas.{words_lite}
use Rattle.lite_rules.specs.LiteLaws.{ShowsWords}
use Rattle.lite_rules.specs.LiteRules.{has_no_id, is_lite_access}
use Rattle.lite_rules.specs.PortFaults.{history_fault}
use Rattle.node_shape.specs.LegalSchedule.{IsDataOf, IsLegalSchedule}
use Rattle.link_ports.proofs.AddressFacts.{All_at, last_is_part, seen_is_asked}
use Rattle.link_ports.proofs.ChannelFacts.{asked_below}
use Rattle.link_ports.proofs.PortFacts.{links_are_legal}
use Rattle.link_ports.specs.PortLaws.{LinksKeepTheirRules, WordsAreShown}
use Rattle.link_ports.specs.PortView.{channel_seen, port_history, port_round, seen_address, seen_itself}
use Rattle.link_ports.specs.WordSchedule.{IsOneWord, IsWordSchedule}
use Rattle.plain_lists.proofs.KeyLemmas.{of_key-push}
use Rattle.plain_lists.proofs.PrefixLemmas.{All_front}
use Rattle.plain_lists.specs.Keys.{of_key}
use Rattle.plain_lists.specs.Prefixes.{IsPrefix}

-- ---- what a channel offers

-- a request for one word, without an ID, is an access of AXI4-Lite
is_access : (bus : ℕ) (a : Addr) → a.id ≡ 0 → IsOneWord bus (without_id a) → is_lite_access bus (seen_address a) ≡ true
is_access bus a none word =
    let seen : RawAddr = seen_address a in
    let size : size_of (request_of seen) ≡ bus = ap size_of (seen_is_asked a) ∙ word.whole in
    let incr : seen.burst ≡ 1 = ap burst_code word.single.burst in
    let p1 : (has_no_id seen.id && seen.len == 0) ≡ true = and_from (has_no_id seen.id) (seen.len == 0) (eq-eqb seen.id 0 none) (eq-eqb seen.len 0 word.single.len) in
    let p2 : (has_no_id seen.id && seen.len == 0 && size_of (request_of seen) == bus) ≡ true =
    and_from (has_no_id seen.id && seen.len == 0) (size_of (request_of seen) == bus) p1 (eq-eqb (size_of (request_of seen)) bus size) in
    let p3 : (has_no_id seen.id && seen.len == 0 && size_of (request_of seen) == bus && seen.burst == 1) ≡ true =
    and_from (has_no_id seen.id && seen.len == 0 && size_of (request_of seen) == bus) (seen.burst == 1) p2 (eq-eqb seen.burst 1 incr) in
    and_from (has_no_id seen.id && seen.len == 0 && size_of (request_of seen) == bus && seen.burst == 1) (is_not_exclusive seen) p3 refl

module _ (shares : ℕ → Share) (id_width bus : ℕ) (issued : ℕ → Bool) (asked_as : Addr → Asked) (passed : List Addr) (replies : List Reply) (none : id_width ≡ 0) (words : (t : ℕ) → All (IsOneWord bus) (shares t).parts) where
  -- a channel of addresses
  accesses_shown : (queue : List Addr) (takes : Bool) → Requests shares id_width issued asked_as (passed ++ take 1 queue) replies →
      ForSome (offer_of (channel_seen seen_address takes queue)) (λ a. is_lite_access bus a ≡ true)
  accesses_shown [] takes asks x shown = absurd (none-some x shown)
  accesses_shown (a ∷ queue) takes asks x shown =
      let same : seen_address a ≡ x = same_Some (seen_address a) x shown in
      let fits : a.id < 2 ^ id_width = All_at (λ (b : Addr). b.id < 2 ^ id_width) passed a [] asks.ids_fit in
      let small : a.id < 2 ^ 0 = subst (λ (width : ℕ). a.id < 2 ^ width) none fits in
      let zero_id : a.id ≡ 0 = omega (arith, small) in
      subst (λ (y : RawAddr). is_lite_access bus y ≡ true) same (is_access bus a zero_id (last_is_part (IsOneWord bus) shares id_width issued asked_as passed a replies asks words))

abbrev IsLast : WBeat → Type 0
IsLast w = IsTrue w.last

-- the channel of write data
data_shown : (shares : ℕ → Share) (passed queue : List WBeat) (takes : Bool) → ((t : ℕ) → IsPrefix (of_key number_of_data t (passed ++ take 1 queue)) (flat_map (λ beats. beats) (shares t).write_data)) →
    ((t : ℕ) → All IsLast (flat_map (λ beats. beats) (shares t).write_data)) → ForSome (offer_of (channel_seen seen_itself takes queue)) (λ (w : WBeat). w.last ≡ true)
data_shown shares passed [] takes sent lasts x shown = absurd (none-some x shown)
data_shown shares passed (w ∷ queue) takes sent lasts x shown =
    let same : w ≡ x = same_Some w x shown in
    let own : of_key number_of_data w.tag.txn (passed ++ w ∷ []) ≡ of_key number_of_data w.tag.txn passed ++ w ∷ [] = of_key-push number_of_data w.tag.txn passed w refl in
    let all : All IsLast (of_key number_of_data w.tag.txn passed ++ w ∷ []) = subst (λ (ws : List WBeat). All IsLast ws) own (All_front IsLast (sent w.tag.txn) (lasts w.tag.txn)) in
    subst (λ (y : WBeat). y.last ≡ true) same (All_at IsLast (of_key number_of_data w.tag.txn passed) w [] all)

-- a burst of one beat has WLAST on it
module _ (bus : ℕ) where
  words_last : (parts : List Addr) (written : List (List WBeat)) → All (IsOneWord bus) parts → AllZip (IsDataOf bus) parts written → All IsLast (flat_map (λ beats. beats) written)
  words_last [] [] words sent = All-nil IsLast
  words_last [] (beats ∷ written) words sent = absurd sent
  words_last (part ∷ parts) [] words sent = absurd sent
  words_last (part ∷ parts) ([] ∷ written) words sent = absurd (omega (arith, sent.0.whole))
  words_last (part ∷ parts) ((w ∷ []) ∷ written) words sent =
      let word : IsOneWord bus part = All-head (IsOneWord bus) part parts words in
      let last : w.last ≡ true = sent.0.lasts 0 w (omega arith) ∙ ap (λ (len : ℕ). 0 == len) word.single.len in
      All-cons IsLast w (flat_map (λ beats. beats) written) last (words_last parts written (All-tail (IsOneWord bus) part parts words) sent.1)
  words_last (part ∷ parts) ((w ∷ v ∷ more) ∷ written) words sent =
      let word : IsOneWord bus part = All-head (IsOneWord bus) part parts words in
      absurd (omega (arith, sent.0.whole, word.single.len))

-- ---- rounds and histories

pub words_are_shown : WordsAreShown
words_are_shown schedule now number kind links uppers lowers run legal words n asks =
    let lower = trail_below lowers links n number in
    let queue = link_of (links n) number in
    let seen : Asks schedule now (seen_below lower queue) = asked_below number kind links uppers lowers run n schedule now asks in
    record {
      aw = accesses_shown schedule.writes schedule.id_width kind.bus now.issued write_asked lower.aw (write_replies lower) words.no_ids words.writes queue.aw (takes_from number (lowers n).aw_take) seen.writes;
      w = data_shown schedule.writes lower.w queue.w (takes_from number (lowers n).w_take) seen.data_is_the_schedules
          (λ t. words_last kind.bus (schedule.writes t).parts (schedule.writes t).write_data (words.writes t) (legal.write_data t));
      ar = accesses_shown schedule.reads schedule.id_width kind.bus now.issued burst_asked lower.ar (read_replies lower) words.no_ids words.reads queue.ar (takes_from number (lowers n).ar_take) seen.reads;
    }

all_pushed : {X : Type 0} (P : X → Type 0) (xs : List X) (y : X) → AllByRecursion P xs → P y → AllByRecursion P (xs ++ y ∷ [])
all_pushed P [] y all here = (here, tt)
all_pushed P (x ∷ xs) y all here = (all.0, all_pushed P xs y all.1 here)

-- of a port of either kind
kept_by_kind : (lite : Bool) (bus : ℕ) (history : List PortRound) → axi4_history_fault bus history ≡ None → (lite ≡ true → AllByRecursion (ShowsWords bus) history) →
    history_fault (record { lite = lite; bus = bus }) history ≡ None
kept_by_kind false bus history legal words = legal
kept_by_kind true bus history legal words = words_lite bus history legal (words refl)

module _ (schedule : Schedule) (now : ℕ → Progress) (number : ℕ) (kind : PortKind) (links : ℕ → List LinkView) (uppers lowers : ℕ → Out) (run : IsLinkRun number links uppers lowers) (legal : IsLegalSchedule kind.bus schedule) (words : IsWordSchedule kind.bus schedule) (asks : (n : ℕ) → Asks schedule (now n) (trail_above uppers links n number)) where
  all_shown : (n : ℕ) → AllByRecursion (ShowsWords kind.bus) (port_history number kind links uppers lowers n)
  all_shown zero = tt
  all_shown (suc n) =
      all_pushed (ShowsWords kind.bus) (port_history number kind links uppers lowers n) (port_round number kind links uppers lowers n) (all_shown n)
      (words_are_shown schedule (now n) number kind links uppers lowers run legal words n (asks n))

pub links_keep_their_rules : LinksKeepTheirRules
links_keep_their_rules schedule now number kind links uppers lowers run legal words asks answers n =
    kept_by_kind kind.lite kind.bus (port_history number kind links uppers lowers n) (links_are_legal schedule now number kind links uppers lowers run legal asks answers n)
    (λ lite. all_shown schedule now number kind links uppers lowers run legal (words lite) asks n)
