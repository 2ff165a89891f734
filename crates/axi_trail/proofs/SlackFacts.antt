-- What is asked goes down a link, and what is answered goes up.
use Rattle.std.proofs.Common.{◌≡◌, ℕ, suc, ◌+◌, ◌^◌, ◌<◌, ◌≤◌, Bool, IsTrue, List, [], ◌∷◌, ◌++◌, length, take, sym, ◌∙◌, ap, arith, append_assoc}
use Rattle.std.specs.Prelude.{filter, slice_range}
use Rattle.std.proofs.lemmas.List.Elements.{All-weaker}
use Rattle.axi_beats.specs.declared.beat.Addr.{Addr}
use Rattle.axi_beats.specs.declared.beat.RBeat.{RBeat}
use Rattle.axi_trail.specs.ContractLaws.{AskingGoesDown, AnsweringGoesUp, AskedThroughLink, AnsweredThroughLink}
use Rattle.axi_trail.specs.LinkContracts.{Requests, without_id}
use Rattle.axi_trail.specs.Schedule.{Share, bytes_on}
use Rattle.axi_trail.specs.Trail.{IsBehind, IsFifo, trail_above, trail_below, seen_above, seen_below}
use Rattle.axi_trail.specs.Words.{Mark, Asked, Reply, IsAnswered, InOrderOfId, marks_of, completed, mark_of_data, mark_of_reply, write_asked, burst_asked, write_reply, read_reply, number_of_address, number_of_data, number_of_response, number_of_read_data, id_of_asked, id_of_reply}
use Rattle.axi_trail.proofs.TrailFacts.{links_are_queues, taken_was_put_before, heads_are_behind}
use Rattle.plain_lists.specs.Prefixes.{IsPrefix}
use Rattle.plain_lists.proofs.PrefixLemmas.{prefix_itself, prefix_nil, prefix_trans, prefix_after, prefix_length, prefix_take, prefix_filter, prefix_of_key, prefix_map, prefix_flat_map, prefix_of_same, All_front, Agree_fronts}
use Rattle.axi_beats.specs.Lanes.{Span}
use Rattle.axi_link.specs.LinkWords.{link_of}

-- an answered request stays answered
pub answered_grows : (before : List Asked) (a : Asked) {replies more : List Reply} → IsPrefix replies more → IsAnswered before a replies → IsAnswered before a more
answered_grows before a p answered = omega (arith, prefix_length (prefix_of_key id_of_reply a.id p))

-- a place in the beginning of a list is a place in the list
split_front : {X : Type 0} {xs ys : List X} (p : IsPrefix xs ys) (before after : List X) → xs ≡ before ++ after → ys ≡ before ++ (after ++ p.rest)
split_front p before after e = p.whole ∙ ap (λ t. t ++ p.rest) e ∙ append_assoc before after p.rest

requests_down : (shares : ℕ → Share) (id_width : ℕ) (early late : ℕ → Bool) (shown : Addr → Asked) (addresses fewer : List Addr) (replies more : List Reply) →
    ((t : ℕ) → IsTrue (early t) → IsTrue (late t)) → IsPrefix fewer addresses → IsPrefix replies more →
    Requests shares id_width early shown addresses replies → Requests shares id_width late shown fewer more
requests_down shares id_width early late shown addresses fewer replies more grows p q asks = record {
  asks_only_its_parts = λ t. prefix_trans (prefix_map without_id (prefix_of_key number_of_address t p)) (asks.asks_only_its_parts t);
  ids_fit = All_front (λ a. a.id < 2 ^ id_width) p asks.ids_fit;
  whole_before_the_next = λ before a after t e earlier.
      asks.whole_before_the_next before a (after ++ (prefix_map shown p).rest) t (split_front (prefix_map shown p) before (a ∷ after) e) earlier;
  one_id_at_a_time = λ before a between next after e same differ.
      answered_grows before a q (asks.one_id_at_a_time before a between next (after ++ (prefix_map shown p).rest) (split_front (prefix_map shown p) (before ++ a ∷ between) (next ∷ after) e) same differ);
  was_issued = All-weaker (λ a. IsTrue (early a.tag.txn)) (λ a. IsTrue (late a.tag.txn)) (λ a. grows a.tag.txn) fewer (All_front (λ a. IsTrue (early a.tag.txn)) p asks.was_issued);
}

pub asking_goes_down : AskingGoesDown
asking_goes_down schedule early late lower upper grows behind asks = record {
  writes = requests_down schedule.writes schedule.id_width early.issued late.issued write_asked upper.aw lower.aw _ _ grows.issued behind.aw (prefix_map write_reply behind.b) asks.writes;
  reads = requests_down schedule.reads schedule.id_width early.issued late.issued burst_asked upper.ar lower.ar _ _ grows.issued behind.ar (prefix_map read_reply behind.r) asks.reads;
  data_is_the_schedules = λ t. prefix_trans (prefix_of_key number_of_data t behind.w) (asks.data_is_the_schedules t);
  data_follows_addresses = Agree_fronts (prefix_map mark_of_data behind.w) (prefix_flat_map marks_of (prefix_map burst_asked behind.aw)) asks.data_follows_addresses;
}

-- answers in order of ID stay so where fewer of them have come, and more was asked
pub in_order_goes_up : {asked more : List Asked} {replies fewer : List Reply} → IsPrefix asked more → IsPrefix fewer replies → InOrderOfId asked replies → InOrderOfId more fewer
in_order_goes_up p q order =
    λ id. prefix_trans (prefix_trans (prefix_map mark_of_reply (prefix_of_key id_of_reply id q)) (order id)) (prefix_flat_map marks_of (prefix_of_key id_of_asked id p))

-- more addresses and more write data complete more addresses
pub completed_front : {xs ys : List Addr} {passed more : List Mark} → IsPrefix xs ys → IsPrefix passed more → IsPrefix (completed xs passed) (completed ys more)
completed_front {xs} {ys} {passed} {more} p q =
    let counts : length (filter (λ (m : Mark). m.last) passed) ≤ length (filter (λ (m : Mark). m.last) more) = prefix_length (prefix_filter (λ (m : Mark). m.last) q) in
    prefix_of_same (prefix_take (length (filter (λ (m : Mark). m.last) passed)) (length (filter (λ (m : Mark). m.last) more)) xs p.rest counts)
    (ap (take (length (filter (λ (m : Mark). m.last) more))) (sym p.whole))

-- the bytes of fewer beats are the first ones
bytes_front : (beats more : List RBeat) (lanes : List Span) → IsPrefix (bytes_on beats lanes) (bytes_on (beats ++ more) lanes)
bytes_front [] more lanes = prefix_nil (bytes_on more lanes)
bytes_front (r ∷ beats) more [] = prefix_itself []
bytes_front (r ∷ beats) more (span ∷ lanes) = prefix_after (slice_range r.lanes span.low (span.high + 1)) (bytes_front beats more lanes)

pub prefix_bytes : {beats more : List RBeat} (lanes : List Span) → IsPrefix beats more → IsPrefix (bytes_on beats lanes) (bytes_on more lanes)
prefix_bytes {beats} {more} lanes p = prefix_of_same (bytes_front beats p.rest lanes) (ap (λ t. bytes_on t lanes) (sym p.whole))

pub answering_goes_up : AnsweringGoesUp
answering_goes_up schedule early late lower upper grows behind answers = record {
  answers_in_order_of_id = in_order_goes_up (prefix_map write_asked behind.aw) (prefix_map write_reply behind.b) answers.answers_in_order_of_id;
  reads_in_order_of_id = in_order_goes_up (prefix_map burst_asked behind.ar) (prefix_map read_reply behind.r) answers.reads_in_order_of_id;
  responses_are_the_schedules = λ t. prefix_trans (prefix_map (λ b. b.resp) (prefix_of_key number_of_response t behind.b)) (answers.responses_are_the_schedules t);
  read_responses_are_the_schedules = λ t. prefix_trans (prefix_map (λ r. r.resp) (prefix_of_key number_of_read_data t behind.r)) (answers.read_responses_are_the_schedules t);
  answered_after_its_data = in_order_goes_up (prefix_map write_asked (completed_front behind.aw (prefix_map mark_of_data behind.w))) (prefix_map write_reply behind.b) answers.answered_after_its_data;
  done_when_answered = λ t some all. grows.written t (answers.done_when_answered t some (omega (arith, prefix_length (prefix_of_key number_of_response t behind.b))));
  lanes_are_whole = All_front (λ r. length r.lanes ≡ 128) behind.r answers.lanes_are_whole;
  bytes_are_filled = λ t. prefix_trans (prefix_trans (prefix_bytes (schedule.reads t).lanes (prefix_of_key number_of_read_data t behind.r)) (answers.bytes_are_filled t)) (grows.filled t);
}

pub asked_through_link : AskedThroughLink
asked_through_link schedule early late number links uppers lowers grows run n asks =
    let fifo : IsFifo (trail_above uppers links n number) (trail_below lowers links n number) (link_of (links n) number) = links_are_queues number links uppers lowers run n in
    let heads : (IsBehind (trail_below lowers links n number) (trail_above uppers links n number))
    × (IsBehind (seen_below (trail_below lowers links n number) (link_of (links n) number)) (trail_above uppers links n number))
    × (IsBehind (trail_below lowers links n number) (seen_above (trail_above uppers links n number) (link_of (links n) number))) =
    heads_are_behind (trail_above uppers links n number) (trail_below lowers links n number) (link_of (links n) number) fifo in (
      asking_goes_down schedule early late (trail_below lowers links n number) (trail_above uppers links n number) grows heads.0 asks,
      asking_goes_down schedule early late (seen_below (trail_below lowers links n number) (link_of (links n) number)) (trail_above uppers links n number) grows heads.1 asks,
      asking_goes_down schedule early late (trail_below lowers links (suc n) number) (trail_above uppers links n number) grows (taken_was_put_before number links uppers lowers run n).0 asks,
    )

pub answered_through_link : AnsweredThroughLink
answered_through_link schedule early late number links uppers lowers grows run n answers =
    let fifo : IsFifo (trail_above uppers links n number) (trail_below lowers links n number) (link_of (links n) number) = links_are_queues number links uppers lowers run n in
    let heads : (IsBehind (trail_below lowers links n number) (trail_above uppers links n number))
    × (IsBehind (seen_below (trail_below lowers links n number) (link_of (links n) number)) (trail_above uppers links n number))
    × (IsBehind (trail_below lowers links n number) (seen_above (trail_above uppers links n number) (link_of (links n) number))) =
    heads_are_behind (trail_above uppers links n number) (trail_below lowers links n number) (link_of (links n) number) fifo in (
      answering_goes_up schedule early late (trail_below lowers links n number) (trail_above uppers links n number) grows heads.0 answers,
      answering_goes_up schedule early late (trail_below lowers links n number) (seen_above (trail_above uppers links n number) (link_of (links n) number)) grows heads.2 answers,
      answering_goes_up schedule early late (trail_below lowers links n number) (trail_above uppers links (suc n) number) grows (taken_was_put_before number links uppers lowers run n).1 answers,
    )
