-- Contracts of a link that carries what another one does.
use Rattle.std.proofs.Common.{◌≡◌, ℕ, ◌<◌, ◌^◌, Bool, List, length, sym, ◌∙◌, ap, subst, arith, All}
use Rattle.std.specs.Prelude.{flat_map}
use Rattle.axi_beats.specs.declared.beat.Addr.{Addr}
use Rattle.axi_beats.specs.Lanes.{Span}
use Rattle.axi_beats.specs.declared.beat.WBeat.{WBeat}
use Rattle.axi_trail.specs.LinkContracts.{Requests}
use Rattle.axi_trail.specs.Schedule.{Share, SameChain, bytes_on}
use Rattle.axi_trail.specs.Words.{Asked, Reply, number_of_read_data}
use Rattle.node_shape.specs.Carries.{AnsweredIsCarried, AskedIsCarried, IsSameShare}
use Rattle.plain_lists.specs.Keys.{of_key}
use Rattle.plain_lists.specs.Prefixes.{IsPrefix}
use Rattle.plain_lists.proofs.PrefixLemmas.{prefix_of_same}

requests_carried : (above below : ℕ → Share) (wide narrow : ℕ) (issued : ℕ → Bool) (shown : Addr → Asked) (addresses : List Addr) (replies : List Reply) →
    narrow ≡ wide → ((t : ℕ) → IsSameShare (above t) (below t)) → ((t u : ℕ) → SameChain below t u → SameChain above t u) →
    Requests above wide issued shown addresses replies → Requests below narrow issued shown addresses replies
requests_carried above below wide narrow issued shown addresses replies width same chains asks = record {
  asks_only_its_parts = λ t. prefix_of_same (asks.asks_only_its_parts t) (sym (same t).parts);
  ids_fit = subst (λ (w : ℕ). All (λ (a : Addr). a.id < 2 ^ w) addresses) (sym width) asks.ids_fit;
  whole_before_the_next = λ before a after t e earlier.
      asks.whole_before_the_next before a after t e (earlier.0, chains t a.number earlier.1) ∙ ap length (sym (same t).parts);
  one_id_at_a_time = λ before a between next after e one differ. asks.one_id_at_a_time before a between next after e (chains a.number next.number one) differ;
  was_issued = asks.was_issued;
}

pub asked_is_carried : AskedIsCarried
asked_is_carried above below now trail carries asks = record {
  writes = requests_carried above.writes below.writes above.id_width below.id_width now.issued _ trail.aw _ carries.id_width carries.writes carries.write_chains asks.writes;
  reads = requests_carried above.reads below.reads above.id_width below.id_width now.issued _ trail.ar _ carries.id_width carries.reads carries.read_chains asks.reads;
  data_is_the_schedules = λ t. prefix_of_same (asks.data_is_the_schedules t) (ap (λ (d : List (List WBeat)). flat_map (λ beats. beats) d) (sym (carries.writes t).write_data));
  data_follows_addresses = asks.data_follows_addresses;
}

pub answered_is_carried : AnsweredIsCarried
answered_is_carried above below now trail carries answers = record {
  answers_in_order_of_id = answers.answers_in_order_of_id;
  reads_in_order_of_id = answers.reads_in_order_of_id;
  responses_are_the_schedules = λ t. prefix_of_same (answers.responses_are_the_schedules t) (carries.writes t).responses;
  read_responses_are_the_schedules = λ t. prefix_of_same (answers.read_responses_are_the_schedules t) (carries.reads t).responses;
  answered_after_its_data = answers.answered_after_its_data;
  done_when_answered = λ t some all.
      let long : length (below.writes t).parts ≡ length (above.writes t).parts = ap length (carries.writes t).parts in
      answers.done_when_answered t (omega (arith, long, some)) (omega (arith, long, all));
  lanes_are_whole = answers.lanes_are_whole;
  bytes_are_filled = λ t.
      subst (λ (lanes : List Span). IsPrefix (bytes_on (of_key number_of_read_data t trail.r) lanes) (now.filled t)) (carries.reads t).lanes (answers.bytes_are_filled t);
}
