-- The example keeps the contracts.
use Rattle.std.proofs.Common.{◌≡◌, ◌≢◌, ℕ, ◌^◌, ◌<◌, ◌≤◌, Bool, cond, IsTrue, List, [], ◌∷◌, ◌++◌, length, map, refl, sym, ◌∙◌, ap, subst, inl, inr, arith, length-append}
use Rattle.std.specs.Prelude.{flat_map}
use Rattle.std.proofs.lemmas.Bool.{cases_eq, ne_eqb}
use Rattle.std.proofs.lemmas.List.Elements.{All-cons, All-nil}
use Rattle.axi_beats.specs.declared.beat.Addr.{Addr}
use Rattle.axi_beats.specs.declared.beat.RBeat.{RBeat}
use Rattle.axi_beats.specs.declared.response.Resp.TheVariants.{Okay}
use Rattle.axi_trail.specs.Example.{read_address, write_address, first_read_data, last_read_data, write_data_beat, write_response, read_share, write_share, example_schedule, example_progress, example_upper, example_lower, ExampleKeepsContracts}
use Rattle.axi_trail.specs.LinkContracts.{Asks, Answers, Requests, WholeBeforeTheNext, without_id}
use Rattle.axi_trail.specs.Schedule.{Share, bytes_on, no_share}
use Rattle.axi_trail.specs.Words.{Asked, Reply, marks, write_asked, burst_asked, write_reply, read_reply, mark_of_data, mark_of_reply, id_of_asked, id_of_reply, number_of_address, number_of_data, number_of_response, number_of_read_data}
use Rattle.plain_lists.specs.Keys.{of_key}
use Rattle.plain_lists.specs.Prefixes.{IsPrefix}
use Rattle.plain_lists.proofs.KeyLemmas.{of_key-one, of_key-other, of_key-skip}
use Rattle.plain_lists.proofs.PrefixLemmas.{prefix_agree, prefix_nil, prefix_itself}

-- a fact at one number, and at all others
at_each : (P : ℕ → Type 0) (n : ℕ) → P n → ((t : ℕ) → n ≢ t → P t) → (t : ℕ) → P t
at_each P n here elsewhere t = elim (cases_eq n t) [ inl e ↦ subst P e here | inr ne ↦ elsewhere t ne ]

-- no beat of another number is in a list of two of one number
none_of_two : {X : Type 0} (key_of : X → ℕ) (x y : X) (t : ℕ) → key_of x ≢ t → key_of y ≢ t → of_key key_of t (x ∷ y ∷ []) ≡ []
none_of_two key_of x y t ne ne' = of_key-skip key_of t x (y ∷ []) ne ∙ of_key-other key_of t y ne'

empty_prefix : {X : Type 0} (xs ys : List X) → xs ≡ [] → IsPrefix xs ys
empty_prefix xs ys e = record { rest = ys; whole = ap (λ t. t ++ ys) (sym e) }

-- one request comes first, and has none before it
first_alone : {X : Type 0} (x : X) (before : List X) (a : X) (after : List X) → x ∷ [] ≡ before ++ a ∷ after → (before ≡ []) × (a ≡ x)
first_alone x [] a after e = (refl, cc)
first_alone x (b ∷ before) a after e = absurd (omega (arith, ap length e, length-append before (a ∷ after)))

never_two : {X : Type 0} (x : X) (before : List X) (a : X) (between : List X) (next : X) (after : List X) → x ∷ [] ≡ (before ++ a ∷ between) ++ next ∷ after → ⊥
never_two x before a between next after e =
    omega (arith, ap length e, length-append (before ++ a ∷ between) (next ∷ after), length-append before (a ∷ between))

-- one request of a transaction that has a chain of its own
module _ (shares : ℕ → Share) (id_width : ℕ) (issued : ℕ → Bool) (shown : Addr → Asked) (address : Addr) (replies : List Reply)
    (same : (shown address).number ≡ address.tag.txn) (whole : IsPrefix (without_id address ∷ []) (shares address.tag.txn).parts) (fits : address.id < 2 ^ id_width)
    (own : (shares address.tag.txn).chain ≢ []) (alone : (t : ℕ) → address.tag.txn ≢ t → (shares t).chain ≡ []) (out : IsTrue (issued address.tag.txn)) where
  own_parts : (t : ℕ) → IsPrefix (map without_id (of_key number_of_address t (address ∷ []))) (shares t).parts
  own_parts = at_each (λ t. IsPrefix (map without_id (of_key number_of_address t (address ∷ []))) (shares t).parts) address.tag.txn
      (subst (λ (xs : List Addr). IsPrefix (map without_id xs) (shares address.tag.txn).parts) (sym (of_key-one number_of_address address.tag.txn address refl)) whole)
      (λ t ne. empty_prefix (map without_id (of_key number_of_address t (address ∷ []))) (shares t).parts (ap (map without_id) (of_key-other number_of_address t address ne)))

  none_earlier : WholeBeforeTheNext shares (shown address ∷ [])
  none_earlier before a after t e earlier =
      let first : (before ≡ []) × (a ≡ shown address) = first_alone (shown address) before a after e in
      let number : a.number ≡ address.tag.txn = ap (λ x. x.number) first.1 ∙ same in
      let chain : (shares t).chain ≡ (shares address.tag.txn).chain = earlier.1 ∙ ap (λ n. (shares n).chain) number in
      let less : t < a.number = earlier.0 in
      let other : address.tag.txn ≢ t = λ h. absurd (omega (arith, h, number, less)) in
      absurd (own (sym chain ∙ alone t other))

  requests_alone : Requests shares id_width issued shown (address ∷ []) replies
  requests_alone = record {
    asks_only_its_parts = own_parts;
    ids_fit = All-cons (λ a. a.id < 2 ^ id_width) address [] fits (All-nil (λ a. a.id < 2 ^ id_width));
    whole_before_the_next = none_earlier;
    one_id_at_a_time = λ before a between next after e chain differ. absurd (never_two (shown address) before a between next after e);
    was_issued = All-cons (λ a. IsTrue (issued a.tag.txn)) address [] out (All-nil (λ a. IsTrue (issued a.tag.txn)));
  }

never_nil : {X : Type 0} (x : X) (xs : List X) → x ∷ xs ≢ []
never_nil x xs e = cc

no_write : (t : ℕ) → 8 ≢ t → example_schedule.writes t ≡ no_share
no_write t ne = ap (λ b. cond b write_share no_share) (ne_eqb t 8 (λ e. ne (sym e)))

no_read : (t : ℕ) → 7 ≢ t → example_schedule.reads t ≡ no_share
no_read t ne = ap (λ b. cond b read_share no_share) (ne_eqb t 7 (λ e. ne (sym e)))

example_asks : Asks example_schedule example_progress example_upper
example_asks = record {
  writes = requests_alone example_schedule.writes 4 example_progress.issued write_asked write_address [] refl (prefix_itself (without_id write_address ∷ [])) (omega arith)
      (never_nil 0 (2 ∷ 0 ∷ 1 ∷ [])) (λ t ne. ap (λ s. s.chain) (no_write t ne)) refl;
  reads = requests_alone example_schedule.reads 4 example_progress.issued burst_asked read_address (read_reply first_read_data ∷ []) refl (prefix_itself (without_id read_address ∷ [])) (omega arith)
      (never_nil 0 (3 ∷ 1 ∷ 1 ∷ [])) (λ t ne. ap (λ s. s.chain) (no_read t ne)) refl;
  data_is_the_schedules = at_each (λ t. IsPrefix (of_key number_of_data t (write_data_beat ∷ [])) (flat_map (λ beats. beats) (example_schedule.writes t).write_data)) 8
      (prefix_itself (write_data_beat ∷ []))
      (λ t ne. empty_prefix (of_key number_of_data t (write_data_beat ∷ [])) (flat_map (λ beats. beats) (example_schedule.writes t).write_data) (of_key-other number_of_data t write_data_beat ne));
  data_follows_addresses = prefix_agree (prefix_itself (mark_of_data write_data_beat ∷ []));
}

example_answers : Answers example_schedule example_progress example_lower
example_answers = record {
  answers_in_order_of_id = at_each (λ id. IsPrefix (map mark_of_reply (of_key id_of_reply id (write_reply write_response ∷ []))) (marks (of_key id_of_asked id (write_asked write_address ∷ [])))) 2
      (prefix_itself (mark_of_reply (write_reply write_response) ∷ []))
      (λ id ne. empty_prefix (map mark_of_reply (of_key id_of_reply id (write_reply write_response ∷ []))) (marks (of_key id_of_asked id (write_asked write_address ∷ [])))
      (ap (map mark_of_reply) (of_key-other id_of_reply id (write_reply write_response) ne)));
  reads_in_order_of_id = at_each (λ id. IsPrefix (map mark_of_reply (of_key id_of_reply id (read_reply first_read_data ∷ read_reply last_read_data ∷ []))) (marks (of_key id_of_asked id (burst_asked read_address ∷ [])))) 3
      (prefix_itself (mark_of_reply (read_reply first_read_data) ∷ mark_of_reply (read_reply last_read_data) ∷ []))
      (λ id ne. empty_prefix (map mark_of_reply (of_key id_of_reply id (read_reply first_read_data ∷ read_reply last_read_data ∷ []))) (marks (of_key id_of_asked id (burst_asked read_address ∷ [])))
      (ap (map mark_of_reply) (none_of_two id_of_reply (read_reply first_read_data) (read_reply last_read_data) id ne ne)));
  responses_are_the_schedules = at_each (λ t. IsPrefix (map (λ b. b.resp) (of_key number_of_response t (write_response ∷ []))) (example_schedule.writes t).responses) 8
      (prefix_itself (Okay ∷ []))
      (λ t ne. empty_prefix (map (λ b. b.resp) (of_key number_of_response t (write_response ∷ []))) (example_schedule.writes t).responses (ap (map (λ b. b.resp)) (of_key-other number_of_response t write_response ne)));
  read_responses_are_the_schedules = at_each (λ t. IsPrefix (map (λ r. r.resp) (of_key number_of_read_data t (first_read_data ∷ last_read_data ∷ []))) (example_schedule.reads t).responses) 7
      (prefix_itself (Okay ∷ Okay ∷ []))
      (λ t ne. empty_prefix (map (λ r. r.resp) (of_key number_of_read_data t (first_read_data ∷ last_read_data ∷ []))) (example_schedule.reads t).responses
      (ap (map (λ r. r.resp)) (none_of_two number_of_read_data first_read_data last_read_data t ne ne)));
  answered_after_its_data = at_each (λ id. IsPrefix (map mark_of_reply (of_key id_of_reply id (write_reply write_response ∷ []))) (marks (of_key id_of_asked id (write_asked write_address ∷ [])))) 2
      (prefix_itself (mark_of_reply (write_reply write_response) ∷ []))
      (λ id ne. empty_prefix (map mark_of_reply (of_key id_of_reply id (write_reply write_response ∷ []))) (marks (of_key id_of_asked id (write_asked write_address ∷ [])))
      (ap (map mark_of_reply) (of_key-other id_of_reply id (write_reply write_response) ne)));
  done_when_answered = at_each (λ t. 0 < length (example_schedule.writes t).parts → length (example_schedule.writes t).parts ≤ length (of_key number_of_response t (write_response ∷ [])) → IsTrue (example_progress.written t)) 8
      (λ some all. refl)
      (λ t ne some all. absurd (omega (arith, ap (λ s. length s.parts) (no_write t ne))));
  lanes_are_whole = All-cons (λ (r : RBeat). length r.lanes ≡ 128) first_read_data (last_read_data ∷ []) refl (All-cons (λ (r : RBeat). length r.lanes ≡ 128) last_read_data [] refl (All-nil (λ (r : RBeat). length r.lanes ≡ 128)));
  bytes_are_filled = at_each (λ t. IsPrefix (bytes_on (of_key number_of_read_data t (first_read_data ∷ last_read_data ∷ [])) (example_schedule.reads t).lanes) (example_progress.filled t)) 7
      (prefix_itself (10 ∷ 11 ∷ 12 ∷ 13 ∷ 20 ∷ 21 ∷ 22 ∷ 23 ∷ []))
      (λ t ne. empty_prefix (bytes_on (of_key number_of_read_data t (first_read_data ∷ last_read_data ∷ [])) (example_schedule.reads t).lanes) (example_progress.filled t)
      (ap (λ rs. bytes_on rs (example_schedule.reads t).lanes) (none_of_two number_of_read_data first_read_data last_read_data t ne ne)));
}

pub example_keeps_contracts : ExampleKeepsContracts
example_keeps_contracts = (
  example_asks,
  example_answers,
  record {
    aw = prefix_itself (write_address ∷ []);
    w = prefix_itself (write_data_beat ∷ []);
    b = prefix_nil (write_response ∷ []);
    ar = prefix_itself (read_address ∷ []);
    r = record { rest = last_read_data ∷ []; whole = refl };
  },
)
