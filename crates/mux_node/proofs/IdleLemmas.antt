-- A mux that does nothing holds nothing back.
use Rattle.std.proofs.Common.{[], ◌/◌, ◌<◌, ◌∙◌, ◌∷◌, ◌≡◌, ◌≤◌, List, None, Option, Some, ap, arith, length, map, refl, sym, true, ℕ}
use Rattle.std.specs.Prelude.{Contains, slice_get}
use Rattle.std.proofs.lemmas.List.Elements.{All-contains}
use Rattle.axi_link.specs.LinkView.{LinkView}
use Rattle.axi_link.specs.LinkWords.{head_of, link_of}
use Rattle.axi_link.specs.declared.out.Out.{Out}
use Rattle.axi_trail.proofs.WaitingFacts.{none-pending}
use Rattle.axi_trail.proofs.WholeFacts.{none_lacks_data}
use Rattle.axi_trail.specs.LinkContracts.{Answers}
use Rattle.axi_trail.specs.Schedule.{Progress, Schedule}
use Rattle.axi_trail.specs.Trail.{Trail, seen_above}
use Rattle.axi_trail.specs.Waiting.{Waiting}
use Rattle.axi_trail.specs.Words.{Asked, beats_due, burst_asked, len_of_asked, number_of_waiting, pending_asked, write_replies}
use Rattle.mux_node.proofs.HeldLemmas.{mux-awaits, mux-holds_no_read, mux-holds_no_write, mux-read_data_fits, mux-responses_fit}
use Rattle.mux_node.proofs.LocalLemmas.{takes-answer, takes-first_data, takes-read_address, takes-write_address}
use Rattle.mux_node.specs.MuxState.{IsMux, MuxState}
use Rattle.mux_node.specs.MuxTable.{ids_of, mux_out}
use Rattle.mux_node.specs.MuxTrail.{MuxKeeps, mux_kind}
use Rattle.node_core.specs.Acted.{no_moves}
use Rattle.node_shape.proofs.OneLinkLemmas.{all-one, of-one}
use Rattle.node_shape.specs.KindLaws.{IdleHoldsNothing}
use Rattle.node_shape.specs.Quiet.{HasNoRead, HasNoWrite, HaveRoomB, HaveRoomR, HoldsNothingBack, LacksData}
use Rattle.plain_lists.proofs.PlaceLemmas.{all-at, at-all, contains-at}

none-is : {X : Type 0} (o : Option X) (x : X) → o ≡ None → o ≡ Some x → ⊥
none-is o x none some = absurd (let no : None ≡ Some x = sym none ∙ some in cc)

-- a queue without a head
no-head : {X : Type 0} (queue : List X) → ((x : X) → head_of queue ≡ Some x → ⊥) → length queue ≡ 0
no-head [] never = refl
no-head (x ∷ queue) never = absurd (never x refl)

no-images : {X Y : Type 0} (f : X → Y) (xs : List X) → map f xs ≡ [] → xs ≡ []
no-images f [] is = refl
no-images f (x ∷ xs) is = absurd (cc)

module _ (schedules : ℕ → Schedule) (now : Progress) (links : List LinkView) (s : MuxState) (uppers lowers : Trail) (keeps : MuxKeeps schedules s uppers (lowers s.shape.lower)) (is_mux : IsMux s)
    (answers : Answers (schedules s.shape.lower) now (lowers s.shape.lower)) (seen : Answers (schedules s.shape.lower) now (seen_above (lowers s.shape.lower) (link_of links s.shape.lower)))
    (deep : 0 < (link_of links s.shape.lower).depth) (quiet : mux_out links s ≡ no_moves) where
  abbrev us : List ℕ
  us = s.shape.uppers

  abbrev d : ℕ
  d = s.shape.lower

  abbrev queues : ℕ → LinkView
  queues l = link_of links l

  no-response : HaveRoomB (link_of links) us → length (queues d).b ≡ 0
  no-response room = no-head (queues d).b (λ x head.
      let to = mux-responses_fit schedules now s uppers (lowers d) (queues d) keeps seen x head in
      none-is (mux_out links s).b_take d (ap (λ (o : Out). o.b_take) quiet)
      (takes-answer (λ l. l.b) (λ b. b.id) links us d (ids_of s.shape) x to.0 head to.1 (at-all (λ l. length (queues l).b < (queues l).depth) us (x.id / ids_of s.shape) to.0 room to.1)))

  no-read_data : HaveRoomR (link_of links) us → length (queues d).r ≡ 0
  no-read_data room = no-head (queues d).r (λ x head.
      let to = mux-read_data_fits schedules now s uppers (lowers d) (queues d) keeps seen x head in
      none-is (mux_out links s).r_take d (ap (λ (o : Out). o.r_take) quiet)
      (takes-answer (λ l. l.r) (λ r. r.id) links us d (ids_of s.shape) x to.0 head to.1 (at-all (λ l. length (queues l).r < (queues l).depth) us (x.id / ids_of s.shape) to.0 room to.1)))

  no-read : HasNoRead (queues d) (lowers d) → (i u : ℕ) → slice_get us i ≡ Some u → HasNoRead (queues u) (uppers u)
  no-read below i u at = record {
    none_waits = no-head (queues u).ar (λ a head.
        let takes = takes-read_address links s is_mux i u a at head (let few : length (queues d).ar < (queues d).depth = omega (arith, below.none_waits, deep) in few) in
        none-is (mux_out links s).ar_take takes.0 (ap (λ (o : Out). o.ar_take) quiet) takes.1);
    none_held = mux-holds_no_read schedules s uppers (lowers d) keeps below.none_held i u at;
  }

  -- the first granted input lacks data where the link below does
  lacks-above : LacksData (queues d) (lowers d) → (granted : List ℕ) → s.granted ≡ granted → (u : ℕ) × Contains us u × LacksData (queues u) (uppers u)
  lacks-above below [] is =
      absurd (let l = lowers d in
      let none : pending_asked (length l.w) (map burst_asked l.aw) ≡ [] =
      no-images (λ p. keeps.suits.write_route (number_of_waiting p)) (pending_asked (length l.w) (map burst_asked l.aw)) (sym keeps.order.waiting ∙ is) in
      let all : beats_due (map burst_asked l.aw) ≤ length l.w = none-pending len_of_asked (length l.w) (map burst_asked l.aw) none in
      omega (arith, below.lacks, all))
  lacks-above below (input ∷ rest) is =
      let to = mux-awaits schedules s uppers (lowers d) keeps input rest is in (
        to.0,
        contains-at us input to.0 to.1,
        record {
          none_waits = no-head (queues to.0).w (λ w head.
              none-is (mux_out links s).w_take to.0 (ap (λ (o : Out). o.w_take) quiet)
              (takes-first_data links s input to.0 rest w is to.1 head (let few : length (queues d).w < (queues d).depth = omega (arith, below.none_waits, deep) in few)));
          lacks = to.2;
        },
      )

  no-write : HasNoWrite (queues d) (lowers d) → (i u : ℕ) → slice_get us i ≡ Some u → HasNoWrite (queues u) (uppers u)
  no-write below i u at = record {
    none_waits = no-head (queues u).aw (λ a head.
        let l = lowers d in
        let none : pending_asked (length l.w) (map burst_asked l.aw) ≡ [] = none_lacks_data l.aw l.w (write_replies l) keeps.order.in_order answers.answered_after_its_data below.none_held in
        let free : s.granted ≡ [] = keeps.order.waiting ∙ ap (map (λ (p : Waiting Asked). keeps.suits.write_route (number_of_waiting p))) none in
        let fits_more : length s.granted < 16 = let zero_is : length s.granted ≡ 0 = ap length free in omega (arith, zero_is) in
        let takes = takes-write_address links s is_mux i u a at head fits_more (let few : length (queues d).aw < (queues d).depth = omega (arith, below.none_waits, deep) in few) in
        none-is (mux_out links s).aw_take takes.0 (ap (λ (o : Out). o.aw_take) quiet) takes.1);
    none_held = mux-holds_no_write schedules s uppers (lowers d) keeps below.none_held i u at;
  }

  pub holds-nothing : HoldsNothingBack (link_of links) uppers lowers s.shape.uppers (s.shape.lower ∷ []) true
  holds-nothing = record {
    responses = λ room. all-one (λ l. length (queues l).b ≡ 0) d (no-response room);
    read_data = λ room. all-one (λ l. length (queues l).r ≡ 0) d (no-read_data room);
    reads = λ room none below. all-at (λ l. HasNoRead (queues l) (uppers l)) us (no-read (of-one (λ l. HasNoRead (queues l) (lowers l)) d below));
    data_lacks = λ l among.
        All-contains (λ l. LacksData (queues l) (lowers l) → (u : ℕ) × Contains us u × LacksData (queues u) (uppers u)) (d ∷ []) l
        (all-one (λ l. LacksData (queues l) (lowers l) → (u : ℕ) × Contains us u × LacksData (queues u) (uppers u)) d (λ below. lacks-above below s.granted refl)) among;
    writes = λ room none fed below. all-at (λ l. HasNoWrite (queues l) (uppers l)) us (no-write (of-one (λ l. HasNoWrite (queues l) (lowers l)) d below));
    ends = λ none_b none_r reads writes. refl;
  }

module _ (E : Type 0) where
  pub mux-holds_nothing : IdleHoldsNothing (mux_kind {E = E})
  mux-holds_nothing schedules now rounds links s passed fact keeps around above below idle =
      let d = s.shape.lower in
      holds-nothing schedules now links s passed.uppers passed.lowers keeps fact
      (of-one (λ l. Answers (schedules l) now (passed.lowers l)) d around.answered)
      (of-one (λ l. Answers (schedules l) now (seen_above (passed.lowers l) (link_of links l))) d around.answered_seen)
      (of-one (λ l. 0 < (link_of links l).depth) d below) (idle 0 (omega arith))
