-- A splitter that does nothing holds nothing back.
use Rattle.std.proofs.Common.{◌≡◌, ◌<◌, ◌≤◌, ◌+◌, ◌-◌, ℕ, zero, suc, Bool, true, false, List, [], ◌∷◌, ◌++◌, Option, None, Some, length, map, take, replicate, refl, sym, ◌∙◌, ap, subst, arith, append-nil, length-append}
use Rattle.std.specs.Prelude.{All, Contains, flat_map, is_some}
use Rattle.std.proofs.lemmas.Bool.{lt-ltb}
use Rattle.std.proofs.lemmas.List.{length-map, length-replicate}
use Rattle.std.proofs.lemmas.List.Elements.{All-contains, All-head}
use Rattle.axi_beats.specs.declared.beat.Addr.{Addr}
use Rattle.axi_beats.specs.declared.beat.BBeat.{BBeat}
use Rattle.axi_beats.specs.declared.beat.RBeat.{RBeat}
use Rattle.axi_beats.specs.declared.beat.WBeat.{WBeat}
use Rattle.axi_link.specs.LinkView.{LinkView}
use Rattle.axi_link.specs.LinkWords.{has_room, head_of, link_of}
use Rattle.axi_link.specs.declared.out.Out.{Out}
use Rattle.axi_trail.proofs.FilterFacts.{beats_due-append, length-marks}
use Rattle.axi_trail.specs.LinkContracts.{Answers}
use Rattle.axi_trail.specs.Schedule.{Progress, Schedule}
use Rattle.axi_trail.specs.Trail.{Beats, Trail, seen_above}
use Rattle.axi_trail.specs.Waiting.{Waiting, fresh, held}
use Rattle.axi_trail.specs.Words.{Asked, InOrderOfId, Mark, Reply, beats_due, burst_asked, held_asked, id_of_asked, id_of_reply, len_of_asked, marks, read_reply, write_asked, write_reply}
use Rattle.burst_cuts.proofs.CutLemmas.{cut, map-append, marks-of_cut}
use Rattle.burst_cuts.proofs.HeldLemmas.{IsWithin, held-of_cut, held-within}
use Rattle.burst_cuts.proofs.ShownLemmas.{all-single, asked-of_cut, cut_all, same-asked, singles-asked}
use Rattle.burst_cuts.proofs.WholeLemmas.{whole-groups_held}
use Rattle.burst_cuts.specs.CutLaws.{ends, left_parts, single, single_mark, single_reply}
use Rattle.burst_cuts.specs.Parts.{as_last, part_of}
use Rattle.node_core.specs.Acted.{no_moves}
use Rattle.node_core.specs.Rows.{beat_where, fits, put_of, take_of}
use Rattle.node_shape.specs.KindLaws.{IdleHoldsNothing}
use Rattle.node_shape.specs.Quiet.{AreDeep, HasNoRead, HasNoWrite, HoldsNothingBack, LacksData}
use Rattle.node_shape.proofs.OneLinkLemmas.{all-one, of-one, one-has}
use Rattle.plain_lists.proofs.PrefixLemmas.{All_front}
use Rattle.split_node.proofs.AskLemmas.{r-replies}
use Rattle.split_node.proofs.LocalLemmas.{address-taken, b-taken, r-taken}
use Rattle.split_node.proofs.RoundLemmas.{responses-in_order}
use Rattle.split_node.proofs.StepLemmas.{answer-step}
use Rattle.split_node.specs.SplitState.{SplitState}
use Rattle.split_node.specs.SplitTable.{address_row, b_row, oldest_entry, r_row, split_above, split_below, split_out}
use Rattle.split_node.specs.SplitTrail.{Missing, SplitKeeps, SplitsRequests, as_last_read, left_of_work, missing_entry, missing_request, split_kind}
use Rattle.split_node.specs.declared.burst.InWork.{InWork}
use Rattle.split_node.specs.declared.burst.SplitEntry.{SplitEntry}

-- ---- rows that don't move

still-taken : (link : ℕ) (taken : Bool) → taken ≡ true → take_of link taken ≡ None → ⊥
still-taken link true is quiet = absurd (cc)
still-taken link false is quiet = absurd (cc)

no-response : (link : ℕ) (room : Bool) (queue : List BBeat) (entries : List SplitEntry) → room ≡ true → take_of link (is_some (b_row room (head_of queue) entries).taken) ≡ None →
    ((b : BBeat) (rest : List BBeat) → queue ≡ b ∷ rest → is_some (oldest_entry b.id entries) ≡ true) → length queue ≡ 0
no-response link room [] entries roomy quiet placed = refl
no-response link room (b ∷ rest) entries roomy quiet placed = absurd (still-taken link _ (b-taken room (Some b) b entries roomy refl (placed b rest refl)) quiet)

no-read_data : (link : ℕ) (room : Bool) (queue : List RBeat) (entries : List SplitEntry) → room ≡ true → take_of link (is_some (r_row room (head_of queue) entries).taken) ≡ None →
    ((r : RBeat) (rest : List RBeat) → queue ≡ r ∷ rest → is_some (oldest_entry r.id entries) ≡ true) → length queue ≡ 0
no-read_data link room [] entries roomy quiet placed = refl
no-read_data link room (r ∷ rest) entries roomy quiet placed = absurd (still-taken link _ (r-taken room (Some r) r entries roomy refl (placed r rest refl)) quiet)

no-data : (link : ℕ) (room : Bool) (queue : List WBeat) → take_of link (is_some (beat_where room (head_of queue))) ≡ None → room ≡ true → length queue ≡ 0
no-data link false queue quiet roomy = absurd (cc)
no-data link true [] quiet roomy = refl
no-data link true (w ∷ queue) quiet roomy = absurd (cc)

-- with room below there is no burst in work
no-work : (link : ℕ) (room more : Bool) (head : Option Addr) (work : Option InWork) → room ≡ true → put_of link (address_row room more head work).put ≡ None → work ≡ None
no-work link room more head None roomy quiet = refl
no-work link true more head (Some w) roomy quiet = absurd (cc)
no-work link false more head (Some w) roomy quiet = absurd (cc)

no-address : (link : ℕ) (room more : Bool) (queue : List Addr) (work : Option InWork) → room ≡ true → more ≡ true → work ≡ None →
    take_of link (is_some (address_row room more (head_of queue) work).taken) ≡ None → length queue ≡ 0
no-address link room more [] work roomy fitting idle quiet = refl
no-address link room more (a ∷ queue) work roomy fitting idle quiet = absurd (still-taken link _ (address-taken room more (Some a) work a roomy fitting refl idle) quiet)

has-room : {X : Type 0} (xs : List X) (depth : ℕ) → length xs ≡ 0 → 0 < depth → has_room depth xs ≡ true
has-room xs depth empty deep = lt-ltb (length xs) depth (omega (arith, empty, deep))

-- ---- what is held

ids-single : (beats : List Reply) → map id_of_reply (map single_reply beats) ≡ map id_of_reply beats
ids-single [] = refl
ids-single (p ∷ beats) = ap (λ (ids : List ℕ). p.id ∷ ids) (ids-single beats)

-- each held request lacks some part
none-left : (ws : List (Waiting Asked)) → All IsWithin ws → flat_map left_parts ws ≡ [] → ws ≡ []
none-left [] within none = refl
none-left (w ∷ ws) within none =
    let here : w.done ≤ w.request.len = All-head IsWithin w ws within in
    absurd (omega (arith, here, ap length none, length-append (left_parts w) (flat_map left_parts ws), length-replicate (suc w.request.len - w.done) (fresh (single w.request))))

-- where no part is held and none is left to put, no burst is
none-held : (upper lower : List Addr) (beats : List Reply) → cut_all upper ≡ lower ++ [] → held_asked (map burst_asked lower) (map single_reply beats) ≡ [] → held_asked (map burst_asked upper) beats ≡ []
none-held upper lower beats cuts none =
    let asked = map burst_asked upper in
    let all : map burst_asked lower ≡ cut asked = ap (map burst_asked) (sym (cuts ∙ append-nil lower)) ∙ asked-of_cut upper in
    let ids : held_asked asked (map single_reply beats) ≡ held_asked asked beats = ap (held len_of_asked id_of_asked asked) (ids-single beats) in
    none-left (held_asked asked beats) (held-within asked (map id_of_reply beats))
    (ap (flat_map left_parts) (sym ids) ∙ sym (held-of_cut asked (map single_reply beats)) ∙ ap (λ (xs : List Asked). held_asked xs (map single_reply beats)) (sym all) ∙ none)

none-kept : (entries : List SplitEntry) (ws : List (Waiting Asked)) → map missing_entry entries ≡ map missing_request ws → ws ≡ [] → fits entries ≡ true
none-kept [] ws same none = refl
none-kept (e ∷ entries) [] same none = absurd (cc)
none-kept (e ∷ entries) (w ∷ ws) same none = absurd (cc)

-- as many beats are due of the parts as of the bursts
beats-cut : (asked : List Asked) → beats_due (cut asked) ≡ beats_due asked
beats-cut asked = sym (length-marks (cut asked)) ∙ ap length (marks-of_cut asked) ∙ length-map (marks asked) single_mark ∙ length-marks asked

fewer-below : (upper lower left : List Addr) → cut_all upper ≡ lower ++ left → beats_due (map burst_asked lower) ≤ beats_due (map burst_asked upper)
fewer-below upper lower left cuts =
    let whole : beats_due (map burst_asked upper) ≡ beats_due (map burst_asked lower ++ map burst_asked left) =
    sym (beats-cut (map burst_asked upper)) ∙ ap beats_due (sym (asked-of_cut upper) ∙ ap (map burst_asked) cuts ∙ map-append burst_asked lower left) in
    omega (arith, whole, beats_due-append (map burst_asked lower) (map burst_asked left))

module _ (above below : Schedule) (now : Progress) (links : List LinkView) (s : SplitState) (uppers lowers : Trail) (keeps : SplitKeeps above below s (uppers s.upper) (lowers s.lower))
    (answered : Answers below now (seen_above (lowers s.lower) (link_of links s.lower))) (deep : AreDeep (link_of links) (s.lower ∷ [])) (quiet : split_out links s ≡ no_moves) where
  abbrev upper : Beats
  upper = uppers s.upper

  abbrev lower : Beats
  lower = lowers s.lower

  abbrev u : LinkView
  u = split_above links s

  abbrev l : LinkView
  l = split_below links s

  depth : 0 < l.depth
  depth = of-one (λ k. 0 < (link_of links k).depth) s.lower deep

  -- answers have entries
  response-placed : (b : BBeat) (rest : List BBeat) → l.b ≡ b ∷ rest → is_some (oldest_entry b.id s.writes) ≡ true
  response-placed b rest is =
      let order : InOrderOfId (map burst_asked lower.aw) (map single_reply keeps.write_beats ++ write_reply b ∷ []) =
      subst (λ (queue : List BBeat). InOrderOfId (map burst_asked lower.aw) (map single_reply keeps.write_beats ++ map write_reply (take 1 queue))) is
      (responses-in_order above below now s upper lower l keeps answered) in
      ap is_some (answer-step s.write_work s.writes upper.aw lower.aw keeps.write_beats (write_reply b) keeps.writes order).has.found

  data-placed : (r : RBeat) (rest : List RBeat) → l.r ≡ r ∷ rest → is_some (oldest_entry r.id s.reads) ≡ true
  data-placed r rest is =
      let beats = map read_reply upper.r in
      let shown : map read_reply (lower.r ++ take 1 l.r) ≡ map single_reply beats ++ read_reply r ∷ [] =
      ap (λ (queue : List RBeat). map read_reply (lower.r ++ take 1 queue)) is ∙ map-append read_reply lower.r (r ∷ [])
      ∙ ap (λ (x : List Reply). x ++ read_reply r ∷ []) (ap (map read_reply) keeps.r ∙ r-replies upper.r) in
      ap is_some (answer-step s.read_work s.reads upper.ar lower.ar beats (read_reply r) keeps.reads
      (subst (λ (x : List Reply). InOrderOfId (map burst_asked lower.ar) x) shown answered.reads_in_order_of_id)).has.found

  -- one direction: nothing is open above where nothing is open below
  record IsQuiet (queue : List Addr) (addresses : List Addr) (beats : List Reply) : Type 0 where
    none_waits : length queue ≡ 0
    none_held : held_asked (map burst_asked addresses) beats ≡ []

  is-quiet : (below_queue queue : List Addr) (work : Option InWork) (entries : List SplitEntry) (addresses parts : List Addr) (beats : List Reply) → SplitsRequests work entries addresses parts beats →
      length below_queue ≡ 0 → held_asked (map burst_asked parts) (map single_reply beats) ≡ [] →
      put_of s.lower (address_row (has_room l.depth below_queue) (fits entries) (head_of queue) work).put ≡ None →
      take_of s.upper (is_some (address_row (has_room l.depth below_queue) (fits entries) (head_of queue) work).taken) ≡ None → IsQuiet queue addresses beats
  is-quiet below_queue queue work entries addresses parts beats splits empty none no_put no_take =
      let room = has-room below_queue l.depth empty depth in
      let idle : work ≡ None = no-work s.lower (has_room l.depth below_queue) (fits entries) (head_of queue) work room no_put in
      let all : cut_all addresses ≡ parts ++ [] = splits.parts ∙ ap (λ (w : Option InWork). parts ++ left_of_work w) idle in
      let held_none = none-held addresses parts beats all none in
      record {
        none_waits = no-address s.upper (has_room l.depth below_queue) (fits entries) queue work room (none-kept entries (held_asked (map burst_asked addresses) beats) splits.held held_none) idle no_take;
        none_held = held_none;
      }

  holds-nothing : HoldsNothingBack (link_of links) uppers lowers (s.upper ∷ []) (s.lower ∷ []) true
  holds-nothing = record {
    responses = λ room. all-one (λ k. length (link_of links k).b ≡ 0) s.lower
        (no-response s.lower (has_room u.depth u.b) l.b s.writes (lt-ltb (length u.b) u.depth (of-one (λ k. length (link_of links k).b < (link_of links k).depth) s.upper room)) (ap (λ (o : Out). o.b_take) quiet) response-placed);
    read_data = λ room. all-one (λ k. length (link_of links k).r ≡ 0) s.lower
        (no-read_data s.lower (has_room u.depth u.r) l.r s.reads (lt-ltb (length u.r) u.depth (of-one (λ k. length (link_of links k).r < (link_of links k).depth) s.upper room)) (ap (λ (o : Out). o.r_take) quiet) data-placed);
    reads = λ room none quiet_below.
        let below_is : HasNoRead l lower = of-one (λ k. HasNoRead (link_of links k) (lowers k)) s.lower quiet_below in
        let replies : map read_reply lower.r ≡ map single_reply (map read_reply upper.r) = ap (map read_reply) keeps.r ∙ r-replies upper.r in
        let is = is-quiet l.ar u.ar s.read_work s.reads upper.ar lower.ar (map read_reply upper.r) keeps.reads below_is.none_waits
        (ap (held_asked (map burst_asked lower.ar)) (sym replies) ∙ below_is.none_held) (ap (λ (o : Out). o.ar_put) quiet) (ap (λ (o : Out). o.ar_take) quiet) in
        all-one (λ k. HasNoRead (link_of links k) (uppers k)) s.upper (record { none_waits = is.none_waits; none_held = is.none_held });
    data_lacks = λ k among.
        All-contains (λ k. LacksData (link_of links k) (lowers k) → (v : ℕ) × Contains (s.upper ∷ []) v × LacksData (link_of links v) (uppers v)) (s.lower ∷ []) k
        (all-one (λ k. LacksData (link_of links k) (lowers k) → (v : ℕ) × Contains (s.upper ∷ []) v × LacksData (link_of links v) (uppers v)) s.lower
        (λ lacking. (
          s.upper,
          one-has s.upper,
          record {
            none_waits = no-data s.upper (has_room l.depth l.w) u.w (ap (λ (o : Out). o.w_take) quiet) (has-room l.w l.depth lacking.none_waits depth);
            lacks = omega (arith, lacking.lacks, ap length keeps.w, length-map upper.w as_last, fewer-below upper.aw lower.aw (left_of_work s.write_work) keeps.writes.parts);
          },
        )))
        among;
    writes = λ room none fed quiet_below.
        let below_is : HasNoWrite l lower = of-one (λ k. HasNoWrite (link_of links k) (lowers k)) s.lower quiet_below in
        let singles : map burst_asked lower.aw ≡ map write_asked lower.aw =
        same-asked lower.aw (All_front (λ (a : Addr). a.len ≡ 0) (record { rest = left_of_work s.write_work; whole = keeps.writes.parts }) (all-single upper.aw)) in
        let is = is-quiet l.aw u.aw s.write_work s.writes upper.aw lower.aw keeps.write_beats keeps.writes below_is.none_waits
        (ap (held_asked (map burst_asked lower.aw)) (sym keeps.b_below) ∙ ap (λ (asked : List Asked). held_asked asked (map write_reply lower.b)) singles ∙ below_is.none_held)
        (ap (λ (o : Out). o.aw_put) quiet) (ap (λ (o : Out). o.aw_take) quiet) in
        all-one (λ k. HasNoWrite (link_of links k) (uppers k)) s.upper (record {
          none_waits = is.none_waits;
          none_held =
              ap (λ (asked : List Asked). held_asked asked (map write_reply upper.b)) (singles-asked upper.aw)
              ∙ ap (held_asked (map single (map burst_asked upper.aw))) keeps.b_above
              ∙ whole-groups_held (map burst_asked upper.aw) keeps.write_beats keeps.writes.order
              ∙ ap (map (λ (w : Waiting Asked). fresh (single w.request))) is.none_held;
        });
    ends = λ none_b none_r reads writes. refl;
  }

module _ (E : Type 0) where
  pub split-holds_nothing : IdleHoldsNothing (split_kind {E = E})
  split-holds_nothing schedules now rounds links s passed fact keeps around above below idle =
      holds-nothing (schedules s.upper) (schedules s.lower) now links s passed.uppers passed.lowers keeps
      (of-one (λ k. Answers (schedules k) now (seen_above (passed.lowers k) (link_of links k))) s.lower around.answered_seen) below (idle 0 (omega arith))
