-- What an up converter does wherever it can.
use Rattle.std.proofs.Common.{◌≡◌, ◌<◌, ◌≤◌, ◌==◌, ◌&&◌, ℕ, suc, Bool, false, true, cond, List, [], ◌∷◌, ◌++◌, Option, None, Some, length, map, take, refl, sym, ◌∙◌, ap, ap₂, subst, arith, inl, inr, append-nil}
use Rattle.std.specs.Prelude.{◌⊎◌, All, Contains, IfSome, IsSome, IsTrue, flat_map, is_some}
use Rattle.std.specs.Option.{option_and_then, option_map, option_map_or}
use Rattle.std.proofs.lemmas.Bool.{lt-ltb}
use Rattle.std.proofs.lemmas.List.{length-map, map-append}
use Rattle.std.proofs.lemmas.Option.{slice_get_within}
use Rattle.axi_beats.specs.declared.beat.Addr.{Addr}
use Rattle.axi_beats.specs.declared.beat.RBeat.{RBeat}
use Rattle.axi_beats.specs.declared.beat.WBeat.{WBeat}
use Rattle.axi_link.specs.LinkView.{LinkView}
use Rattle.axi_link.specs.LinkWords.{has_room, head_of, link_of}
use Rattle.axi_trail.proofs.WaitingFacts.{none-pending}
use Rattle.axi_trail.specs.Schedule.{Schedule}
use Rattle.axi_trail.specs.Trail.{Beats}
use Rattle.axi_trail.specs.Waiting.{Waiting, answered_once, beats_by, waiting_request}
use Rattle.axi_trail.specs.Words.{Mark, beats_due, burst_asked, id_of_address, mark_of_data}
use Rattle.burst_cuts.specs.Parts.{len_of_burst}
use Rattle.flight.proofs.EntryFacts.{place_of-found}
use Rattle.flight.specs.Entries.{place_of}
use Rattle.node_core.specs.Rows.{beat_where, fits, put_of, take_of}
use Rattle.node_shape.specs.LocalLaws.{AddressesTaken, AnswersTaken, AwaitedGoesOn, DataAwaited, EntriesStay, NoOtherGoesOn, SomeIsAwaited, head_taken, left}
use Rattle.node_shape.proofs.OneLinkLemmas.{is-one, of-one, one-has}
use Rattle.up_node.proofs.DataSteps.{beats-shown}
use Rattle.up_node.proofs.EntryLemmas.{data-moves, read_data-moves}
use Rattle.up_node.proofs.StepLemmas.{MovesFor, row-cases}
use Rattle.up_node.specs.UpBeats.{beat_widened}
use Rattle.up_node.specs.UpLaws.{id_of_entry, is_last_of, up_inside}
use Rattle.up_node.specs.UpState.{UpState}
use Rattle.up_node.specs.UpTable.{entries_after_address, entries_after_data, entries_after_read_data, oldest_of_id, up_above, up_ar, up_aw, up_below, up_r, up_w}
use Rattle.up_node.specs.UpTrail.{UpKeeps, up_kind}

-- a head goes on where the row's condition holds
takes-head : {X : Type 0} (number : ℕ) (holds : Bool) (head : Option X) (x : X) → holds ≡ true → head ≡ Some x → IsSome (take_of number (is_some (beat_where holds head)))
takes-head number true (Some y) x holding is = refl
takes-head number true None x holding is = absurd (cc)
takes-head number false head x holding is = absurd (cc)

-- a row that moves takes and puts
taken-some : {X : Type 0} (number : ℕ) (row : Option X) (x : X) → row ≡ Some x → take_of number (is_some row) ≡ Some number
taken-some {X} number row x is = ap (λ (o : Option X). take_of number (is_some o)) is

put-some : {X : Type 0} (number : ℕ) (row : Option X) (x : X) → row ≡ Some x → IsSome (put_of number row)
put-some {X} number row x is = ap (λ (o : Option X). is_some (put_of number o)) is

names-put : {X : Type 0} (number : ℕ) (row : Option X) → IfSome (put_of number row) (λ put. put.0 ≡ number)
names-put number (Some x) = refl
names-put number None = tt

-- there is room on the one link of a side
roomy : {X : Type 0} (queue_of : LinkView → List X) (links : List LinkView) (l : ℕ) → All (λ k. length (queue_of (link_of links k)) < (link_of links k).depth) (l ∷ []) →
    has_room (link_of links l).depth (queue_of (link_of links l)) ≡ true
roomy queue_of links l all = lt-ltb (length (queue_of (link_of links l))) (link_of links l).depth (of-one (λ k. length (queue_of (link_of links k)) < (link_of links k).depth) l all)

-- the head of the one link of a side
its-head : {X : Type 0} (queue_of : LinkView → List X) (links : List LinkView) (k l : ℕ) (x : X) → Contains (k ∷ []) l → head_of (queue_of (link_of links l)) ≡ Some x →
    head_of (queue_of (link_of links k)) ≡ Some x
its-head queue_of links k l x among is = subst (λ (n : ℕ). head_of (queue_of (link_of links n)) ≡ Some x) (is-one k l among) is

-- without entries one more fits
fits-none : (entries : List (Waiting Addr)) → map waiting_request entries ≡ [] → fits entries ≡ true
fits-none [] none = refl
fits-none (e ∷ entries) none = absurd (cc)

both-hold : (a b : Bool) → a ≡ true → b ≡ true → (a && b) ≡ true
both-hold true true fit room = refl
both-hold true false fit room = room
both-hold false b fit room = fit

its-own : (o : Option (Waiting Addr)) → IsTrue (is_some o) → (e : Waiting Addr) × (o ≡ Some e)
its-own (Some e) some = (e, refl)
its-own None some = absurd (cc)

module _ (E : Type 0) where
  pub up-takes_answers : AnswersTaken (up_kind {E = E}) up_inside
  up-takes_answers = (
    λ round links s fact can l b among head places room.
        takes-head s.shape.lower _ _ b (roomy (λ k. k.b) links s.shape.upper room) (its-head (λ k. k.b) links s.shape.lower l b among head),
    λ round links s fact can l r among head places room.
        let its = its-own (oldest_of_id r.id s.reads) places in
        let moves = read_data-moves s.shape _ _ s.reads r its.0 (roomy (λ k. k.r) links s.shape.upper room) (its-head (λ k. k.r) links s.shape.lower l r among head) its.1 in
        ap is_some (taken-some s.shape.lower (up_r links s) _ moves),
  )

  pub up-takes_addresses : AddressesTaken (up_kind {E = E}) up_inside
  up-takes_addresses = (
    λ round links s fact can u a none idle among head room.
        takes-head s.shape.upper _ _ a (both-hold (fits s.writes) _ (fits-none s.writes none) (roomy (λ k. k.aw) links s.shape.lower room)) (its-head (λ k. k.aw) links s.shape.upper u a among head),
    λ round links s fact can u a none idle among head room.
        takes-head s.shape.upper _ _ a (both-hold (fits s.reads) _ (fits-none s.reads none) (roomy (λ k. k.ar) links s.shape.lower room)) (its-head (λ k. k.ar) links s.shape.upper u a among head),
  )

  up-goes_on : AwaitedGoesOn (up_kind {E = E}) up_inside
  up-goes_on round links s fact can u w awaited head room = go s.writes refl awaited
    where
      go : (es : List (Waiting Addr)) → s.writes ≡ es → option_map (λ (entry : Waiting Addr). s.shape.upper) (head_of es) ≡ Some u →
          IsSome (put_of s.shape.lower (up_w links s)) × (IsTrue true → take_of s.shape.upper (is_some (up_w links s)) ≡ Some u)
      go [] is named = absurd (cc)
      go (e ∷ es) is named =
          let upper : s.shape.upper ≡ u = cc in
          let here : head_of (up_above links s).w ≡ Some w = subst (λ (n : ℕ). head_of (link_of links n).w ≡ Some w) (sym upper) head in
          let moves = data-moves s.shape _ _ s.writes w e (lt-ltb (length (up_below links s).w) (up_below links s).depth room) here (ap head_of is) in
          (put-some s.shape.lower (up_w links s) _ moves, λ whole. taken-some s.shape.upper (up_w links s) _ moves ∙ ap (λ (n : ℕ). Some n) upper)

  up-no_other : NoOtherGoesOn (up_kind {E = E}) up_inside
  up-no_other round links s fact can = (go (row-cases s.shape (beat_widened s.shape) _ (up_above links s).w (head_of s.writes)), names-put s.shape.lower (up_w links s))
    where
      go : (up_w links s ≡ None) ⊎ MovesFor s.shape (beat_widened s.shape) (up_above links s).w (head_of s.writes) (up_w links s) →
          IfSome (take_of s.shape.upper (is_some (up_w links s))) (λ u. option_map (λ (entry : Waiting Addr). s.shape.upper) (head_of s.writes) ≡ Some u)
      go (inl none) = subst (λ (o : Option WBeat). IfSome (take_of s.shape.upper (is_some o)) (λ u. option_map (λ (entry : Waiting Addr). s.shape.upper) (head_of s.writes) ≡ Some u)) (sym none) tt
      go (inr m) =
          subst (λ (o : Option WBeat). IfSome (take_of s.shape.upper (is_some o)) (λ u. option_map (λ (entry : Waiting Addr). s.shape.upper) (head_of s.writes) ≡ Some u)) (sym m.row_is)
          (ap (option_map (λ (entry : Waiting Addr). s.shape.upper)) m.entry_is)

-- where the link below lacks data, some write does
pub some-lacks : (above below : Schedule) (s : UpState) (upper lower : Beats) → UpKeeps above below s upper lower → length lower.w < beats_due (map burst_asked lower.aw) →
    (e : Waiting Addr) × (es : List (Waiting Addr)) × (s.writes ≡ e ∷ es) × (length upper.w < beats_due (map burst_asked upper.aw))
some-lacks above below s upper lower keeps lacks = go s.writes refl
  where
    many : length lower.w ≡ length upper.w
    many = sym (length-map lower.w mark_of_data) ∙ ap (λ (ms : List Mark). length ms) keeps.marks ∙ length-map upper.w mark_of_data

    due : beats_due (map burst_asked lower.aw) ≡ beats_due (map burst_asked upper.aw)
    due = ap (λ (xs : List Addr). beats_due (map burst_asked xs)) keeps.aw

    go : (es : List (Waiting Addr)) → s.writes ≡ es → (e : Waiting Addr) × (es : List (Waiting Addr)) × (s.writes ≡ e ∷ es) × (length upper.w < beats_due (map burst_asked upper.aw))
    go [] is =
        let none : beats_by len_of_burst upper.aw ≤ length upper.w = none-pending len_of_burst (length upper.w) upper.aw (sym keeps.pending_writes ∙ is) in
        absurd (omega (arith, none, lacks, many, due, beats-shown upper.aw))
    go (e ∷ es) is = (e, es, is, omega (arith, lacks, many, due))

module _ (E : Type 0) where
  up-some_awaited : SomeIsAwaited (up_kind {E = E}) up_inside
  up-some_awaited schedules rounds s passed keeps l among lacks =
      let here : length (passed.lowers s.shape.lower).w < beats_due (map burst_asked (passed.lowers s.shape.lower).aw) =
      subst (λ (k : ℕ). length (passed.lowers k).w < beats_due (map burst_asked (passed.lowers k).aw)) (is-one s.shape.lower l among) lacks in
      let some = some-lacks (schedules s.shape.upper) (schedules s.shape.lower) s (passed.uppers s.shape.upper) (passed.lowers s.shape.lower) keeps here in
      (s.shape.upper, ap (λ (es : List (Waiting Addr)). option_map (λ (entry : Waiting Addr). s.shape.upper) (head_of es)) some.2, one-has s.shape.upper)

  pub up-awaits_data : DataAwaited (up_kind {E = E}) up_inside
  up-awaits_data = (up-goes_on E, up-no_other E, up-some_awaited)

-- Entries.

-- the request that an address adds
abbrev added : Option Addr → List Addr
added None = []
added (Some a) = a ∷ []

adds : (row : Option Addr) (entries : List (Waiting Addr)) → map waiting_request (entries_after_address row entries) ≡ map waiting_request entries ++ added row
adds None entries = sym (append-nil (map waiting_request entries))
adds (Some a) entries = map-append waiting_request entries _

is-added : (queue_of : LinkView → List Addr) (links : List LinkView) (upper : ℕ) (holds : Bool) →
    flat_map (λ (taken : ℕ × Addr). taken.1 ∷ []) (head_taken queue_of links (take_of upper (is_some (beat_where holds (head_of (queue_of (link_of links upper)))))))
    ≡ added (beat_where holds (head_of (queue_of (link_of links upper))))
is-added queue_of links upper holds = go (queue_of (link_of links upper)) refl holds
  where
    go : (queue : List Addr) → queue_of (link_of links upper) ≡ queue → (holds : Bool) →
        flat_map (λ (taken : ℕ × Addr). taken.1 ∷ []) (head_taken queue_of links (take_of upper (is_some (beat_where holds (head_of queue))))) ≡ added (beat_where holds (head_of queue))
    go queue is false = refl
    go [] is true = refl
    go (a ∷ queue) is true = ap (λ (q : List Addr). flat_map (λ (taken : ℕ × Addr). taken.1 ∷ []) (map (λ (head : Addr). (upper, head)) (take 1 q))) is

-- the write that leaves with data
write-leaves : (row : Option WBeat) (entries : List (Waiting Addr)) →
    map waiting_request (entries_after_data row entries) ≡ left (option_and_then (λ (w : WBeat). cond (option_map_or is_last_of (head_of entries) false) (Some 0) None) row) (map waiting_request entries)
write-leaves None entries = refl
write-leaves (Some w) [] = refl
write-leaves (Some w) (e ∷ es) = go (e.done == e.request.len)
  where
    go : (b : Bool) → map waiting_request (cond b es (record { request = e.request; done = suc e.done } ∷ es)) ≡ left (cond b (Some 0) None) (e.request ∷ map waiting_request es)
    go true = refl
    go false = refl

-- the read that leaves with an answer
left-behind : {K : Type 0} (o : Option ℕ) (x : K) (xs : List K) → left (option_map suc o) (x ∷ xs) ≡ x ∷ left o xs
left-behind None x xs = refl
left-behind (Some k) x xs = refl

oldest-leaves : (id : ℕ) (entries : List (Waiting Addr)) →
    map waiting_request (answered_once len_of_burst id_of_address id entries) ≡ left (cond (option_map_or is_last_of (oldest_of_id id entries) false) (place_of id (map id_of_entry entries)) None) (map waiting_request entries)
oldest-leaves id [] = refl
oldest-leaves id (e ∷ es) = go (e.request.id == id) (oldest-leaves id es)
  where
    here : (b : Bool) → map waiting_request (cond b es (record { request = e.request; done = suc e.done } ∷ es)) ≡ left (cond b (Some 0) None) (e.request ∷ map waiting_request es)
    here true = refl
    here false = refl

    behind : (last : Bool) → e.request ∷ left (cond last (place_of id (map id_of_entry es)) None) (map waiting_request es)
        ≡ left (cond last (option_map suc (place_of id (map id_of_entry es))) None) (e.request ∷ map waiting_request es)
    behind true = sym (left-behind (place_of id (map id_of_entry es)) e.request (map waiting_request es))
    behind false = refl

    go : (own : Bool) → map waiting_request (answered_once len_of_burst id_of_address id es) ≡ left (cond (option_map_or is_last_of (oldest_of_id id es) false) (place_of id (map id_of_entry es)) None) (map waiting_request es) →
        map waiting_request (cond own (cond (e.done == e.request.len) es (record { request = e.request; done = suc e.done } ∷ es)) (e ∷ answered_once len_of_burst id_of_address id es))
        ≡ left (cond (option_map_or is_last_of (cond own (Some e) (oldest_of_id id es)) false) (cond own (Some 0) (option_map suc (place_of id (map id_of_entry es)))) None) (e.request ∷ map waiting_request es)
    go true later = here (e.done == e.request.len)
    go false later = ap (λ (rs : List Addr). e.request ∷ rs) later ∙ behind (option_map_or is_last_of (oldest_of_id id es) false)

read-leaves : (row : Option RBeat) (entries : List (Waiting Addr)) →
    map waiting_request (entries_after_read_data row entries)
    ≡ left (option_and_then (λ (r : RBeat). cond (option_map_or is_last_of (oldest_of_id r.id entries) false) (place_of r.id (map id_of_entry entries)) None) row) (map waiting_request entries)
read-leaves None entries = refl
read-leaves (Some r) entries = oldest-leaves r.id entries

-- an entry that leaves is there, and leaves with its beat
module _ (upper : ℕ) (entries : List (Waiting Addr)) where
  write-there : (row : Option WBeat) → IfSome (option_and_then (λ (w : WBeat). cond (option_map_or is_last_of (head_of entries) false) (Some 0) None) row)
      (λ (k : ℕ). (k < length (map waiting_request entries)) × IsSome (take_of upper (is_some row)))
  write-there None = tt
  write-there (Some w) = go entries refl
    where
      last : (b : Bool) (n : ℕ) → 0 < n → IfSome (cond b (Some 0) None) (λ (k : ℕ). (k < n) × IsSome (Some upper))
      last true n some = (some, refl)
      last false n some = tt

      go : (es : List (Waiting Addr)) → entries ≡ es → IfSome (cond (option_map_or is_last_of (head_of es) false) (Some 0) None) (λ (k : ℕ). (k < length (map waiting_request entries)) × IsSome (Some upper))
      go [] is = tt
      go (e ∷ es) is = last (e.done == e.request.len) (length (map waiting_request entries)) (let many : length (map waiting_request entries) ≡ suc (length (map waiting_request es)) = ap (λ (xs : List (Waiting Addr)). length (map waiting_request xs)) is in omega (arith, many))

  read-there : (row : Option RBeat) → IfSome (option_and_then (λ (r : RBeat). cond (option_map_or is_last_of (oldest_of_id r.id entries) false) (place_of r.id (map id_of_entry entries)) None) row)
      (λ (k : ℕ). (k < length (map waiting_request entries)) × IsSome (take_of upper (is_some row)))
  read-there None = tt
  read-there (Some r) = go (option_map_or is_last_of (oldest_of_id r.id entries) false) (place_of r.id (map id_of_entry entries)) refl
    where
      go : (last : Bool) (o : Option ℕ) → place_of r.id (map id_of_entry entries) ≡ o → IfSome (cond last o None) (λ (k : ℕ). (k < length (map waiting_request entries)) × IsSome (Some upper))
      go false o is = tt
      go true None is = tt
      go true (Some k) is =
          let within = slice_get_within (map id_of_entry entries) k r.id (place_of-found r.id (map id_of_entry entries) k is) in
          (omega (arith, within, length-map entries id_of_entry, length-map entries waiting_request), refl)

module _ (E : Type 0) where
  pub up-entries_stay : EntriesStay (up_kind {E = E}) up_inside
  up-entries_stay round links s fact can = (
    record {
      stay = adds (up_aw links s) (entries_after_data (up_w links s) s.writes)
          ∙ ap₂ (λ (xs ys : List Addr). xs ++ ys) (write-leaves (up_w links s) s.writes) (sym (is-added (λ l. l.aw) links s.shape.upper (fits s.writes && has_room (up_below links s).depth (up_below links s).aw)));
      leaves = write-there s.shape.upper s.writes (up_w links s);
    },
    record {
      stay = adds (up_ar links s) (entries_after_read_data (up_r links s) s.reads)
          ∙ ap₂ (λ (xs ys : List Addr). xs ++ ys) (read-leaves (up_r links s) s.reads) (sym (is-added (λ l. l.ar) links s.shape.upper (fits s.reads && has_room (up_below links s).depth (up_below links s).ar)));
      leaves = read-there s.shape.lower s.reads (up_r links s);
    },
  )
