-- The worst response of each burst.
use Rattle.std.proofs.Common.{◌≡◌, ◌≢◌, ◌<◌, ◌≤◌, ◌+◌, ◌-◌, ◌==◌, ℕ, zero, suc, Bool, true, false, cond, Some, List, [], ◌∷◌, ◌++◌, length, map, take, drop, refl, sym, ◌∙◌, ap, ap₂, subst, inl, inr, arith, append_assoc, append-nil, eq-eqb, length-append, length-drop}
use Rattle.std.specs.Prelude.{◌⊎◌, All, slice_index_or}
use Rattle.std.specs.List.{AllZip}
use Rattle.std.proofs.lemmas.Bool.{cases_eq, cases_lt, ne_eqb}
use Rattle.std.proofs.lemmas.List.{length-map, take_all}
use Rattle.std.proofs.lemmas.List.Elements.{All-cons, All-filter, All-head, All-nil, All-tail}
use Rattle.axi_beats.specs.Response.{worst_of}
use Rattle.axi_beats.specs.declared.response.Resp.{Resp}
use Rattle.axi_beats.specs.declared.response.Resp.TheVariants.{Okay}
use Rattle.axi_trail.proofs.FilterFacts.{beats_due-append}
use Rattle.plain_lists.proofs.KeyLemmas.{of_key-append, of_key-cons, of_key-push, of_key-skip}
use Rattle.axi_trail.proofs.HeldFacts.{held-of_key, once-other, once-own}
use Rattle.plain_lists.proofs.PrefixLemmas.{prefix_total, prefix_length, prefix_of_key, prefix_whole}
use Rattle.axi_trail.proofs.PlaceFacts.{oldest_held_is_next_of_its_own}
use Rattle.axi_trail.proofs.WaitingFacts.{advanced-last, advanced-more, pending-past, pending-within, pending-zero}
use Rattle.axi_trail.specs.LinkContracts.{OneIdAtATime}
use Rattle.axi_trail.specs.Schedule.{Share}
use Rattle.plain_lists.specs.Prefixes.{IsPrefix}
use Rattle.axi_trail.specs.Waiting.{Waiting, answered_once, fresh, pending}
use Rattle.axi_trail.specs.Words.{Asked, InOrderOfId, Reply, beats_due, held_asked, id_of_asked, id_of_reply, id_of_waiting, len_of_asked, number_of_asked, number_of_reply}
use Rattle.plain_lists.specs.Keys.{count_of, of_key}
use Rattle.burst_cuts.specs.Parts.{responses_due, worst_of_groups}
use Rattle.burst_cuts.proofs.GroupLemmas.{groups-closed, groups-open, worst-push}
use Rattle.burst_cuts.proofs.CutLemmas.{beats-front, map-append}
use Rattle.burst_cuts.proofs.HeldLemmas.{IsWithin, held-within}
use Rattle.split_node.proofs.StepLemmas.{once, one-less-last, one-less-more, one-less-other, same-view}
use Rattle.burst_address.specs.Status.{worst_among}
use Rattle.split_node.specs.declared.burst.SplitEntry.{SplitEntry}
use Rattle.split_node.specs.SplitTable.{oldest_entry, less, one_less}
use Rattle.split_node.specs.SplitTrail.{Missing, IsWorst, missing_entry, missing_request}

-- entries

abbrev pub IsFresh : Waiting Asked → Type 0
IsFresh v = v.done ≡ 0

all-fresh : (xs : List Asked) → All IsFresh (map fresh xs)
all-fresh [] = All-nil IsFresh
all-fresh (x ∷ xs) = All-cons IsFresh (fresh x) (map fresh xs) refl (all-fresh xs)

-- of pending requests, all but the first lack all their beats
others-fresh : (count : ℕ) (xs : List Asked) (w : Waiting Asked) (others : List (Waiting Asked)) → pending len_of_asked count xs ≡ w ∷ others → All IsFresh others
others-fresh count [] w others same = absurd (cc)
others-fresh count (x ∷ xs) w others same = elim (cases_lt x.len count) [
  | inl past ↦ others-fresh (count - suc x.len) xs w others (sym (pending-past len_of_asked count x xs past) ∙ same)
  | inr within ↦
      let both : record { request = x; done = count } ∷ pending len_of_asked 0 xs ≡ w ∷ others = sym (pending-within len_of_asked count x xs within) ∙ same in
      let tail : pending len_of_asked 0 xs ≡ others = cc in
      subst (λ (l : List (Waiting Asked)). All IsFresh l) (sym (pending-zero len_of_asked xs) ∙ tail) (all-fresh xs)
]

-- the first of an ID, and what stands around it
pub record IsFirstAt (id : ℕ) (ws : List (Waiting Asked)) (w : Waiting Asked) (others : List (Waiting Asked)) : Type 0 where
  pub left : List (Waiting Asked)
  pub right : List (Waiting Asked)
  pub whole : ws ≡ left ++ w ∷ right
  pub apart : All (λ (v : Waiting Asked). v.request.id ≢ id) left
  pub own : w.request.id ≡ id
  pub rest : of_key id_of_waiting id right ≡ others

pub first-at : (id : ℕ) (ws : List (Waiting Asked)) (w : Waiting Asked) (others : List (Waiting Asked)) → of_key id_of_waiting id ws ≡ w ∷ others → IsFirstAt id ws w others
first-at id [] w others same = absurd (cc)
first-at id (v ∷ ws) w others same = elim (cases_eq v.request.id id) [
  | inl own ↦
      let both : v ∷ of_key id_of_waiting id ws ≡ w ∷ others = sym (of_key-cons id_of_waiting id v ws own) ∙ same in
      let head : v ≡ w = cc in
      let tail : of_key id_of_waiting id ws ≡ others = cc in
      record {
        left = [];
        right = ws;
        whole = ap (λ (x : Waiting Asked). x ∷ ws) head;
        apart = All-nil (λ (v : Waiting Asked). v.request.id ≢ id);
        own = sym (ap (λ (x : Waiting Asked). x.request.id) head) ∙ own;
        rest = tail;
      }
  | inr other ↦
      let found = first-at id ws w others (sym (of_key-skip id_of_waiting id v ws other) ∙ same) in
      record {
        left = v ∷ found.left;
        right = found.right;
        whole = ap (λ (l : List (Waiting Asked)). v ∷ l) found.whole;
        apart = All-cons (λ (v : Waiting Asked). v.request.id ≢ id) v found.left other found.apart;
        own = found.own;
        rest = found.rest;
      }
]

-- of one transaction there is no other request of which some beats have come
abbrev pub IsIdle : ℕ → Waiting Asked → Type 0
IsIdle t v = v.request.number ≡ t → v.done ≡ 0

module _ (rs next : ℕ → List Resp) (t : ℕ) (r : Resp) (own_next : next t ≡ rs t ++ r ∷ []) (other_next : (u : ℕ) → u ≢ t → next u ≡ rs u) where
  worst-stays : (e : SplitEntry) (v : Waiting Asked) → IsIdle t v → IsWorst rs e v → IsWorst next e v
  worst-stays e v idle is = elim (cases_eq v.request.number t) [
    | inr other ↦ record { front = is.front; own = is.own; whole = other_next v.request.number other ∙ is.whole; count = is.count; worst = is.worst }
    | inl same ↦ record { front = next v.request.number; own = []; whole = sym (append-nil (next v.request.number)); count = sym (idle same); worst = is.worst ∙ ap (worst_among) (none is.own (is.count ∙ idle same)) }
  ]
    where
      none : (xs : List Resp) → length xs ≡ 0 → xs ≡ []
      none [] e = refl
      none (x ∷ xs) e = absurd (omega arith)

  all-stay : (es : List SplitEntry) (ws : List (Waiting Asked)) → All (IsIdle t) ws → AllZip (IsWorst rs) es ws → AllZip (IsWorst next) es ws
  all-stay [] [] idle all = tt
  all-stay [] (w ∷ ws) idle all = absurd all
  all-stay (e ∷ es) [] idle all = absurd all
  all-stay (e ∷ es) (w ∷ ws) idle all = (worst-stays e w (All-head (IsIdle t) w ws idle) all.0, all-stay es ws (All-tail (IsIdle t) w ws idle) all.1)

  pub once-worst : (id : ℕ) (es : List SplitEntry) (left : List (Waiting Asked)) (w : Waiting Asked) (right : List (Waiting Asked)) → w.request.id ≡ id → w.request.number ≡ t → w.done ≤ w.request.len →
      All (λ (v : Waiting Asked). v.request.id ≢ id) left → All (IsIdle t) left → All (IsIdle t) right → map missing_entry es ≡ map missing_request (left ++ w ∷ right) →
      AllZip (IsWorst rs) es (left ++ w ∷ right) → AllZip (IsWorst next) (one_less id r es) (once id (left ++ w ∷ right))
  once-worst id [] [] w right own number within apart idle_left idle_right same all = absurd all
  once-worst id [] (v ∷ left) w right own number within apart idle_left idle_right same all = absurd all
  once-worst id (e ∷ es) [] w right own number within apart idle_left idle_right same all =
      let both = same-view e es w right same in
      let mine : e.id ≡ id = both.0 ∙ own in
      elim (cases_lt 1 e.missing) [
        | inr last ↦
            let done : w.done ≡ w.request.len = omega (arith, within, both.1, last) in
            subst (λ (l : List SplitEntry). AllZip (IsWorst next) l (once id (w ∷ right))) (sym (one-less-last id r e es mine last))
            (subst (λ (l : List (Waiting Asked)). AllZip (IsWorst next) es l) (sym (once-own len_of_asked id_of_asked id w right own ∙ advanced-last len_of_asked w right done)) (all-stay es right idle_right all.1))
        | inl more ↦
            let open_ : w.done ≢ w.request.len = λ done. absurd (omega (arith, both.1, done, more)) in
            subst (λ (l : List SplitEntry). AllZip (IsWorst next) l (once id (w ∷ right))) (sym (one-less-more id r e es mine more))
            (subst (λ (l : List (Waiting Asked)). AllZip (IsWorst next) (less e r ∷ es) l)
            (sym (once-own len_of_asked id_of_asked id w right own ∙ advanced-more len_of_asked w right open_)) (
              record {
                front = all.0.front;
                own = all.0.own ++ r ∷ [];
                whole = ap next number ∙ own_next ∙ ap (λ (l : List Resp). l ++ r ∷ []) (ap rs (sym number) ∙ all.0.whole) ∙ append_assoc all.0.front all.0.own (r ∷ []);
                count = length-append all.0.own (r ∷ []) ∙ (let sum : length all.0.own + 1 ≡ suc w.done = omega (arith, all.0.count) in sum);
                worst = ap (λ (x : Resp). worst_of x r) all.0.worst ∙ sym (worst-push all.0.own r);
              },
              all-stay es right idle_right all.1,
            ))
      ]
  once-worst id (e ∷ es) (v ∷ left) w right own number within apart idle_left idle_right same all =
      let both = same-view e es v (left ++ w ∷ right) same in
      let far : v.request.id ≢ id = All-head (λ (v : Waiting Asked). v.request.id ≢ id) v left apart in
      subst (λ (l : List SplitEntry). AllZip (IsWorst next) l (once id (v ∷ (left ++ w ∷ right)))) (sym (one-less-other id r e es (λ is. far (sym both.0 ∙ is))))
      (subst (λ (l : List (Waiting Asked)). AllZip (IsWorst next) (e ∷ one_less id r es) l) (sym (once-other len_of_asked id_of_asked id v (left ++ w ∷ right) far)) (
        worst-stays e v (All-head (IsIdle t) v left idle_left) all.0,
        once-worst id es left w right own number within (All-tail (λ (v : Waiting Asked). v.request.id ≢ id) v left apart) (All-tail (IsIdle t) v left idle_left) idle_right both.2 all.1,
      ))

-- around an element

all-middle : {X : Type 0} (P : X → Type 0) (xs : List X) (v : X) (ys : List X) → All P (xs ++ v ∷ ys) → P v
all-middle P [] v ys all = All-head P v ys all
all-middle P (x ∷ xs) v ys all = all-middle P xs v ys (All-tail P x (xs ++ v ∷ ys) all)

all-around : {X : Type 0} (P : X → Type 0) (ws front xs back : List X) → ws ≡ front ++ (xs ++ back) → ((l : List X) (v : X) (r : List X) → ws ≡ l ++ v ∷ r → P v) → All P xs
all-around P ws front [] back whole each = All-nil P
all-around P ws front (x ∷ xs) back whole each =
    All-cons P x xs (each front x (xs ++ back) whole) (all-around P ws (front ++ x ∷ []) xs back (whole ∙ sym (append_assoc front (x ∷ []) (xs ++ back))) each)

all-both : {X : Type 0} (P Q R : X → Type 0) → ((x : X) → P x → Q x → R x) → (xs : List X) → All P xs → All Q xs → All R xs
all-both P Q R both xs p q = λ i past within. both (slice_index_or xs i past) (p i past within) (q i past within)

all-of_key : (P : Waiting Asked → Type 0) (id : ℕ) (xs : List (Waiting Asked)) → All P (of_key id_of_waiting id xs) → All (λ (v : Waiting Asked). v.request.id ≡ id → P v) xs
all-of_key P id [] all = All-nil (λ (v : Waiting Asked). v.request.id ≡ id → P v)
all-of_key P id (x ∷ xs) all = elim (cases_eq x.request.id id) [
  | inl own ↦
      let kept : All P (x ∷ of_key id_of_waiting id xs) = subst (λ (l : List (Waiting Asked)). All P l) (of_key-cons id_of_waiting id x xs own) all in
      All-cons (λ (v : Waiting Asked). v.request.id ≡ id → P v) x xs (λ is. All-head P x (of_key id_of_waiting id xs) kept) (all-of_key P id xs (All-tail P x (of_key id_of_waiting id xs) kept))
  | inr other ↦
      All-cons (λ (v : Waiting Asked). v.request.id ≡ id → P v) x xs (λ is. absurd (other is)) (all-of_key P id xs (subst (λ (l : List (Waiting Asked)). All P l) (of_key-skip id_of_waiting id x xs other) all))
]

same-head : (b : List Asked) (x y : Asked) (a1 a2 : List Asked) → b ++ x ∷ a1 ≡ b ++ y ∷ a2 → x ≡ y
same-head [] x y a1 a2 same = cc
same-head (z ∷ b) x y a1 a2 same = let tail : b ++ x ∷ a1 ≡ b ++ y ∷ a2 = cc in same-head b x y a1 a2 tail

pub beats-are : (xs : List Asked) → responses_due (map len_of_asked xs) ≡ beats_due xs
beats-are [] = refl
beats-are (x ∷ xs) = omega (arith, beats-are xs)

-- Held requests of one transaction: some beats of one of them have come, at most.
module _ (shares : ℕ → Share) (asked : List Asked) (beats : List Reply) (one : OneIdAtATime shares asked beats) (order : InOrderOfId asked beats) where
  abbrev waiting : List (Waiting Asked)
  waiting = held_asked asked beats

  -- of two places of a transaction, the later one has all beats of the earlier one before it
  later-beats : (t : ℕ) (b1 b2 : List Asked) (x : Asked) (a1 a2 : List Asked) → asked ≡ b1 ++ x ∷ a1 → asked ≡ b2 ++ a2 → x.number ≡ t → length b1 < length b2 →
      beats_due (of_key number_of_asked t b1) + suc x.len ≤ beats_due (of_key number_of_asked t b2)
  later-beats t b1 b2 x a1 a2 at_x at_y is less =
      let front : IsPrefix (b1 ++ x ∷ []) asked = record { rest = a1; whole = at_x ∙ sym (append_assoc b1 (x ∷ []) a1) } in
      let within : IsPrefix (b1 ++ x ∷ []) b2 = prefix_total front (record { rest = a2; whole = at_y }) (omega (arith, less, length-append b1 (x ∷ []))) in
      let here : beats_due (of_key number_of_asked t (b1 ++ x ∷ [])) ≡ beats_due (of_key number_of_asked t b1) + suc x.len =
      ap beats_due (of_key-push number_of_asked t b1 x is) ∙ beats_due-append (of_key number_of_asked t b1) (x ∷ []) ∙ (let sum : beats_due (of_key number_of_asked t b1) + beats_due (x ∷ []) ≡ beats_due (of_key number_of_asked t b1) + suc x.len = omega arith in sum) in
      omega (arith, here, beats-front (of_key number_of_asked t (b1 ++ x ∷ [])) (of_key number_of_asked t b2) (prefix_of_key number_of_asked t within))

  within-first : (id : ℕ) (w : Waiting Asked) (others : List (Waiting Asked)) → of_key id_of_waiting id waiting ≡ w ∷ others → w.done ≤ w.request.len
  within-first id w others first =
      let all : All IsWithin (of_key id_of_waiting id waiting) = All-filter (λ (v : Waiting Asked). id_of_waiting v == id) IsWithin waiting (held-within asked (map id_of_reply beats)) in
      All-head IsWithin w others (subst (λ (l : List (Waiting Asked)). All IsWithin l) first all)

  not-both : (t : ℕ) (w : Waiting Asked) (others : List (Waiting Asked)) (v : Waiting Asked) (more : List (Waiting Asked)) → of_key id_of_waiting w.request.id waiting ≡ w ∷ others → of_key id_of_waiting v.request.id waiting ≡ v ∷ more →
      w.request.number ≡ t → v.request.number ≡ t → v.request.id ≢ w.request.id → ⊥
  not-both t w others v more first_w first_v is_w is_v differ =
      let place_w = oldest_held_is_next_of_its_own shares asked beats one order w.request.id w others first_w in
      let place_v = oldest_held_is_next_of_its_own shares asked beats one order v.request.id v more first_v in
      let many_w : length (of_key number_of_reply t beats) ≡ beats_due (of_key number_of_asked t place_w.0) + w.done =
      subst (λ (n : ℕ). length (of_key number_of_reply n beats) ≡ beats_due (of_key number_of_asked n place_w.0) + w.done) is_w place_w.3 in
      let many_v : length (of_key number_of_reply t beats) ≡ beats_due (of_key number_of_asked t place_v.0) + v.done =
      subst (λ (n : ℕ). length (of_key number_of_reply n beats) ≡ beats_due (of_key number_of_asked n place_v.0) + v.done) is_v place_v.3 in
      let few_w = within-first w.request.id w others first_w in
      let few_v = within-first v.request.id v more first_v in
      elim (cases_lt (length place_w.0) (length place_v.0)) [
        | inl less ↦ absurd (omega (arith, many_w, many_v, few_w, later-beats t place_w.0 place_v.0 w.request place_w.1 (v.request ∷ place_v.1) place_w.2 place_v.2 is_w less))
        | inr ge ↦ elim (cases_lt (length place_v.0) (length place_w.0)) [
          | inl less ↦ absurd (omega (arith, many_w, many_v, few_v, later-beats t place_v.0 place_w.0 v.request place_v.1 (w.request ∷ place_w.1) place_v.2 place_w.2 is_v less))
          | inr le ↦
              let front_w : IsPrefix place_w.0 asked = record { rest = w.request ∷ place_w.1; whole = place_w.2 } in
              let front_v : IsPrefix place_v.0 asked = record { rest = v.request ∷ place_v.1; whole = place_v.2 } in
              let same : place_v.0 ≡ place_w.0 = prefix_whole place_w.0 place_v.0 (prefix_total front_w front_v (omega arith)) (omega arith) in
              let heads : w.request ≡ v.request = same-head place_w.0 w.request v.request place_w.1 place_v.1 (sym place_w.2 ∙ place_v.2 ∙ ap (λ (b : List Asked). b ++ v.request ∷ place_v.1) same) in
              absurd (differ (ap id_of_asked (sym heads)))
        ]
      ]

  idle-at : (w : Waiting Asked) (others : List (Waiting Asked)) → of_key id_of_waiting w.request.id waiting ≡ w ∷ others → (l : List (Waiting Asked)) (v : Waiting Asked) (r : List (Waiting Asked)) → waiting ≡ l ++ v ∷ r →
      v.request.id ≢ w.request.id → IsIdle w.request.number v
  idle-at w others first l v r at differ is = go (of_key id_of_waiting v.request.id l) refl
    where
      split : of_key id_of_waiting v.request.id waiting ≡ of_key id_of_waiting v.request.id l ++ v ∷ of_key id_of_waiting v.request.id r
      split = ap (of_key id_of_waiting v.request.id) at ∙ of_key-append id_of_waiting v.request.id l (v ∷ r) ∙ ap (λ (x : List (Waiting Asked)). of_key id_of_waiting v.request.id l ++ x) (of_key-cons id_of_waiting v.request.id v r refl)

      go : (f : List (Waiting Asked)) → of_key id_of_waiting v.request.id l ≡ f → v.done ≡ 0
      go [] none = absurd (not-both w.request.number w others v (of_key id_of_waiting v.request.id r) first (split ∙ ap (λ (x : List (Waiting Asked)). x ++ v ∷ of_key id_of_waiting v.request.id r) none) refl is differ)
      go (p ∷ ps) some =
          let whole : of_key id_of_waiting v.request.id waiting ≡ p ∷ (ps ++ v ∷ of_key id_of_waiting v.request.id r) = split ∙ ap (λ (x : List (Waiting Asked)). x ++ v ∷ of_key id_of_waiting v.request.id r) some in
          all-middle IsFresh ps v (of_key id_of_waiting v.request.id r)
          (others-fresh (count_of v.request.id (map id_of_reply beats)) (of_key id_of_asked v.request.id asked) p (ps ++ v ∷ of_key id_of_waiting v.request.id r)
          (sym (held-of_key len_of_asked id_of_asked asked (map id_of_reply beats) v.request.id) ∙ whole))

  pub idle-around : (w : Waiting Asked) (others : List (Waiting Asked)) → of_key id_of_waiting w.request.id waiting ≡ w ∷ others → (place : IsFirstAt w.request.id waiting w others) →
      All (IsIdle w.request.number) place.left × All (IsIdle w.request.number) place.right
  idle-around w others first place =
      let t = w.request.number in
      let Far : Waiting Asked → Type 0 = λ v. v.request.id ≢ w.request.id → IsIdle t v in
      let left : All Far place.left = all-around Far waiting [] place.left (w ∷ place.right) place.whole (λ l v r at. idle-at w others first l v r at) in
      let right : All Far place.right =
      all-around Far waiting (place.left ++ w ∷ []) place.right [] (place.whole ∙ sym (append_assoc place.left (w ∷ []) place.right) ∙ ap (λ (x : List (Waiting Asked)). (place.left ++ w ∷ []) ++ x) (sym (append-nil place.right)))
      (λ l v r at. idle-at w others first l v r at) in
      let fresh_others : All IsFresh others =
      others-fresh (count_of w.request.id (map id_of_reply beats)) (of_key id_of_asked w.request.id asked) w others (sym (held-of_key len_of_asked id_of_asked asked (map id_of_reply beats) w.request.id) ∙ first) in
      let own : All (λ (v : Waiting Asked). v.request.id ≡ w.request.id → IsFresh v) place.right = all-of_key IsFresh w.request.id place.right (subst (λ (l : List (Waiting Asked)). All IsFresh l) (sym place.rest) fresh_others) in (
        all-both (λ (v : Waiting Asked). v.request.id ≢ w.request.id) Far (IsIdle t) (λ v far idle. idle far) place.left place.apart left,
        all-both (λ (v : Waiting Asked). v.request.id ≡ w.request.id → IsFresh v) Far (IsIdle t) (λ v mine idle is. elim (cases_eq v.request.id w.request.id) [ inl same ↦ mine same | inr far ↦ idle far is ]) place.right own right,
      )

-- the entry of the oldest request of an ID
pub entry-worst : (rs : ℕ → List Resp) (id : ℕ) (es : List SplitEntry) (ws : List (Waiting Asked)) (w : Waiting Asked) (others : List (Waiting Asked)) (e : SplitEntry) → map missing_entry es ≡ map missing_request ws →
    AllZip (IsWorst rs) es ws → of_key id_of_waiting id ws ≡ w ∷ others → oldest_entry id es ≡ Some e → IsWorst rs e w
entry-worst rs id [] [] w others e same all first found = absurd (cc)
entry-worst rs id [] (v ∷ ws) w others e same all first found = absurd all
entry-worst rs id (x ∷ es) [] w others e same all first found = absurd all
entry-worst rs id (x ∷ es) (v ∷ ws) w others e same all first found =
    let both = same-view x es v ws same in
    elim (cases_eq x.id id) [
      | inl own ↦
          let heads : v ∷ of_key id_of_waiting id ws ≡ w ∷ others = sym (of_key-cons id_of_waiting id v ws (sym both.0 ∙ own)) ∙ first in
          let is : v ≡ w = cc in
          let entry : Some x ≡ Some e = sym (ap (λ (b : Bool). cond b (Some x) (oldest_entry id es)) (eq-eqb x.id id own)) ∙ found in
          let here : x ≡ e = cc in
          subst (λ (y : SplitEntry). IsWorst rs y w) here (subst (λ (y : Waiting Asked). IsWorst rs x y) is all.0)
      | inr other ↦
          entry-worst rs id es ws w others e both.2 all.1 (sym (of_key-skip id_of_waiting id v ws (λ is. other (both.0 ∙ is))) ∙ first)
          (sym (ap (λ (b : Bool). cond b (Some x) (oldest_entry id es)) (ne_eqb x.id id other)) ∙ found)
    ]

-- one more response to the oldest request of an ID
pub record StepsWorst (asked : List Asked) (beats : List Reply) (lens : ℕ → List ℕ) (rs next : ℕ → List Resp) (entries : List SplitEntry) (id : ℕ) (w : Waiting Asked) (r : Resp) : Type 0 where
  pub entries_worst : AllZip (IsWorst next) (one_less id r entries) (once id (held_asked asked beats))
  pub open_ : w.done ≢ w.request.len → worst_of_groups (lens w.request.number) (next w.request.number) ≡ worst_of_groups (lens w.request.number) (rs w.request.number)
  pub closed : (e : SplitEntry) → oldest_entry id entries ≡ Some e → w.done ≡ w.request.len →
      worst_of_groups (lens w.request.number) (next w.request.number) ≡ worst_of_groups (lens w.request.number) (rs w.request.number) ++ worst_of e.worst r ∷ []

pub worst-step : (shares : ℕ → Share) (asked : List Asked) (beats : List Reply) → OneIdAtATime shares asked beats → InOrderOfId asked beats → (lens : ℕ → List ℕ) → ((t : ℕ) → IsPrefix (map len_of_asked (of_key number_of_asked t asked)) (lens t)) →
    (rs next : ℕ → List Resp) → ((t : ℕ) → length (rs t) ≡ length (of_key number_of_reply t beats)) → (entries : List SplitEntry) → map missing_entry entries ≡ map missing_request (held_asked asked beats) → AllZip (IsWorst rs) entries (held_asked asked beats) →
    (id : ℕ) (w : Waiting Asked) (others : List (Waiting Asked)) → of_key id_of_waiting id (held_asked asked beats) ≡ w ∷ others → (e : SplitEntry) → oldest_entry id entries ≡ Some e → (r : Resp) →
    next w.request.number ≡ rs w.request.number ++ r ∷ [] → ((u : ℕ) → u ≢ w.request.number → next u ≡ rs u) → StepsWorst asked beats lens rs next entries id w r
worst-step shares asked beats one order lens its_lens rs next counts entries same all id w others first e found r own_next other_next =
    let t = w.request.number in
    let at = first-at id (held_asked asked beats) w others first in
    let first_own : of_key id_of_waiting w.request.id (held_asked asked beats) ≡ w ∷ others = subst (λ (i : ℕ). of_key id_of_waiting i (held_asked asked beats) ≡ w ∷ others) (sym at.own) first in
    let at_own = first-at w.request.id (held_asked asked beats) w others first_own in
    let idle = idle-around shares asked beats one order w others first_own at_own in
    let few = within-first shares asked beats one order id w others first in
    let place = oldest_held_is_next_of_its_own shares asked beats one order id w others first in
    let is = entry-worst rs id entries (held_asked asked beats) w others e same all first found in
    let firsts = map len_of_asked (of_key number_of_asked t place.0) in
    let mine : of_key number_of_asked t asked ≡ of_key number_of_asked t place.0 ++ w.request ∷ of_key number_of_asked t place.1 =
    ap (of_key number_of_asked t) place.2 ∙ of_key-append number_of_asked t place.0 (w.request ∷ place.1) ∙ ap (λ (l : List Asked). of_key number_of_asked t place.0 ++ l) (of_key-cons number_of_asked t w.request place.1 refl) in
    let more = map len_of_asked (of_key number_of_asked t place.1) ++ (its_lens t).rest in
    let lens_are : lens t ≡ firsts ++ w.request.len ∷ more =
    (its_lens t).whole ∙ ap (λ (l : List Asked). map len_of_asked l ++ (its_lens t).rest) mine
    ∙ ap (λ (l : List ℕ). l ++ (its_lens t).rest) (map-append len_of_asked (of_key number_of_asked t place.0) (w.request ∷ of_key number_of_asked t place.1))
    ∙ append_assoc firsts (w.request.len ∷ map len_of_asked (of_key number_of_asked t place.1)) (its_lens t).rest in
    let counted : length is.front ≡ responses_due firsts =
    omega (arith, counts t, place.3, is.count, ap length is.whole, length-append is.front is.own, beats-are (of_key number_of_asked t place.0)) in
    let next_is : next t ≡ is.front ++ (is.own ++ r ∷ []) = own_next ∙ ap (λ (l : List Resp). l ++ r ∷ []) is.whole ∙ append_assoc is.front is.own (r ∷ []) in
    let before : worst_of_groups (lens t) (rs t) ≡ worst_of_groups firsts is.front =
    ap₂ (λ (x : List ℕ) (y : List Resp). worst_of_groups x y) lens_are is.whole ∙ groups-open firsts w.request.len more is.front is.own counted (omega (arith, is.count, few)) in
    record {
      entries_worst =
          subst (λ (ws : List (Waiting Asked)). AllZip (IsWorst next) (one_less id r entries) (once id ws)) (sym at_own.whole)
          (once-worst rs next t r own_next other_next id entries at_own.left w at_own.right at.own refl few
          (subst (λ (i : ℕ). All (λ (v : Waiting Asked). v.request.id ≢ i) at_own.left) at.own at_own.apart) idle.0 idle.1
          (same ∙ ap (map missing_request) at_own.whole) (subst (λ (ws : List (Waiting Asked)). AllZip (IsWorst rs) entries ws) at_own.whole all));
      open_ = λ more_left.
          ap₂ (λ (x : List ℕ) (y : List Resp). worst_of_groups x y) lens_are next_is
          ∙ groups-open firsts w.request.len more is.front (is.own ++ r ∷ []) counted (omega (arith, is.count, few, more_left, length-append is.own (r ∷ [])))
          ∙ sym before;
      closed = λ entry at_entry last.
          let same_entry : entry ≡ e = (let both : Some entry ≡ Some e = sym at_entry ∙ found in cc) in
          ap₂ (λ (x : List ℕ) (y : List Resp). worst_of_groups x y) lens_are next_is
          ∙ groups-closed firsts w.request.len more is.front (is.own ++ r ∷ []) counted (let sum : length (is.own ++ r ∷ []) ≡ suc w.request.len = omega (arith, is.count, last, length-append is.own (r ∷ [])) in sum)
          ∙ ap₂ (λ (x : List Resp) (y : Resp). x ++ y ∷ []) (sym before) (worst-push is.own r ∙ ap (λ (x : Resp). worst_of x r) (sym is.worst ∙ ap (λ (x : SplitEntry). x.worst) (sym same_entry)));
    }
