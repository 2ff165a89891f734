-- Answers to requests for whole words: they come in order of the requests, and go up under their IDs.
use Rattle.std.proofs.Common.{◌≡◌, ◌≤◌, ℕ, zero, suc, true, List, [], ◌∷◌, ◌++◌, length, map, take, drop, inl, inr, refl, sym, ◌∙◌, ap, ap₂, subst, arith}
use Rattle.std.specs.Prelude.{All}
use Rattle.std.proofs.lemmas.Bool.{cases_eq}
use Rattle.std.proofs.lemmas.List.{length-map, take-append-drop}
use Rattle.std.proofs.lemmas.List.Elements.{All-contains, All-head, All-map, All-tail}
use Rattle.axi_beats.specs.declared.beat.Addr.{Addr}
use Rattle.axi_trail.specs.IdLaws.{response_due}
use Rattle.axi_trail.specs.Words.{Asked, InOrderOfId, Mark, Reply, burst_asked, id_of_asked, id_of_reply, mark_of_reply, marks, write_asked}
use Rattle.axi_trail.proofs.IdFacts.{answers_have_requests, order_is_order_of_id}
use Rattle.lite_node.specs.LiteTable.{word_request}
use Rattle.lite_node.specs.LiteTrail.{returned_in_order}
use Rattle.plain_lists.specs.Keys.{of_key}
use Rattle.plain_lists.specs.Prefixes.{IsPrefix}
use Rattle.plain_lists.proofs.KeyLemmas.{of_key-cons, of_key-skip}
use Rattle.plain_lists.proofs.PrefixLemmas.{prefix_length, prefix_of_same, prefix_same}

-- ---- what is asked below

-- a read asks for one beat, as a write does for one response
pub words-asked : (bus : ℕ) (above : List Addr) → map burst_asked (map (word_request bus) above) ≡ map write_asked (map (word_request bus) above)
words-asked bus [] = refl
words-asked bus (a ∷ above) = ap (λ (t : List Asked). write_asked (word_request bus a) ∷ t) (words-asked bus above)

abbrev due_mark : Addr → Mark
due_mark a = record { number = a.tag.txn; last = true }

words-marks : (bus : ℕ) (above : List Addr) → marks (map write_asked (map (word_request bus) above)) ≡ map due_mark above
words-marks bus [] = refl
words-marks bus (a ∷ above) = ap (λ (t : List Mark). due_mark a ∷ t) (words-marks bus above)

all-own : {X : Type 0} (key_of : X → ℕ) (key : ℕ) (xs : List X) → All (λ x. key_of x ≡ key) xs → of_key key_of key xs ≡ xs
all-own key_of key [] all = refl
all-own {X} key_of key (x ∷ xs) all =
    of_key-cons key_of key x xs (All-head (λ (y : X). key_of y ≡ key) x xs all) ∙ ap (λ (t : List X). x ∷ t) (all-own key_of key xs (All-tail (λ (y : X). key_of y ≡ key) x xs all))

-- under ID 0
pub words-zero : (bus : ℕ) (above : List Addr) → All (λ (a : Asked). a.id ≡ 0) (map write_asked (map (word_request bus) above))
words-zero bus above = All-map (λ (a : Asked). a.id ≡ 0) write_asked (map (word_request bus) above) (All-map (λ (x : Addr). (write_asked x).id ≡ 0) (word_request bus) above (λ k past within. refl))

-- so all answers have ID 0, and come in order
pub replies-zero : (bus : ℕ) (above : List Addr) (replies : List Reply) → InOrderOfId (map write_asked (map (word_request bus) above)) replies → All (λ (p : Reply). p.id ≡ 0) replies
replies-zero bus above replies order k past within =
    let asked : List Asked = map write_asked (map (word_request bus) above) in
    let has = answers_have_requests asked replies order k past within in
    sym has.2 ∙ All-contains (λ (a : Asked). a.id ≡ 0) asked has.0 (words-zero bus above) has.1

pub replies-front : (bus : ℕ) (above : List Addr) (replies : List Reply) → InOrderOfId (map write_asked (map (word_request bus) above)) replies →
    IsPrefix (map mark_of_reply replies) (map due_mark above)
replies-front bus above replies order =
    let asked : List Asked = map write_asked (map (word_request bus) above) in
    prefix_same (ap (map mark_of_reply) (sym (all-own id_of_reply 0 replies (replies-zero bus above replies order))))
    (prefix_of_same (order 0) (ap marks (all-own id_of_asked 0 asked (words-zero bus above)) ∙ words-marks bus above))

pub replies-few : (bus : ℕ) (above : List Addr) (replies : List Reply) → InOrderOfId (map write_asked (map (word_request bus) above)) replies → length replies ≤ length above
replies-few bus above replies order =
    let le = prefix_length (replies-front bus above replies order) in
    omega (arith, le, length-map replies mark_of_reply, length-map above due_mark)

-- ---- what goes up

pub heads : {X : Type 0} (x y : X) (xs ys : List X) → x ∷ xs ≡ y ∷ ys → x ≡ y
heads x y xs ys e = cc

pub tails : {X : Type 0} (x y : X) (xs ys : List X) → x ∷ xs ≡ y ∷ ys → xs ≡ ys
tails x y xs ys e = cc

module _ {X : Type 0} (returned : ℕ → X → X) where
  -- further requests don't matter
  pub returned-more : (front more : List Addr) (answers : List X) → length answers ≤ length front → returned_in_order returned (front ++ more) answers ≡ returned_in_order returned front answers
  returned-more [] [] [] le = refl
  returned-more [] (a ∷ more) [] le = refl
  returned-more [] more (x ∷ answers) le = absurd (omega (arith, le))
  returned-more (a ∷ front) more [] le = refl
  returned-more (a ∷ front) more (x ∷ answers) le = ap (λ (t : List X). returned a.id x ∷ t) (returned-more front more answers (omega (arith, le)))

  -- one more answer goes up under the ID of the next request
  pub returned-push : (front : List Addr) (a : Addr) (more : List Addr) (answers : List X) (x : X) → length answers ≡ length front →
      returned_in_order returned (front ++ a ∷ more) (answers ++ x ∷ []) ≡ returned_in_order returned (front ++ a ∷ more) answers ++ returned a.id x ∷ []
  returned-push [] a [] [] x e = refl
  returned-push [] a (b ∷ more) [] x e = refl
  returned-push [] a more (y ∷ answers) x e = absurd (omega (arith, e))
  returned-push (b ∷ front) a more [] x e = absurd (omega (arith, e))
  returned-push (b ∷ front) a more (y ∷ answers) x e = ap (λ (t : List X). returned b.id y ∷ t) (returned-push front a more answers x (omega (arith, e)))

  module _ {Y : Type 0} (shown : X → Y) (keeps : (id : ℕ) (x : X) → shown (returned id x) ≡ shown x) where
    -- what doesn't tell IDs stays
    pub shown-same : (above : List Addr) (answers : List X) → length answers ≤ length above → map shown (returned_in_order returned above answers) ≡ map shown answers
    shown-same [] [] le = refl
    shown-same [] (x ∷ answers) le = absurd (omega (arith, le))
    shown-same (a ∷ above) [] le = refl
    shown-same (a ∷ above) (x ∷ answers) le = ap₂ (λ (y : Y) (t : List Y). y ∷ t) (keeps a.id x) (shown-same above answers (omega (arith, le)))

    -- also of the answers to one transaction
    pub own-same : (key_of : X → ℕ) → ((id : ℕ) (x : X) → key_of (returned id x) ≡ key_of x) → (key : ℕ) (above : List Addr) (answers : List X) → length answers ≤ length above →
        map shown (of_key key_of key (returned_in_order returned above answers)) ≡ map shown (of_key key_of key answers)
    own-same key_of same key [] [] le = refl
    own-same key_of same key [] (x ∷ answers) le = absurd (omega (arith, le))
    own-same key_of same key (a ∷ above) [] le = refl
    own-same key_of same key (a ∷ above) (x ∷ answers) le =
        let rest = own-same key_of same key above answers (omega (arith, le)) in
        let others : List X = returned_in_order returned above answers in
        elim (cases_eq (key_of x) key) [
          | inl is ↦ ap (map shown) (of_key-cons key_of key (returned a.id x) others (same a.id x ∙ is))
              ∙ ap₂ (λ (y : Y) (t : List Y). y ∷ t) (keeps a.id x) rest
              ∙ sym (ap (map shown) (of_key-cons key_of key x answers is))
          | inr other ↦ ap (map shown) (of_key-skip key_of key (returned a.id x) others (λ is. other (sym (same a.id x) ∙ is)))
              ∙ rest
              ∙ sym (ap (map shown) (of_key-skip key_of key x answers other))
        ]

  module _ (reply : X → Reply) (keeps : (id : ℕ) (x : X) → reply (returned id x) ≡ record { number = (reply x).number; id = id; last = (reply x).last }) where
    -- answers in order are, as they go up, those that are due to the first requests
    pub returned-due : (above : List Addr) (answers : List X) → IsPrefix (map mark_of_reply (map reply answers)) (map due_mark above) →
        map reply (returned_in_order returned above answers) ≡ map response_due (take (length answers) above)
    returned-due [] [] front = refl
    returned-due [] (x ∷ answers) front = refl
    returned-due (a ∷ above) [] front = refl
    returned-due (a ∷ above) (x ∷ answers) front =
        let first : due_mark a ≡ mark_of_reply (reply x) = heads (due_mark a) (mark_of_reply (reply x)) (map due_mark above) (map mark_of_reply (map reply answers) ++ front.rest) front.whole in
        let others : map due_mark above ≡ map mark_of_reply (map reply answers) ++ front.rest =
        tails (due_mark a) (mark_of_reply (reply x)) (map due_mark above) (map mark_of_reply (map reply answers) ++ front.rest) front.whole in
        ap₂ (λ (p : Reply) (t : List Reply). p ∷ t)
        (keeps a.id x ∙ ap (λ (m : Mark). record { number = m.number; id = a.id; last = m.last }) (sym first))
        (returned-due above answers (record { rest = front.rest; whole = others }))

    pub order-returned : (bus : ℕ) (above : List Addr) (answers : List X) → InOrderOfId (map write_asked (map (word_request bus) above)) (map reply answers) →
        InOrderOfId (map write_asked above) (map reply (returned_in_order returned above answers))
    order-returned bus above answers order =
        subst (λ (replies : List Reply). InOrderOfId (map write_asked above) replies) (sym (returned-due above answers (replies-front bus above (map reply answers) order)))
        (order_is_order_of_id (length answers) above)

    -- also where they are in order of the first so many requests
    pub order-returned_first : (bus k : ℕ) (above : List Addr) (answers : List X) → InOrderOfId (map write_asked (take k (map (word_request bus) above))) (map reply answers) →
        InOrderOfId (map write_asked (take k above)) (map reply (returned_in_order returned above answers))
    order-returned_first bus k above answers order =
        let first : List Addr = take k above in
        let here : InOrderOfId (map write_asked (map (word_request bus) first)) (map reply answers) =
        subst (λ (xs : List Addr). InOrderOfId (map write_asked xs) (map reply answers)) (take-map (word_request bus) k above) order in
        let few = replies-few bus first (map reply answers) here in
        let same : returned_in_order returned above answers ≡ returned_in_order returned first answers =
        ap (λ (xs : List Addr). returned_in_order returned xs answers) (sym (take-append-drop k above))
        ∙ returned-more first (drop k above) answers (omega (arith, few, length-map answers reply)) in
        subst (λ (xs : List X). InOrderOfId (map write_asked first) (map reply xs)) (sym same) (order-returned bus first answers here)
      where
        take-map : (f : Addr → Addr) (n : ℕ) (xs : List Addr) → take n (map f xs) ≡ map f (take n xs)
        take-map f zero xs = refl
        take-map f (suc n) [] = refl
        take-map f (suc n) (x ∷ xs) = ap (λ (t : List Addr). f x ∷ t) (take-map f n xs)
