-- Requests whose beats are requests of their own: one ID at a time.
use Rattle.std.proofs.Common.{◌≡◌, ◌≢◌, ◌<◌, ◌≤◌, ◌-◌, ℕ, zero, suc, List, [], ◌∷◌, ◌++◌, length, map, replicate, refl, sym, ◌∙◌, ap, subst, inl, inr, arith, append_assoc}
use Rattle.std.specs.Prelude.{◌⊎◌}
use Rattle.std.proofs.lemmas.List.{length-map}
use Rattle.plain_lists.specs.Keys.{of_key}
use Rattle.plain_lists.proofs.KeyLemmas.{of_key-map}
use Rattle.axi_trail.specs.Words.{Asked, IsAnswered, Reply, id_of_asked, id_of_reply}
use Rattle.burst_cuts.proofs.CutLemmas.{answered-of_cut, cut}
use Rattle.burst_cuts.specs.CutLaws.{OneIdOfCut, single, single_parts, single_reply}

-- a place in so many equal elements and what follows
pub record IsAmong {X : Type 0} (n : ℕ) (p : X) (ys front : List X) (x : X) (back : List X) : Type 0 where
  pub count : ℕ
  pub less : count < n
  pub is : x ≡ p
  pub before : front ≡ replicate count p
  pub after : back ≡ replicate (n - suc count) p ++ ys

pub record IsBehind {X : Type 0} (n : ℕ) (p : X) (ys front : List X) (x : X) (back : List X) : Type 0 where
  pub later : List X
  pub before : front ≡ replicate n p ++ later
  pub after : ys ≡ later ++ x ∷ back

less-one : (n count : ℕ) → n - suc count ≡ suc n - suc (suc count)
less-one n count = omega arith

both-less : (n count : ℕ) → suc n - suc count ≡ n - count
both-less n count = omega arith

pub place-among : {X : Type 0} (n : ℕ) (p : X) (ys front : List X) (x : X) (back : List X) → replicate n p ++ ys ≡ front ++ x ∷ back → IsAmong n p ys front x back ⊎ IsBehind n p ys front x back
place-among zero p ys front x back same = inr (record { later = front; before = refl; after = same })
place-among {X} (suc n) p ys [] x back same =
    let head : p ≡ x = cc in
    let tail : replicate n p ++ ys ≡ back = cc in
    let left : n ≡ suc n - 1 = omega arith in
    inl (record { count = 0; less = omega arith; is = sym head; before = refl; after = sym tail ∙ ap (λ (k : ℕ). replicate k p ++ ys) left })
place-among {X} (suc n) p ys (f ∷ front) x back same =
    let head : p ≡ f = cc in
    let tail : replicate n p ++ ys ≡ front ++ x ∷ back = cc in
    elim (place-among n p ys front x back tail) [
      | inl among ↦ inl (record { count = suc among.count; less = omega (arith, among.less); is = among.is; before = ap (λ (t : List X). f ∷ t) among.before ∙ ap (λ (y : X). y ∷ replicate among.count p) (sym head); after = among.after ∙ ap (λ (k : ℕ). replicate k p ++ ys) (less-one n among.count) })
      | inr behind ↦ inr (record { later = behind.later; before = ap (λ (t : List X). f ∷ t) behind.before ∙ ap (λ (y : X). y ∷ (replicate n p ++ behind.later)) (sym head); after = behind.after })
    ]

-- a part stands among those of a request
pub record IsPartAt (asked front : List Asked) (x : Asked) (back : List Asked) : Type 0 where
  pub before : List Asked
  pub request : Asked
  pub count : ℕ
  pub after : List Asked
  pub whole : asked ≡ before ++ request ∷ after
  pub within : count ≤ request.len
  pub is : x ≡ single request
  pub earlier : front ≡ cut before ++ replicate count (single request)
  pub later : back ≡ replicate (request.len - count) (single request) ++ cut after

pub part-at : (asked front : List Asked) (x : Asked) (back : List Asked) → cut asked ≡ front ++ x ∷ back → IsPartAt asked front x back
part-at [] front x back same = absurd (none front same)
  where
    none : (front : List Asked) → [] ≡ front ++ x ∷ back → ⊥
    none [] e = absurd (cc)
    none (f ∷ front) e = absurd (cc)
part-at (a ∷ asked) front x back same = elim (place-among (suc a.len) (single a) (cut asked) front x back same) [
  | inl among ↦ record {
    before = [];
    request = a;
    count = among.count;
    after = asked;
    whole = refl;
    within = omega (arith, among.less);
    is = among.is;
    earlier = among.before;
    later = among.after ∙ ap (λ (k : ℕ). replicate k (single a) ++ cut asked) (both-less a.len among.count);
  }
  | inr behind ↦
      let rest = part-at asked behind.later x back behind.after in
      record {
        before = a ∷ rest.before;
        request = rest.request;
        count = rest.count;
        after = rest.after;
        whole = ap (λ (t : List Asked). a ∷ t) rest.whole;
        within = rest.within;
        is = rest.is;
        earlier = behind.before ∙ ap (λ (t : List Asked). single_parts a ++ t) rest.earlier ∙ sym (append_assoc (single_parts a) (cut rest.before) (replicate rest.count (single rest.request)));
        later = rest.later;
      }
]

-- answers have the IDs of the beats
pub singles-count : (id : ℕ) (beats : List Reply) → length (of_key id_of_reply id (map single_reply beats)) ≡ length (of_key id_of_reply id beats)
singles-count id beats = ap length (of_key-map id_of_reply single_reply id beats) ∙ length-map (of_key id_of_reply id beats) single_reply

pub same-answered : (before : List Asked) (a : Asked) (beats : List Reply) → IsAnswered before a beats → IsAnswered before a (map single_reply beats)
same-answered before a beats answered = omega (arith, answered, singles-count a.id beats)

pub one-id_of_cut : OneIdOfCut
one-id_of_cut above below asked put rest beats chains whole one before x between y after put_is chain differ =
    let at_x : cut asked ≡ before ++ x ∷ (between ++ (y ∷ after ++ rest)) =
    whole ∙ ap (λ (t : List Asked). t ++ rest) put_is
    ∙ append_assoc (before ++ x ∷ between) (y ∷ after) rest
    ∙ append_assoc before (x ∷ between) (y ∷ after ++ rest) in
    let place = part-at asked before x (between ++ (y ∷ after ++ rest)) at_x in
    answer place (place-among (place.request.len - place.count) (single place.request) (cut place.after) between y (after ++ rest) (sym place.later))
  where
    answer : (place : IsPartAt asked before x (between ++ (y ∷ after ++ rest))) →
        IsAmong (place.request.len - place.count) (single place.request) (cut place.after) between y (after ++ rest) ⊎ IsBehind (place.request.len - place.count) (single place.request) (cut place.after) between y (after ++ rest) →
        IsAnswered before x (map single_reply beats)
    answer place (inl among) = absurd (differ (ap id_of_asked place.is ∙ ap id_of_asked (sym among.is)))
    answer place (inr behind) =
        let next = part-at place.after behind.later y (after ++ rest) behind.after in
        let there : asked ≡ (place.before ++ place.request ∷ next.before) ++ next.request ∷ next.after =
        place.whole ∙ ap (λ (t : List Asked). place.before ++ place.request ∷ t) next.whole ∙ sym (append_assoc place.before (place.request ∷ next.before) (next.request ∷ next.after)) in
        let same_chain = chains place.request.number next.request.number
        (subst (λ (n : ℕ). (below n).chain ≡ (below next.request.number).chain) (ap (λ (a : Asked). a.number) place.is)
        (subst (λ (n : ℕ). (below x.number).chain ≡ (below n).chain) (ap (λ (a : Asked). a.number) next.is) chain)) in
        let ids : place.request.id ≢ next.request.id = λ same. differ (ap id_of_asked place.is ∙ same ∙ sym (ap id_of_asked next.is)) in
        let answered : IsAnswered place.before place.request beats = one place.before place.request next.before next.request next.after there same_chain ids in
        let parts : IsAnswered (cut place.before ++ replicate place.count (single place.request)) (single place.request) beats = answered-of_cut place.before place.request place.count beats place.within answered in
        same-answered before x beats (subst (λ (a : Asked). IsAnswered before a beats) (sym place.is) (subst (λ (front : List Asked). IsAnswered front (single place.request) beats) (sym place.earlier) parts))
