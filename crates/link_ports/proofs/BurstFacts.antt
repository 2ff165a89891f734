-- Write data, parted into the bursts that it follows.
use Rattle.std.proofs.Common.{◌≡◌, ◌≢◌, ℕ, zero, suc, ◌+◌, ◌⊎◌, true, false, cond, List, [], ◌∷◌, ◌++◌, length, map, refl, sym, ◌∙◌, ap, inl, inr, arith, eq-eqb}
use Rattle.std.proofs.lemmas.Bool.{ne_eqb, le-leb}
use Rattle.axi_beats.specs.declared.beat.WBeat.{WBeat}
use Rattle.axi_history.specs.declared.port.RawAddr.{RawAddr}
use Rattle.axi_history.specs.PortHistory.{bursts, joined_to_first}
use Rattle.axi_history.specs.PortRules.{each_beat, has_last_where_due}
use Rattle.axi_trail.specs.Words.{Mark, burst_marks, mark_of_data, number_of_data}
use Rattle.plain_lists.specs.Prefixes.{IsPrefix, Agree}
use Rattle.plain_lists.proofs.KeyLemmas.{of_key-cons, of_key-skip}
use Rattle.plain_lists.proofs.PrefixLemmas.{agree_tail, prefix_cons, prefix_same}
use Rattle.plain_lists.specs.Keys.{of_key}

-- the first burst of write data that follows the marks of a burst, and then others
pub record FirstBurst (number len : ℕ) (beats : List WBeat) (marked : List Mark) : Type 0 where
  pub burst : List WBeat
  pub others : List WBeat
  pub whole : beats ≡ burst ++ others
  pub parted : bursts beats ≡ burst ∷ bursts others
  pub own : IsPrefix (map mark_of_data burst) (burst_marks number len)
  pub ended : (others ≡ []) ⊎ (length burst ≡ suc len)
  pub agree : Agree (map mark_of_data others) marked

agree_head : {X : Type 0} (x y : X) (xs ys : List X) → Agree (x ∷ xs) (y ∷ ys) → x ≡ y
agree_head x y xs ys agree = agree.same 0 x (omega arith) (omega arith)

-- a beat with `last` ends the burst, and one without it doesn't
ends : (w : WBeat) (more : List WBeat) → w.last ≡ true → bursts (w ∷ more) ≡ (w ∷ []) ∷ bursts more
ends w more e = ap (λ b. cond b ((w ∷ []) ∷ bursts more) (joined_to_first w (bursts more))) e

goes_on : (w : WBeat) (more : List WBeat) → w.last ≡ false → bursts (w ∷ more) ≡ joined_to_first w (bursts more)
goes_on w more e = ap (λ b. cond b ((w ∷ []) ∷ bursts more) (joined_to_first w (bursts more))) e

pub first_burst : (number len : ℕ) (w : WBeat) (more : List WBeat) (marked : List Mark) → Agree (map mark_of_data (w ∷ more)) (burst_marks number len ++ marked) → FirstBurst number len (w ∷ more) marked
first_burst number zero w more marked agree =
    let head : mark_of_data w ≡ record { number = number; last = true } = agree_head _ _ _ _ agree in
    record {
      burst = w ∷ [];
      others = more;
      whole = refl;
      parted = ends w more (ap (λ (m : Mark). m.last) head);
      own = record { rest = []; whole = ap (λ m. m ∷ []) (sym head) };
      ended = inr refl;
      agree = agree_tail _ _ _ _ agree;
    }
first_burst number (suc len) w [] marked agree =
    let head : mark_of_data w ≡ record { number = number; last = false } = agree_head _ _ _ _ agree in
    record {
      burst = w ∷ [];
      others = [];
      whole = refl;
      parted = goes_on w [] (ap (λ (m : Mark). m.last) head);
      own = record { rest = burst_marks number len; whole = ap (λ m. m ∷ burst_marks number len) (sym head) };
      ended = inl refl;
      agree = record { same = λ place past in_none in_marked. absurd (omega arith) };
    }
first_burst number (suc len) w (v ∷ more) marked agree =
    let head : mark_of_data w ≡ record { number = number; last = false } = agree_head _ _ _ _ agree in
    let rest : FirstBurst number len (v ∷ more) marked = first_burst number len v more marked (agree_tail _ _ _ _ agree) in
    record {
      burst = w ∷ rest.burst;
      others = rest.others;
      whole = ap (λ t. w ∷ t) rest.whole;
      parted = goes_on w (v ∷ more) (ap (λ (m : Mark). m.last) head) ∙ ap (joined_to_first w) rest.parted;
      own = prefix_same (ap (λ m. m ∷ map mark_of_data rest.burst) head) (prefix_cons (record { number = number; last = false }) rest.own);
      ended = elim rest.ended [ inl e ↦ inl e | inr e ↦ inr (ap suc e) ];
      agree = rest.agree;
    }

-- the marks of a burst, beat by beat
head_of_own : (number len : ℕ) (w : WBeat) (more : List WBeat) → IsPrefix (map mark_of_data (w ∷ more)) (burst_marks number (suc len)) →
    (mark_of_data w ≡ record { number = number; last = false }) × IsPrefix (map mark_of_data more) (burst_marks number len)
head_of_own number len w more p =
    let whole : record { number = number; last = false } ∷ burst_marks number len ≡ mark_of_data w ∷ (map mark_of_data more ++ p.rest) = p.whole in
    let head : mark_of_data w ≡ record { number = number; last = false } = cc in
    let tail : burst_marks number len ≡ map mark_of_data more ++ p.rest = cc in
    (head, record { rest = p.rest; whole = tail })

last_of_own : (number : ℕ) (w : WBeat) (more : List WBeat) → IsPrefix (map mark_of_data (w ∷ more)) (burst_marks number zero) → (mark_of_data w ≡ record { number = number; last = true }) × (more ≡ [])
last_of_own number w [] p =
    let whole : record { number = number; last = true } ∷ [] ≡ mark_of_data w ∷ p.rest = p.whole in
    let head : mark_of_data w ≡ record { number = number; last = true } = cc in
    (head, refl)
last_of_own number w (v ∷ more) p =
    let whole : record { number = number; last = true } ∷ [] ≡ mark_of_data w ∷ (mark_of_data v ∷ (map mark_of_data more ++ p.rest)) = p.whole in
    let none : [] ≡ mark_of_data v ∷ (map mark_of_data more ++ p.rest) = cc in
    absurd (cc)

-- rule 9, of one burst
pub lasts_due : (a : RawAddr) (number k len : ℕ) (burst : List WBeat) → k + len ≡ a.len → IsPrefix (map mark_of_data burst) (burst_marks number len) → each_beat (has_last_where_due a) k burst ≡ true
lasts_due a number k len [] place own = refl
lasts_due a number k zero (w ∷ more) place own =
    let found : (mark_of_data w ≡ record { number = number; last = true }) × (more ≡ []) = last_of_own number w more own in
    let is_last : w.last ≡ true = ap (λ (m : Mark). m.last) found.0 in
    rw (found.1, is_last, le-leb k a.len (omega arith), eq-eqb k a.len (omega arith)) refl
lasts_due a number k (suc len) (w ∷ more) place own =
    let found : (mark_of_data w ≡ record { number = number; last = false }) × IsPrefix (map mark_of_data more) (burst_marks number len) = head_of_own number len w more own in
    let isnt_last : w.last ≡ false = ap (λ (m : Mark). m.last) found.0 in
    let rest : each_beat (has_last_where_due a) (suc k) more ≡ true = lasts_due a number (suc k) len more (omega arith) found.1 in
    rw (isnt_last, le-leb k a.len (omega arith), ne_eqb k a.len (λ e. omega arith), rest) refl

-- all beats of a burst are its transaction's
pub own_data : (number len : ℕ) (burst : List WBeat) → IsPrefix (map mark_of_data burst) (burst_marks number len) → of_key number_of_data number burst ≡ burst
own_data number len [] own = refl
own_data number zero (w ∷ more) own =
    let found : (mark_of_data w ≡ record { number = number; last = true }) × (more ≡ []) = last_of_own number w more own in
    of_key-cons number_of_data number w more (ap (λ (m : Mark). m.number) found.0) ∙ ap (λ t. w ∷ of_key number_of_data number t) found.1 ∙ ap (λ t. w ∷ t) (sym found.1)
own_data number (suc len) (w ∷ more) own =
    let found : (mark_of_data w ≡ record { number = number; last = false }) × IsPrefix (map mark_of_data more) (burst_marks number len) = head_of_own number len w more own in
    of_key-cons number_of_data number w more (ap (λ (m : Mark). m.number) found.0) ∙ ap (λ t. w ∷ t) (own_data number len more found.1)

pub others_data : (number len other : ℕ) (burst : List WBeat) → other ≢ number → IsPrefix (map mark_of_data burst) (burst_marks number len) → of_key number_of_data other burst ≡ []
others_data number len other [] ne own = refl
others_data number zero other (w ∷ more) ne own =
    let found : (mark_of_data w ≡ record { number = number; last = true }) × (more ≡ []) = last_of_own number w more own in
    of_key-skip number_of_data other w more (λ e. ne (sym e ∙ ap (λ (m : Mark). m.number) found.0)) ∙ ap (of_key number_of_data other) found.1
others_data number (suc len) other (w ∷ more) ne own =
    let found : (mark_of_data w ≡ record { number = number; last = false }) × IsPrefix (map mark_of_data more) (burst_marks number len) = head_of_own number len w more own in
    of_key-skip number_of_data other w more (λ e. ne (sym e ∙ ap (λ (m : Mark). m.number) found.0)) ∙ others_data number len other more ne found.1
