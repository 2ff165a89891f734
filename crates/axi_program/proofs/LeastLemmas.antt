-- The rounds of a run are the least number after which all is answered.
use Rattle.std.proofs.Common.{◌≡◌, ◌<◌, ◌≤◌, ◌+◌, ◌-◌, ◌⊎◌, ℕ, zero, suc, Bool, true, false, cond, inl, inr, refl, sym, ap, ◌∙◌, subst, arith}
use Rattle.std.proofs.lemmas.Bool.{cases_lt, true≢false}
use Rattle.net_kinds.specs.NodeKind.{NodeState, node_kind}
use Rattle.net_model.specs.Network.{Network, after_commit, after_decide, after_rounds, is_finished}
use Rattle.axi_program.specs.Run.{IsRunLength, least_finished, run_length}

-- where all is answered, the count ends
pub least-finished : (net : Network NodeState) (from left : ℕ) → is_finished node_kind (after_rounds node_kind from net) ≡ true → least_finished net from left ≡ from
least-finished net from zero ended = refl
least-finished net from (suc left) ended = ap (λ b. cond b from (least_finished net (from + 1) left)) ended

-- else it goes on with the next round
pub least-unfinished : (net : Network NodeState) (from left : ℕ) → is_finished node_kind (after_rounds node_kind from net) ≡ false → least_finished net from (suc left) ≡ least_finished net (from + 1) left
least-unfinished net from left open_yet = ap (λ b. cond b from (least_finished net (from + 1) left)) open_yet

-- the count from a round on: not below it, at most so many more, unfinished before it, and finished or at the end
record IsLeast (net : Network NodeState) (from left n : ℕ) : Type 0 where
  low : from ≤ n
  high : n ≤ from + left
  before : (m : ℕ) → from ≤ m → m < n → is_finished node_kind (after_rounds node_kind m net) ≡ false
  ended : (is_finished node_kind (after_rounds node_kind n net) ≡ true) ⊎ (n ≡ from + left)

least-is : (net : Network NodeState) (left from : ℕ) → IsLeast net from left (least_finished net from left)
least-is net zero from = record { low = omega arith; high = omega arith; before = λ m from_below below. absurd (omega arith); ended = inr (omega arith) }
least-is net (suc left) from =
    let go : (b : Bool) → is_finished node_kind (after_rounds node_kind from net) ≡ b → IsLeast net from (suc left) (cond b from (least_finished net (from + 1) left)) =
    λ b. elim b as (λ b. is_finished node_kind (after_rounds node_kind from net) ≡ b → IsLeast net from (suc left) (cond b from (least_finished net (from + 1) left))) [
      | true ↦ λ is. record { low = omega arith; high = omega arith; before = λ m from_below below. absurd (omega arith); ended = inl is }
      | false ↦ λ is.
          let later = least-is net left (from + 1) in
          record {
            low = omega (arith, later.low);
            high = omega (arith, later.high);
            before = λ m from_below below.
                elim (at-or-above from m from_below) [
                  | inl same ↦ subst (λ (k : ℕ). is_finished node_kind (after_rounds node_kind k net) ≡ false) same is
                  | inr above ↦ later.before m above below
                ];
            ended = elim later.ended [ inl yes_it_is ↦ inl yes_it_is | inr at ↦ inr (omega arith) ];
          }
    ]
    in go (is_finished node_kind (after_rounds node_kind from net)) refl
  where
    at-or-above : (from m : ℕ) → from ≤ m → (from ≡ m) ⊎ (from + 1 ≤ m)
    at-or-above from m le = grind arith

-- it isn't below the round that it begins with
pub least-from : (net : Network NodeState) (from left : ℕ) → from ≤ least_finished net from left
least-from net from left = (least-is net left from).low

-- the rounds of a run are the least number after which all is answered, where there is one up to the bound
pub run_length-is :
    (net : Network NodeState) (bound n : ℕ) → n ≤ bound → is_finished node_kind (after_rounds node_kind n net) ≡ true → IsRunLength net bound (run_length net bound)
unfolding run_length
run_length-is net bound n within finished =
    let least = least-is net bound 0 in
    let rounds = least_finished net 0 bound in
    record {
      within = omega (arith, least.high);
      before = λ m below. least.before m (omega arith) below;
      finished = elim least.ended [ inl there ↦ there | inr at ↦ at-end rounds least.before (omega arith) ];
    }
  where
    at-end :
        (rounds : ℕ) → ((m : ℕ) → 0 ≤ m → m < rounds → is_finished node_kind (after_rounds node_kind m net) ≡ false) → rounds ≡ bound →
        is_finished node_kind (after_rounds node_kind rounds net) ≡ true
    at-end rounds before at =
        elim (cases_lt n rounds) [
          | inl below ↦ absurd (true≢false (sym finished ∙ before n (omega arith) below))
          | inr not_below ↦ subst (λ (k : ℕ). is_finished node_kind (after_rounds node_kind k net) ≡ true) (same n rounds within at not_below) finished
        ]
      where
        same : (n rounds : ℕ) → n ≤ bound → rounds ≡ bound → rounds ≤ n → n ≡ rounds
        same n rounds within at not_below = omega (arith, within, at, not_below)

-- one round more
pub after_rounds-more : (net : Network NodeState) (n : ℕ) → after_rounds node_kind (n + 1) net ≡ after_commit (after_decide node_kind (n + 1) (after_rounds node_kind n net))
after_rounds-more net n =
    let next : suc n ≡ n + 1 = omega arith in
    subst (λ (k : ℕ). after_rounds node_kind k net ≡ after_commit (after_decide node_kind k (after_rounds node_kind n net))) next refl

-- the count goes on with the next round where this one isn't the last
pub least-more : (net : Network NodeState) (n most : ℕ) → n < most → is_finished node_kind (after_rounds node_kind n net) ≡ false → least_finished net n (most - n) ≡ least_finished net (n + 1) (most - (n + 1))
least-more net n most below running =
    let left : most - n ≡ suc (most - (n + 1)) = omega arith in
    ap (least_finished net n) left ∙ least-unfinished net n (most - (n + 1)) running

-- at the bound the count ends
pub least-at_bound : (net : Network NodeState) (n most : ℕ) → n ≡ most → least_finished net n (most - n) ≡ n
least-at_bound net n most at =
    let none : most - n ≡ 0 = omega arith in
    ap (least_finished net n) none
