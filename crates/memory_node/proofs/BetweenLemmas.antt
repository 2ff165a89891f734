-- The lanes of a word, one after the other.
use Rattle.std.proofs.Common.{◌≡◌, ℕ, ◌+◌, ◌<◌, ◌≤◌, ◌&&◌, Bool, true, false, cond, leb, ltb, replicate, refl, sym, ◌∙◌, ap, arith, inl, inr}
use Rattle.std.specs.Prelude.{slice_set}
use Rattle.std.proofs.lemmas.Bool.{cases_lt, le-leb, lt-leb, lt-ltb, le-ltb}
use Rattle.memory_node.specs.Store.{Store, byte_at, lanes_between}
use Rattle.plain_lists.proofs.RangeLemmas.{map-range-agree, map-range-constant, map-range-set}

module _ (store : Store) (word low : ℕ) where
  -- what stands on a lane
  abbrev lane_at : ℕ → ℕ → ℕ
  lane_at end k = cond (leb low k && ltb k end) (byte_at store (word + k)) 0

  at-before : (end k : ℕ) → k < low → lane_at end k ≡ 0
  at-before end k lt = ap (λ b. cond (b && ltb k end) (byte_at store (word + k)) 0) (lt-leb low k lt)

  at-past : (end k : ℕ) → end ≤ k → lane_at end k ≡ 0
  at-past end k le =
      let none : (b : Bool) (x : ℕ) → cond (b && false) x 0 ≡ 0 = elim [ true ↦ λ x. refl | false ↦ λ x. refl ] in
      ap (λ b. cond (leb low k && b) (byte_at store (word + k)) 0) (le-ltb k end le) ∙ none (leb low k) (byte_at store (word + k))

  at-within : (end k : ℕ) → low ≤ k → k < end → lane_at end k ≡ byte_at store (word + k)
  at-within end k le lt =
      ap (λ b. cond (b && ltb k end) (byte_at store (word + k)) 0) (le-leb low k le)
      ∙ ap (λ b. cond b (byte_at store (word + k)) 0) (lt-ltb k end lt)

  pub between-none : lanes_between store word low low ≡ replicate 128 0
  between-none =
      map-range-agree (lane_at low) (λ k. 0) 0 128
      (λ k from below. elim (cases_lt k low) [ inl lt ↦ at-before low k lt | inr le ↦ at-past low k le ])
      ∙ map-range-constant 0 128 0

  pub between-more : (lane b : ℕ) → low ≤ lane → lane < 128 → b ≡ byte_at store (word + lane) → slice_set (lanes_between store word low lane) lane b ≡ lanes_between store word low (lane + 1)
  between-more lane b le lt is =
      let own : lane_at (lane + 1) (0 + lane) ≡ b = at-within (lane + 1) (0 + lane) (omega arith) (omega arith) ∙ ap (λ k. byte_at store (word + k)) (let none : 0 + lane ≡ lane = omega arith in none) ∙ sym is in
      map-range-set (lane_at lane) (lane_at (lane + 1)) 0 128 lane b lt own
      (λ k from below other. elim (cases_lt k low) [
        | inl before ↦ at-before lane k before ∙ sym (at-before (lane + 1) k before)
        | inr after ↦ elim (cases_lt k lane) [
          | inl within ↦ at-within lane k after within ∙ sym (at-within (lane + 1) k after (omega arith))
          | inr past ↦ elim (cases_lt k (lane + 1)) [
            | inl same ↦ absurd (other (omega arith))
            | inr beyond ↦ at-past lane k past ∙ sym (at-past (lane + 1) k beyond)
          ]
        ]
      ])
