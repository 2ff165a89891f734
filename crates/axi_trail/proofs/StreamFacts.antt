-- Facts on lists of beats that grow.
use Rattle.std.proofs.Common.{◌≡◌, ℕ, suc, zero, Bool, true, false, List, ◌++◌, refl, sym, ◌∙◌, ap, append_assoc}
use Rattle.std.proofs.lemmas.List.{take-append-drop}
use Rattle.axi_link.specs.Moves.{without_head}
use Rattle.axi_trail.specs.Trail.{IsQueue, beat_taken}
use Rattle.plain_lists.specs.Rounds.{over}
use Rattle.plain_lists.specs.Prefixes.{IsPrefix}

module _ {X : Type 0} where
  -- the head of a queue, and what is left without it
  pub taken_and_left : (takes : Bool) (queue : List X) → beat_taken takes queue ++ without_head takes queue ≡ queue
  taken_and_left true queue = take-append-drop 1 queue
  taken_and_left false queue = refl

  pub prefix_taken : (takes : Bool) (xs queue : List X) → IsPrefix (xs ++ beat_taken takes queue) (xs ++ queue)
  prefix_taken takes xs queue = record {
    rest = without_head takes queue;
    whole = ap (λ t. xs ++ t) (sym (taken_and_left takes queue)) ∙ sym (append_assoc xs (beat_taken takes queue) (without_head takes queue));
  }

regroup : {X : Type 0} (a b c d : List X) → (a ++ (b ++ c)) ++ d ≡ (a ++ b) ++ (c ++ d)
regroup a b c d = simp append_assoc

-- what was put is what was taken and what waits
pub queue_is_rest : {X : Type 0} (takes : ℕ → Bool) (puts : ℕ → List X) (queue : ℕ → List X) → IsQueue takes puts queue → (n : ℕ) →
    over puts n ≡ over (λ m. beat_taken (takes m) (queue m)) n ++ queue n
queue_is_rest takes puts queue run zero = sym run.opens
queue_is_rest takes puts queue run (suc n) =
    ap (λ t. t ++ puts n) (queue_is_rest takes puts queue run n)
    ∙ ap (λ t. (over (λ m. beat_taken (takes m) (queue m)) n ++ t) ++ puts n) (sym (taken_and_left (takes n) (queue n)))
    ∙ regroup (over (λ m. beat_taken (takes m) (queue m)) n) (beat_taken (takes n) (queue n)) (without_head (takes n) (queue n)) (puts n)
    ∙ ap (λ t. (over (λ m. beat_taken (takes m) (queue m)) n ++ beat_taken (takes n) (queue n)) ++ t) (sym (run.moves n))

-- what is taken in a round was put in an earlier one
pub taken_was_put : {X : Type 0} (takes : ℕ → Bool) (puts : ℕ → List X) (queue : ℕ → List X) → IsQueue takes puts queue → (n : ℕ) →
    IsPrefix (over (λ m. beat_taken (takes m) (queue m)) (suc n)) (over puts n)
taken_was_put takes puts queue run n =
    let whole : over puts n ≡ over (λ m. beat_taken (takes m) (queue m)) n ++ queue n = queue_is_rest takes puts queue run n in
    let part : IsPrefix (over (λ m. beat_taken (takes m) (queue m)) (suc n)) (over (λ m. beat_taken (takes m) (queue m)) n ++ queue n) = prefix_taken (takes n) (over (λ m. beat_taken (takes m) (queue m)) n) (queue n) in
    record { rest = part.rest; whole = whole ∙ part.whole }
