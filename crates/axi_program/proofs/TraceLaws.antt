-- The lines of a traced run, one piece after the other.
use Rattle.std.proofs.Common.{◌≡◌, ◌<◌, ◌≤◌, ◌+◌, ◌-◌, [], ◌++◌, ℕ, zero, suc, List, length, Option, Some, None, Bool, true, false, cond, refl, sym, ap, subst, ◌∙◌, arith, append_assoc, append-nil}
use Rattle.std.proofs.lemmas.List.{length-map}
use Rattle.std.specs.Io.KnownBytes.{Appends}
use Rattle.elaborate.specs.Plan.{plan_links}
use Rattle.net_build.specs.NetRun.{NetRun, network_between, network_of_run}
use Rattle.net_kinds.specs.NodeKind.{NodeState, node_kind}
use Rattle.net_model.specs.Network.{Network, after_decide, after_rounds, is_finished}
use Rattle.net_opening.specs.Opening.{opening}
use Rattle.net_opening.specs.PlanLinks.{net_link_of}
use Rattle.net_runs.proofs.RoundLemmas.{links-stay}
use Rattle.plain_lists.specs.Rounds.{over}
use Rattle.axi_program.proofs.LeastLemmas.{least-from, least-more}
use Rattle.axi_program.specs.Run.{least_finished, run_length}
use Rattle.axi_program.specs.Text.{where_asked}

-- nothing is appended where nothing is written
pub appends-nothing : (known : Option (List ℕ)) → Appends known known []
appends-nothing None = tt
appends-nothing (Some bytes) = sym (append-nil bytes)

pub asked-nothing : (trace : Bool) (known : Option (List ℕ)) → Appends known known (where_asked trace [])
asked-nothing false known = appends-nothing known
asked-nothing true known = appends-nothing known

-- parts of a text that is asked for, or isn't
pub asked-more : (trace : Bool) (front next : List ℕ) → where_asked trace (front ++ next) ≡ where_asked trace front ++ where_asked trace next
asked-more false front next = refl
asked-more true front next = refl

pub asked-parts :
    (trace : Bool) (front next rest whole : List ℕ) → whole ≡ (front ++ next) ++ rest → where_asked trace whole ≡ (where_asked trace front ++ where_asked trace next) ++ where_asked trace rest
asked-parts false front next rest whole is = refl
asked-parts true front next rest whole is = is

module _ (pieces : ℕ → List ℕ) where
  -- one piece more
  pub over-more : (n : ℕ) → over pieces (n + 1) ≡ over pieces n ++ pieces n
  over-more n =
      let next : suc n ≡ n + 1 = omega arith in
      subst (λ (k : ℕ). over pieces k ≡ over pieces n ++ pieces n) next refl

  front-by : (few more : ℕ) → (rest : List ℕ) × (over pieces (few + more) ≡ over pieces few ++ rest)
  front-by few zero =
      let none : few + 0 ≡ few = omega arith in
      ([], ap (over pieces) none ∙ sym (append-nil (over pieces few)))
  front-by few (suc more) =
      let next : few + suc more ≡ suc (few + more) = omega arith in
      let before = front-by few more in (
        before.0 ++ pieces (few + more),
        ap (over pieces) next ∙ ap (λ (text : List ℕ). text ++ pieces (few + more)) before.1 ∙ append_assoc (over pieces few) before.0 (pieces (few + more)),
      )

  -- the first pieces are the front of more of them
  pub over-front : (few many : ℕ) → few ≤ many → (rest : List ℕ) × (over pieces many ≡ over pieces few ++ rest)
  over-front few many fewer =
      let all : few + (many - few) ≡ many = omega arith in
      subst (λ (n : ℕ). (rest : List ℕ) × (over pieces n ≡ over pieces few ++ rest)) all (front-by few (many - few))

-- a run that isn't finished after so many rounds has one more
pub run-goes-on :
    (net : Network NodeState) (n most : ℕ) → n < most → is_finished node_kind (after_rounds node_kind n net) ≡ false → least_finished net 0 most ≡ least_finished net n (most - n) → n + 1 ≤ run_length net most
unfolding run_length
run-goes-on net n most below running so_far =
    let next : least_finished net 0 most ≡ least_finished net (n + 1) (most - (n + 1)) = so_far ∙ least-more net n most below running in
    subst (λ (k : ℕ). n + 1 ≤ k) (sym next) (least-from net (n + 1) (most - (n + 1)))

-- what the nodes decide changes no link
decide-links : (round : ℕ) (net : Network NodeState) → (after_decide node_kind round net).links ≡ net.links
unfolding after_decide
decide-links round net = refl

-- a network that is run has a link for each link of its plan
pub links-of : (run : NetRun) → length (network_of_run run).links ≡ length (plan_links run.nodes)
links-of run =
    let between : length (network_between run).links ≡ length (plan_links run.nodes) =
    ap length (links-stay node_kind (opening run.nodes run.items) run.rounds) ∙ length-map (plan_links run.nodes) net_link_of in
    let go : (b : Bool) → length (cond b (after_decide node_kind (run.rounds + 1) (network_between run)) (network_between run)).links ≡ length (plan_links run.nodes) =
    λ b. elim b as (λ b. length (cond b (after_decide node_kind (run.rounds + 1) (network_between run)) (network_between run)).links ≡ length (plan_links run.nodes)) [
      | true ↦ ap length (decide-links (run.rounds + 1) (network_between run)) ∙ between
      | false ↦ between
    ]
    in go run.decided
