-- Where no node holds anything back: first no answer is on a link, from the managers down; then no read is open, from the
-- subordinates up; then no link lacks data, from the managers down; then no write is open, from the subordinates up.
use Rattle.std.proofs.Common.{◌≡◌, ◌<◌, ◌≤◌, ◌-◌, ◌++◌, ℕ, zero, suc, Bool, true, List, [], ◌∷◌, length, map, refl, sym, ◌∙◌, ap, ap₂, subst, arith}
use Rattle.std.specs.Prelude.{All, Contains}
use Rattle.std.proofs.lemmas.List.Elements.{All-contains, All-weaker}
use Rattle.axi_beats.specs.declared.beat.Addr.{Addr}
use Rattle.axi_beats.specs.declared.beat.BBeat.{BBeat}
use Rattle.axi_beats.specs.declared.beat.RBeat.{RBeat}
use Rattle.axi_link.specs.LinkView.{LinkView}
use Rattle.axi_trail.specs.Trail.{Beats, IsFifo, Trail}
use Rattle.axi_trail.specs.Words.{beats_due, burst_asked, held_asked, read_reply, write_asked, write_reply}
use Rattle.node_shape.specs.Quiet.{HasNoRead, HoldsNothingBack, LacksData, HasNoWrite}

-- A network between two rounds: how many links there are, the nodes at the ends of each, the links of each node, and what
-- each node has passed.
pub record Picture : Type 0 where
  pub count : ℕ
  pub queues : ℕ → LinkView
  pub upper : ℕ → ℕ
  pub lower : ℕ → ℕ
  pub above : ℕ → List ℕ
  pub below : ℕ → List ℕ
  pub uppers : ℕ → Trail
  pub lowers : ℕ → Trail

-- links and nodes are joined; links fall, hold what their ends tell, and have room for a beat
pub record IsWhole (p : Picture) : Type 0 where
  pub rank : ℕ → ℕ
  pub high : ℕ
  pub ranked : (node : ℕ) → rank node ≤ high
  pub own_above : (node : ℕ) → All (λ l. (l < p.count) × (p.lower l ≡ node)) (p.above node)
  pub own_below : (node : ℕ) → All (λ l. (l < p.count) × (p.upper l ≡ node)) (p.below node)
  pub among_below : (l : ℕ) → l < p.count → Contains (p.below (p.upper l)) l
  pub among_above : (l : ℕ) → l < p.count → Contains (p.above (p.lower l)) l
  pub falls : (l : ℕ) → l < p.count → rank (p.upper l) < rank (p.lower l)
  pub fifo : (l : ℕ) → l < p.count → IsFifo (p.lowers (p.upper l) l) (p.uppers (p.lower l) l) (p.queues l)
  pub deep : (l : ℕ) → l < p.count → 0 < (p.queues l).depth

nothing : {X : Type 0} (xs : List X) → length xs ≡ 0 → xs ≡ []
nothing [] is = refl
nothing (x ∷ xs) is = absurd (omega (arith, is))

nil : {X : Type 0} (xs : List X) → xs ++ [] ≡ xs
nil [] = refl
nil (x ∷ xs) = ap (λ t. x ∷ t) (nil xs)

-- nothing waits: both ends are one
same-ends : {X : Type 0} (whole part queue : List X) → whole ≡ part ++ queue → length queue ≡ 0 → whole ≡ part
same-ends whole part queue is empty = is ∙ ap (λ t. part ++ t) (nothing queue empty) ∙ nil part

beats-more : (xs ys : List Addr) → beats_due (map burst_asked xs) ≤ beats_due (map burst_asked (xs ++ ys))
beats-more [] ys = omega arith
beats-more (x ∷ xs) ys = omega (arith, beats-more xs ys)

-- what holds at the lower end of a link holds at its upper end
reads-cross : (upper lower : Beats) (link : LinkView) → IsFifo upper lower link → length link.r ≡ 0 → HasNoRead link lower → HasNoRead link upper
reads-cross upper lower link fifo empty done = record {
  none_waits = done.none_waits;
  none_held =
      ap₂ (λ (a : List Addr) (r : List RBeat). held_asked (map burst_asked a) (map read_reply r)) (same-ends upper.ar lower.ar link.ar fifo.ar done.none_waits) (sym (same-ends lower.r upper.r link.r fifo.r empty))
      ∙ done.none_held;
}

writes-cross : (upper lower : Beats) (link : LinkView) → IsFifo upper lower link → length link.b ≡ 0 → HasNoWrite link lower → HasNoWrite link upper
writes-cross upper lower link fifo empty done = record {
  none_waits = done.none_waits;
  none_held =
      ap₂ (λ (a : List Addr) (b : List BBeat). held_asked (map write_asked a) (map write_reply b)) (same-ends upper.aw lower.aw link.aw fifo.aw done.none_waits) (sym (same-ends lower.b upper.b link.b fifo.b empty))
      ∙ done.none_held;
}

lacks-cross : (upper lower : Beats) (link : LinkView) → IsFifo upper lower link → LacksData link lower → LacksData link upper
lacks-cross upper lower link fifo lacks =
    let more : beats_due (map burst_asked lower.aw) ≤ beats_due (map burst_asked upper.aw) =
    subst (λ (xs : List Addr). beats_due (map burst_asked lower.aw) ≤ beats_due (map burst_asked xs)) (sym fifo.aw) (beats-more lower.aw link.aw) in
    record { none_waits = lacks.none_waits; lacks = omega (arith, more, ap length (same-ends upper.w lower.w link.w fifo.w lacks.none_waits), lacks.lacks) }

module _ (p : Picture) (done : ℕ → Bool) (whole : IsWhole p)
    (quiet : (node : ℕ) → HoldsNothingBack p.queues (p.uppers node) (p.lowers node) (p.above node) (p.below node) (done node)) where
  abbrev OwnAbove : ℕ → ℕ → Type 0
  OwnAbove node l = (l < p.count) × (p.lower l ≡ node)

  abbrev OwnBelow : ℕ → ℕ → Type 0
  OwnBelow node l = (l < p.count) × (p.upper l ≡ node)

  -- a link above a node hangs higher than the links below it
  higher : (l k : ℕ) → p.lower l ≡ k → l < p.count → whole.rank (p.upper l) < whole.rank k
  higher l k is known = subst (λ (n : ℕ). whole.rank (p.upper l) < whole.rank n) is (whole.falls l known)

  deeper : (l k : ℕ) → p.upper l ≡ k → l < p.count → whole.high - whole.rank (p.lower l) < whole.high - whole.rank k
  deeper l k is known =
      let less : whole.rank k < whole.rank (p.lower l) = subst (λ (n : ℕ). whole.rank n < whole.rank (p.lower l)) is (whole.falls l known) in
      omega (arith, less, whole.ranked (p.lower l))

  -- 1. no answer is on a link
  no-response : (bound l : ℕ) → l < p.count → whole.rank (p.upper l) < bound → length (p.queues l).b ≡ 0
  no-response zero l known below = absurd (omega (arith, below))
  no-response (suc bound) l known below =
      All-contains (λ l. length (p.queues l).b ≡ 0) (p.below (p.upper l)) l
      ((quiet (p.upper l)).responses
      (All-weaker (OwnAbove (p.upper l)) (λ u. length (p.queues u).b < (p.queues u).depth)
      (λ u own. omega (arith, whole.deep u own.0, no-response bound u own.0 (omega (arith, higher u (p.upper l) own.1 own.0, below)))) (p.above (p.upper l)) (whole.own_above (p.upper l))))
      (whole.among_below l known)

  no-read_data : (bound l : ℕ) → l < p.count → whole.rank (p.upper l) < bound → length (p.queues l).r ≡ 0
  no-read_data zero l known below = absurd (omega (arith, below))
  no-read_data (suc bound) l known below =
      All-contains (λ l. length (p.queues l).r ≡ 0) (p.below (p.upper l)) l
      ((quiet (p.upper l)).read_data
      (All-weaker (OwnAbove (p.upper l)) (λ u. length (p.queues u).r < (p.queues u).depth)
      (λ u own. omega (arith, whole.deep u own.0, no-read_data bound u own.0 (omega (arith, higher u (p.upper l) own.1 own.0, below)))) (p.above (p.upper l)) (whole.own_above (p.upper l))))
      (whole.among_below l known)

  no-b : (l : ℕ) → l < p.count → length (p.queues l).b ≡ 0
  no-b l known = no-response (suc (whole.rank (p.upper l))) l known (omega arith)

  no-r : (l : ℕ) → l < p.count → length (p.queues l).r ≡ 0
  no-r l known = no-read_data (suc (whole.rank (p.upper l))) l known (omega arith)

  room-b : (node : ℕ) → All (λ u. length (p.queues u).b < (p.queues u).depth) (p.above node)
  room-b node = All-weaker (OwnAbove node) (λ u. length (p.queues u).b < (p.queues u).depth) (λ u own. omega (arith, whole.deep u own.0, no-b u own.0)) (p.above node) (whole.own_above node)

  room-r : (node : ℕ) → All (λ u. length (p.queues u).r < (p.queues u).depth) (p.above node)
  room-r node = All-weaker (OwnAbove node) (λ u. length (p.queues u).r < (p.queues u).depth) (λ u own. omega (arith, whole.deep u own.0, no-r u own.0)) (p.above node) (whole.own_above node)

  none-b : (node : ℕ) → All (λ l. length (p.queues l).b ≡ 0) (p.below node)
  none-b node = All-weaker (OwnBelow node) (λ l. length (p.queues l).b ≡ 0) (λ l own. no-b l own.0) (p.below node) (whole.own_below node)

  none-r : (node : ℕ) → All (λ l. length (p.queues l).r ≡ 0) (p.below node)
  none-r node = All-weaker (OwnBelow node) (λ l. length (p.queues l).r ≡ 0) (λ l own. no-r l own.0) (p.below node) (whole.own_below node)

  -- 2. no read is open
  abbrev ReadsOf : ℕ → Type 0
  ReadsOf l = HasNoRead (p.queues l) (p.uppers (p.lower l) l)

  reads-below : (node : ℕ) → ((l : ℕ) → l < p.count → p.upper l ≡ node → ReadsOf l) → All (λ l. HasNoRead (p.queues l) (p.lowers node l)) (p.below node)
  reads-below node each =
      All-weaker (OwnBelow node) (λ l. HasNoRead (p.queues l) (p.lowers node l))
      (λ l own. subst (λ (n : ℕ). HasNoRead (p.queues l) (p.lowers n l)) own.1
      (reads-cross (p.lowers (p.upper l) l) (p.uppers (p.lower l) l) (p.queues l) (whole.fifo l own.0) (no-r l own.0) (each l own.0 own.1)))
      (p.below node) (whole.own_below node)

  reads-to : (bound l : ℕ) → l < p.count → whole.high - whole.rank (p.lower l) < bound → ReadsOf l
  reads-to zero l known low = absurd (omega (arith, low))
  reads-to (suc bound) l known low =
      let node = p.lower l in
      All-contains (λ u. HasNoRead (p.queues u) (p.uppers node u)) (p.above node) l
      ((quiet node).reads (room-r node) (none-r node) (reads-below node (λ d there is. reads-to bound d there (omega (arith, deeper d node is there, low)))))
      (whole.among_above l known)

  reads-of : (node : ℕ) → All (λ l. HasNoRead (p.queues l) (p.lowers node l)) (p.below node)
  reads-of node = reads-below node (λ l known is. reads-to (suc (whole.high - whole.rank (p.lower l))) l known (omega arith))

  -- 3. no link lacks data, told of its upper end
  no-lack : (bound l : ℕ) → l < p.count → whole.rank (p.upper l) < bound → ¬ LacksData (p.queues l) (p.lowers (p.upper l) l)
  no-lack zero l known below lacks = absurd (omega (arith, below))
  no-lack (suc bound) l known below lacks =
      let node = p.upper l in
      let up = (quiet node).data_lacks l (whole.among_below l known) lacks in
      let u = up.0 in
      let own : OwnAbove node u = All-contains (OwnAbove node) (p.above node) u (whole.own_above node) up.1 in
      let there : LacksData (p.queues u) (p.uppers (p.lower u) u) = subst (λ (n : ℕ). LacksData (p.queues u) (p.uppers n u)) (sym own.1) up.2 in
      no-lack bound u own.0 (omega (arith, higher u node own.1 own.0, below)) (lacks-cross (p.lowers (p.upper u) u) (p.uppers (p.lower u) u) (p.queues u) (whole.fifo u own.0) there)

  none_lacks : (node : ℕ) → All (λ u. ¬ LacksData (p.queues u) (p.uppers node u)) (p.above node)
  none_lacks node =
      All-weaker (OwnAbove node) (λ u. ¬ LacksData (p.queues u) (p.uppers node u))
      (λ u own lacks.
      let there : LacksData (p.queues u) (p.uppers (p.lower u) u) = subst (λ (n : ℕ). LacksData (p.queues u) (p.uppers n u)) (sym own.1) lacks in
      no-lack (suc (whole.rank (p.upper u))) u own.0 (omega arith) (lacks-cross (p.lowers (p.upper u) u) (p.uppers (p.lower u) u) (p.queues u) (whole.fifo u own.0) there))
      (p.above node) (whole.own_above node)

  -- 4. no write is open
  abbrev WritesOf : ℕ → Type 0
  WritesOf l = HasNoWrite (p.queues l) (p.uppers (p.lower l) l)

  writes-below : (node : ℕ) → ((l : ℕ) → l < p.count → p.upper l ≡ node → WritesOf l) → All (λ l. HasNoWrite (p.queues l) (p.lowers node l)) (p.below node)
  writes-below node each =
      All-weaker (OwnBelow node) (λ l. HasNoWrite (p.queues l) (p.lowers node l))
      (λ l own. subst (λ (n : ℕ). HasNoWrite (p.queues l) (p.lowers n l)) own.1
      (writes-cross (p.lowers (p.upper l) l) (p.uppers (p.lower l) l) (p.queues l) (whole.fifo l own.0) (no-b l own.0) (each l own.0 own.1)))
      (p.below node) (whole.own_below node)

  writes-to : (bound l : ℕ) → l < p.count → whole.high - whole.rank (p.lower l) < bound → WritesOf l
  writes-to zero l known low = absurd (omega (arith, low))
  writes-to (suc bound) l known low =
      let node = p.lower l in
      All-contains (λ u. HasNoWrite (p.queues u) (p.uppers node u)) (p.above node) l
      ((quiet node).writes (room-b node) (none-b node) (none_lacks node) (writes-below node (λ d there is. writes-to bound d there (omega (arith, deeper d node is there, low)))))
      (whole.among_above l known)

  writes-of : (node : ℕ) → All (λ l. HasNoWrite (p.queues l) (p.lowers node l)) (p.below node)
  writes-of node = writes-below node (λ l known is. writes-to (suc (whole.high - whole.rank (p.lower l))) l known (omega arith))

  -- 5. so it is done
  pub done-of : (node : ℕ) → done node ≡ true
  done-of node = (quiet node).ends (none-b node) (none-r node) (reads-of node) (writes-of node)
