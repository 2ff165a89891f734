-- Facts on the trails of a link's ends.
use Rattle.std.proofs.Common.{◌≡◌, ℕ, suc, true, List, ◌++◌, take, refl, ◌∙◌, ap}
use Rattle.axi_link.specs.LinkView.{LinkView}
use Rattle.axi_link.specs.Moves.{takes_from, appended}
use Rattle.axi_link.specs.declared.out.Out.{Out}
use Rattle.axi_trail.specs.Trail.{trail_above, trail_below, IsQueue, IsLinkRun, IsFifo, IsBehind}
use Rattle.axi_trail.specs.TrailLaws.{TrailsGrow, LinksAreQueues, TakenWasPutBefore, HeadsAreBehind, BehindIsTransitive}
use Rattle.axi_trail.proofs.StreamFacts.{prefix_taken, queue_is_rest, taken_was_put}
use Rattle.plain_lists.specs.Prefixes.{IsPrefix}
use Rattle.plain_lists.proofs.PrefixLemmas.{prefix_append, prefix_trans}
use Rattle.axi_link.specs.LinkWords.{link_of}

pub trails_grow : TrailsGrow
trails_grow outs links n number = (refl, refl, refl, refl)

module _ (number : ℕ) (links : ℕ → List LinkView) (uppers lowers : ℕ → Out) (run : IsLinkRun number links uppers lowers) where
  aw-runs : IsQueue (λ m. takes_from number (lowers m).aw_take) (λ m. appended number (uppers m).aw_put) (λ m. (link_of (links m) number).aw)
  aw-runs = record { opens = ap (λ l. l.aw) run.opens; moves = λ n. ap (λ l. l.aw) (run.moves n) }

  w-runs : IsQueue (λ m. takes_from number (lowers m).w_take) (λ m. appended number (uppers m).w_put) (λ m. (link_of (links m) number).w)
  w-runs = record { opens = ap (λ l. l.w) run.opens; moves = λ n. ap (λ l. l.w) (run.moves n) }

  b-runs : IsQueue (λ m. takes_from number (uppers m).b_take) (λ m. appended number (lowers m).b_put) (λ m. (link_of (links m) number).b)
  b-runs = record { opens = ap (λ l. l.b) run.opens; moves = λ n. ap (λ l. l.b) (run.moves n) }

  ar-runs : IsQueue (λ m. takes_from number (lowers m).ar_take) (λ m. appended number (uppers m).ar_put) (λ m. (link_of (links m) number).ar)
  ar-runs = record { opens = ap (λ l. l.ar) run.opens; moves = λ n. ap (λ l. l.ar) (run.moves n) }

  r-runs : IsQueue (λ m. takes_from number (uppers m).r_take) (λ m. appended number (lowers m).r_put) (λ m. (link_of (links m) number).r)
  r-runs = record { opens = ap (λ l. l.r) run.opens; moves = λ n. ap (λ l. l.r) (run.moves n) }

  fifo : (n : ℕ) → IsFifo (trail_above uppers links n number) (trail_below lowers links n number) (link_of (links n) number)
  fifo n = record {
    aw = queue_is_rest _ _ _ aw-runs n;
    w = queue_is_rest _ _ _ w-runs n;
    b = queue_is_rest _ _ _ b-runs n;
    ar = queue_is_rest _ _ _ ar-runs n;
    r = queue_is_rest _ _ _ r-runs n;
  }

  lower-behind : (n : ℕ) → IsBehind (trail_below lowers links (suc n) number) (trail_above uppers links n number)
  lower-behind n = record {
    aw = taken_was_put _ _ _ aw-runs n;
    w = taken_was_put _ _ _ w-runs n;
    b = prefix_trans (record { rest = (link_of (links n) number).b; whole = (fifo n).b }) (prefix_append _ _);
    ar = taken_was_put _ _ _ ar-runs n;
    r = prefix_trans (record { rest = (link_of (links n) number).r; whole = (fifo n).r }) (prefix_append _ _);
  }

  upper-behind : (n : ℕ) → IsBehind (trail_below lowers links n number) (trail_above uppers links (suc n) number)
  upper-behind n = record {
    aw = prefix_trans (record { rest = (link_of (links n) number).aw; whole = (fifo n).aw }) (prefix_append _ _);
    w = prefix_trans (record { rest = (link_of (links n) number).w; whole = (fifo n).w }) (prefix_append _ _);
    b = taken_was_put _ _ _ b-runs n;
    ar = prefix_trans (record { rest = (link_of (links n) number).ar; whole = (fifo n).ar }) (prefix_append _ _);
    r = taken_was_put _ _ _ r-runs n;
  }

pub links_are_queues : LinksAreQueues
links_are_queues number links uppers lowers run n = fifo number links uppers lowers run n

pub taken_was_put_before : TakenWasPutBefore
taken_was_put_before number links uppers lowers run n = (lower-behind number links uppers lowers run n, upper-behind number links uppers lowers run n)

-- a beginning, and with it the head of what follows
with_head : {X : Type 0} (xs ys queue : List X) → ys ≡ xs ++ queue → IsPrefix (xs ++ take 1 queue) ys
with_head xs ys queue e =
    let part : IsPrefix (xs ++ take 1 queue) (xs ++ queue) = prefix_taken true xs queue in
    record { rest = part.rest; whole = e ∙ part.whole }

pub heads_are_behind : HeadsAreBehind
heads_are_behind upper lower link fifo = (
  record {
    aw = record { rest = link.aw; whole = fifo.aw };
    w = record { rest = link.w; whole = fifo.w };
    b = record { rest = link.b; whole = fifo.b };
    ar = record { rest = link.ar; whole = fifo.ar };
    r = record { rest = link.r; whole = fifo.r };
  },
  record {
    aw = with_head lower.aw upper.aw link.aw fifo.aw;
    w = with_head lower.w upper.w link.w fifo.w;
    b = record { rest = link.b; whole = fifo.b };
    ar = with_head lower.ar upper.ar link.ar fifo.ar;
    r = record { rest = link.r; whole = fifo.r };
  },
  record {
    aw = record { rest = link.aw; whole = fifo.aw };
    w = record { rest = link.w; whole = fifo.w };
    b = with_head upper.b lower.b link.b fifo.b;
    ar = record { rest = link.ar; whole = fifo.ar };
    r = with_head upper.r lower.r link.r fifo.r;
  },
)

pub behind_is_transitive : BehindIsTransitive
behind_is_transitive lowest middle highest p q = record {
  aw = prefix_trans p.aw q.aw;
  w = prefix_trans p.w q.w;
  b = prefix_trans q.b p.b;
  ar = prefix_trans p.ar q.ar;
  r = prefix_trans q.r p.r;
}
