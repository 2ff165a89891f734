-- Where each of several kinds shows what every kind has to show, so does the family of them.
use Rattle.std.proofs.Common.{◌≡◌, ◌+◌, ℕ, zero, suc, List, refl, sym, ◌∙◌, ap}
use Rattle.axi_link.specs.LinkView.{LinkView}
use Rattle.node_core.specs.Acted.{Acted}
use Rattle.node_shape.specs.Family.{OneOf, family}
use Rattle.node_shape.specs.Kind.{Kind, next_of, out_of}
use Rattle.node_shape.specs.KindHolds.{KindHolds}
use Rattle.node_shape.specs.KindLaws.{IsIdle, later}

module _ {I E : Type 0} {StateOf : I → Type 0} (kinds : (i : I) → Kind (StateOf i) E) (all : (i : I) → KindHolds (kinds i)) where
  abbrev One : Type 0
  One = OneOf StateOf

  abbrev one : (i : I) → StateOf i → One
  one i state = record { kind = i; state = state }

  -- it stays of its kind
  later-of : (rounds : ℕ) (links : List LinkView) (i : I) (state : StateOf i) (count : ℕ) → later (family kinds) rounds links count (one i state) ≡ one i (later (kinds i) rounds links count state)
  later-of rounds links i state zero = refl
  later-of rounds links i state (suc count) = ap (λ (s : One). next_of (family kinds) (suc (rounds + count)) links s) (later-of rounds links i state count)

  idle-of : (rounds : ℕ) (links : List LinkView) (s : One) (count : ℕ) → IsIdle (family kinds) rounds links count s → IsIdle (kinds s.kind) rounds links count s.state
  idle-of rounds links s count idle = λ i less.
      sym (ap (λ (t : One). out_of (family kinds) (suc (rounds + i)) links t) (later-of rounds links s.kind s.state i)) ∙ idle i less

  pub family-holds : KindHolds (family kinds)
  family-holds = record {
    fit = λ round links s. (all s.kind).fit round links s.state;
    own = λ round links s. (all s.kind).own round links s.state;
    steady = λ round links s. let steady = (all s.kind).steady round links s.state in record { uppers = steady.uppers; lowers = steady.lowers; patience = steady.patience; suits = steady.suits };
    begins = λ s begun. (all s.kind).begins s.state begun;
    stays = λ round links s fact can. (all s.kind).stays round links s.state fact can;
    rests = λ round links s quiet. ap (λ (a : Acted (StateOf s.kind)). record { state = one s.kind a.state; out = a.out }) ((all s.kind).rests round links s.state quiet);
    has_way = λ s. (all s.kind).has_way s.state;
    goes_below = λ s share link goes. (all s.kind).goes_below s.state share link goes;
    origins_fit = λ forms schedules s begun sound origin among.
        let fits = (all s.kind).origins_fit forms schedules s.state begun sound origin among in
        record { below = fits.below; is = fits.is; no_responses = fits.no_responses };
    cuts_fit = λ forms schedules s begun sound write link next share among is goes.
        let fits = (all s.kind).cuts_fit forms schedules s.state begun sound write link next share among is goes in
        record { is = fits.is; bytes = fits.bytes; lanes = fits.lanes; written = fits.written };
    ways_suit = λ forms schedules s begun sound ways. (all s.kind).ways_suit forms schedules s.state begun sound ways;
    opens = λ schedules s begun suits. (all s.kind).opens schedules s.state begun suits;
    may_decide = λ schedules now rounds links s passed. (all s.kind).may_decide schedules now rounds links s.state passed;
    lasts = λ schedules now rounds links s passed. (all s.kind).lasts schedules now rounds links s.state passed;
    asks_below = λ schedules now rounds s passed. (all s.kind).asks_below schedules now rounds s.state passed;
    answers_above = λ schedules now rounds s passed. (all s.kind).answers_above schedules now rounds s.state passed;
    fills_at_ends = λ schedules rounds s passed keeps number some.
        let here = (all s.kind).fills_at_ends schedules rounds s.state passed keeps number some in
        record { none_below = here.none_below; link = here.link; among = here.among; comes = here.comes };
    idle_holds_nothing = λ schedules now rounds links s passed fact keeps around above below idle.
        (all s.kind).idle_holds_nothing schedules now rounds links s.state passed fact keeps around above below (idle-of rounds links s ((kinds s.kind).patience s.state) idle);
  }
