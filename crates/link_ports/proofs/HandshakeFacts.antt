-- What is offered again is the same, so rules 1 and 2 are kept.
use Rattle.std.proofs.Common.{◌≡◌, ℕ, Bool, true, cond, List, ◌++◌, Option, Some, None, refl, sym, ap, subst}
use Rattle.axi_history.specs.PortRules.{handshake_rules, least_broken}
use Rattle.link_ports.specs.PortLaws.{IsOffered}

module _ {Y : Type 0} (same : Y → Y → Bool) (itself : (y : Y) → same y y ≡ true) where
  pub handshake_kept : (waits offer : Option Y) (others : List (ℕ × Bool)) → IsOffered waits offer → least_broken (handshake_rules same waits offer ++ others) ≡ least_broken others
  handshake_kept None offer others again = refl
  handshake_kept (Some x) None others again = absurd (cc)
  handshake_kept (Some x) (Some y) others again =
      let mine : y ≡ x = cc in
      let kept : same x y ≡ true = subst (λ (z : Y). same x z ≡ true) (sym mine) (itself x) in
      ap (λ (b : Bool). cond b (least_broken others) (Some 2)) kept
