-- An address that breaks no rule.
use Rattle.std.proofs.Common.{◌≡◌, ◌<◌, ◌^◌, ◌++◌, ℕ, true, Option, Some, None, refl, sym, ap, subst, ltb}
use Rattle.std.specs.Prelude.{is_none}
use Rattle.std.specs.Option.{ForSome, option_to_list}
use Rattle.std.specs.List.{list_all}
use Rattle.std.proofs.lemmas.Bool.{and_from, lt-ltb}
use Rattle.axi_history.specs.declared.port.RawAddr.{RawAddr}
use Rattle.axi_history.specs.PortRules.{same_address, handshake_rules, rules_of_offer, address_rules, least_broken, keeps_address_rules}
use Rattle.burst_address.proofs.Numbers.{power_above}
use Rattle.port_rules.specs.Unpaired.{is_usable}
use Rattle.port_rules.specs.Offers.{new_offer}

pub new_usable : (bus bus' : ℕ) (waits offer : Option RawAddr) → bus' ≡ bus → least_broken (handshake_rules same_address waits offer ++ rules_of_offer offer (address_rules bus)) ≡ None → ForSome offer (λ a. a.addr < 2 ^ 63) →
    (x : RawAddr) → new_offer waits offer ≡ Some x → is_usable bus' x ≡ true
new_usable bus bus' None None same kept small x new = absurd cc
new_usable bus bus' (Some w) offer same kept small x new = absurd cc
new_usable bus bus' None (Some a) same kept small x new =
    let mine : a ≡ x = cc in
    let keeps : keeps_address_rules bus a ≡ true = ap (λ (o : Option ℕ). is_none o) kept in
    let here : is_usable bus a ≡ true = and_from (keeps_address_rules bus a) (ltb a.addr (2 ^ 63)) keeps (lt-ltb a.addr (2 ^ 63) (small a refl)) in
    subst (λ (b : ℕ). is_usable b x ≡ true) (sym same) (subst (λ (y : RawAddr). is_usable bus y ≡ true) mine here)

-- and what is offered anew keeps the rules too
pub new_keeps : (bus : ℕ) (waits offer : Option RawAddr) → least_broken (handshake_rules same_address waits offer ++ rules_of_offer offer (address_rules bus)) ≡ None →
    list_all (keeps_address_rules bus) (option_to_list (new_offer waits offer)) ≡ true
new_keeps bus None None kept = refl
new_keeps bus (Some w) offer kept = refl
new_keeps bus None (Some a) kept = and_from (keeps_address_rules bus a) true (ap (λ (o : Option ℕ). is_none o) kept) refl

-- a size that is too great for a shift has more bytes than each bus
pub great_size : (s : ℕ) → 7 < s → 128 < 2 ^ s
great_size s lt = power_above s lt
