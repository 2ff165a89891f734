-- The ports of addresses.
use Rattle.std.proofs.Common.{◌≡◌, ◌<◌, ◌≤◌, ◌+◌, ◌-◌, ℕ, suc, Bool, true, false, cond, List, [], ◌∷◌, length, Option, None, Some, sym, arith, subst, take}
use Rattle.std.specs.Prelude.{All, IfSome, find, option_map, slice_index_or, unwrap_or}
use Rattle.std.proofs.lemmas.List.Elements.{All-head, All-push, All-tail}
use Rattle.std.proofs.lemmas.Option.{slice_get-get_or, slice_get_within}
use Rattle.address_map.specs.Regions.{has_address, serving_port}
use Rattle.address_map.specs.declared.region.Region.{Region}
use Rattle.demux_node.specs.DemuxState.{DemuxShape, IsDemuxShape, port_for}
use Rattle.plain_lists.proofs.PlaceLemmas.{all-at, at-all, take-has, take-one}

-- what holds of the port of each region holds of the one that serves an address
port-of_region : (P : ℕ → Type 0) (regions : List Region) (address : ℕ) → All (λ (region : Region). P region.port) regions → IfSome (serving_port regions address) P
port-of_region P [] address all = tt
port-of_region P (region ∷ regions) address all =
    let go : (b : Bool) → IfSome (option_map (λ (r : Region). r.port) (cond b (Some region) (find (λ r. has_address r address) regions))) P =
    elim [
      | true ↦ All-head (λ (r : Region). P r.port) region regions all
      | false ↦ port-of_region P regions address (All-tail (λ (r : Region). P r.port) region regions all)
    ]
    in go (has_address region address)

-- the port of a region is a port
pub served-within : (shape : DemuxShape) → IsDemuxShape shape → (address port : ℕ) → serving_port shape.regions address ≡ Some port → port < length shape.lowers
served-within shape is address port found =
    subst (λ (o : Option ℕ). IfSome o (λ p. p < length shape.lowers)) found (port-of_region (λ p. p < length shape.lowers) shape.regions address is.regions)

-- each address has a port
pub port-within : (shape : DemuxShape) → IsDemuxShape shape → (address : ℕ) → port_for shape address < length shape.lowers
port-within shape is address = go (serving_port shape.regions address) (port-of_region (λ p. p < length shape.lowers) shape.regions address is.regions)
  where
    go : (o : Option ℕ) → IfSome o (λ p. p < length shape.lowers) → unwrap_or o (length shape.lowers - 1) < length shape.lowers
    go None found = omega (arith, is.some)
    go (Some port) found = found

-- The loop over the links: what holds of those so far and of the next one holds of one more, and in the end of all.
pub all-next : (P : ℕ → Type 0) (xs : List ℕ) (i d : ℕ) → i < length xs → All P (take i xs) → P (slice_index_or xs i d) → All P (take (i + 1) xs)
all-next P xs i d within all is =
    let one : suc i ≡ i + 1 = omega arith in
    subst (λ (n : ℕ). All P (take n xs)) one
    (subst (λ (ys : List ℕ). All P ys) (sym (take-one i xs (slice_index_or xs i d) (slice_get-get_or xs i d within))) (All-push P (take i xs) (slice_index_or xs i d) all is))

pub all-taken : (P : ℕ → Type 0) (xs : List ℕ) (n : ℕ) → length xs ≤ n → All P (take n xs) → All P xs
all-taken P xs n long all = all-at P xs (λ k x at. let within = slice_get_within xs k x at in at-all P (take n xs) k x all (take-has n xs k x (omega (arith, within, long)) at))
