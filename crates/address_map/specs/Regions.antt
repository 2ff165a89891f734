-- Regions of addresses: when one is bad, when two share an address, and the port that serves an address.
use Rattle.std.specs.Prelude.{◌≡◌, ◌==◌, ◌+◌, ◌%◌, ◌^◌, ◌<◌, ◌≤◌, ◌&&◌, ◌||◌, ◌⊎◌, ℕ, List, [], ◌∷◌, Bool, true, false, not, Option, find, max, min, nat_le, nat_lt, option_map, slice_index_or}
use Rattle.std.specs.List.{list_any}
use Rattle.address_map.specs.declared.region.Region.{Region}

-- A span of addresses, `size` bytes from `base` on, is bad where it has no address, isn't made of whole pages of 4096
-- bytes, or ends above 2^63.
abbrev pub is_bad_span : ℕ → ℕ → Bool
is_bad_span base size = size == 0 || not (base % 4096 == 0) || not (size % 4096 == 0) || nat_lt (2 ^ 63) (base + size)

abbrev pub is_bad_region : Region → Bool
is_bad_region region = is_bad_span region.base region.size

-- the first address above a region
abbrev pub end_of : Region → ℕ
end_of region = region.base + region.size

abbrev pub has_address : Region → ℕ → Bool
has_address region address = nat_le region.base address && nat_lt address (end_of region)

-- some address is in both regions: it isn't below either base, and it is below both ends
abbrev pub share_address : Region → Region → Bool
share_address one other = nat_lt (max one.base other.base) (min (end_of one) (end_of other))

-- two regions of the list share an address
abbrev pub has_overlap : List Region → Bool
has_overlap [] = false
has_overlap (region ∷ more) = list_any (share_address region) more || has_overlap more

-- the port of the region that has the address
abbrev pub serving_port : List Region → ℕ → Option ℕ
serving_port regions address = option_map (λ (region : Region). region.port) (find (λ region. has_address region address) regions)

-- the region of this number, counted from 0; past the end one that has no address
abbrev pub region_at : List Region → ℕ → Region
region_at regions number = slice_index_or regions number (record { base = 0; size = 0; port = 0 })

-- two regions, by their numbers, share an address
pub record IsOverlap (regions : List Region) (first second : ℕ) : Type 0 where
  pub ordered : first < second
  pub shared : share_address (region_at regions first) (region_at regions second) ≡ true

-- and of all such pairs this has the least first number, and with that the least second one
pub record IsLeastOverlap (regions : List Region) (first second : ℕ) : Type 0 where
  pub overlap : IsOverlap regions first second
  pub least : (one other : ℕ) → IsOverlap regions one other → (first < one) ⊎ ((first ≡ one) × (second ≤ other))
