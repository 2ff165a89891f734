-- What holds of regions and their addresses.
use Rattle.std.specs.Prelude.{◌≡◌, ◌↔◌, ◌/◌, ◌≤◌, ℕ, List, Some, true, false, count_by, slice_get}
use Rattle.std.specs.List.{list_any}
use Rattle.address_map.specs.Regions.{has_address, has_overlap, is_bad_region, serving_port, IsOverlap}
use Rattle.address_map.specs.declared.region.Region.{Region}

-- no two regions share an address exactly where each address is in at most one of them
abbrev pub ApartIsAtMostOne : Type 0
ApartIsAtMostOne =
    (regions : List Region) →
    (has_overlap regions ≡ false) ↔ ((address : ℕ) → count_by (λ region. has_address region address) regions ≤ 1)

-- a list in which two regions share an address, by their numbers, has an overlap
abbrev pub OverlapIsOfTwo : Type 0
OverlapIsOfTwo =
    (regions : List Region) (first second : ℕ) → IsOverlap regions first second → has_overlap regions ≡ true

-- where no two share an address, a region that has an address gives its port
abbrev pub PortIsOfHolder : Type 0
PortIsOfHolder =
    (regions : List Region) (number : ℕ) (region : Region) (address : ℕ) → has_overlap regions ≡ false →
    slice_get regions number ≡ Some region → has_address region address ≡ true →
    serving_port regions address ≡ Some region.port

-- all addresses of a page have one port, or none has one, where no region is bad
abbrev pub PageHasOnePort : Type 0
PageHasOnePort =
    (regions : List Region) (one other : ℕ) → list_any is_bad_region regions ≡ false → one / 4096 ≡ other / 4096 →
    serving_port regions one ≡ serving_port regions other
