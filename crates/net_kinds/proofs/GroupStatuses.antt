-- The worst response of each group of parts is that of the group's bytes.
use Rattle.std.proofs.Common.{◌≡◌, ◌<◌, ◌++◌, ℕ, zero, suc, List, [], ◌∷◌, length, map, refl, sym, ◌∙◌, ap, ap₂, arith, length-append, append-nil}
use Rattle.std.specs.Prelude.{drop, flat_map, take, zip}
use Rattle.std.specs.List.{AllZip}
use Rattle.std.proofs.lemmas.List.{length-map}
use Rattle.std.proofs.lemmas.List.FromFn.{length-map-range_with_len}
use Rattle.std.proofs.lemmas.Slice.Zip.{length-zip}
use Rattle.axi_beats.specs.Response.{worst_of}
use Rattle.axi_beats.specs.declared.beat.Addr.{Addr}
use Rattle.axi_beats.specs.declared.beat.WBeat.{WBeat}
use Rattle.axi_beats.specs.declared.response.Resp.{Resp}
use Rattle.axi_beats.specs.declared.response.Resp.TheVariants.{DecErr, Okay, SlvErr}
use Rattle.burst_address.proofs.Statuses.{worst-append, worst-okay}
use Rattle.burst_address.specs.Bytes.{Byte, written_bytes}
use Rattle.burst_address.specs.Status.{worst_among}
use Rattle.burst_cuts.proofs.ByteLemmas.{parts-write_its_bytes}
use Rattle.burst_cuts.proofs.CutLemmas.{map-append}
use Rattle.burst_cuts.proofs.GroupLemmas.{groups-whole}
use Rattle.burst_cuts.proofs.ShownLemmas.{cut_all}
use Rattle.burst_cuts.specs.Parts.{data_of_part, len_of_burst, part_of, parts_of, worst_of_groups}
use Rattle.net_kinds.specs.NodeCuts.{worst_from}
use Rattle.node_shape.specs.LegalSchedule.{IsDataOf}

-- ---- over plain lists

least-once : (least a b : Resp) → worst_of (worst_of least a) (worst_of least b) ≡ worst_of least (worst_of a b)
least-once Okay a b = refl
least-once DecErr a b = refl
least-once SlvErr Okay Okay = refl
least-once SlvErr Okay SlvErr = refl
least-once SlvErr Okay DecErr = refl
least-once SlvErr SlvErr Okay = refl
least-once SlvErr SlvErr SlvErr = refl
least-once SlvErr SlvErr DecErr = refl
least-once SlvErr DecErr Okay = refl
least-once SlvErr DecErr SlvErr = refl
least-once SlvErr DecErr DecErr = refl

-- the worst of the responses to some lists is that of the lists together
module _ {X Y : Type 0} (least : Resp) (status : Y → Resp) (f : X → List Y) where
  abbrev each : X → Resp
  each x = worst_from least status (f x)

  one-group : (x : X) (xs : List X) → worst_among (map each (x ∷ xs)) ≡ worst_from least status (flat_map f (x ∷ xs))
  one-group x [] = worst-okay (each x) ∙ ap (worst_from least status) (sym (append-nil (f x)))
  one-group x (y ∷ xs) =
      ap (worst_of (each x)) (one-group y xs)
      ∙ least-once least (worst_among (map status (f x))) (worst_among (map status (flat_map f (y ∷ xs))))
      ∙ ap (worst_of least) (worst-append (map status (f x)) (map status (flat_map f (y ∷ xs))) ∙ ap worst_among (sym (map-append status (f x) (flat_map f (y ∷ xs)))))

  group-worst : (xs : List X) → 0 < length xs → worst_among (map each xs) ≡ worst_from least status (flat_map f xs)
  group-worst [] some = absurd (omega (arith, some))
  group-worst (x ∷ xs) some = one-group x xs

take-whole : (n : ℕ) (xs ys : List Resp) → length xs ≡ n → take n (xs ++ ys) ≡ xs
take-whole zero [] ys long = refl
take-whole zero (x ∷ xs) ys long = absurd (omega (arith, long))
take-whole (suc n) [] ys long = absurd (omega (arith, long))
take-whole (suc n) (x ∷ xs) ys long = ap (λ (l : List Resp). x ∷ l) (take-whole n xs ys (omega (arith, long)))

drop-whole : (n : ℕ) (xs ys : List Resp) → length xs ≡ n → drop n (xs ++ ys) ≡ ys
drop-whole zero [] ys long = refl
drop-whole zero (x ∷ xs) ys long = absurd (omega (arith, long))
drop-whole (suc n) [] ys long = absurd (omega (arith, long))
drop-whole (suc n) (x ∷ xs) ys long = drop-whole n xs ys (omega (arith, long))

-- the first group, and the others
first-group : (len : ℕ) (lens : List ℕ) (xs ys : List Resp) → length xs ≡ suc len → worst_of_groups (len ∷ lens) (xs ++ ys) ≡ worst_among xs ∷ worst_of_groups lens ys
first-group len lens xs ys long =
    groups-whole len lens (xs ++ ys) (omega (arith, long, length-append xs ys))
    ∙ ap₂ (λ (own more : List Resp). worst_among own ∷ worst_of_groups lens more) (take-whole (suc len) xs ys long) (drop-whole (suc len) xs ys long)

pub zip-append : {X Y : Type 0} (xs ys : List X) (us vs : List Y) → length xs ≡ length us → zip (xs ++ ys) (us ++ vs) ≡ zip xs us ++ zip ys vs
zip-append [] ys [] vs long = refl
zip-append [] ys (u ∷ us) vs long = absurd (omega (arith, long))
zip-append (x ∷ xs) ys [] vs long = absurd (omega (arith, long))
zip-append {X} {Y} (x ∷ xs) ys (u ∷ us) vs long = ap (λ (l : List (X × Y)). (x, u) ∷ l) (zip-append xs ys us vs (omega (arith, long)))

-- ---- the responses to the parts of writes

module _ (least : Resp) (status : Byte → Resp) (bus : ℕ) where
  abbrev written : Addr × List WBeat → List Byte
  written p = written_bytes bus p.0 p.1

  abbrev response : Addr × List WBeat → Resp
  response p = worst_from least status (written p)

  pub groups-written : (parts : List Addr) (ws : List (List WBeat)) → AllZip (IsDataOf bus) parts ws →
      worst_of_groups (map len_of_burst parts) (map response (zip (cut_all parts) (map data_of_part (flat_map (λ beats. beats) ws)))) ≡ map response (zip parts ws)
  groups-written [] [] all = refl
  groups-written [] (w ∷ ws) all = absurd all
  groups-written (a ∷ parts) [] all = absurd all
  groups-written (a ∷ parts) (w ∷ ws) all =
      let more : List WBeat = flat_map (λ beats. beats) ws in
      let own = zip (parts_of a) (map data_of_part w) in
      let rest = zip (cut_all parts) (map data_of_part more) in
      let beats : length w ≡ suc a.len = omega (arith, all.0.whole) in
      let many : length (parts_of a) ≡ suc a.len = length-map-range_with_len (part_of a) 0 (suc a.len) in
      let data_many : length (map data_of_part w) ≡ suc a.len = length-map w data_of_part ∙ beats in
      let long : length own ≡ suc a.len = omega (arith, length-zip (parts_of a) (map data_of_part w), many, data_many) in
      ap (λ (l : List (List WBeat)). worst_of_groups (map len_of_burst (a ∷ parts)) (map response (zip (parts_of a ++ cut_all parts) l))) (map-append data_of_part w more)
      ∙ ap (λ (l : List (Addr × List WBeat)). worst_of_groups (map len_of_burst (a ∷ parts)) (map response l)) (zip-append (parts_of a) (cut_all parts) (map data_of_part w) (map data_of_part more) (many ∙ sym data_many))
      ∙ ap (worst_of_groups (map len_of_burst (a ∷ parts))) (map-append response own rest)
      ∙ first-group a.len (map len_of_burst parts) (map response own) (map response rest) (length-map own response ∙ long)
      ∙ ap₂ (λ (x : Resp) (xs : List Resp). x ∷ xs)
      (group-worst least status written own (omega (arith, long)) ∙ ap (worst_from least status) (parts-write_its_bytes bus a w all.0.whole))
      (groups-written parts ws all.1)
