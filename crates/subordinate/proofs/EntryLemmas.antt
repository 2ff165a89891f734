-- The oldest write that lacks data, and its place.
use Rattle.std.proofs.Common.{◌≡◌, ◌≤◌, ◌<◌, ◌+◌, ◌&&◌, ℕ, suc, zero, Bool, true, false, cond, List, [], ◌∷◌, Option, Some, None, length, take, refl, sym, ◌∙◌, ap, subst, arith, IsTrue}
use Rattle.std.specs.Prelude.{slice_get, slice_set, is_some}
use Rattle.std.specs.Option.{option_map}
use Rattle.std.proofs.lemmas.Bool.{ltb-true}
use Rattle.axi_beats.specs.declared.beat.BBeat.{BBeat}
use Rattle.axi_beats.specs.declared.beat.RBeat.{RBeat}
use Rattle.axi_beats.specs.declared.beat.WBeat.{WBeat}
use Rattle.node_core.specs.Pace.{PaceState, is_let}
use Rattle.node_core.specs.Rows.{fits}
use Rattle.subordinate.specs.declared.entry.ReadEntry.{ReadEntry}
use Rattle.subordinate.specs.declared.entry.WriteEntry.{WriteEntry}
use Rattle.flight.proofs.EntryFacts.{none-shift, shift-none, some-inner}
use Rattle.subordinate.specs.Places.{lacking_place}
use Rattle.subordinate.specs.Service.{Service}
use Rattle.subordinate.specs.SubordinateTable.{after_b, after_r, after_w, lacks_data, oldest_lacking, with_beat, with_data}

-- no write before i lacks data, nor does the one at i
pub lacking_place-none_more : (entries : List WriteEntry) (i : ℕ) (entry : WriteEntry) → slice_get entries i ≡ Some entry → lacks_data entry ≡ false → lacking_place (take i entries) ≡ None → lacking_place (take (suc i) entries) ≡ None
lacking_place-none_more [] i entry at whole none = refl
lacking_place-none_more (e ∷ es) zero entry at whole none =
    ap (λ b. cond b (Some 0) None) (ap lacks_data (let same : e ≡ entry = cc in same) ∙ whole)
lacking_place-none_more (e ∷ es) (suc i) entry at whole none =
    let go : (b : Bool) → cond b (Some 0) (option_map suc (lacking_place (take i es))) ≡ None → cond b (Some 0) (option_map suc (lacking_place (take (suc i) es))) ≡ None =
    elim [ true ↦ λ h. absurd (cc) | false ↦ λ h. shift-none (lacking_place (take (suc i) es)) (lacking_place-none_more es i entry at whole (none-shift (lacking_place (take i es)) h)) ]
    in go (lacks_data e) none

-- but the one at i does
pub lacking_place-at : (entries : List WriteEntry) (i : ℕ) (entry : WriteEntry) → slice_get entries i ≡ Some entry → lacks_data entry ≡ true → lacking_place (take i entries) ≡ None → lacking_place entries ≡ Some i
lacking_place-at [] i entry at lacks none = absurd (cc)
lacking_place-at (e ∷ es) zero entry at lacks none =
    ap (λ b. cond b (Some 0) (option_map suc (lacking_place es))) (ap lacks_data (let same : e ≡ entry = cc in same) ∙ lacks)
lacking_place-at (e ∷ es) (suc i) entry at lacks none =
    let go : (b : Bool) → cond b (Some 0) (option_map suc (lacking_place (take i es))) ≡ None → cond b (Some 0) (option_map suc (lacking_place es)) ≡ Some (suc i) =
    elim [ true ↦ λ h. absurd (cc) | false ↦ λ h. ap (option_map suc) (lacking_place-at es i entry at lacks (none-shift (lacking_place (take i es)) h)) ]
    in go (lacks_data e) none

-- the write at the place is the oldest that lacks data, and it is the one that one more data beat changes
module _ {D : Type 0} (service : Service D) where
  pub record IsOldestLacking (entries : List WriteEntry) (place : ℕ) (entry : WriteEntry) : Type 0 where
    pub lacks : lacks_data entry ≡ true
    pub oldest : oldest_lacking entries ≡ Some entry
    pub taken : (w : WBeat) → with_data service w entries ≡ slice_set entries place (with_beat (service.data_status entry.request entry.taken w) entry)

  place-shift : (o : Option ℕ) (place : ℕ) → option_map suc o ≡ Some place → (p : ℕ) × (o ≡ Some p) × (place ≡ suc p)
  place-shift None place e = absurd (cc)
  place-shift (Some p) place e = (p, refl, sym (some-inner (suc p) place e))

  pub oldest_lacking-at : (entries : List WriteEntry) (place : ℕ) (entry : WriteEntry) → lacking_place entries ≡ Some place → slice_get entries place ≡ Some entry → IsOldestLacking entries place entry
  oldest_lacking-at [] place entry is at = absurd (cc)
  oldest_lacking-at (e ∷ es) place entry is at =
      let go : (b : Bool) → lacks_data e ≡ b → cond b (Some 0) (option_map suc (lacking_place es)) ≡ Some place → IsOldestLacking (e ∷ es) place entry =
      elim [
        | true ↦ λ lacks h.
            let first : 0 ≡ place = some-inner 0 place h in
            let same : e ≡ entry = some-inner e entry (ap (slice_get (e ∷ es)) first ∙ at) in
            subst (λ (n : ℕ). IsOldestLacking (e ∷ es) n entry) first
            (subst (λ (x : WriteEntry). IsOldestLacking (e ∷ es) 0 x) same record {
              lacks = lacks;
              oldest = ap (λ b. cond b (Some e) (oldest_lacking es)) lacks;
              taken = λ w. ap (λ b. cond b (with_beat (service.data_status e.request e.taken w) e ∷ es) (e ∷ with_data service w es)) lacks;
            })
        | false ↦ λ whole h.
            let (p, found, next) = place-shift (lacking_place es) place h in
            let rest : IsOldestLacking es p entry = oldest_lacking-at es p entry found (ap (slice_get (e ∷ es)) (sym next) ∙ at) in
            subst (λ (n : ℕ). IsOldestLacking (e ∷ es) n entry) (sym next) record {
              lacks = rest.lacks;
              oldest = ap (λ b. cond b (Some e) (oldest_lacking es)) whole ∙ rest.oldest;
              taken = λ w. ap (λ b. cond b (with_beat (service.data_status e.request e.taken w) e ∷ es) (e ∷ with_data service w es)) whole ∙ ap (λ t. e ∷ t) (rest.taken w);
            }
      ]
      in go (lacks_data e) refl is

-- there is a place exactly where some write lacks data
pub some-lacking : (entries : List WriteEntry) → is_some (lacking_place entries) ≡ is_some (oldest_lacking entries)
some-lacking [] = refl
some-lacking (e ∷ es) =
    let shifted : (o : Option ℕ) → is_some (option_map suc o) ≡ is_some o = elim [ None ↦ refl | Some n ↦ refl ] in
    let go : (b : Bool) → is_some (cond b (Some 0) (option_map suc (lacking_place es))) ≡ is_some (cond b (Some e) (oldest_lacking es)) =
    elim [ true ↦ refl | false ↦ shifted (lacking_place es) ∙ some-lacking es ]
    in go (lacks_data e)

-- a beat for which no write lacks data changes none
pub with_data-none : {D : Type 0} (service : Service D) (w : WBeat) (entries : List WriteEntry) → oldest_lacking entries ≡ None → with_data service w entries ≡ entries
with_data-none service w [] none = refl
with_data-none service w (e ∷ es) none =
    let go : (b : Bool) → cond b (Some e) (oldest_lacking es) ≡ None → cond b (with_beat (service.data_status e.request e.taken w) e ∷ es) (e ∷ with_data service w es) ≡ e ∷ es =
    elim [ true ↦ λ found. absurd (cc) | false ↦ λ found. ap (λ t. e ∷ t) (with_data-none service w es found) ]
    in go (lacks_data e) none

-- Answers make the open requests no more, and data leaves them as many.
pub length-after_b : (o : Option BBeat) (entries : List WriteEntry) → length (after_b o entries) ≤ length entries
length-after_b None entries = omega arith
length-after_b (Some beat) [] = omega arith
length-after_b (Some beat) (e ∷ es) = omega arith

pub length-after_r : (o : Option RBeat) (entries : List ReadEntry) → length (after_r o entries) ≤ length entries
length-after_r None entries = omega arith
length-after_r (Some beat) [] = omega arith
length-after_r (Some beat) (e ∷ es) =
    let go : (last : Bool) → length (cond last es (record { request = e.request; put = e.put + 1 } ∷ es)) ≤ length (e ∷ es) = elim [ true ↦ omega arith | false ↦ omega arith ] in
    go beat.last

module _ {D : Type 0} (service : Service D) where
  length-with_data : (w : WBeat) (entries : List WriteEntry) → length (with_data service w entries) ≡ length entries
  length-with_data w [] = refl
  length-with_data w (e ∷ es) =
      let go : (b : Bool) → length (cond b (with_beat (service.data_status e.request e.taken w) e ∷ es) (e ∷ with_data service w es)) ≡ length (e ∷ es) =
      elim [ true ↦ refl | false ↦ ap suc (length-with_data w es) ]
      in go (lacks_data e)

  pub length-after_w : (o : Option WBeat) (entries : List WriteEntry) → length (after_w service o entries) ≡ length entries
  length-after_w None entries = refl
  length-after_w (Some w) entries = length-with_data w entries

-- an address that is taken fits
pub let-fits : {X : Type 0} (head : Bool) (entries : List X) (pace : PaceState) → IsTrue (is_let (head && fits entries) pace) → length entries < 16
let-fits true entries pace done = go (fits entries) refl done
  where
    go : (c : Bool) → fits entries ≡ c → IsTrue (is_let c pace) → length entries < 16
    go true fit done = ltb-true (length entries) 16 fit
    go false fit done = absurd (cc)
let-fits false entries pace done = absurd (cc)
