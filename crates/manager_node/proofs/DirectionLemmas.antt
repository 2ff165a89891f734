-- The transactions of one direction, one after the other.
use Rattle.std.proofs.Common.{◌≡◌, ℕ, ◌+◌, zero, suc, Bool, true, false, cond, List, [], ◌∷◌, ◌++◌, Option, Some, None, length, map, take, refl, sym, ◌∙◌, ap, arith, add-one, length-take}
use Rattle.std.specs.List.{enumerate_from}
use Rattle.std.specs.Option.{option_map}
use Rattle.std.specs.Prelude.{filter, slice_get}
use Rattle.std.proofs.lemmas.List.{map-append, take_more}
use Rattle.std.proofs.lemmas.Option.{slice_get_within, get_or_from_slice_get}
use Rattle.manager_node.specs.ManagerState.{is_directed, of_direction}
use Rattle.manager_node.specs.Script.{ScriptItem}
use Rattle.manager_node.specs.declared.script.Txn.{Txn}

module _ {X : Type 0} where
  -- one more item is numbered with the next number
  enumerate-more : (m : ℕ) (xs : List X) (x : X) → enumerate_from m (xs ++ x ∷ []) ≡ enumerate_from m xs ++ (m + length xs, x) ∷ []
  enumerate-more m [] x = ap (λ (k : ℕ). (k, x) ∷ []) (omega arith)
  enumerate-more m (y ∷ ys) x = ap (λ (ps : List (ℕ × X)). (m, y) ∷ ps) (enumerate-more (m + 1) ys x ∙ ap (λ (k : ℕ). enumerate_from (m + 1) ys ++ (k, x) ∷ []) (omega arith))

  filter-more : (test : X → Bool) (xs : List X) (x : X) → filter test (xs ++ x ∷ []) ≡ filter test xs ++ cond (test x) (x ∷ []) []
  filter-more test [] x = let go : (b : Bool) → cond b (x ∷ []) [] ≡ [] ++ cond b (x ∷ []) [] = elim [ true ↦ refl | false ↦ refl ] in go (test x)
  filter-more test (y ∷ ys) x =
      let go : (b : Bool) → cond b (y ∷ filter test (ys ++ x ∷ [])) (filter test (ys ++ x ∷ [])) ≡ cond b (y ∷ filter test ys) (filter test ys) ++ cond (test x) (x ∷ []) [] =
      elim [ true ↦ ap (λ (zs : List X). y ∷ zs) (filter-more test ys x) | false ↦ filter-more test ys x ]
      in go (test y)

  map-suc : (Y : Type 0) (f : X → Y) (xs : List X) (n : ℕ) (y : Y) → option_map f (slice_get xs n) ≡ Some y → map f (take (suc n) xs) ≡ map f (take n xs) ++ y ∷ []
  map-suc Y f [] n y is = absurd (cc)
  map-suc Y f (x ∷ xs) zero y is = let e : f x ≡ y = cc in ap (λ (z : Y). z ∷ []) e
  map-suc Y f (x ∷ xs) (suc n) y is = ap (λ (ys : List Y). f x ∷ ys) (map-suc Y f xs n y is)

  -- one more item of a list that is mapped, where it was pushed
  pub pushed-more : (Y : Type 0) (f : X → Y) (xs : List X) (n : ℕ) (y : Y) (pushed : Bool) (before after : List Y) → pushed ≡ true → after ≡ cond pushed (before ++ y ∷ []) before → before ≡ map f (take n xs) → option_map f (slice_get xs n) ≡ Some y → after ≡ map f (take (n + 1) xs)
  pushed-more Y f xs n y pushed before after succeeds is was at =
      is ∙ ap (λ (b : Bool). cond b (before ++ y ∷ []) before) succeeds ∙ ap (λ (ys : List Y). ys ++ y ∷ []) was ∙ rw add-one (sym (map-suc Y f xs n y at))

-- what is made of an item's transaction
pub option_map-txn : (Y : Type 0) (g : Txn → Y) (o : Option ScriptItem) (txn : Txn) → option_map (λ (item : ScriptItem). item.txn) o ≡ Some txn → option_map (λ (item : ScriptItem). g item.txn) o ≡ Some (g txn)
option_map-txn Y g None txn is = absurd (cc)
option_map-txn Y g (Some item) txn is = let same : item.txn ≡ txn = cc in ap (λ (t : Txn). Some (g t)) same

-- one more transaction of a direction
directed-more : (write : Bool) (front : List ScriptItem) (item : ScriptItem) → map (λ (p : ℕ × ScriptItem). p.0) (of_direction write (front ++ item ∷ [])) ≡ map (λ (p : ℕ × ScriptItem). p.0) (of_direction write front) ++ cond (is_directed write item.txn) (length front ∷ []) []
directed-more write front item =
    ap (λ (ps : List (ℕ × ScriptItem)). map (λ (p : ℕ × ScriptItem). p.0) (filter (λ (p : ℕ × ScriptItem). is_directed write p.1.txn) ps)) (enumerate-more 0 front item)
    ∙ ap (map (λ (p : ℕ × ScriptItem). p.0)) (filter-more (λ (p : ℕ × ScriptItem). is_directed write p.1.txn) (enumerate_from 0 front) (0 + length front, item))
    ∙ map-append (λ (p : ℕ × ScriptItem). p.0) (of_direction write front) (cond (is_directed write item.txn) ((0 + length front, item) ∷ []) [])
    ∙ ap (λ (back : List ℕ). map (λ (p : ℕ × ScriptItem). p.0) (of_direction write front) ++ back)
    (let go : (b : Bool) → map (λ (p : ℕ × ScriptItem). p.0) (cond b ((0 + length front, item) ∷ []) []) ≡ cond b (length front ∷ []) [] =
    elim [ true ↦ ap (λ (k : ℕ). k ∷ []) (omega arith) | false ↦ refl ]
    in go (is_directed write item.txn))

-- one more place of a direction
pub places-more : (write : Bool) (script : List ScriptItem) (n : ℕ) (txn : Txn) → option_map (λ (item : ScriptItem). item.txn) (slice_get script n) ≡ Some txn → map (λ (p : ℕ × ScriptItem). p.0) (of_direction write (take (n + 1) script)) ≡ map (λ (p : ℕ × ScriptItem). p.0) (of_direction write (take n script)) ++ cond (is_directed write txn) (n ∷ []) []
places-more write script n txn is =
    let go : (o : Option ScriptItem) → slice_get script n ≡ o → option_map (λ (item : ScriptItem). item.txn) o ≡ Some txn → map (λ (p : ℕ × ScriptItem). p.0) (of_direction write (take (n + 1) script)) ≡ map (λ (p : ℕ × ScriptItem). p.0) (of_direction write (take n script)) ++ cond (is_directed write txn) (n ∷ []) [] =
    elim [
      | None ↦ λ at none. absurd (cc)
      | Some item ↦ λ at some.
          let within = slice_get_within script n item at
          in let same : item.txn ≡ txn = cc
          in let front : length (take n script) ≡ n = omega (arith, length-take n script)
          in ap (λ (s : List ScriptItem). map (λ (p : ℕ × ScriptItem). p.0) (of_direction write s)) (take_more script n item within ∙ ap (λ (i : ScriptItem). take n script ++ i ∷ []) (get_or_from_slice_get script n item item at))
          ∙ directed-more write (take n script) item
          ∙ ap (λ (k : ℕ). map (λ (p : ℕ × ScriptItem). p.0) (of_direction write (take n script)) ++ cond (is_directed write item.txn) (k ∷ []) []) front
          ∙ ap (λ (t : Txn). map (λ (p : ℕ × ScriptItem). p.0) (of_direction write (take n script)) ++ cond (is_directed write t) (n ∷ []) []) same
    ]
    in go (slice_get script n) refl is
