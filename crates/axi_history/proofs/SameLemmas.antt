-- The same beat in two rounds: beats that are the same are equal, and each beat is the same as itself.
use Rattle.std.proofs.Common.{◌≡◌, ℕ, ◌==◌, Bool, true, List, [], ◌∷◌, refl, ap, ◌∙◌}
use Rattle.std.specs.Bool.{beq}
use Rattle.std.specs.Cmp.{booleans_Decides}
use Rattle.std.proofs.lemmas.Bool.{and_parts, eqb-true, eq-eqb, false≢true}
use Rattle.axi_beats.specs.declared.beat.Tag.{Tag}
use Rattle.axi_beats.specs.declared.beat.WBeat.{WBeat}
use Rattle.axi_history.specs.declared.port.RawAddr.{RawAddr}
use Rattle.axi_history.specs.declared.port.RawB.{RawB}
use Rattle.axi_history.specs.declared.port.RawR.{RawR}
use Rattle.axi_history.specs.PortRules.{same_tag, same_address, same_bytes, same_data, same_response, same_read}

-- ---- beats that are the same are equal

pub bytes_equal : (xs ys : List ℕ) → same_bytes xs ys ≡ true → xs ≡ ys
bytes_equal [] [] e = refl
bytes_equal [] (y ∷ ys) e = absurd (false≢true e)
bytes_equal (x ∷ xs) [] e = absurd (false≢true e)
bytes_equal (x ∷ xs) (y ∷ ys) e =
    let head : x ≡ y = eqb-true x y (and_parts _ _ e).0 in
    let tail : xs ≡ ys = bytes_equal xs ys (and_parts _ _ e).1 in
    ap (λ (z : ℕ). z ∷ xs) head ∙ ap (λ (zs : List ℕ). y ∷ zs) tail

tags_equal : (x y : Tag) → same_tag x y ≡ true → x ≡ y
tags_equal x y e =
    let p = and_parts _ _ e in
    let q = and_parts _ _ p.0 in
    let txn : x.txn ≡ y.txn = eqb-true x.txn y.txn q.0 in
    let low : x.low ≡ y.low = eqb-true x.low y.low q.1 in
    let high : x.high ≡ y.high = eqb-true x.high y.high p.1 in
    ap (λ (v : ℕ). record { txn = v; low = x.low; high = x.high }) txn
    ∙ ap (λ (v : ℕ). record { txn = y.txn; low = v; high = x.high }) low
    ∙ ap (λ (v : ℕ). record { txn = y.txn; low = y.low; high = v }) high

pub addresses_equal : (x y : RawAddr) → same_address x y ≡ true → x ≡ y
addresses_equal x y e =
    let p6 = and_parts _ _ e in
    let p5 = and_parts _ _ p6.0 in
    let p4 = and_parts _ _ p5.0 in
    let p3 = and_parts _ _ p4.0 in
    let p2 = and_parts _ _ p3.0 in
    let p1 = and_parts _ _ p2.0 in
    let id : x.id ≡ y.id = eqb-true x.id y.id p1.0 in
    let addr : x.addr ≡ y.addr = eqb-true x.addr y.addr p1.1 in
    let len : x.len ≡ y.len = eqb-true x.len y.len p2.1 in
    let size : x.size ≡ y.size = eqb-true x.size y.size p3.1 in
    let burst : x.burst ≡ y.burst = eqb-true x.burst y.burst p4.1 in
    let lock : x.lock ≡ y.lock = (booleans_Decides x.lock y.lock).0 p5.1 in
    let tag : x.tag ≡ y.tag = tags_equal x.tag y.tag p6.1 in
    ap (λ (v : ℕ). record { id = v; addr = x.addr; len = x.len; size = x.size; burst = x.burst; lock = x.lock; tag = x.tag }) id
    ∙ ap (λ (v : ℕ). record { id = y.id; addr = v; len = x.len; size = x.size; burst = x.burst; lock = x.lock; tag = x.tag }) addr
    ∙ ap (λ (v : ℕ). record { id = y.id; addr = y.addr; len = v; size = x.size; burst = x.burst; lock = x.lock; tag = x.tag }) len
    ∙ ap (λ (v : ℕ). record { id = y.id; addr = y.addr; len = y.len; size = v; burst = x.burst; lock = x.lock; tag = x.tag }) size
    ∙ ap (λ (v : ℕ). record { id = y.id; addr = y.addr; len = y.len; size = y.size; burst = v; lock = x.lock; tag = x.tag }) burst
    ∙ ap (λ (v : Bool). record { id = y.id; addr = y.addr; len = y.len; size = y.size; burst = y.burst; lock = v; tag = x.tag }) lock
    ∙ ap (λ (v : Tag). record { id = y.id; addr = y.addr; len = y.len; size = y.size; burst = y.burst; lock = y.lock; tag = v }) tag

pub data_equal : (x y : WBeat) → same_data x y ≡ true → x ≡ y
data_equal x y e =
    let p3 = and_parts _ _ e in
    let p2 = and_parts _ _ p3.0 in
    let p1 = and_parts _ _ p2.0 in
    let lanes : x.lanes ≡ y.lanes = bytes_equal x.lanes y.lanes p1.0 in
    let strobe : x.strobe ≡ y.strobe = eqb-true x.strobe y.strobe p1.1 in
    let last : x.last ≡ y.last = (booleans_Decides x.last y.last).0 p2.1 in
    let tag : x.tag ≡ y.tag = tags_equal x.tag y.tag p3.1 in
    ap (λ (v : List ℕ). record { lanes = v; strobe = x.strobe; last = x.last; tag = x.tag }) lanes
    ∙ ap (λ (v : ℕ). record { lanes = y.lanes; strobe = v; last = x.last; tag = x.tag }) strobe
    ∙ ap (λ (v : Bool). record { lanes = y.lanes; strobe = y.strobe; last = v; tag = x.tag }) last
    ∙ ap (λ (v : Tag). record { lanes = y.lanes; strobe = y.strobe; last = y.last; tag = v }) tag

-- ---- each beat is the same as itself

number_itself : (n : ℕ) → (n == n) ≡ true
number_itself n = eq-eqb n n refl

bool_itself : (b : Bool) → beq b b ≡ true
bool_itself b = (booleans_Decides b b).1 refl

pub bytes_same : (xs : List ℕ) → same_bytes xs xs ≡ true
bytes_same [] = refl
bytes_same (x ∷ xs) = rw (eq-eqb x x refl, bytes_same xs) refl

pub address_itself : (a : RawAddr) → same_address a a ≡ true
address_itself a = rw (number_itself a.id, number_itself a.addr, number_itself a.len, number_itself a.size, number_itself a.burst, bool_itself a.lock, number_itself a.tag.txn, number_itself a.tag.low, number_itself a.tag.high) refl

pub data_itself : (w : WBeat) → same_data w w ≡ true
data_itself w = rw (bytes_same w.lanes, number_itself w.strobe, bool_itself w.last, number_itself w.tag.txn, number_itself w.tag.low, number_itself w.tag.high) refl

pub response_itself : (b : RawB) → same_response b b ≡ true
response_itself b = rw (number_itself b.id, number_itself b.resp, number_itself b.tag.txn, number_itself b.tag.low, number_itself b.tag.high) refl

pub read_itself : (r : RawR) → same_read r r ≡ true
read_itself r = rw (number_itself r.id, bytes_same r.lanes, number_itself r.resp, bool_itself r.last, number_itself r.tag.txn, number_itself r.tag.low, number_itself r.tag.high) refl
