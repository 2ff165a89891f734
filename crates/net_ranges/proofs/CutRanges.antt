-- The answers that a splitter and a Lite bridge give are in range, where those below are.
use Rattle.std.proofs.Common.{◌≡◌, ◌++◌, ◌∷◌, [], ℕ, Bool, true, false, List, Option, Some, None, map, subst, arith}
use Rattle.std.specs.Prelude.{All, IfSome, if◌then◌else◌}
use Rattle.std.proofs.lemmas.List.Elements.{All-cons, All-head, All-nil, All-tail}
use Rattle.axi_beats.specs.Response.{worst_of}
use Rattle.axi_beats.specs.declared.beat.Addr.{Addr}
use Rattle.axi_beats.specs.declared.beat.BBeat.{BBeat}
use Rattle.axi_beats.specs.declared.beat.RBeat.{RBeat}
use Rattle.axi_link.specs.LinkWords.{head_of}
use Rattle.axi_trail.specs.Words.{id_of_address}
use Rattle.lite_node.specs.LiteTable.{returned_b, returned_r}
use Rattle.lite_node.specs.LiteTrail.{returned_in_order}
use Rattle.net_ranges.proofs.BeatRanges.{IsAddressInRange, IsReadDataInRange, IsResponseInRange, response-code}
use Rattle.plain_lists.proofs.PartLemmas.{All-middle}
use Rattle.split_node.specs.SplitTable.{b_of_entry, b_row, misses_more, no_answer, oldest_entry, one_less}
use Rattle.split_node.specs.SplitTrail.{as_last_read}
use Rattle.split_node.specs.declared.burst.SplitEntry.{SplitEntry}

-- ---- a splitter

-- what waits first has passed the lower end of its link
pub head-has : {X : Type 0} (P : X → Type 0) (all front queue : List X) → all ≡ front ++ queue → All P all → IfSome (head_of queue) P
head-has P all front [] are has = tt
head-has P all front (x ∷ queue) are has = All-middle P front x queue (subst (All P) are has)

-- the response that it puts is the one that it takes, but for its status
entry-puts : (room : Bool) (b : BBeat) (entries : List SplitEntry) (o : Option SplitEntry) → IsResponseInRange b → IfSome (b_of_entry room b entries o).put IsResponseInRange
entry-puts room b entries None is = tt
entry-puts room b entries (Some e) is = go (misses_more e) room
  where
    go : (more room : Bool) → IfSome
        (if more
        then record { taken = Some b; put = None; entries = one_less b.id b.resp entries }
        else if room
        then record { taken = Some b; put = Some (record { id = b.id; resp = worst_of e.worst b.resp; tag = b.tag }); entries = one_less b.id b.resp entries }
        else no_answer entries).put IsResponseInRange
    go true room = tt
    go false true = record { id = is.id; resp = response-code (worst_of e.worst b.resp); tag = is.tag }
    go false false = tt

pub response-puts : (room : Bool) (head : Option BBeat) (entries : List SplitEntry) → IfSome head IsResponseInRange → IfSome (b_row room head entries).put IsResponseInRange
response-puts room None entries is = tt
response-puts room (Some b) entries is = entry-puts room b entries (oldest_entry b.id entries) is

-- beats of read data that are the same but for being the last ones
pub lasts-read : (bus : ℕ) (beats : List RBeat) → All (IsReadDataInRange bus) (map as_last_read beats) → All (IsReadDataInRange bus) beats
lasts-read bus [] all = All-nil (IsReadDataInRange bus)
lasts-read bus (r ∷ beats) all =
    let is = All-head (IsReadDataInRange bus) (as_last_read r) (map as_last_read beats) all in
    All-cons (IsReadDataInRange bus) r beats (record { id = is.id; lanes = is.lanes; resp = is.resp; tag = is.tag })
    (lasts-read bus beats (All-tail (IsReadDataInRange bus) (as_last_read r) (map as_last_read beats) all))

-- ---- a Lite bridge

-- an answer goes up under the ID of its request
returned-all : {X : Type 0} (P : X → Type 0) (returned : ℕ → X → X) → ((a : Addr) (x : X) → IsAddressInRange a → P x → P (returned (id_of_address a) x)) →
    (requests : List Addr) (answers : List X) → All IsAddressInRange requests → All P answers → All P (returned_in_order returned requests answers)
returned-all P returned step [] answers asked all = All-nil P
returned-all P returned step (a ∷ requests) [] asked all = All-nil P
returned-all P returned step (a ∷ requests) (x ∷ answers) asked all =
    All-cons P (returned (id_of_address a) x) (returned_in_order returned requests answers) (step a x (All-head IsAddressInRange a requests asked) (All-head P x answers all))
    (returned-all P returned step requests answers (All-tail IsAddressInRange a requests asked) (All-tail P x answers all))

pub responses-returned : (requests : List Addr) (answers : List BBeat) → All IsAddressInRange requests → All IsResponseInRange answers → All IsResponseInRange (returned_in_order returned_b requests answers)
responses-returned =
    returned-all IsResponseInRange returned_b (λ a b asked is. record { id = asked.id; resp = is.resp; tag = record { txn = is.tag.txn; low = omega arith; high = omega arith } })

pub read_data-returned : (bus : ℕ) (requests : List Addr) (answers : List RBeat) → All IsAddressInRange requests → All (IsReadDataInRange bus) answers →
    All (IsReadDataInRange bus) (returned_in_order returned_r requests answers)
read_data-returned bus =
    returned-all (IsReadDataInRange bus) returned_r (λ a r asked is. record { id = asked.id; lanes = is.lanes; resp = is.resp; tag = record { txn = is.tag.txn; low = omega arith; high = omega arith } })
