-- Documents that are accepted passed each test.
use Rattle.std.proofs.Common.{◌≡◌, ℕ, Bool, true, false, cond, not, List, Option, Some, None, Ok, Err, nat_lt, length, refl, subst}
use Rattle.std.specs.Prelude.{Result}
use Rattle.std.specs.Str.{is_utf8}
use Rattle.document.specs.Document.{Asked, NetworkText, asked_with, built_with, input_limit, network_in, parted, traffic_on, wired_with}
use Rattle.document.specs.Runnable.{AcceptedAreRunnable, IsRunnable}
use Rattle.elaborate.specs.Unbuilt.{unbuilt_at}
use Rattle.plain_text.specs.Lines.{lines}
use Rattle.plain_text.specs.Separator.{cut}
use Rattle.plan_traffic.proofs.KnownLemmas.{accepted_suits_all}
use Rattle.plan_traffic.specs.Traffic.{traffic_of, traffic_refusal}
use Rattle.refusals.specs.Refusal.{refused_for}
use Rattle.refusals.specs.declared.cause.Cause.{Cause}
use Rattle.refusals.specs.declared.cause.Cause.TheVariants.{InputTooLong, NotText}
use Rattle.refusals.specs.declared.refusal.Refusal.{Refusal}
use Rattle.toml.specs.Data.{Members}
use Rattle.toml.specs.Parse.{parse_document}
use Rattle.topology.specs.Read.{or_refused, topology_in, topology_of}
use Rattle.topology.specs.Refused.{IsAccepted, fault_of}
use Rattle.topology_text.proofs.FormedLemmas.{document-formed}
use Rattle.topology_text.specs.Document.{DocumentNode}
use Rattle.topology_text.specs.Formed.{AreFormed}
use Rattle.topology_text.specs.Shape.{document_in}
use Rattle.topology_text.specs.Text.{nodes_in, nodes_of_text, or_bad_key}

-- ---- the topology

abbrev read_as : List DocumentNode → Result (List DocumentNode) Refusal
read_as nodes = Ok nodes

same-nodes : (xs ys : List DocumentNode) → read_as xs ≡ read_as ys → xs ≡ ys
same-nodes xs ys e = cc

-- nodes that are read are formed
read-formed : (found : Option Members) (nodes : List DocumentNode) → nodes_in found ≡ Ok nodes → AreFormed nodes
read-formed None nodes e = absurd cc
read-formed (Some members) nodes e = document-formed members nodes e

record AreGood (nodes : List DocumentNode) : Type 0 where
  formed : AreFormed nodes
  accepted : IsAccepted nodes

unrefused : (nodes accepted : List DocumentNode) (fault : Option (Cause × ℕ)) → AreFormed nodes → fault_of nodes ≡ fault → or_refused nodes fault ≡ Ok accepted → AreGood accepted
unrefused nodes accepted None formed is e = subst AreGood (same-nodes nodes accepted e) (record { formed = formed; accepted = is })
unrefused nodes accepted (Some fault) formed is e = absurd cc

among-read : (read : Result (List DocumentNode) Refusal) (nodes : List DocumentNode) → ((found : List DocumentNode) → read ≡ Ok found → AreFormed found) → topology_in read ≡ Ok nodes → AreGood nodes
among-read (Err refusal) nodes formed e = absurd cc
among-read (Ok found) nodes formed e = unrefused found nodes (fault_of found) (formed found refl) refl e

topology-good : (text : List ℕ) (nodes : List DocumentNode) → topology_of text ≡ Ok nodes → AreGood nodes
topology-good text nodes e = among-read (nodes_of_text text) nodes (λ found is. read-formed (parse_document text) found is) e

-- ---- the network of an input

-- its nodes passed each test
record IsGoodNetwork (text : NetworkText) : Type 0 where
  good : AreGood text.nodes
  built : unbuilt_at text.nodes ≡ None

abbrev network_as : NetworkText → Result NetworkText Refusal
network_as text = Ok text

same-network : (a b : NetworkText) → network_as a ≡ network_as b → a ≡ b
same-network a b e = cc

when-built :
    (nodes : List DocumentNode) (behind : List (List ℕ)) (place : Option ℕ) (text : NetworkText) → AreGood nodes → unbuilt_at nodes ≡ place →
    built_with nodes behind place ≡ Ok text → IsGoodNetwork text
when-built nodes behind (Some place) text good is e = absurd cc
when-built nodes behind None text good is e = subst IsGoodNetwork (same-network (record { nodes = nodes; lines = behind }) text e) (record { good = good; built = is })

when-wired :
    (behind : List (List ℕ)) (read : Result (List DocumentNode) Refusal) (text : NetworkText) → ((nodes : List DocumentNode) → read ≡ Ok nodes → AreGood nodes) →
    wired_with behind read ≡ Ok text → IsGoodNetwork text
when-wired behind (Err refusal) text good e = absurd cc
when-wired behind (Ok nodes) text good e = when-built nodes behind (unbuilt_at nodes) text (good nodes refl) refl e

when-parted : (texts : Option (List ℕ × List ℕ)) (text : NetworkText) → parted texts ≡ Ok text → IsGoodNetwork text
when-parted None text e = absurd cc
when-parted (Some texts) text e = when-wired (lines texts.1) (topology_of texts.0) text (λ nodes is. topology-good texts.0 nodes is) e

-- the tests before it
passed :
    (over utf8 : Bool) (read : Result NetworkText Refusal) (text : NetworkText) →
    cond over (Err (refused_for InputTooLong)) (cond (not utf8) (Err (refused_for NotText)) read) ≡ Ok text → read ≡ Ok text
passed true utf8 read text e = absurd cc
passed false false read text e = absurd cc
passed false true read text e = e

network-good : (input : List ℕ) (text : NetworkText) → network_in input ≡ Ok text → IsGoodNetwork text
network-good input text e = when-parted (cut input) text (passed (nat_lt input_limit (length input)) (is_utf8 input) (parted (cut input)) text e)

-- ---- its traffic

abbrev asked_as : Asked → Result Asked Refusal
asked_as asked = Ok asked

pub same-asked : (a b : Asked) → asked_as a ≡ asked_as b → a ≡ b
same-asked a b e = cc

with-traffic :
    (nodes : List DocumentNode) (text : List (List ℕ)) (refusal : Option Refusal) (asked : Asked) → AreGood nodes → unbuilt_at nodes ≡ None → traffic_refusal nodes text ≡ refusal →
    traffic_on nodes text refusal ≡ Ok asked → IsRunnable asked
with-traffic nodes text (Some refusal) asked good built is e = absurd cc
with-traffic nodes text None asked good built is e =
    subst IsRunnable (same-asked (record { nodes = nodes; items = traffic_of nodes text }) asked e)
    (record { formed = good.formed; accepted = good.accepted; built = built; traffic = accepted_suits_all nodes text is })

when-asked : (read : Result NetworkText Refusal) (asked : Asked) → ((text : NetworkText) → read ≡ Ok text → IsGoodNetwork text) → asked_with read ≡ Ok asked → IsRunnable asked
when-asked (Err refusal) asked good e = absurd cc
when-asked (Ok text) asked good e =
    with-traffic text.nodes text.lines (traffic_refusal text.nodes text.lines) asked (good text refl).good (good text refl).built refl e

pub accepted-are_runnable : AcceptedAreRunnable
accepted-are_runnable input asked e = when-asked (network_in input) asked (λ text is. network-good input text is) e
