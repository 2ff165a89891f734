-- Known values of the definitions, worked by hand.
use Rattle.std.proofs.Common.{◌≡◌, List, [], ◌∷◌, Some, None, true, false, refl}
use Rattle.std.specs.Prelude.{codes, map}
use Rattle.axi_beats.specs.declared.beat.Burst.TheVariants.{Fixed, Incr, Wrap}
use Rattle.plain_text.specs.Lines.{lines}
use Rattle.plain_text.specs.Numbers.{number_in, read_byte_pair, read_decimal, read_hexadecimal}
use Rattle.plain_text.specs.Words.{words}
use Rattle.plan_traffic.specs.Data.{are_data_words, data_bytes, is_pair, lane_byte, pair_byte}
use Rattle.plan_traffic.specs.Line.{Passed, Waits, Asks, beats_named, burst_named, line_said, form_said, read_said, said_by, size_named, start_of, wait_said, write_said}
use Rattle.plan_traffic.specs.Orders.{order_said}
use Rattle.plan_traffic.specs.Traffic.{TrafficItem, traffic_refusal, traffic_of}
use Rattle.refusals.specs.Refusal.{refused_at, refused_burst}
use Rattle.refusals.specs.declared.cause.Cause.TheVariants.{BadLine, UnknownManager, BadId}
use Rattle.topology_text.specs.Document.{DocumentNode, node_of_kind}
use Rattle.topology_text.specs.declared.kind.Kind.TheVariants.{Manager}

-- ---- data words

three_lanes : data_bytes (codes "0a--Ff" ∷ []) ≡ lane_byte (Some 10) ∷ lane_byte None ∷ lane_byte (Some 255) ∷ []
unfolding pair_byte read_byte_pair number_in
three_lanes = refl

words_of_a_burst : are_data_words 1 2 (codes "--" ∷ codes "0000" ∷ codes "ab--" ∷ []) ≡ true
unfolding is_pair read_byte_pair number_in
words_of_a_burst = refl

one_dash : are_data_words 1 1 (codes "-0" ∷ []) ≡ false
unfolding is_pair read_byte_pair number_in
one_dash = refl

one_pair_too_many : are_data_words 1 1 (codes "00" ∷ codes "0000" ∷ []) ≡ false
unfolding is_pair read_byte_pair number_in
one_pair_too_many = refl

no_data_word : are_data_words 1 1 [] ≡ false
no_data_word = refl

-- ---- lines

nothing : map line_said ([] ∷ codes " \t" ∷ codes "  #write" ∷ []) ≡ Some Passed ∷ Some Passed ∷ Some Passed ∷ []
unfolding said_by words
nothing = refl

waits : line_said (codes "\twait  dma ") ≡ Some (Waits (codes "dma"))
unfolding said_by form_said wait_said words
waits = refl

-- from 0x3 on: one lane of four, and then four
unaligned_write :
    line_said (codes "write m 007 0x3 4 incr ff 0001--03")
    ≡ Some (Asks (record {
      start = record { manager = codes "m"; id = 7; addr = 3; size = 2; burst = Incr };
      write = true;
      beats = 2;
      bytes = lane_byte (Some 255) ∷ lane_byte (Some 0) ∷ lane_byte (Some 1) ∷ lane_byte None ∷ lane_byte (Some 3) ∷ [];
    }))
unfolding said_by form_said write_said start_of size_named burst_named is_pair pair_byte read_byte_pair read_decimal read_hexadecimal number_in words
unaligned_write = refl

-- each beat of a FIXED burst has the lanes of the first one
fixed_write :
    line_said (codes "write m 0 0x1 2 fixed 0a 0b")
    ≡ Some (Asks (record {
      start = record { manager = codes "m"; id = 0; addr = 1; size = 1; burst = Fixed };
      write = true;
      beats = 2;
      bytes = lane_byte (Some 10) ∷ lane_byte (Some 11) ∷ [];
    }))
unfolding said_by form_said write_said start_of size_named burst_named is_pair pair_byte read_byte_pair read_decimal read_hexadecimal number_in words
fixed_write = refl

wrap_read :
    line_said (codes "read cpu 4294967295 0x7FFFFFFFFFFFFFFF 128 wrap 4294967295")
    ≡ Some (Asks (record {
      start = record { manager = codes "cpu"; id = 4294967295; addr = 9223372036854775807; size = 7; burst = Wrap };
      write = false;
      beats = 4294967295;
      bytes = [];
    }))
unfolding said_by form_said read_said start_of size_named burst_named beats_named read_decimal read_hexadecimal number_in words
wrap_read = refl

bad_lines :
    map line_said
    (codes "read m 0 0x0 4 inc 1"
    ∷ codes "read m 0 0x0 4 incr"
    ∷ codes "read m 0 0x0 4 incr 0"
    ∷ codes "read m 0 0X0 4 incr 1"
    ∷ codes "read m +1 0x0 4 incr 1"
    ∷ codes "read m 4294967296 0x0 4 incr 1"
    ∷ codes "read m 0 0x8000000000000000 4 incr 1"
    ∷ codes "read m 0 0x0 04 incr 1"
    ∷ codes "read m 0 0x0 4 incr 1 1"
    ∷ codes "wait"
    ∷ codes "wait m m"
    ∷ codes "Wait m"
    ∷ [])
    ≡ None ∷ None ∷ None ∷ None ∷ None ∷ None ∷ None ∷ None ∷ None ∷ None ∷ None ∷ None ∷ []
unfolding said_by form_said read_said wait_said start_of size_named burst_named beats_named read_decimal read_hexadecimal number_in words
bad_lines = refl

-- ---- whole texts, for a manager `m` on a bus of 4 bytes with IDs of 4 bits

abbrev nodes : List DocumentNode
nodes = record (node_of_kind (codes "m") Manager) { bus = 4; id_width = 4 } ∷ []

a_bad_line_before_all :
    traffic_refusal nodes (lines (codes "read m 16 0x0 4 incr 1\nwait dma\n\nread m 0 0x0 4 incr\nread\n")) ≡ Some (refused_at BadLine 4)
unfolding said_by form_said order_said read_said wait_said start_of size_named burst_named beats_named read_decimal read_hexadecimal number_in words
a_bad_line_before_all = refl

an_unknown_manager_next :
    traffic_refusal nodes (lines (codes "read m 16 0x0 4 incr 1\nread m 0 0x0 8 incr 1\nwait dma\nwait dma\n")) ≡ Some (refused_at UnknownManager 3)
unfolding said_by form_said order_said read_said wait_said start_of size_named burst_named beats_named read_decimal read_hexadecimal number_in words
an_unknown_manager_next = refl

then_an_id :
    traffic_refusal nodes (lines (codes "read m 0 0x0 8 incr 1\nread m 15 0x0 4 incr 1\nread m 16 0x0 4 incr 1\n")) ≡ Some (refused_at BadId 3)
unfolding said_by form_said order_said read_said wait_said start_of size_named burst_named beats_named read_decimal read_hexadecimal number_in words
then_an_id = refl

broken_rules :
    map
    (λ text. traffic_refusal nodes (lines text))
    (codes "read m 0 0x0 8 incr 257"
    ∷ codes "read m 0 0x0 4 incr 257"
    ∷ codes "read m 0 0x1 4 wrap 3"
    ∷ codes "read m 0 0x1 4 wrap 2"
    ∷ codes "read m 0 0xffc 4 incr 2"
    ∷ codes "read m 0 0xffc 4 incr 1"
    ∷ [])
    ≡ Some (refused_burst 1 1) ∷ Some (refused_burst 1 2) ∷ Some (refused_burst 1 2) ∷ Some (refused_burst 1 3) ∷ Some (refused_burst 1 4) ∷ None ∷ []
unfolding said_by form_said order_said read_said wait_said start_of size_named burst_named beats_named read_decimal read_hexadecimal number_in words
broken_rules = refl

-- the third transaction waits for the first two, as the fourth does
after_a_wait :
    map (λ (item : TrafficItem). item.txn.number ∷ item.txn.after ∷ item.txn.request.len ∷ [])
    (traffic_of nodes (lines (codes "read m 0 0x0 4 incr 1\nread m 1 0x4 4 incr 2\nwait m\nread m 2 0x8 4 incr 3\n# as before\nread m 3 0xc 4 incr 4\n")))
    ≡ (1 ∷ 0 ∷ 0 ∷ []) ∷ (2 ∷ 0 ∷ 1 ∷ []) ∷ (3 ∷ 2 ∷ 2 ∷ []) ∷ (4 ∷ 2 ∷ 3 ∷ []) ∷ []
unfolding said_by form_said order_said read_said wait_said start_of size_named burst_named beats_named read_decimal read_hexadecimal number_in words
after_a_wait = refl
