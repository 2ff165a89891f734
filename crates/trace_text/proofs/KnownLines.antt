-- Trace lines worked by hand, written and read.
use Rattle.std.proofs.Common.{◌≡◌, ◌++◌, true, false, [], ◌∷◌, Some, None, refl}
use Rattle.std.specs.Prelude.{List, Bool, ℕ, Option, codes, replicate}
use Rattle.std.specs.Fmt.{digits}
use Rattle.plain_text.specs.Printing.{pairs}
use Rattle.plain_text.specs.Numbers.{number_in, read_plain_decimal}
use Rattle.plain_text.specs.Spelling.{read_glyph, read_pair, read_pairs, read_plain_hexadecimal}
use Rattle.axi_beats.specs.declared.beat.Tag.{Tag}
use Rattle.axi_history.specs.declared.port.RawAddr.{RawAddr}
use Rattle.axi_history.specs.declared.port.Seen.{Seen}
use Rattle.axi_history.specs.declared.port.PortRound.{PortRound}
use Rattle.trace_text.specs.Form.{address_text, line_text, read_data_text, response_text, tag_text, write_data_text}
use Rattle.trace_text.specs.Reading.{bit_before, bit_in, channel_before, decimal_before, hexadecimal_before, kind_before, lanes_before, lanes_in, trace_round_of, lite_in, round_before, tag_in, write_data_in}

abbrev tag : ℕ → ℕ → ℕ → Tag
tag txn low high = record { txn = txn; low = low; high = high }

abbrev nothing : ℕ → ℕ → Bool → ℕ → PortRound
nothing round link lite bus = record { round = round; link = link; kind = record { lite = lite; bus = bus }; aw = None; w = None; b = None; ar = None; r = None }

-- an address of one beat of four bytes, which is taken
abbrev address : ℕ → ℕ → ℕ → ℕ → ℕ → Option (Seen RawAddr)
address id addr txn low high =
    Some (record { beat = record { id = id; addr = addr; len = 0; size = 2; burst = 1; lock = false; tag = tag txn low high }; taken = true })

-- ---- a write and a read of one word

abbrev write_address : PortRound
write_address = record (nothing 2 0 false 4) { aw = address 1 16 1 0 0 }

write_address_line : line_text write_address ≡ codes "2 0 axi 4 +1,10,0,2,1,0,1:0:0 - - - -"
unfolding line_text address_text tag_text digits
write_address_line = refl

abbrev on_four : ℕ → ℕ → ℕ → ℕ → List ℕ
on_four a b c d = (a ∷ b ∷ c ∷ d ∷ []) ++ replicate 124 0

abbrev write_data : PortRound
write_data = record (nothing 3 0 false 4) { w = Some (record { beat = record { lanes = on_four 17 34 51 68; strobe = 15; last = true; tag = tag 1 0 0 }; taken = true }) }

write_data_line : line_text write_data ≡ codes "3 0 axi 4 - +11223344,f,1,1:0:0 - - -"
unfolding line_text write_data_text tag_text digits pairs
write_data_line = refl

abbrev write_response : PortRound
write_response = record (nothing 5 0 false 4) { b = Some (record { beat = record { id = 1; resp = 0; tag = tag 1 0 0 }; taken = true }) }

write_response_line : line_text write_response ≡ codes "5 0 axi 4 - - +1,0,1:0:0 - -"
unfolding line_text response_text tag_text digits
write_response_line = refl

abbrev read_address : PortRound
read_address = record (nothing 7 0 false 4) { ar = address 2 16 2 0 0 }

read_address_line : line_text read_address ≡ codes "7 0 axi 4 - - - +2,10,0,2,1,0,2:0:0 -"
unfolding line_text address_text tag_text digits
read_address_line = refl

abbrev read_data : PortRound
read_data = record (nothing 9 0 false 4) { r = Some (record { beat = record { id = 2; lanes = on_four 17 34 51 68; resp = 0; last = true; tag = tag 2 0 0 }; taken = true }) }

read_data_line : line_text read_data ≡ codes "9 0 axi 4 - - - - +2,11223344,0,1,2:0:0"
unfolding line_text read_data_text tag_text digits pairs
read_data_line = refl

-- ---- two reads of an AXI4-Lite port

abbrev lite_address : ℕ → ℕ → PortRound
lite_address round lane = record (nothing round 2 true 4) { ar = address 0 0 1 lane lane }

abbrev lite_data : ℕ → ℕ → PortRound
lite_data round lane = record (nothing round 2 true 4) { r = Some (record { beat = record { id = 0; lanes = on_four 171 171 171 171; resp = 0; last = true; tag = tag 1 lane lane }; taken = true }) }

first_lite_address_line : line_text (lite_address 4 2) ≡ codes "4 2 lite 4 - - - +0,0,0,2,1,0,1:2:2 -"
unfolding line_text address_text tag_text digits
first_lite_address_line = refl

second_lite_address_line : line_text (lite_address 5 3) ≡ codes "5 2 lite 4 - - - +0,0,0,2,1,0,1:3:3 -"
unfolding line_text address_text tag_text digits
second_lite_address_line = refl

first_lite_data_line : line_text (lite_data 6 2) ≡ codes "6 2 lite 4 - - - - +0,abababab,0,1,1:2:2"
unfolding line_text read_data_text tag_text digits pairs
first_lite_data_line = refl

second_lite_data_line : line_text (lite_data 7 3) ≡ codes "7 2 lite 4 - - - - +0,abababab,0,1,1:3:3"
unfolding line_text read_data_text tag_text digits pairs
second_lite_data_line = refl

-- ---- a beat that isn't taken, and texts that are no trace line

left_head : line_text (record (nothing 1 0 false 4) { b = Some (record { beat = record { id = 1; resp = 0; tag = tag 1 0 0 }; taken = false }) }) ≡ codes "1 0 axi 4 - - =1,0,1:0:0 - -"
unfolding line_text response_text tag_text digits
left_head = refl

read_again : trace_round_of (codes "3 0 axi 4 - +11223344,f,1,1:0:0 - - -") ≡ Some write_data
unfolding trace_round_of round_before kind_before lite_in channel_before write_data_in tag_in bit_before bit_in lanes_before lanes_in decimal_before hexadecimal_before read_plain_decimal read_plain_hexadecimal number_in read_pairs read_pair read_glyph
read_again = refl

two_spaces : trace_round_of (codes "3  0 axi 4 - - - - -") ≡ None
unfolding trace_round_of round_before kind_before lite_in channel_before decimal_before read_plain_decimal number_in
two_spaces = refl

needless_zero : trace_round_of (codes "03 0 axi 4 - - - - -") ≡ None
unfolding trace_round_of round_before kind_before lite_in channel_before decimal_before read_plain_decimal number_in
needless_zero = refl

round_zero : trace_round_of (codes "0 0 axi 4 - - - - -") ≡ None
unfolding trace_round_of round_before kind_before lite_in channel_before decimal_before read_plain_decimal number_in
round_zero = refl

wide_lite_bus : trace_round_of (codes "1 0 lite 16 - - - - -") ≡ None
unfolding trace_round_of round_before kind_before lite_in channel_before decimal_before read_plain_decimal number_in
wide_lite_bus = refl
