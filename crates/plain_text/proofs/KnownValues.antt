-- Known values of the definitions, worked by hand.
use Rattle.std.proofs.Common.{◌≡◌, [], ◌∷◌, Some, None, refl}
use Rattle.std.specs.Prelude.{codes}
use Rattle.std.specs.Fmt.{digits, decimal}
use Rattle.plain_text.specs.Fields.{field_before}
use Rattle.plain_text.specs.Lines.{lines}
use Rattle.plain_text.specs.Numbers.{number_in, read_byte_pair, read_decimal, read_hexadecimal, read_plain_decimal}
use Rattle.plain_text.specs.Printing.{hexadecimal, pairs}
use Rattle.plain_text.specs.Separator.{cut}
use Rattle.plain_text.specs.Spelling.{read_glyph, read_pair, read_pairs, read_plain_hexadecimal}
use Rattle.plain_text.specs.Words.{words}

no_line : lines (codes "") ≡ []
no_line = refl

ended_line : lines (codes "a\n") ≡ codes "a" ∷ []
ended_line = refl

empty_lines : lines (codes "\n\r\nb") ≡ [] ∷ [] ∷ codes "b" ∷ []
empty_lines = refl

one_return_is_dropped : lines (codes "a\r\r\nb") ≡ codes "a\r" ∷ codes "b" ∷ []
one_return_is_dropped = refl

last_return_stays : lines (codes "a\r") ≡ codes "a\r" ∷ []
last_return_stays = refl

cut_between : cut (codes "a\n%%\nb\n") ≡ Some (codes "a\n", codes "b\n")
unfolding cut
cut_between = refl

cut_at_first : cut (codes "%%\r\n%%\n") ≡ Some ([], codes "%%\n")
unfolding cut
cut_at_first = refl

cut_at_end : cut (codes "a\n%%") ≡ Some (codes "a\n", [])
unfolding cut
cut_at_end = refl

return_at_end : cut (codes "a\n%%\r") ≡ None
unfolding cut
return_at_end = refl

other_lines : cut (codes " %%\n%% \n%%%\n%\n") ≡ None
unfolding cut
other_lines = refl

spaced_words : words (codes " read \t cpu ") ≡ codes "read" ∷ codes "cpu" ∷ []
unfolding words
spaced_words = refl

blanks_only : words (codes " \t ") ≡ []
unfolding words
blanks_only = refl

return_in_word : words (codes "a\r b") ≡ codes "a\r" ∷ codes "b" ∷ []
unfolding words
return_in_word = refl

leading_zeros : read_decimal (codes "0000000042") 100 ≡ Some 42
unfolding read_decimal number_in
leading_zeros = refl

at_limit : read_decimal (codes "42") 42 ≡ None
unfolding read_decimal number_in
at_limit = refl

eleven_digits : read_decimal (codes "00000000042") 100 ≡ None
unfolding read_decimal number_in
eleven_digits = refl

no_digit : read_decimal (codes "") 100 ≡ None
unfolding read_decimal number_in
no_digit = refl

signed : read_decimal (codes "+4") 100 ≡ None
unfolding read_decimal number_in
signed = refl

plain_zero : read_plain_decimal (codes "0") 100 ≡ Some 0
unfolding read_plain_decimal number_in
plain_zero = refl

plain_number : read_plain_decimal (codes "9223372036854775807") 9_223_372_036_854_775_808 ≡ Some 9_223_372_036_854_775_807
unfolding read_plain_decimal number_in
plain_number = refl

needless_zero : read_plain_decimal (codes "042") 100 ≡ None
unfolding read_plain_decimal number_in
needless_zero = refl

either_case : read_hexadecimal (codes "0xFf") 256 ≡ Some 255
unfolding read_hexadecimal number_in
either_case = refl

sixteen_digits : read_hexadecimal (codes "0x7fffffffffffffff") 9_223_372_036_854_775_808 ≡ Some 9_223_372_036_854_775_807
unfolding read_hexadecimal number_in
sixteen_digits = refl

seventeen_digits : read_hexadecimal (codes "0x00000000000000001") 100 ≡ None
unfolding read_hexadecimal number_in
seventeen_digits = refl

upper_mark : read_hexadecimal (codes "0X1") 100 ≡ None
unfolding read_hexadecimal number_in
upper_mark = refl

mark_alone : read_hexadecimal (codes "0x") 100 ≡ None
unfolding read_hexadecimal number_in
mark_alone = refl

pair_read : read_byte_pair (codes "fE") ≡ Some 254
unfolding read_byte_pair number_in
pair_read = refl

three_digits : read_byte_pair (codes "0fe") ≡ None
unfolding read_byte_pair number_in
three_digits = refl

dashes : read_byte_pair (codes "--") ≡ None
unfolding read_byte_pair number_in
dashes = refl

decimals : decimal 0 ≡ codes "0"
unfolding digits
decimals = refl

hexadecimals : hexadecimal 48879 ≡ codes "beef"
unfolding digits
hexadecimals = refl

hexadecimal_zero : hexadecimal 0 ≡ codes "0"
unfolding digits
hexadecimal_zero = refl

pairs_written : pairs (0 ∷ 10 ∷ 255 ∷ []) ≡ codes "000aff"
unfolding pairs
pairs_written = refl

fields_to_a_comma : field_before 44 (codes "a,,b") ≡ Some (codes "a", codes ",b")
fields_to_a_comma = refl

no_comma : field_before 44 (codes "ab") ≡ None
no_comma = refl

plain_address : read_plain_hexadecimal (codes "ffc") 4096 ≡ Some 4092
unfolding read_plain_hexadecimal number_in
plain_address = refl

capital_digit : read_plain_hexadecimal (codes "ffC") 4096 ≡ None
unfolding read_plain_hexadecimal number_in
capital_digit = refl

needless_hexadecimal_zero : read_plain_hexadecimal (codes "0f") 4096 ≡ None
unfolding read_plain_hexadecimal number_in
needless_hexadecimal_zero = refl

pairs_of_bytes : read_pairs (codes "00ab7f") ≡ Some (0 ∷ 171 ∷ 127 ∷ [])
unfolding read_pairs read_pair read_glyph
pairs_of_bytes = refl

odd_pairs : read_pairs (codes "00a") ≡ None
unfolding read_pairs read_pair read_glyph
odd_pairs = refl

capital_pair : read_pairs (codes "aB") ≡ None
unfolding read_pairs read_pair read_glyph
capital_pair = refl
