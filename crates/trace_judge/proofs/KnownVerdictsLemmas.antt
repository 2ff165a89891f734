-- The known verdicts are computed.
use Rattle.std.proofs.Common.{refl}
use Rattle.plain_text.specs.Numbers.{number_in, read_plain_decimal}
use Rattle.plain_text.specs.Spelling.{read_glyph, read_pair, read_pairs, read_plain_hexadecimal}
use Rattle.trace_text.specs.Reading.{address_in, bit_before, bit_in, channel_before, decimal_before, hexadecimal_before, kind_before, lanes_before, lanes_in, read_data_in, trace_round_of, lite_in, round_before, tag_in}
use Rattle.trace_judge.specs.KnownVerdicts.{RefusedLines, BrokenRules, LegalTraces}

pub refused : RefusedLines
unfolding number_in read_plain_decimal read_plain_hexadecimal trace_round_of round_before decimal_before kind_before lite_in channel_before
refused = (refl, refl, refl, refl, refl)

pub broken : BrokenRules
unfolding number_in read_plain_decimal read_plain_hexadecimal trace_round_of round_before decimal_before hexadecimal_before kind_before lite_in channel_before address_in bit_before bit_in tag_in
broken = (refl, refl, refl, refl, refl, refl)

pub legal : LegalTraces
unfolding number_in read_plain_decimal read_plain_hexadecimal trace_round_of round_before decimal_before hexadecimal_before kind_before lite_in channel_before address_in read_data_in lanes_before lanes_in read_pairs read_pair read_glyph bit_before bit_in tag_in
legal = (refl, refl, refl, refl)
