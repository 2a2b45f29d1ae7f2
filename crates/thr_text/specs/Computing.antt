-- The words that a definition of texts unfolds to compute.
use Rattle.std.specs.Fmt.{digits}
use Rattle.thr_values.specs.Words.{call_word}
use Rattle.thr_text.specs.Names.{has_name_form, reserved_words, is_reserved}
use Rattle.thr_text.specs.Lexing.{has_number_form, magnitude, is_too_large, word_of}
use Rattle.thr_text.specs.Heads.{head_word, all_heads, head_in, head_of}
use Rattle.thr_text.specs.Slots.{call_slots, slots_of, misplaced}
use Rattle.thr_text.specs.Blocks.{shape_of, form_shape, misfits, blocks_below, block_faults}
use Rattle.thr_text.specs.Tables.{placed, declarations, kind_in}
use Rattle.thr_text.specs.NameFaults.{name_misfits, lines_faults, with_last_line, name_faults}
use Rattle.thr_text.specs.Reading.{scan_faults, lines_from, faults, numbered_lines}
use Rattle.thr_text.specs.Journals.{numbered, text}

unfoldable pub text_words : Unit {0}
unfolding digits call_word has_name_form reserved_words is_reserved has_number_form magnitude is_too_large word_of head_word all_heads head_in head_of call_slots slots_of misplaced shape_of form_shape misfits blocks_below block_faults placed declarations kind_in name_misfits lines_faults with_last_line name_faults scan_faults lines_from faults numbered_lines numbered text
text_words = tt
