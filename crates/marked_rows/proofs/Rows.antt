-- The marked rows' theorems: what the definitions give for each row.
use Rattle.std.specs.Prelude.{[], ◌∷◌, ◌≡◌, refl}
use Rattle.base.specs.Count.{more_of}
use Rattle.ascii.specs.Chars.{upper, hex_value, hex_digit, between}
use Rattle.capture.specs.Format.{record_bytes, le}
use Rattle.command.specs.Classify.{command_of, stripped, same_text, range_texts, index_of, pid_of}
use Rattle.delivery.specs.Rules.{revs_after}
use Rattle.pid.specs.Laws.{revs_length}
use Rattle.pid_list.specs.Rules.{entries, size_of, place, wrap, swap_out, append_of, fit_of, remove_of, set_of, next_of}
use Rattle.pid_table.specs.Entry.{is_fast, promotes_of, consumed_of, past_of, loose_of, idle_of, removed_of}
use Rattle.poller.specs.Calls.{applied_of}
use Rattle.reply.specs.Rules.{first_line, first_length_of, lengths_of}
use Rattle.transcript.specs.Lines.{class_name, number_text, tail_text, last_text, output}
use Rattle.value.specs.Rules.{width_of, data_of, fold_of, value_by, value_of}
use Rattle.marked_rows.specs.Rows.{input, printed, results, by_length}

prints : output [] input ≡ printed
unfolding output last_text tail_text class_name number_text hex_digit command_of stripped same_text range_texts index_of pid_of upper hex_value between
prints = refl

pub rows : results
    ≡ printed
    ∷ (6904 ∷ 1726 ∷ [])
    ∷ (258 ∷ 64 ∷ [])
    ∷ (1 ∷ [])
    ∷ (0 ∷ [])
    ∷ (0 ∷ [])
    ∷ (1 ∷ [])
    ∷ (3 ∷ 2 ∷ 3 ∷ [])
    ∷ (6 ∷ 5 ∷ 4 ∷ 5 ∷ [])
    ∷ (0x01 ∷ 0x00 ∷ 0x00 ∷ 0x00 ∷ 0x01 ∷ 0x02 ∷ 0x00 ∷ 0x41 ∷ 0x0c ∷ [])
    ∷ []
unfolding record_bytes le revs_after entries size_of place wrap swap_out append_of fit_of remove_of set_of next_of applied_of is_fast promotes_of consumed_of more_of past_of loose_of idle_of removed_of value_of value_by width_of data_of first_line first_length_of lengths_of fold_of
rows = rw (prints, revs_length)

pub lengths : by_length
    ≡ (0 ∷ 1 ∷ 1 ∷ [])
    ∷ (1 ∷ 258 ∷ 258 ∷ [])
    ∷ (258 ∷ 66051 ∷ 66051 ∷ [])
    ∷ (66051 ∷ 16909060 ∷ 16909060 ∷ [])
    ∷ (16909060 ∷ 16909060 ∷ 16909060 ∷ [])
    ∷ (16909060 ∷ 16909060 ∷ 16909060 ∷ [])
    ∷ (66051 ∷ 16909060 ∷ 16909060 ∷ [])
    ∷ []
unfolding value_by width_of data_of first_line first_length_of lengths_of fold_of
lengths = refl
