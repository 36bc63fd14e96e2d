-- 4,096 bytes have room for the answer line of every call.
use Rattle.std.specs.Prelude.{◌≡◌, ℕ, ◌+◌, ◌≤◌, List, ◌++◌, length}
use Rattle.std.proofs.Common.{arith}
use Rattle.std.proofs.Math.ListN.{length-append}
use Rattle.base.specs.Write.{over}
use Rattle.obd2.specs.Core.{Lent, details_of}
use Rattle.obd2.specs.Answer.{Answer}
use Rattle.obd2.specs.declared.Details.{Details}
use Rattle.obd2.specs.declared.rest.Notes.{Notes}
use Rattle.reply.specs.declared.Response.{Response}
use Rattle.writing.specs.Added.{added, added_fits}
use Rattle.writing.specs.Fill.{fill_of, fill_end, fill_fits, end_fits}
use Rattle.history_answer.specs.Texts.{answer_text}
use Rattle.history_report.specs.Short.{report_short, listed_most}
use Rattle.history_said.specs.Short.{Sound, said_short}

-- What is lent and what goes by value hold no more than that.
pub lent_sound : (x : Lent) (n : Notes) → length x.pids ≡ 256 → length x.rates ≡ 256 → length n.lengths ≤ 8 → length n.query.pids ≤ 6
    → Sound (details_of x n)
lent_sound x n e f g h =
    record { lengths_are = g; pids_are = h; rates_are = listed_most x.pids x.rates n.summary e f }

module _ (d : Details) (v : Response) (area : List ℕ) (s : Sound d) where
  pub answer_short : (a : Answer) → length (answer_text a d v area) ≤ 4096
  unfolding answer_text
  answer_short a = simp length-append (omega (arith, said_short d v area s a, report_short d.report s.rates_are))

  -- THE WHOLE LINE is written where there is so much room.
  pub answer_whole : (a : Answer) (m : List ℕ) (at : ℕ) → at + 4096 ≤ length m
      → (fill_end m at (answer_text a d v area) ≡ at + length (answer_text a d v area)) × (fill_of m at (answer_text a d v area) ≡ over m at (answer_text a d v area))
  answer_whole a m at k =
      let n = answer_short a in (end_fits m at (answer_text a d v area) (omega arith), fill_fits m at (answer_text a d v area) (omega arith))

  -- The same behind a text of at most n bytes.
  pub answer_room : (a : Answer) (n : ℕ) (m : List ℕ) → length m + 4096 ≤ n → added n m (answer_text a d v area) ≡ m ++ answer_text a d v area
  answer_room a n m k = let h = answer_short a in added_fits n m (answer_text a d v area) (omega arith)
