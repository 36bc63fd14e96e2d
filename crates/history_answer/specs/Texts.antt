-- The answer lines of the box's calls: history-format.md, "Calls of the box and their answers".
use Rattle.std.specs.Prelude.{ℕ, List, ◌++◌}
use Rattle.base.specs.Letters.{letters}
use Rattle.obd2.specs.Answer.{Answer}
use Rattle.obd2.specs.declared.Details.{Details}
use Rattle.reply.specs.declared.Response.{Response}
use Rattle.history_report.specs.Texts.{report_text}
use Rattle.history_said.specs.Texts.{said_text}

-- THE LINE, with its line feed.
unfoldable pub answer_text : Answer → Details → Response → List ℕ → List ℕ
answer_text a d v area = said_text a d v area ++ (report_text d.report ++ letters "\n")

unfoldable pub bad_text : List ℕ
bad_text = letters "bad line\n"
