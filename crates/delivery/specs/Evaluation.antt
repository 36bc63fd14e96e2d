-- What a response tells before anything is stored: its answer but for the desk's replies and clients.
use Rattle.std.specs.Prelude.{Option, Bool, false, ◌≡◌, refl, ℕ, ◌+◌, set, replicate}
use Rattle.config.specs.declared.Profiles.{Profiles}
use Rattle.desk.specs.declared.Desk.{Desk}
use Rattle.reply.specs.Rules.{max_pids}
use Rattle.reply.specs.declared.Response.{Response}
use Rattle.triggers.specs.Rules.{switch_of, notice_of}
use Rattle.delivery.specs.Rules.{revs_after, deliver_of, pid_at, value_at, turn_of}
use Rattle.delivery.specs.Turns.{answer_after, answer_start, answer_next}
use Rattle.delivery.specs.declared.Answered.{Answered}
use Rattle.delivery.specs.declared.evaluation.Evaluated.{Evaluated}

-- WHAT AN ANSWER TELLS.
abbrev pub evaluated_of : Answered → Evaluated
evaluated_of a = record { revs = a.desk.revs; profiles = a.profiles; refusal = a.refusal; values = a.values; notices = a.notices }

-- What the PID at place i adds: it goes by nothing that the desk holds but the revs.
unfoldable pub evaluated_turn : Response → ℕ → Evaluated → Evaluated
evaluated_turn r i e =
    record {
      revs = revs_after (pid_at r i) (value_at r i) e.revs;
      profiles = switch_of (pid_at r i) (value_at r i) e.profiles;
      refusal = e.refusal;
      values = set e.values i (value_at r i);
      notices = set e.notices i (notice_of (pid_at r i) (value_at r i) e.profiles);
    }

-- A turn, from what its parts answer.
pub turn_by : (r : Response) (i : ℕ) (e : Evaluated) (v : ℕ) (revs : Option ℕ) (ps : Profiles) (n : Bool)
    → v ≡ value_at r i
    → revs ≡ revs_after (pid_at r i) v e.revs
    → ps ≡ switch_of (pid_at r i) v e.profiles
    → n ≡ notice_of (pid_at r i) v e.profiles
    → record { revs = revs; profiles = ps; refusal = e.refusal; values = set e.values i v; notices = set e.notices i n } ≡ evaluated_turn r i e
unfolding evaluated_turn
turn_by r i e v revs ps n f g h k = rw (g, h, k, f)

turn_evaluated : (r : Response) (i : ℕ) (a : Answered) → evaluated_turn r i (evaluated_of a) ≡ evaluated_of (turn_of r i a)
unfolding evaluated_turn turn_of deliver_of
turn_evaluated r i a = refl

module _ (d : Desk) (ps : Profiles) (r : Response) where
  pub evaluated_start : (revs : Option ℕ) → d.revs ≡ revs
      → record { revs = revs; profiles = ps; refusal = 0; values = replicate max_pids 0; notices = replicate max_pids false } ≡ evaluated_of (answer_after 0 d ps r)
  evaluated_start revs e = rw (answer_start d ps r, e)

  pub evaluated_next : (i : ℕ) (e : Evaluated) → e ≡ evaluated_of (answer_after i d ps r) → evaluated_turn r i e ≡ evaluated_of (answer_after (i + 1) d ps r)
  evaluated_next i e f = rw (f, turn_evaluated r i (answer_after i d ps r), answer_next d ps r i)
