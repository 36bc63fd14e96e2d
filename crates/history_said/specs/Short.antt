-- How long the answer of a call is at most.
use Rattle.std.specs.Prelude.{None, Option, Some, ℕ, zero, suc, ◌*◌, ◌≤◌, min, Bool, true, false, List, length, take, ◌==◌, slice_index, slice_index_or}
use native.Mathlib.Omega.{arith}
use Rattle.std.proofs.Math.ListN.{length-append, length-take}
use Rattle.base.specs.Choice.{cases}
use Rattle.cache.specs.declared.Answer.{Answer as Asked}
use Rattle.cache.specs.declared.Answer.TheVariants as asked
use Rattle.control.specs.declared.DongleMessage.{DongleMessage}
use Rattle.control.specs.declared.DongleMessage.TheVariants.{SetPidPriority, RemovePid}
use Rattle.link.specs.declared.Connecting.{Connecting}
use Rattle.link.specs.declared.Connecting.TheVariants.{Connected, Failed, Already}
use Rattle.obd2.specs.Answer.{Answer}
use Rattle.obd2.specs.Answer.{Refused, Accepted}
use Rattle.obd2.specs.declared.Details.{Details}
use Rattle.obd2.specs.declared.Said.{Said}
use Rattle.obd2.specs.declared.Said.TheVariants as said
use Rattle.poller.specs.declared.Query.{Query}
use Rattle.reply.specs.declared.Response.{Response}
use Rattle.rounds.specs.declared.Step.{Step}
use Rattle.rounds.specs.declared.Step.TheVariants.{Ask, End}
use Rattle.writing.specs.Number.{decimal_short}
use Rattle.writing_pairs.specs.Short.{pid_length, bytes_short}
use Rattle.writing_lists.specs.Short.{pids_short, numbers_short}
use Rattle.history_said.specs.Texts.{held_of, lines_text, reading_text, collected_text, range_text, asked_text, control_text, taken_text, connecting_text, check_text, ecu_text, query_text, step_text, mark_text, value_text, values_from, done_text, accepted_text, said_text}

-- What the code holds: eight lengths, six PIDs of a query, 256 rates.
pub record Sound (d : Details) : Type 0 where
  pub lengths_are : length d.lengths ≤ 8
  pub pids_are : length d.query.pids ≤ 6
  pub rates_are : length d.report.rates.list ≤ 256

module _ (lines : ℕ) (lengths area : List ℕ) (eight : length lengths ≤ 8) where
  lines_short : length (lines_text lines lengths area) ≤ 300
  unfolding lines_text held_of
  lines_short =
      simp length-append (omega (
        arith,
        numbers_short (take lines lengths),
        length-take lines lengths,
        bytes_short (take (held_of lines lengths) area),
        length-take (held_of lines lengths) area,
      ))

  range_short : length (range_text lines lengths area) ≤ 306
  unfolding range_text
  range_short = simp length-append (omega (arith, lines_short))

  reading_short : (p : ℕ) → length (reading_text p lines lengths area) ≤ 320
  unfolding reading_text
  reading_short p = simp length-append (omega (arith, lines_short, pid_length p))

  collected_short : (p wait : ℕ) → length (collected_text p wait lines lengths area) ≤ 341
  unfolding collected_text
  collected_short p wait = simp length-append (omega (arith, reading_short p, decimal_short wait))

  asked_short : (a : Asked) → length (asked_text a lines lengths area) ≤ 320
  unfolding asked_text
  asked_short asked.Unable = omega arith
  asked_short asked.NoData = omega arith
  asked_short asked.Unknown = omega arith
  asked_short asked.Range = omega (arith, range_short)
  asked_short (asked.Reading p) = reading_short p
  asked_short (asked.Waiting p) = simp length-append (omega (arith, pid_length p))

control_short : (m : DongleMessage) → length (control_text m) ≤ 9
unfolding control_text
control_short (SetPidPriority p s) = simp length-append (omega (arith, pid_length p))
control_short (RemovePid p) = simp length-append (omega (arith, pid_length p))

ecu_short : (n : ℕ) → length (ecu_text n) ≤ 20
unfolding ecu_text
ecu_short n = cases _ (n == 0) (λ e. rw e (omega arith)) (λ e. rw e (decimal_short n))

query_short : (q : Query) → length q.pids ≤ 6 → length (query_text q) ≤ 46
unfolding query_text
query_short q h =
    simp length-append (omega (arith, pids_short (take q.count q.pids), length-take q.count q.pids, ecu_short q.ecu))

mark_short : (b : Bool) → length (mark_text b) ≤ 1
unfolding mark_text
mark_short true = omega arith
mark_short false = omega arith

value_short : (p v : ℕ) (b : Bool) → length (value_text p v b) ≤ 25
unfolding value_text
value_short p v b = simp length-append (omega (arith, pid_length p, decimal_short v, mark_short b))

values_short : (n i : ℕ) (ps vs : List ℕ) (bs : List Bool) → length (values_from i n ps vs bs) ≤ n * 25
unfolding values_from
values_short zero i ps vs bs = omega arith
values_short (suc n) i ps vs bs =
    simp length-append (omega (arith, value_short (slice_index ps i) (slice_index vs i) (slice_index_or bs i false), values_short n (suc i) ps vs bs))

done_short : (d : Details) (v : Response) → length (done_text d v) ≤ 152
unfolding done_text
done_short d v =
    simp length-append (omega (arith, values_short (min v.count 6) 0 v.pids d.values d.notices))

taken_short : (m : Option DongleMessage) → length (taken_text m) ≤ 9
unfolding taken_text
taken_short (Some m) = control_short m
taken_short None = omega arith

connecting_short : (c : Connecting) → length (connecting_text c) ≤ 9
unfolding connecting_text
connecting_short Connected = omega arith
connecting_short Failed = omega arith
connecting_short Already = omega arith

check_short : (b : Bool) → length (check_text b) ≤ 3
unfolding check_text
check_short true = omega arith
check_short false = omega arith

step_short : (s : Step) (q : Query) → length q.pids ≤ 6 → length (step_text s q) ≤ 46
unfolding step_text
step_short Ask q h = query_short q h
step_short (End n) q h = simp length-append (omega (arith, decimal_short n))

module _ (d : Details) (v : Response) (area : List ℕ) (s : Sound d) where
  accepted_short : (a : Said) → length (accepted_text a d v area) ≤ 341
  unfolding accepted_text
  accepted_short said.Started = omega arith
  accepted_short said.Done = omega (arith, done_short d v)
  accepted_short (said.Client n) = simp length-append (omega (arith, decimal_short n))
  accepted_short (said.Asked a) = omega (arith, asked_short d.lines d.lengths area s.lengths_are a)
  accepted_short (said.Collected p wait) = collected_short d.lines d.lengths area s.lengths_are p wait
  accepted_short said.GivenUp = omega arith
  accepted_short (said.Taken m) = omega (arith, taken_short m)
  accepted_short (said.Connecting c) = omega (arith, connecting_short c)
  accepted_short (said.Check b) = omega (arith, check_short b)
  accepted_short (said.Step x) = omega (arith, step_short x d.query s.pids_are)

  pub said_short : (a : Answer) → length (said_text a d v area) ≤ 341
  unfolding said_text
  said_short (Refused n) = simp length-append (omega (arith, decimal_short n))
  said_short (Accepted a) = accepted_short a
