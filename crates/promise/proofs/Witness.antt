-- Histories that meet every hypothesis of the demand, all the way from a start: a connection made and a round begun with nothing
-- listed yet, its end, the messages of two PIDs taken, and from there two rounds. One with a Fast and a Slow PID, where the second
-- round passes the slow test; one with two Slow PIDs alone, where both rounds pass it. All of it is computed.
use Rattle.std.specs.Prelude.{Some, Bool, true, false, List, [], ◌∷◌, ◌++◌, map, ◌≡◌, refl, ℕ, ◌+◌, ◌*◌, ◌<◌, ◌≤◌, max, eqb, length}
use Rattle.std.proofs.Common.{ap, ◌∙◌, arith}
use Rattle.base.specs.Both.{both_left, both_right}
use Rattle.base.specs.Choice.{pick, cases}
use Rattle.base.specs.Count.{more_of}
use Rattle.base.specs.Each.{some_of}
use Rattle.base.specs.Refusal.{first_of}
use Rattle.base.specs.Times.{times}
use Rattle.config.specs.InForce.{in_force}
use Rattle.config.specs.declared.Profiles.{Profiles}
use Rattle.config.specs.declared.Settings.{Settings}
use Rattle.control.specs.Outbox.{empty_of, send_all, messages, push_of as pushOut}
use Rattle.control.specs.Told.{told_of}
use Rattle.control.specs.declared.DongleMessage.{DongleMessage}
use Rattle.control_line.specs.Ring.{empty_line, push_of, push_all_of, take_of, from, waiting}
use Rattle.link.specs.Rules.{no_ranges, start_link, connect_of as linkUp}
use Rattle.manager.specs.Calls.{no_table, register_of, start_of as startManager}
use Rattle.passes.specs.Sweep.{through, news, entry_after, swept, tidings}
use Rattle.passes.specs.Wishes.{counts_of, priority_of, wished_by, wish_of, joined as joinedWish}
use Rattle.pid_list.specs.Rules.{size_of, entries, empty_list, place, wrap, swap_out, append_of, fit_of, remove_of, set_of, next_of as nextPid}
use Rattle.pid_table.specs.Entry.{is_fast, speed, registered_of}
use Rattle.plan.specs.Steps.{padded}
use Rattle.poller.specs.Calls.{applied_of, connect_of, begin_of}
use Rattle.rounds.specs.Next.{issue_of, end_of, slow_due, slow_of, first_of as firstQuery, next_of}
use Rattle.rounds.specs.Result.{keep_of, teach_of, teach_all, learn_of, link_after, round_after, result_of}
use Rattle.poller.specs.State.{pids_of, start_of as startPoller}
use Rattle.profile_check.specs.Check.{bad_profiles, unknown_mode, unknown_of}
use Rattle.reply.specs.Rules.{within_of, sum_of, counted_of, lengths_of, total_of}
use Rattle.obd2.specs.Answers.{values_of}
use Rattle.obd2.specs.Call.{begin, next, round, RoundCall, Begin, Next, Result}
use Rattle.obd2.specs.Call.{none as none-calls, more as more-calls}
use Rattle.obd2.specs.Done.{link_by, round_by, done_of}
use Rattle.obd2.specs.History.{start_of, event_of, accepted, step, run, happened}
use Rattle.obd2.specs.Refusals.{over_range, start_refusal, link_rows, round_rows, rows_of, refusal_of}
use Rattle.obd2.specs.State.{started}
use Rattle.obd2.specs.declared.State.{State}
use Rattle.obd2.specs.Answer.{Accepted}
use Rattle.obd2.specs.Answer.{Answered}
use Rattle.obd2.specs.declared.Said.TheVariants.{Taken}
use Rattle.agreement.specs.Claim.{asks}
use Rattle.agreement.specs.Claim.{none as none_asked}
use Rattle.round_robin.specs.Claim.{Seen, read_by, seen, seen_over, Quiet, Steady, none, more, read, sofar, there, rounds_after}
use Rattle.round_robin.specs.Marks.{mark, open_over, rounds_in, rounds}
use Rattle.round_robin.proofs.Runs.{marks_told, later_told}
use Rattle.promise.specs.Witness.{two, overlays, second, opening, closing, settled, turns, turn, calls, all_up_in, Met}

-- A round's calls change no settings and take no message.
kept : (k : Seen) (b : Bool) (t : ℕ) (c : RoundCall) → (pick b (read_by k (round t c)) k).settings ≡ k.settings
kept k true t Begin = refl
kept k true t Next = refl
kept k true t (Result o) = refl
kept k false t c = refl

other : (s : State) (t : ℕ) (c : RoundCall) (m : DongleMessage) → (done_of s (round t c)).said ≡ Taken (Some m) → ⊥
unfolding done_of round_by
other s t Begin m e = let z : ◌≡◌ {A = ℕ} 0 1 = cc in omega arith
other s t Next m e = let z : ◌≡◌ {A = ℕ} 0 1 = cc in omega arith
other s t (Result o) m e = let z : ◌≡◌ {A = ℕ} 0 1 = cc in omega arith

none_taken : (s : State) (t : ℕ) (c : RoundCall) (m : DongleMessage) → (step s (round t c)).answer ≡ Accepted (Taken (Some m)) → ⊥
unfolding step
none_taken s t c m f = cases _ (eqb (refusal_of s (round t c)) 0)
    (λ e. other s t c m (let g = rw e at f in cc))
    (λ e. let g = rw e at f in let z : ◌≡◌ {A = ℕ} 0 1 = cc in omega arith)

all_quiet : (xs : List (ℕ × RoundCall)) (k : Seen) (s : State) → k.settings.multi ≡ false → all_up_in k (happened s (map turn xs)) ≡ true → Steady k (happened s (map turn xs))
unfolding happened
all_quiet [] k s off h = none
all_quiet (x ∷ xs) k s off h =
    let e = event_of s (turn x) in
    let s' = (step s (turn x)).state in
    let same : (seen k e).settings ≡ k.settings = kept k (accepted e) x.0 x.1 in
    let later = all_up_in (seen k e) (happened s' (map turn xs)) in
    let q : Quiet k e = record { stays_up = both_left (seen k e).up later h; single = λ _. rw off; none_taken = none_taken s x.0 x.1; unchanged = same } in
    more q (all_quiet xs (seen k e) s' (ap (λ (y : Settings). y.multi) same ∙ off) (both_right (seen k e).up later h))

-- What the history of a list of profiles comes to: a round is open before the call that ends it and none behind it; then the rounds,
-- the lists before them, and what is read before them.
record Computed (ps : Profiles) (fast slow : List ℕ) (rs : List (List ℕ)) : Type 0 where
  opened : open_over false (map mark (sofar 0 second ps opening)) ≡ true
  over : open_over false (map mark (sofar 0 second ps (opening ++ closing))) ≡ false
  rounds_are : rounds (map mark (happened (there 0 second ps (settled ps)) calls)) ≡ rs
  fast_is : entries (there 0 second ps (settled ps)).poller.fast ≡ fast
  slow_is : entries (there 0 second ps (settled ps)).poller.slow ≡ slow
  settings_are : (read 0 second ps (settled ps)).settings ≡ second
  up : (read 0 second ps (settled ps)).up ≡ true
  all_up : all_up_in (read 0 second ps (settled ps)) (happened (there 0 second ps (settled ps)) calls) ≡ true

computed : Computed two (12 ∷ []) (5 ∷ []) ((12 ∷ []) ∷ (12 ∷ 5 ∷ []) ∷ []) × Computed overlays [] (5 ∷ 15 ∷ []) ((5 ∷ []) ∷ (15 ∷ []) ∷ [])
unfolding rounds_in open_over seen_over start_of start_refusal started startManager register_of no_table through news entry_after swept tidings counts_of priority_of wished_by wish_of joinedWish in_force is_fast speed registered_of told_of empty_of send_all messages pushOut push_all_of push_of empty_line unknown_mode unknown_of bad_profiles run step refusal_of rows_of link_rows round_rows done_of link_by round_by over_range within_of sum_of counted_of lengths_of total_of first_of some_of take_of applied_of set_of remove_of fit_of swap_out append_of place entries size_of wrap empty_list connect_of linkUp start_link no_ranges startPoller happened nextPid begin_of next_of firstQuery slow_of slow_due issue_of end_of more_of padded keep_of teach_of teach_all learn_of link_after round_after result_of pids_of waiting from
computed = (
  record { opened = refl; over = refl; rounds_are = refl; fast_is = refl; slow_is = refl; settings_are = refl; up = refl; all_up = refl },
  record { opened = refl; over = refl; rounds_are = refl; fast_is = refl; slow_is = refl; settings_are = refl; up = refl; all_up = refl },
)

meets : (ps : Profiles) {fast slow : List ℕ} {rs : List (List ℕ)} → Computed ps fast slow rs → Met ps
meets ps c = record {
  made = record { start = omega arith; calls = more-calls tt (more-calls tt none-calls) };
  opened = ap (open_over false) (marks_told 0 second ps opening) ∙ c.opened;
  ending = record { of_round = asks none_asked; over = ap (open_over false) (marks_told 0 second ps (opening ++ closing)) ∙ c.over };
  lasting = record {
    up = c.up;
    steady = all_quiet turns (read 0 second ps (settled ps)) (there 0 second ps (settled ps)) (rw c.settings_are) c.all_up;
  };
}

pub met : Met two × Met overlays
met = (meets two computed.0, meets overlays computed.1)

-- The rounds of the calls behind it, as the demand reads them.
rounds_read : (ps : Profiles) {fast slow : List ℕ} {rs : List (List ℕ)} → Computed ps fast slow rs → rounds_after 0 second ps (settled ps) calls ≡ rs
rounds_read ps c = ap rounds (later_told 0 second ps (settled ps) calls) ∙ c.rounds_are

-- Within it: Ratio mode, a PID in each list, and as many rounds as both stretches need; ..
pub stretches : let before = settled two in
    let box = there 0 second two before in
    ((read 0 second two before).settings.mode ≡ 0 → ⊥)
    × (0 < times 12 (entries box.poller.fast))
    × (0 < times 5 (entries box.poller.slow))
    × (0 + length (entries box.poller.fast) ≤ length (rounds_after 0 second two before calls))
    × (0 + length (entries box.poller.slow) * max 1 (read 0 second two before).settings.ratio ≤ length (rounds_after 0 second two before calls))
unfolding times
stretches =
    let c = computed.0 in
    rw (rounds_read two c, c.fast_is, c.slow_is, c.settings_are) ((λ e. omega arith), omega arith, omega arith, omega arith, omega arith)

-- .. Ratio mode, the fast list empty, two slow PIDs and as many rounds.
pub slow_stretches : let before = settled overlays in
    let box = there 0 second overlays before in
    ((read 0 second overlays before).settings.mode ≡ 0 → ⊥)
    × (length (entries box.poller.fast) ≡ 0)
    × (0 < times 5 (entries box.poller.slow))
    × (0 < times 15 (entries box.poller.slow))
    × (0 + length (entries box.poller.slow) ≤ length (rounds_after 0 second overlays before calls))
unfolding times
slow_stretches =
    let c = computed.1 in
    rw (rounds_read overlays c, c.fast_is, c.slow_is, c.settings_are) ((λ e. omega arith), refl, omega arith, omega arith, omega arith)

-- What the `next` of its first round answers: the query's PID, and no ECU count yet.
abbrev queried : Answered
queried = step (run (there 0 second two (settled two)) (begin 4 ∷ [])) (next 5)

pub query_told : values_of queried.answer queried.details ≡ 12 ∷ 0 ∷ []
unfolding start_of start_refusal started startManager register_of no_table through news entry_after swept tidings counts_of priority_of wished_by wish_of joinedWish in_force is_fast speed registered_of told_of empty_of send_all messages pushOut push_all_of push_of empty_line unknown_mode unknown_of bad_profiles run step refusal_of rows_of link_rows round_rows done_of link_by round_by over_range within_of sum_of counted_of lengths_of total_of first_of some_of take_of applied_of set_of remove_of fit_of swap_out append_of place entries size_of wrap empty_list connect_of linkUp start_link no_ranges startPoller happened nextPid begin_of next_of firstQuery slow_of slow_due issue_of end_of more_of padded keep_of teach_of teach_all learn_of link_after round_after result_of pids_of waiting from
query_told = refl
