-- The two stages of reading a line come to what it means: `line_of` tells what it is, `read_of` is what the host makes of
-- that with the list that the line brings.
use Rattle.std.specs.Prelude.{Bool, true, false, List, [], ◌∷◌, ◌≡◌, refl, ℕ, Option, Some, None}
use Rattle.std.specs.Option.{option_map, option_map_or}
use Rattle.std.specs.Result.{result_ok}
use Rattle.base.specs.Choice.{pick, cases}
use Rattle.numeral.specs.Decimal.{number_of}
use Rattle.config.specs.declared.Settings.{Settings}
use Rattle.text.specs.Cut.{same_of}
use Rattle.hex_text.specs.Pairs.{pid_of, command_of}
use Rattle.obd2.specs.declared.call.Call.{Call}
use Rattle.obd2.specs.declared.call.Call.TheVariants as call
use Rattle.obd2.specs.declared.call.Brought.{Brought}
use Rattle.history_items.specs.Items.{given}
use Rattle.history_items.specs.Tokens.{first_of, rest_of, none_of}
use Rattle.history_numbers.specs.Numbers.{word32_of, wait_of, flag_of}
use Rattle.history_wishes.specs.Wishes.{settings_of}
use Rattle.history_lists.specs.Lists.{profiles_of, response_of}
use Rattle.history_words.specs.Words.{word_of, show'}
use Rattle.history_words.specs.declared.Word.{Word}
use Rattle.history_words.specs.declared.Word.TheVariants as word
use Rattle.history_calls.specs.Plain.{Tokens, alone_of, leave_of, give_up_of, waiting_of, set_of, consumed_of, collect_of, ask_of}
use Rattle.history_calls.specs.Bringing.{start_line, connect_line, session_of, outcome_of}
use Rattle.history_calls.specs.Timed.{timed_line}
use Rattle.history_calls.specs.declared.Line.{Line}
use Rattle.history_calls.specs.declared.Line.TheVariants as line
use Rattle.history.specs.Lines.{untimed_of, last, line_of, behind_time}
use Rattle.history.specs.Meaning.{Parsed, parsed, bare, or_bare, called, with_profiles, with_response, with_session, with_outcome, start_of, changed_of, answered_of, connected_of, connect_of, result_of, timed_of, parsed_of}

-- The second stage, of a line that was told and its tokens: a good list is brought and the line asks for what it was
-- told to, a bad one makes the line bad.
module _ (due : Bool) (asked : ℕ) (b : Brought) (ts : Tokens) where
  unfoldable pub read_line : Line → Parsed
  read_line line.Show = parsed b (Some line.Show)
  read_line (line.Call t c cmd area) = parsed b (Some (line.Call t c cmd area))
  read_line (line.Start t s) = or_bare b (option_map (λ x. parsed (with_profiles b x) (Some (line.Start t s))) (profiles_of (rest_of (behind_time ts))))
  read_line (line.Profiles t) = or_bare b (option_map (λ x. called (with_profiles b x) t call.ProfilePidsChanged) (profiles_of (behind_time ts)))
  read_line (line.Response t) = or_bare b (option_map (λ x. called (with_response b x) t call.Response) (response_of (behind_time ts)))
  read_line (line.Connect t) = or_bare b (option_map (λ x. called (with_session b x) t call.Connect) (session_of (rest_of (behind_time ts))))
  read_line (line.Result t) = or_bare b (option_map (λ x. called (with_outcome b x) t call.Result) (outcome_of due asked (behind_time ts)))

  unfoldable pub read_of : Option Line → Parsed
  read_of None = bare b
  read_of (Some l) = read_line l

-- The rows that bring nothing are told to their end.
module _ (due : Bool) (asked : ℕ) (b : Brought) (qs : Tokens) where
  abbrev Told : Option Line → Type 0
  Told l = read_of due asked b qs l ≡ parsed b l

  given_told : {A : Type 0} (o : Option A) (f : A → Option Line) → ((x : A) → Told (f x)) → Told (given o f)
  unfolding read_of
  given_told None f h = refl
  given_told (Some x) f h = h x

  pick_told : (c : Bool) (l : Option Line) → Told l → Told (pick c l None)
  unfolding read_of
  pick_told true l h = h
  pick_told false l h = refl

  call_told : (t : ℕ) (c : Call) (cmd area : ℕ) → Told (Some (line.Call t c cmd area))
  unfolding read_of read_line
  call_told t c cmd area = refl

  cmd_told : (t : ℕ) (c : Call) (area : ℕ) (cmd : Option ℕ) → Told (option_map (λ k. line.Call t c k area) cmd)
  unfolding read_of read_line
  cmd_told t c area None = refl
  cmd_told t c area (Some cmd) = refl

  module _ (t : ℕ) where
    alone_told : (c : Call) (ts : Tokens) → Told (alone_of t c ts)
    unfolding alone_of
    alone_told c ts = pick_told (none_of ts) _ (call_told t c 0 0)

    -- the others, behind whose time ts stands
    module _ (ts : Tokens) (at : behind_time qs ≡ ts) where
      start_read : (s : Option Settings)
          → read_of due asked b qs (option_map (λ x. line.Start t x) s)
          ≡ or_bare b (given s (λ x. option_map (λ y. parsed (with_profiles b y) (Some (line.Start t x))) (profiles_of (rest_of ts))))
      unfolding read_of read_line
      start_read None = refl
      start_read (Some s) = rw at

      connect_read : (f : Option Bool)
          → read_of due asked b qs (given f (λ made. pick made (Some (line.Connect t)) (alone_of t call.ConnectFailed (rest_of ts))))
          ≡ or_bare b (option_map (λ made. pick made (connected_of b t (rest_of ts)) (parsed b (alone_of t call.ConnectFailed (rest_of ts)))) f)
      unfolding read_of read_line connected_of
      connect_read None = refl
      connect_read (Some true) = rw at
      connect_read (Some false) = alone_told call.ConnectFailed (rest_of ts)

      timed_read : (room : ℕ) (w : Word) → read_of due asked b qs (timed_line room t ts w) ≡ timed_of due asked room b t ts w
      unfolding timed_line timed_of read_of read_line changed_of answered_of ask_of collect_of waiting_of consumed_of leave_of give_up_of set_of start_line start_of connect_line connect_of result_of
      timed_read room (word.Bare c) = alone_told c ts
      timed_read room word.Outcome = rw at
      timed_read room word.Response = rw at
      timed_read room word.Ask =
          given_told (word32_of (first_of ts)) _ (λ n.
          given_told (number_of 4096 (first_of (rest_of (rest_of ts)))) _ (λ a.
          pick_told (none_of (rest_of (rest_of (rest_of ts)))) _ (cmd_told t (call.Ask n) a (result_ok (command_of room (first_of (rest_of ts)))))))
      timed_read room word.Collect =
          given_told (word32_of (first_of ts)) _ (λ n.
          given_told (number_of 4096 (first_of (rest_of ts))) _ (λ a.
          pick_told (none_of (rest_of (rest_of ts))) _ (call_told t (call.Collect n) 0 a)))
      timed_read room word.Waiting = given_told (pid_of (first_of ts)) _ (λ p. alone_told (call.Waiting p) (rest_of ts))
      timed_read room word.Consumed =
          given_told (pid_of (first_of ts)) _ (λ p.
          given_told (wait_of (first_of (rest_of ts))) _ (λ w. alone_told (call.Consumed p w) (rest_of (rest_of ts))))
      timed_read room word.Leave = given_told (word32_of (first_of ts)) _ (λ n. alone_told (call.Leave n) (rest_of ts))
      timed_read room word.GiveUp = given_told (word32_of (first_of ts)) _ (λ n. alone_told (call.GiveUp n) (rest_of ts))
      timed_read room word.Profiles = rw at
      timed_read room word.Settings = given_told (settings_of (first_of ts)) _ (λ s. alone_told (call.SetSettings s) (rest_of ts))
      timed_read room word.Connect = connect_read (flag_of (first_of ts))
      timed_read room word.Start = start_read (settings_of (first_of ts))

module _ (due : Bool) (asked room : ℕ) (b : Brought) where
  untimed_read : (qs ts : Tokens) (w : List ℕ) → read_of due asked b qs (untimed_of w ts) ≡ parsed b (untimed_of w ts)
  unfolding untimed_of read_of read_line
  untimed_read qs ts w = cases _ (same_of w show') (λ e. rw e (cases _ (none_of ts) (λ f. rw f) (λ f. rw f))) (λ e. rw e)

  -- behind its word, with the time or without
  line_read : (w : List ℕ) (ts : Tokens) (k : Option Word) (n : Option ℕ)
      → read_of due asked b (w ∷ ts) (option_map_or (λ t. given k (timed_line room t (rest_of ts))) n (untimed_of w ts))
      ≡ option_map_or (λ t. or_bare b (option_map (timed_of due asked room b t (rest_of ts)) k)) n (parsed b (untimed_of w ts))
  unfolding behind_time rest_of read_of
  line_read w ts (Some k) (Some t) = timed_read due asked b (w ∷ ts) t (rest_of ts) refl room k
  line_read w ts None (Some t) = refl
  line_read w ts k None = untimed_read (w ∷ ts) ts w

  -- What a line means is what its list makes of what it was told to be.
  pub two_stages : (ts : Tokens) → read_of due asked b ts (line_of room ts) ≡ parsed_of due asked room b ts
  unfolding line_of parsed_of read_of
  two_stages [] = refl
  two_stages (w ∷ ts) = line_read w ts (word_of w) (number_of last (first_of ts))
