-- What the client cache answers, as the box's answer: refused, the box as it was; accepted, with the desk after it.
use Rattle.std.specs.Prelude.{◌≡◌, ℕ, Bool, List, length, ◌≢◌}
use Rattle.std.proofs.Math.Path.{ap}
use Rattle.std.proofs.Common.{◌∙◌, ne_eqb}
use Rattle.cache.specs.Asking.{asked_in}
use Rattle.cache.specs.Rules.{ask_refusal, ask_of, settled, told_of, answer_of, handed_of, after_ask}
use Rattle.cache.specs.declared.Asked.{Asked}
use Rattle.cache.specs.declared.asking.Told.{Told as CacheTold}
use Rattle.clients.specs.Rules.{idled_of}
use Rattle.desk.specs.Core.{desk_of}
use Rattle.desk.specs.Rules.{client_of, put_client}
use Rattle.desk.specs.declared.Desk.{Desk}
use Rattle.desk.specs.declared.rest.Core.{Core as DeskCore}
use Rattle.obd2.specs.Call.{ask, collect, give_up}
use Rattle.obd2.specs.Core.{Lent, with_desk, box_of, answered_of, refusing, accepts, noted, no_notes, refused_by}
use Rattle.obd2.specs.Done.{ranges, ask_step, cache_by, done_of}
use Rattle.obd2.specs.History.{refused, accepting}
use Rattle.obd2.specs.State as state
use Rattle.obd2.specs.declared.Said.TheVariants.{Asked as SaidAsked, Collected as SaidCollected, GivenUp as SaidGivenUp}
use Rattle.obd2.specs.declared.State.{State}
use Rattle.obd2.specs.declared.rest.Core.{Core}
use Rattle.obd2.specs.declared.rest.Told.{Told}
use Rattle.refusal.specs.Number.{number_of}
use Rattle.refusal.specs.declared.Refusal.{Refusal}
use Rattle.report.specs.Summary.{none_in}
use Rattle.waits.specs.Ending.{collected_in, given_up_in}
use Rattle.waits.specs.Rules.{collect_refusal, collect_of, collected_of, give_up_refusal, gave_up, give_up_of}
use Rattle.waits.specs.declared.Collected.{Collected}
use Rattle.waits.specs.declared.GivenUp.{GivenUp}
use Rattle.waits.specs.declared.ending.Handed.{Handed}
use Rattle.waits.specs.declared.ending.Ended.{Ended}

-- The rest of the box with another desk's.
abbrev pub served : Core → DeskCore → Core
served k d = record { desk = d; manager = k.manager; poller = k.poller; line = k.line; profiles = k.profiles; settings = k.settings; time = k.time }

-- Lent replies, and the marks before and after a call.
module _ (x : Lent) (replies : List (List ℕ)) (marks left : List (List Bool)) (k : Core) where
  abbrev s : State
  s = box_of (with_desk x replies marks) k

  -- Refused by n: the desk that came back is the desk that it was.
  pub served_refused : (d : DeskCore) (n : ℕ) (q : Refusal) (r : Told) → number_of q ≡ n → desk_of replies left d ≡ desk_of replies marks k.desk → r ≡ refusing (served k d) q
      → answered_of (with_desk x replies left) r ≡ refused s n
  served_refused d n q r g e f =
      refused_by (with_desk x replies left) (served k d) r q n g f ∙ ap (λ (y : Desk). refused (state.with_desk s y) n) e

  module _ (t c : ℕ) where
    -- Ask.
    module _ (cmd area : List ℕ) (r : CacheTold) (e : asked_in replies left r ≡ ask_of s.desk t c (ranges s) (ask_step s cmd) (length area)) where
      pub ask_kept : (ask_refusal s.desk c (ranges s) (ask_step s cmd) (length area) ≢ 0) → desk_of replies left r.core ≡ s.desk
      unfolding ask_of settled
      ask_kept h = ap (λ (a : Asked). a.desk) e ∙ rw (ne_eqb _ 0 h)

      told_is : ask_refusal s.desk c (ranges s) (ask_step s cmd) (length area) ≡ 0
          → asked_in replies left r ≡ told_of (after_ask s.desk t c (ask_step s cmd)) (answer_of s.desk c (ask_step s cmd)) (handed_of s.desk c (ranges s) (ask_step s cmd))
      unfolding ask_of settled
      told_is z = e ∙ rw z

      pub ask_done : (a : Told) → ask_refusal s.desk c (ranges s) (ask_step s cmd) (length area) ≡ 0
          → a ≡ accepts (served k r.core) t (SaidAsked r.answer) (noted r.lines r.lengths)
          → answered_of (with_desk x replies left) a ≡ accepting t (done_of s (ask t c cmd area))
      unfolding done_of cache_by
      ask_done a z f =
          let g = told_is z in
          rw (f, none_in x.pids x.rates, ap (λ (a : Asked). a.desk) g, ap (λ (a : Asked). a.answer) g, ap (λ (a : Asked). a.lines) g, ap (λ (a : Asked). a.lengths) g)

    -- Collect.
    module _ (area : List ℕ) (r : Handed) (e : collected_in replies left r ≡ collect_of s.desk t c (length area)) where
      pub collect_kept : (collect_refusal s.desk c (length area) ≢ 0) → desk_of replies left r.core ≡ s.desk
      unfolding collect_of
      collect_kept h = ap (λ (a : Collected). a.desk) e ∙ rw (ne_eqb _ 0 h)

      handed_is : collect_refusal s.desk c (length area) ≡ 0 → collected_in replies left r ≡ collected_of s.desk t c
      unfolding collect_of
      handed_is z = e ∙ rw z

      pub collect_done : (a : Told) → collect_refusal s.desk c (length area) ≡ 0
          → a ≡ accepts (served k r.core) t (SaidCollected r.pid r.wait) (noted r.lines r.lengths)
          → answered_of (with_desk x replies left) a ≡ accepting t (done_of s (collect t c area))
      unfolding done_of cache_by
      collect_done a z f =
          let g = handed_is z in
          rw (
            f,
            none_in x.pids x.rates,
            ap (λ (a : Collected). a.desk) g,
            ap (λ (a : Collected). a.pid) g,
            ap (λ (a : Collected). a.wait) g,
            ap (λ (a : Collected). a.lines) g,
            ap (λ (a : Collected). a.lengths) g,
          )

    -- Give up.
    module _ (r : Ended) (e : given_up_in replies left r ≡ give_up_of s.desk c) where
      pub give_up_kept : (give_up_refusal s.desk c ≢ 0) → desk_of replies left r.core ≡ s.desk
      unfolding give_up_of
      give_up_kept h = ap (λ (a : GivenUp). a.desk) e ∙ rw (ne_eqb _ 0 h)

      ended_is : give_up_refusal s.desk c ≡ 0 → given_up_in replies left r ≡ gave_up 0 (put_client s.desk c (idled_of (client_of s.desk c)))
      unfolding give_up_of
      ended_is z = e ∙ rw z

      pub give_up_done : (a : Told) → give_up_refusal s.desk c ≡ 0 → a ≡ accepts (served k r.core) t SaidGivenUp no_notes
          → answered_of (with_desk x replies left) a ≡ accepting t (done_of s (give_up t c))
      unfolding done_of cache_by
      give_up_done a z f = rw (f, none_in x.pids x.rates, ap (λ (a : GivenUp). a.desk) (ended_is z))
