-- A step of a round over the lent arrays, and what a step leaves of a list and of a plan.
use Rattle.std.specs.Prelude.{◌≡◌, ℕ, Bool, List, length, ◌==◌, nat_lt, slice_set}
use Rattle.std.specs.Prelude.{refl}
use Rattle.std.proofs.Common.{arith}
use Rattle.base.specs.Choice.{cases}
use Rattle.link.specs.Core.{link_of}
use Rattle.link.specs.declared.rest.Core.{Core as LinkCore}
use Rattle.pid_list.specs.Rules.{size_of, next_of as nextPid}
use Rattle.plan.specs.Steps.{gather_of, least_in, take_of}
use Rattle.plan.specs.declared.Plan.{Plan}
use Rattle.poller.specs.Core.{Held, held, fast_row, slow_row, counts_row, fixed_row, polled_rows, lengths_row, known_rows, poller_of, list_of, ends_of, plan_in, course_of, put_same, put_other, lengths_put, plan_lengths}
use Rattle.poller.specs.declared.Round.{Round}
use Rattle.poller.specs.declared.rest.Core.{Core}
use Rattle.poller.specs.declared.rest.Course.{Course}
use Rattle.poller.specs.declared.rest.Ends.{Ends}
use Rattle.rounds.specs.declared.Moved.{Moved}
use Rattle.rounds.specs.declared.Stepped.{Stepped}

abbrev pub stepped_in : Held → Moved → Stepped
stepped_in x r = record { poller = poller_of x r.core; step = r.step }

-- The next PID of a list: its places stay, so its ends tell what it is then.
pub next_ends : (polled : List (List ℕ)) (n : ℕ) (e : Ends) → list_of polled n (ends_of (nextPid (list_of polled n e)).list) ≡ (nextPid (list_of polled n e)).list
unfolding nextPid
next_ends polled n e = cases _ (size_of e.len == 0) (λ f. rw f) (λ f. rw f)

-- The next chunk of a plan: its arrays stay, so its course tells what it is then.
module _ (polled : List (List ℕ)) (known : List (List Bool)) (order : List ℕ) (k : Course) where
  abbrev p : Plan
  p = plan_in polled known order k

  pub take_course : plan_in polled known order (course_of (take_of p).plan) ≡ (take_of p).plan
  unfolding take_of
  take_course = cases _ ((gather_of p p.group p.at).chunk.count == 0)
      (λ e. cases _ (nat_lt 256 (least_in p p.group)) (λ f. rw (e, f)) (λ f. rw (e, f)))
      (λ e. rw e)

-- Other counts and lengths, with the connection, the clock and the round that go with them.
pub taught_is : (x : Held) (k : Core) (counts : List ℕ) (lengths : List Bool) (ranges : List (List ℕ)) (clock : ℕ) (l : LinkCore) (r : Round)
    → length x.polled ≡ polled_rows → length x.known ≡ known_rows
    → poller_of (held (slice_set x.polled counts_row counts) (slice_set x.known lengths_row lengths) x.order ranges)
    (record { fast = k.fast; slow = k.slow; clock = clock; requests = k.requests; link = l; settings = k.settings; plan = k.plan; round = r })
    ≡ record {
      fast = list_of x.polled fast_row k.fast;
      slow = list_of x.polled slow_row k.slow;
      clock = clock;
      requests = k.requests;
      counts = counts;
      link = link_of lengths ranges l;
      settings = k.settings;
      plan = plan_in x.polled x.known x.order k.plan;
      round = r;
    }
taught_is x k counts lengths ranges clock l r h g =
    rw (
      put_same x.polled counts_row counts (omega arith),
      put_other x.polled counts_row counts fast_row refl,
      put_other x.polled counts_row counts slow_row refl,
      put_other x.polled counts_row counts fixed_row refl,
      lengths_put x lengths g,
      plan_lengths x lengths g,
    )
