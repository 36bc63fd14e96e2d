use Rattle.poller_calls.proofs.listing.Goals as goal

pub returns-in-Some : goal.returns-in-Some
returns-in-Some c =
    record {
      polled_len = c.apply.ensures.polled_len;
      result_after = λ x. rw c.in-Some.is (c.apply.ensures.result_after x);
    }

pub returns-in-None : goal.returns-in-None
returns-in-None c = record { polled_len = c.requires; result_after = λ x. rw c.in-None.is }
