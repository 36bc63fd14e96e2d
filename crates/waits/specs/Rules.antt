-- Collect and give up (document 01, "Client cache").
use Rattle.std.specs.Prelude.{is_some}
use Rattle.clients.specs.Rules.{pid_in, since_in}
use Rattle.std.specs.Prelude.{ℕ, ◌-◌, not, List, [], ◌∷◌, length, replicate, ◌==◌, nat_lt}
use Rattle.base.specs.Choice.{pick}
use Rattle.base.specs.Refusal.{Rows, first_of}
use Rattle.clients.specs.Rules.{taken_of, idled_of}
use Rattle.desk.specs.Rules.{registered, client_of, fresh, wait_of, stored, put_client}
use Rattle.desk.specs.declared.Desk.{Desk}
use Rattle.reply.specs.Rules.{max_lines, size_of, filled_of}
use Rattle.reply.specs.declared.Reply.{Reply}
use Rattle.waits.specs.declared.Collected.{Collected}
use Rattle.waits.specs.declared.GivenUp.{GivenUp}

-- The PID that a client waits for, and its newest reply.
abbrev pub awaited : Desk → ℕ → ℕ
awaited d c = pid_in (wait_of d c)

abbrev pub awaited_reply : Desk → ℕ → Reply
awaited_reply d c = stored d (awaited d c)

-- A collect with a lent area of n bytes.
abbrev pub collect_rows : Desk → ℕ → ℕ → Rows
collect_rows d c n =
    (8, not (registered d c))
    ∷ (10, not (is_some (wait_of d c)))
    ∷ (11, not (fresh d c (awaited d c)))
    ∷ (14, nat_lt n (size_of (awaited_reply d c)))
    ∷ []

unfoldable pub collect_refusal : Desk → ℕ → ℕ → ℕ
collect_refusal d c n = first_of (collect_rows d c n)

abbrev pub not_collected : ℕ → Desk → Collected
not_collected n d = record { desk = d; refusal = n; pid = 0; wait = 0; lines = 0; lengths = replicate max_lines 0 }

-- The reading is handed out, and the client waits no longer. A time before the start is no wait.
unfoldable pub collected_of : Desk → ℕ → ℕ → Collected
collected_of d t c =
    record {
      desk = put_client d c (idled_of (taken_of (awaited d c) (client_of d c)));
      refusal = 0;
      pid = awaited d c;
      wait = t - since_in (wait_of d c);
      lines = (awaited_reply d c).lines;
      lengths = (awaited_reply d c).lengths;
    }

unfoldable pub collect_of : Desk → ℕ → ℕ → ℕ → Collected
collect_of d t c n = pick (collect_refusal d c n == 0) (collected_of d t c) (not_collected (collect_refusal d c n) d)

unfoldable pub collect_area : Desk → ℕ → List ℕ → List ℕ
collect_area d c area = pick (collect_refusal d c (length area) == 0) (filled_of (awaited_reply d c) area) area

abbrev pub give_up_rows : Desk → ℕ → Rows
give_up_rows d c = (8, not (registered d c)) ∷ (10, not (is_some (wait_of d c))) ∷ []

unfoldable pub give_up_refusal : Desk → ℕ → ℕ
give_up_refusal d c = first_of (give_up_rows d c)

abbrev pub gave_up : ℕ → Desk → GivenUp
gave_up n d = record { desk = d; refusal = n }

-- The wait ends, and nothing else changes: a fresh entry stays.
unfoldable pub give_up_of : Desk → ℕ → GivenUp
give_up_of d c =
    pick (give_up_refusal d c == 0)
    (gave_up 0 (put_client d c (idled_of (client_of d c))))
    (gave_up (give_up_refusal d c) d)
