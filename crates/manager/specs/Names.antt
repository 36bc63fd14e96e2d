-- Every message that the manager sends names a PID of its table.
use Rattle.std.specs.Prelude.{List, [], ◌∷◌, ℕ, suc, ◌+◌, ◌<◌, ◌≤◌, length, get_or}
use Rattle.std.proofs.Common.{arith}
use Rattle.control.specs.Names.{Named, named_none, named_append, told_named}
use Rattle.control.specs.Told.{told_of}
use Rattle.passes.specs.Sweep.{news, entry_after, swept, tidings, swept_length}
use Rattle.passes.specs.declared.Pass.{Pass}
use Rattle.passes.specs.declared.Terms.{Terms}
use Rattle.pid_table.specs.Entry.{nobody, speed}
use Rattle.pid_table.specs.declared.PidInfo.{PidInfo}
use Rattle.manager.specs.Calls.{entry_told}

tidings_named : (f : ℕ → PidInfo → PidInfo) (n p : ℕ) (xs : List PidInfo) → p + length xs ≤ n → Named n (tidings f p xs)
unfolding tidings
tidings_named f n p [] h = named_none n
tidings_named f n p (x ∷ xs) h =
    named_append n (told_of p (speed x) (speed (f p x))) (tidings f (suc p) xs)
    (told_named n p (speed x) (speed (f p x)) (omega arith))
    (tidings_named f n (suc p) xs (omega arith))

pub news_named : (t : Terms) (ps : List Pass) (n : ℕ) (xs : List PidInfo) → length xs ≤ n → Named n (news t ps xs)
unfolding news
news_named t [] n xs h = named_none n
news_named t (a ∷ ps) n xs h =
    named_append n (tidings (entry_after a t) 0 xs) (news t ps (swept (entry_after a t) 0 xs))
    (tidings_named (entry_after a t) n 0 xs (omega arith))
    (news_named t ps n (swept (entry_after a t) 0 xs) (rw (swept_length (entry_after a t) 0 xs) h))

pub entry_named : (f : PidInfo → PidInfo) (p n : ℕ) (xs : List PidInfo) → p < n → Named n (entry_told f p xs)
unfolding entry_told
entry_named f p n xs h = told_named n p (speed (get_or xs p nobody)) (speed (f (get_or xs p nobody))) h
