-- Entries that a pass leaves as they are, told before it comes to them.
use Rattle.std.specs.Prelude.{None, Option, Some, true, ◌≡◌, ℕ}
use Rattle.std.proofs.Math.Bool.{false}
use Rattle.std.proofs.Math.Path.{refl, ap}
use Rattle.std.proofs.Common.{sym}
use Rattle.std.specs.Option.{is_none}
use Rattle.base.specs.Both.{never}
use Rattle.config.specs.declared.PidPriority.{PidPriority}
use Rattle.pid_table.specs.Entry.{with_pin, with_count, registered_of, loose_of, idle_of, removed_of, demotes_of, demoted_of, cleared_of}
use Rattle.pid_table.specs.declared.PidInfo.{PidInfo}

module _ (i : PidInfo) where
  pub unwanted_rests : (w : Option PidPriority) (now : ℕ) → is_none w ≡ true → i.pinned ≡ false → registered_of w now i ≡ i
  unfolding registered_of
  unwanted_rests None now e f = ap (with_pin i) (sym f)
  unwanted_rests (Some p) now e f = never false e refl

  pub untracked_stays : (limit now : ℕ) → i.tracked ≡ false → removed_of limit now i ≡ i
  unfolding removed_of idle_of loose_of
  untracked_stays limit now e = rw e

  pub untracked_undemoted : (limit removal now : ℕ) → i.tracked ≡ false → demoted_of limit removal now i ≡ i
  unfolding demoted_of demotes_of idle_of loose_of
  untracked_undemoted limit removal now e = rw e

  pub uncounted_rests : i.count ≡ 0 → cleared_of i ≡ i
  unfolding cleared_of
  uncounted_rests e = ap (with_count i) (sym e)
