-- A pass over the table: each entry is changed by itself, PIDs rising, and each change of speed is told.
use mathlib.Core.List.{List, [], ◌∷◌, ◌++◌, append-nil, append_assoc}
use Rattle.std.specs.Prelude.{◌≡◌, length, set, take, drop}
use Rattle.std.proofs.Math.Path.{refl, ap}
use Rattle.std.proofs.Common.{sym, ◌∙◌, add-one, drop_of_length-le}
use Prim.Native.Nat.{ℕ, zero, suc, ◌+◌, ◌<◌, ◌≤◌}
use native.Mathlib.Omega.{arith}
use Rattle.std.proofs.Math.ListN.{get_or}
use Rattle.std.proofs.Math.Seq.{drop-cons, take-suc-set, drop-set-lt, take_all}
use Rattle.std.proofs.lemmas.List.{set-get_or}
use Rattle.config.specs.InForce.{in_force}
use Rattle.control.specs.Outbox.{send_all, send_append, send_none}
use Rattle.control.specs.Speed.{Speed}
use Rattle.control.specs.Told.{told_of, told_same}
use Rattle.control.specs.declared.DongleMessage.{DongleMessage}
use Rattle.control.specs.declared.outbox.Outbox.{Outbox}
use Rattle.pid_table.specs.Entry.{nobody, speed, registered_of, demoted_of, removed_of, cleared_of}
use Rattle.pid_table.specs.declared.PidInfo.{PidInfo}
use Rattle.passes.specs.Wishes.{wish_of}
use Rattle.passes.specs.declared.Ledger.{Ledger}
use Rattle.passes.specs.declared.Terms.{Terms}
use Rattle.passes.specs.declared.Pass.{Pass}
use Rattle.passes.specs.declared.Pass.TheVariants.{Register, Demote, Remove, Clear}

-- What a pass makes of the entry of a PID.
unfoldable pub entry_after : Pass → Terms → ℕ → PidInfo → PidInfo
entry_after Register t p i = registered_of (wish_of (in_force t.profiles) p) t.now i
entry_after Demote t p i = demoted_of t.settings.demotion t.settings.removal t.now i
entry_after Remove t p i = removed_of t.settings.removal t.now i
entry_after Clear t p i = cleared_of i

-- The entries from PID p on, each changed.
unfoldable pub swept : (ℕ → PidInfo → PidInfo) → ℕ → List PidInfo → List PidInfo
swept f p [] = []
swept f p (x ∷ xs) = f p x ∷ swept f (suc p) xs

-- What is told of them: one message for each change of speed, PIDs rising.
unfoldable pub tidings : (ℕ → PidInfo → PidInfo) → ℕ → List PidInfo → List DongleMessage
tidings f p [] = []
tidings f p (x ∷ xs) = told_of p (speed x) (speed (f p x)) ++ tidings f (suc p) xs

unfoldable pub sweep_of : (ℕ → PidInfo → PidInfo) → Ledger → Ledger
sweep_of f l = record { table = swept f 0 l.table; outbox = send_all l.outbox (tidings f 0 l.table) }

-- The table after passes, the first first, and all that they tell.
unfoldable pub through : Terms → List Pass → List PidInfo → List PidInfo
through t [] xs = xs
through t (a ∷ ps) xs = through t ps (swept (entry_after a t) 0 xs)

unfoldable pub news : Terms → List Pass → List PidInfo → List DongleMessage
news t [] xs = []
news t (a ∷ ps) xs = tidings (entry_after a t) 0 xs ++ news t ps (swept (entry_after a t) 0 xs)

unfoldable pub sweeps_of : Terms → List Pass → Ledger → Ledger
sweeps_of t [] l = l
sweeps_of t (a ∷ ps) l = sweeps_of t ps (sweep_of (entry_after a t) l)

-- What passes make of one entry, which depends on that entry alone.
unfoldable pub entry_through : Terms → List Pass → ℕ → PidInfo → PidInfo
entry_through t [] q x = x
entry_through t (a ∷ ps) q x = entry_through t ps q (entry_after a t q x)

-- The speed of q by a table; what is not in it is not tracked.
unfoldable pub speed_at : List PidInfo → ℕ → Speed
speed_at xs q = speed (get_or xs q nobody)

-- How often passes tell of one entry.
unfoldable pub changes : Terms → List Pass → ℕ → PidInfo → ℕ
changes t [] p x = 0
changes t (a ∷ ps) p x = length (told_of p (speed x) (speed (entry_after a t p x))) + changes t ps p (entry_after a t p x)

-- The passes of maintenance up to the report. After it, counts are cleared.
abbrev pub upkeep : List Pass
upkeep = Register ∷ Demote ∷ Remove ∷ []

-- A pass that has come to PID i: what is left of it.
unfoldable pub sweep_from : (ℕ → PidInfo → PidInfo) → ℕ → Ledger → Ledger
sweep_from f i l = record {
  table = take i l.table ++ swept f i (drop i l.table);
  outbox = send_all l.outbox (tidings f i (drop i l.table));
}

module _ (f : ℕ → PidInfo → PidInfo) where
  pub sweep_start : (l : Ledger) → sweep_from f 0 l ≡ sweep_of f l
  unfolding sweep_from sweep_of
  sweep_start l = refl

  pub sweep_end : (i : ℕ) (l : Ledger) → length l.table ≤ i → sweep_from f i l ≡ l
  unfolding sweep_from swept tidings
  sweep_end i l h = rw (drop_of_length-le l.table h, take_all i l.table h, append-nil l.table, send_none l.outbox)

  -- One PID further: y is what its entry became, and o the outbox with what is told of it.
  pub sweep_turn : (i : ℕ) (l : Ledger) (d y : PidInfo) (o : Outbox) → i < length l.table → y ≡ f i (get_or l.table i d)
      → o ≡ send_all l.outbox (told_of i (speed (get_or l.table i d)) (speed y))
      → sweep_from f (i + 1) (record { table = set l.table i y; outbox = o }) ≡ sweep_from f i l
  unfolding sweep_from swept tidings
  sweep_turn i l d y o h e g =
      let t = l.table in
      let x = get_or t i d in
      rw (add-one i, g, e, take-suc-set t i (f i x) h, drop-set-lt (suc i) t i (f i x) (omega arith), drop-cons t i d h)
      (rw (send_append l.outbox (told_of i (speed x) (speed (f i x))) (tidings f (suc i) (drop (suc i) t)), append_assoc (take i t) (f i x ∷ []) (swept f (suc i) (drop (suc i) t))))

  -- One PID further, where its entry stays as it was.
  pub sweep_rest : (i : ℕ) (l : Ledger) (d : PidInfo) → i < length l.table → f i (get_or l.table i d) ≡ get_or l.table i d
      → sweep_from f (i + 1) l ≡ sweep_from f i l
  sweep_rest i l d h e =
      let x = get_or l.table i d in
      ap (λ (xs : List PidInfo). sweep_from f (i + 1) (record { table = xs; outbox = l.outbox })) (sym (set-get_or l.table i d))
      ∙ sweep_turn i l d x l.outbox h (sym e) (rw (told_same i (speed x)) (sym (send_none l.outbox)))

  pub swept_length : (p : ℕ) (xs : List PidInfo) → length (swept f p xs) ≡ length xs
  unfolding swept
  swept_length p [] = refl
  swept_length p (x ∷ xs) = ap suc (swept_length (suc p) xs)

  pub swept_at : (p : ℕ) (xs : List PidInfo) (i : ℕ) (d : PidInfo) → i < length xs → get_or (swept f p xs) i d ≡ f (p + i) (get_or xs i d)
  unfolding swept
  swept_at p [] i d h = absurd (omega arith)
  swept_at p (x ∷ xs) zero d h = let e : p + 0 ≡ p = omega arith in rw e
  swept_at p (x ∷ xs) (suc i) d h = let e : p + suc i ≡ suc p + i = omega arith in rw e (swept_at (suc p) xs i d (omega arith))
