-- The first ECU count is kept for good.
use Rattle.std.specs.Prelude.{false, List, [], ◌∷◌, ◌≡◌, refl, ℕ, ◌+◌, ◌<◌, ltb, eqb, length, set, get_or, drop}
use Rattle.std.proofs.Common.{sym, ◌∙◌, length-set, get_or-set_same, get_or-set_other, get_or-drop, ltb-true, ltb-false, eqb-true, eq-eqb}
use Rattle.std.proofs.Math.Seq.{set_out}
use Rattle.std.proofs.lemmas.Bool.{eqb-false}
use Rattle.base.specs.Choice.{pick, cases}
use Rattle.link.specs.Rules.{loss_of}
use Rattle.rounds.specs.Cases.{result_due_law}
use Rattle.rounds.specs.Result.{keep_of, nothing, teach_of, teach_all, learn_of, link_after, is_lost, result_of}
use Rattle.poller.specs.State.{pids_of}
use Rattle.rounds.specs.declared.Learnt.{Learnt}
use Rattle.rounds.specs.declared.Lessons.{Lessons}
use Rattle.rounds.specs.declared.Outcome.{Outcome}
use Rattle.poller.specs.declared.Poller.{Poller}

keep_kept : (counts : List ℕ) (q r c : ℕ) → (get_or counts r 0 ≡ 0 → ⊥) → get_or (keep_of counts q c) r 0 ≡ get_or counts r 0
unfolding keep_of
keep_kept counts q r c h = cases _ (eqb (get_or counts q 0) 0)
    (λ e. let z = eqb-true (get_or counts q 0) 0 e in rw e (get_or-set_other counts q r c 0 (λ s. h (rw s z))))
    (λ e. rw e)

-- a PID's first count, where the table has a place for it
pub keep_first : (counts : List ℕ) (q c : ℕ) → q < length counts → get_or counts q 0 ≡ 0 → get_or (keep_of counts q c) q 0 ≡ c
unfolding keep_of
keep_first counts q c h e = rw (eq-eqb (get_or counts q 0) 0 e) (get_or-set_same counts q c 0 h)

keep_length : (counts : List ℕ) (q c : ℕ) → length (keep_of counts q c) ≡ length counts
unfolding keep_of
keep_length counts q c = cases _ (eqb (get_or counts q 0) 0) (λ e. rw e (length-set counts q c)) (λ e. rw e)

all_kept : (k : Lessons) (qs : List ℕ) (ls : List Learnt) (r : ℕ) → (get_or k.counts r 0 ≡ 0 → ⊥) → get_or (teach_all k qs ls).counts r 0 ≡ get_or k.counts r 0
unfolding teach_all teach_of
all_kept k [] ls r h = refl
all_kept k (q ∷ qs) ls r h =
    let e = keep_kept k.counts q r (get_or ls 0 nothing).ecu h in
    all_kept (teach_of k q (get_or ls 0 nothing)) qs (drop 1 ls) r (λ z. h (sym e ∙ z)) ∙ e

all_length : (k : Lessons) (qs : List ℕ) (ls : List Learnt)
    → (length (teach_all k qs ls).counts ≡ length k.counts) × (length (teach_all k qs ls).known ≡ length k.known)
unfolding teach_all teach_of
all_length k [] ls = (refl, refl)
all_length k (q ∷ qs) ls =
    let l = get_or ls 0 nothing in
    let r = all_length (teach_of k q l) qs (drop 1 ls) in
    (r.0 ∙ keep_length k.counts q l.ecu, r.1 ∙ length-set k.known q l.known)

-- Whatever the result, a count that is kept stays.
pub result_counts : (p : Poller) (t : ℕ) (o : Outcome) (r : ℕ) → (get_or p.counts r 0 ≡ 0 → ⊥) → get_or (result_of p t o).counts r 0 ≡ get_or p.counts r 0
unfolding learn_of
result_counts p t o r h = rw (result_due_law p t o) (all_kept (record { counts = p.counts; known = p.link.known }) (pids_of p.round.due) o.learnt r h)

-- The tables keep their lengths.
pub result_lengths : (p : Poller) (t : ℕ) (o : Outcome)
    → (length (result_of p t o).counts ≡ length p.counts) × (length (result_of p t o).link.known ≡ length p.link.known)
unfolding learn_of link_after loss_of
result_lengths p t o =
    let a = all_length (record { counts = p.counts; known = p.link.known }) (pids_of p.round.due) o.learnt in
    rw (result_due_law p t o) (a.0, cases _ (is_lost o.kind) (λ f. rw f a.1) (λ f. rw f a.1))

-- A result loses the connection or leaves it.
pub result_connection : (p : Poller) (t : ℕ) (o : Outcome) → (result_of p t o).link.connected ≡ pick (is_lost o.kind) false p.link.connected
unfolding link_after loss_of
result_connection p t o = rw (result_due_law p t o) (cases _ (is_lost o.kind) (λ f. rw f) (λ f. rw f))

-- Where the counts that come in are bytes, so are those that are kept.
keep_byte : (counts : List ℕ) (q c r : ℕ) → c < 256 → get_or counts r 0 < 256 → get_or (keep_of counts q c) r 0 < 256
unfolding keep_of
keep_byte counts q c r h k = cases _ (eqb (get_or counts q 0) 0) (λ e. rw e (set_byte counts q c r h k)) (λ e. rw e k)
  where
    set_byte : (xs : List ℕ) (i v j : ℕ) → v < 256 → get_or xs j 0 < 256 → get_or (set xs i v) j 0 < 256
    set_byte xs i v j h k = cases _ (eqb j i)
        (λ e. cases _ (ltb i (length xs))
        (λ f. rw (eqb-true j i e, get_or-set_same xs i v 0 (ltb-true i (length xs) f)) h)
        (λ f. rw (set_out xs i v (ltb-false i (length xs) f)) k))
        (λ e. rw (get_or-set_other xs i j v 0 (eqb-false j i e)) k)

all_bytes : (k : Lessons) (qs : List ℕ) (ls : List Learnt) → ((r : ℕ) → get_or k.counts r 0 < 256) → ((i : ℕ) → (get_or ls i nothing).ecu < 256)
    → (r : ℕ) → get_or (teach_all k qs ls).counts r 0 < 256
unfolding teach_all teach_of
all_bytes k [] ls h b r = h r
all_bytes k (q ∷ qs) ls h b r =
    all_bytes (teach_of k q (get_or ls 0 nothing)) qs (drop 1 ls) (λ j. keep_byte k.counts q (get_or ls 0 nothing).ecu j (b 0) (h j))
    (λ i. rw (get_or-drop 1 ls i nothing) (b (1 + i))) r

pub result_bytes : (p : Poller) (t : ℕ) (o : Outcome) → ((r : ℕ) → get_or p.counts r 0 < 256) → ((i : ℕ) → (get_or o.learnt i nothing).ecu < 256)
    → (r : ℕ) → get_or (result_of p t o).counts r 0 < 256
unfolding learn_of
result_bytes p t o h b r = rw (result_due_law p t o) (all_bytes (record { counts = p.counts; known = p.link.known }) (pids_of p.round.due) o.learnt h b r)
