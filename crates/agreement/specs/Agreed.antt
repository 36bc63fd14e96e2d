-- Lists and table agree once the messages that wait are taken: what that says of line, manager and lists, and that
-- each way of changing them keeps it.
use Rattle.std.specs.Prelude.{false, List, [], ◌∷◌, ◌++◌, ◌≡◌, ℕ, ◌+◌, ◌-◌, ◌≤◌, ltb, length}
use Rattle.std.proofs.Common.{arith, length-append, ltb-true, ltb-false}
use Rattle.base.specs.Choice.{cases}
use Rattle.base.specs.Times.{times, times_append}
use Rattle.control.specs.Names.{Named, named_append, named_first, named_rest}
use Rattle.control.specs.Outbox.{messages}
use Rattle.control.specs.Speed.{Speed, fast, slow, untracked, in_fast, in_slow, after, after_all, Agree, after_append}
use Rattle.control.specs.declared.DongleMessage.{DongleMessage}
use Rattle.control_line.specs.Laws.{push_all, take_first, take_sound}
use Rattle.control_line.specs.Ring.{Sound, free_of, push_all_of, take_of, waiting}
use Rattle.control_line.specs.declared.ControlLine.{ControlLine}
use Rattle.manager.specs.Tells.{Tells}
use Rattle.manager.specs.declared.Answer.{Answer as Managed}
use Rattle.passes.specs.Sweep.{speed_at}
use Rattle.pid_list.specs.Pigeons.{pigeons}
use Rattle.pid_list.specs.Rules.{entries}
use Rattle.pid_list.specs.declared.PidList.{PidList}
use Rattle.pid_table.specs.declared.PidInfo.{PidInfo}
use Rattle.poll_laws.specs.Keeps.{Kept}
use Rattle.poll_laws.specs.Lists.{Both, applied_sound, applied_agree}
use Rattle.poller.specs.Calls.{applied_of}
use Rattle.poller.specs.declared.Poller.{Poller}

-- The lists say speeds of which the messages that wait, taken in order, make what the table says.
pub record Agreed (l : ControlLine) (table : List PidInfo) (fast slow : PidList) : Type 0 where
  pub line_sound : Sound l
  pub table_whole : length table ≡ 256
  pub lists_sound : Both fast slow
  pub speeds : ℕ → Speed
  pub listed : Agree (entries fast) (entries slow) speeds
  pub coming : (q : ℕ) → after_all (waiting l) q (speeds q) ≡ speed_at table q
  pub small : Named 256 (waiting l)

-- Messages that do not exceed the free places have room.
room : (n k : ℕ) → n ≤ 1024 → ltb (free_of n) k ≡ false → n + k ≤ 1024
unfolding free_of
room n k h e =
    cases _ (ltb n 1024)
    (λ a. let b = ltb-true n 1024 a in let c = ltb-false (1024 - n) k (rw a at e) in omega arith)
    (λ a. let b = ltb-false n 1024 a in let c = ltb-false 0 k (rw a at e) in omega arith)

module _ (l : ControlLine) (table : List PidInfo) (fast slow : PidList) (g : Agreed l table fast slow) where
  -- A call of the manager, whose messages go to the end of the line.
  pub managed_agreed : (sent : List DongleMessage) (a : Managed) → Tells table sent a → ltb (free_of l.count) a.outbox.count ≡ false
      → Agreed (push_all_of l (messages a.outbox)) a.manager.table fast slow
  managed_agreed sent a t e =
      let ms = messages a.outbox in
      let c = t.counted in
      let w = g.line_sound.within in
      let r = room l.count a.outbox.count w e in
      let p = push_all ms l g.line_sound (omega arith) in
      record {
        line_sound = p.2;
        table_whole = t.whole;
        lists_sound = g.lists_sound;
        speeds = g.speeds;
        listed = g.listed;
        coming = λ q. rw (p.0, after_append (waiting l) ms q (g.speeds q), g.coming q) (t.agrees q);
        small = rw p.0 (named_append 256 (waiting l) ms g.small t.small);
      }

  -- The first message taken, and applied to the lists.
  pub taken_agreed : (m : DongleMessage) (ms : List DongleMessage) → waiting l ≡ m ∷ ms
      → Agreed (take_of l).line table (applied_of fast slow m).fast (applied_of fast slow m).slow
  unfolding after_all
  taken_agreed m ms e =
      let t = take_first l m ms e in
      let n : Named 256 (m ∷ ms) = rw e at g.small in
      let h = named_first 256 m ms n in
      record {
        line_sound = take_sound l g.line_sound;
        table_whole = g.table_whole;
        lists_sound = applied_sound fast slow g.lists_sound m h;
        speeds = λ q. after m q (g.speeds q);
        listed = applied_agree fast slow g.lists_sound m h g.speeds g.listed;
        coming = λ q. rw t.1 (let c = g.coming q in rw e at c);
        small = rw t.1 (named_rest 256 m ms n);
      }

  -- Nothing waits any more: the lists are what the table says.
  pub agreed_settled : waiting l ≡ [] → Agree (entries fast) (entries slow) (λ q. speed_at table q)
  unfolding after_all
  agreed_settled e q =
      let c : g.speeds q ≡ speed_at table q = (let c = g.coming q in rw e at c) in
      rw (← c) (g.listed q)

-- No PID stands twice within or across the lists, so that both together have at most 256 entries.
speed_once : (s : Speed) → in_fast s + in_slow s ≤ 1
speed_once fast = omega arith
speed_once slow = omega arith
speed_once untracked = omega arith

pub listed_few : {l : ControlLine} {table : List PidInfo} {f s : PidList} → Agreed l table f s → length (entries f) + length (entries s) ≤ 256
listed_few {f = f} {s = s} g =
    let both = entries f ++ entries s in
    let past : (q : ℕ) → 256 ≤ q → times q both ≡ 0
    = λ q h. let a = g.lists_sound.fast_sound.bytes q h in let b = g.lists_sound.slow_sound.bytes q h in omega (arith, times_append q (entries f) (entries s)) in
    let once : (q : ℕ) → times q both ≤ 1
    = λ q. let x = g.listed q in let a = x.in_fast_law in let b = x.in_slow_law in omega (arith, times_append q (entries f) (entries s), speed_once (g.speeds q)) in
    let n = pigeons 257 256 both (omega arith) once (λ q h. past q (omega arith)) (past 256 (omega arith)) in
    omega (arith, length-append (entries f) (entries s))

-- `next` moves the lists' indexes alone.
pub kept_agreed : {l : ControlLine} {table : List PidInfo} {p r : Poller} → Kept p r → Agreed l table p.fast p.slow → Agreed l table r.fast r.slow
kept_agreed k g = record {
  line_sound = g.line_sound;
  table_whole = g.table_whole;
  lists_sound = record { fast_sound = k.fast_sound g.lists_sound.fast_sound; slow_sound = k.slow_sound g.lists_sound.slow_sound };
  speeds = g.speeds;
  listed = λ q. let x = g.listed q in record { in_fast_law = rw k.fast_entries x.in_fast_law; in_slow_law = rw k.slow_entries x.in_slow_law };
  coming = g.coming;
  small = g.small;
}
