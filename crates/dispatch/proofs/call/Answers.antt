use base.Fml.{Fml}
use denote.Array.{each}
use denote.Enum.Declared.{variants}
use denote.Enum.Laws.{owed, Fields, spellss}
use denote.Shadow.{shadow}
use denote.Struct.Declared.{shape}
use denote.Struct.Struct.{Struct}
use Rattle.std.specs.Prelude.{◌≡◌, ℕ, zero, suc, List, [], ◌∷◌, length, get_or}
use mathlib.Core.Path.{refl, sym, subst, ◌∙◌}
use mir.Syntax.{w8, w32}
use mir.Val.{Val, Fits}
use native.Mathlib.Omega.{arith}
use Rattle.base.specs.Bytes.{Bytes, no_bytes}
use Rattle.base.specs.Refusal.{first_none}
use Rattle.config.specs.contracts.Settings.{the_type as settings-type}
use Rattle.config.specs.declared.Settings.{Settings}
use Rattle.dispatch.specs.Dispatch.{call_of, area_by, fills}
use Rattle.dispatch.specs.Laws.{filled, found, refused_late, done_timely}
use Rattle.manager_calls.specs.Settle.{own_settled}
use Rattle.obd2.specs.contracts.call.Call.{the_type}
use Rattle.obd2.proofs.call.Call.TheLaws.{the_laws}
use Rattle.obd2.specs.Behind.{behind_by, behind_refused}
use Rattle.obd2.specs.Call as history
use Rattle.obd2.specs.Call.{Fit, FitResponse, FitSettings, time_of}
use Rattle.obd2.specs.Done.{manager_by}
use Rattle.obd2.specs.History.{lent_by}
use Rattle.obd2.specs.Refusals.{manager_rows}
use Rattle.obd2.specs.declared.call.Brought.{Brought}
use Rattle.obd2.specs.declared.call.Call.{Call}
use Rattle.obd2.specs.declared.call.Call.TheVariants.{Register, Leave, Ask, Collect, GiveUp, Response, ProfilePidsChanged, Waiting, Consumed, Tick, SetSettings, TakeControl, Connect, ConnectFailed, ReconnectCheck, Begin, Next, Result}
use Rattle.poller.specs.Core.{held}
use Rattle.reply.specs.contracts.Reply.{the_row as reply-row}
use Rattle.reply.specs.Rules.{no_reply}
use Rattle.reply.specs.declared.Reply.{Reply}
use borrow.Author.Rules.{rules}
use Rattle.obd2.specs.Core.{lent, box_of, refused_is}
use Rattle.dispatch.proofs.call.Goals as goal
use Rattle.dispatch.proofs.call.Goals.{Start}

-- The clauses, each under its name, with what stands behind the ranges' flags.
named_whole_quiet_result_after_area_after_promised : {A B C D E F : Type 0} → A × (B × (C × (D × E))) → F → record { whole : A; quiet : B; result_after : C; area_after : D; promised : E; behind : F }
named_whole_quiet_result_after_area_after_promised p f = record { whole = p.0; quiet = p.1.0; result_after = p.1.1.0; area_after = p.1.1.1.0; promised = p.1.1.1.1; behind = f }

-- What a call's numbers are by their types.
abbrev Holds : Call → Type 0
Holds k = Fields (variants the_type) (spellss the_type.parts the_laws) (the_type.to k)

-- A ratio has 32 bits by its type.
settings-fit : (st : Settings) (vs : List Val) → shadow ((Struct (shape settings-type)).own_val (settings-type.to st) vs) → FitSettings st
settings-fit st vs s = let f : Fits w32 st.ratio = search rules in omega (arith, f.fits)

-- What can be handed in is what demand 3 speaks of, at the time that is handed in.
fits : (t : ℕ) (b : Brought) (cmd area : List ℕ) → FitResponse b.response → length b.profiles.list ≡ 16 → (k : Call) → Holds k
    → (time_of (call_of t k b cmd area) ≡ t) × Fit (call_of t k b cmd area)
unfolding call_of
fits t b cmd area r n Register h = (refl, tt)
fits t b cmd area r n (Leave c) h = (refl, tt)
fits t b cmd area r n (Ask c) h = (refl, tt)
fits t b cmd area r n (Collect c) h = (refl, tt)
fits t b cmd area r n (GiveUp c) h = (refl, tt)
fits t b cmd area r n Response h = (refl, r)
fits t b cmd area r n ProfilePidsChanged h = (refl, n)
fits t b cmd area r n (Waiting p) h = (refl, h.0.1)
fits t b cmd area r n (Consumed p w) h = (refl, h.0.1)
fits t b cmd area r n Tick h = (refl, tt)
fits t b cmd area r n (SetSettings st) h = (refl, settings-fit st _ h.0)
fits t b cmd area r n TakeControl h = (refl, tt)
fits t b cmd area r n Connect h = (refl, tt)
fits t b cmd area r n ConnectFailed h = (refl, tt)
fits t b cmd area r n ReconnectCheck h = (refl, tt)
fits t b cmd area r n Begin h = (refl, tt)
fits t b cmd area r n Next h = (refl, tt)
fits t b cmd area r n Result h = (refl, tt)

-- What holds of each element of an array by value.
each_holds : {A : Type 0} (f : A → List Val → Fml) (P : A → Type 0) → ((x : A) (vs : List Val) → shadow (f x vs) → P x)
    → (d : A) → P d → (xs : List A) (us : List Val) → shadow (each A f xs us) → (i : ℕ) → P (get_or xs i d)
each_holds f P h d p [] us s i = p
each_holds f P h d p (x ∷ xs) [] s i = absurd s
each_holds f P h d p (x ∷ xs) (u ∷ us) s zero = h x (u ∷ []) s.0
each_holds f P h d p (x ∷ xs) (u ∷ us) s (suc i) = each_holds f P h d p xs us s.1 i

byte : (x : Reply) (vs : List Val) → shadow (reply-row.own_val x vs) → (i : ℕ) → Fits w8 (get_or x.bytes i 0)
byte x vs s i = search rules

abbrev BytesOf : Reply → Type 0
BytesOf x = Bytes x.bytes

response-fits : (c : Start) → FitResponse c.args.brought.response
response-fits c =
    let r = c.args.brought.response in
    let g = c.well_formed.1.1.1.1.1.1.1.1.1.1.1.1.1.0.1.1.1.0.1.1.1 in
    record {
      six = search rules;
      small = record { each = λ i. let f : Fits w8 (get_or r.pids i 0) = search rules in f.fits };
      replies = search rules;
      bytes = each_holds reply-row.own_val BytesOf (λ x vs s. record { each = λ i. (byte x vs s i).fits }) no_reply no_bytes r.replies _ g.1.0.1.1;
    }

pub returns-then-bad_time : goal.returns-then-bad_time
returns-then-bad_time c =
    named_whole_quiet_result_after_area_after_promised (let a = c.args in
    let x = lent a.replies.now a.marks.now a.table.now a.slots.now (held a.polled.now a.known.now a.order.now a.ranges.now) a.pids.now a.rates.now in
    let o = box_of x a.core in
    let n : length a.brought.profiles.list ≡ 16 = search rules in
    let f = fits a.time a.brought a.cmd.now a.area.now (response-fits (goal.at.returns-then-bad_time c).Start) n a.call (owed the_type the_laws a.call _ c.well_formed.1.1.1.1.1.1.1.1.1.1.1.1.0) in (
      c.requires,
      (
        λ z. (refl, refl),
        found o a.time a.brought a.cmd.now a.area.now refl
            (refused_late o a.time a.brought a.cmd.now a.area.now a.call f.1 f.0 (sym c.bad_time.ensures ∙ c.if-bad_time.true) (refused_is x a.core c.refuse.result _ c.refuse.ensures) refl),
      ),
    )) (rw c.refuse.ensures (sym (behind_refused (call_of c.args.time c.args.call c.args.brought c.args.cmd.now c.args.area.now) _ _)))

pub returns-in-Register : goal.returns-in-Register
unfolding call_of behind_by area_by fills
returns-in-Register c =
    named_whole_quiet_result_after_area_after_promised (let a = c.args in
    let p = c.requires in
    let x = lent a.replies.now a.marks.now a.table.now a.slots.now (held a.polled.now a.known.now a.order.now a.ranges.now) a.pids.now a.rates.now in
    let o = box_of x a.core in
    let e = c.register.ensures in (
      record { marks = e.marks_len_2; table = e.table_len_2; polled = p.polled; known = p.known; pids = e.pids_len_2; rates = e.rates_len_2 },
      (
        λ z. (e.pids_unchanged z, e.rates_unchanged z),
        found o a.time a.brought a.cmd.now a.area.now c.in-Register.is
            (done_timely o a.time a.brought a.cmd.now a.area.now _ tt (sym c.bad_time.ensures ∙ c.if-bad_time.false) (e.by_index a.replies.now x.polling, refl)),
      ),
    )) (rw c.in-Register.is)

pub returns-in-Leave : goal.returns-in-Leave
unfolding call_of behind_by area_by fills
returns-in-Leave c =
    named_whole_quiet_result_after_area_after_promised (let a = c.args in
    let p = c.requires in
    let x = lent a.replies.now a.marks.now a.table.now a.slots.now (held a.polled.now a.known.now a.order.now a.ranges.now) a.pids.now a.rates.now in
    let o = box_of x a.core in
    let e = c.leave.ensures in (
      record { marks = e.marks_len_2; table = e.table_len_2; polled = p.polled; known = p.known; pids = e.pids_len_2; rates = e.rates_len_2 },
      (
        λ z. (e.pids_unchanged z, e.rates_unchanged z),
        found o a.time a.brought a.cmd.now a.area.now c.in-Leave.is
            (done_timely o a.time a.brought a.cmd.now a.area.now _ tt (sym c.bad_time.ensures ∙ c.if-bad_time.false) (e.by_index a.replies.now x.polling, refl)),
      ),
    )) (rw c.in-Leave.is)

pub returns-in-Ask : goal.returns-in-Ask
unfolding call_of behind_by area_by fills lent_by
returns-in-Ask c =
    named_whole_quiet_result_after_area_after_promised (let a = c.args in
    let p = c.requires in
    let x = lent a.replies.now a.marks.now a.table.now a.slots.now (held a.polled.now a.known.now a.order.now a.ranges.now) a.pids.now a.rates.now in
    let o = box_of x a.core in
    let e = c.ask.ensures in (
      record { marks = e.marks_len; table = p.table; polled = p.polled; known = p.known; pids = p.pids; rates = p.rates },
      (
        λ z. (refl, refl),
        found o a.time a.brought a.cmd.now a.area.now c.in-Ask.is
            (done_timely o a.time a.brought a.cmd.now a.area.now _ tt (sym c.bad_time.ensures ∙ c.if-bad_time.false) (e.answers x, e.area_after x ∙ filled _ _ _)),
      ),
    )) (rw c.in-Ask.is)

pub returns-in-Collect : goal.returns-in-Collect
unfolding call_of behind_by area_by fills lent_by
returns-in-Collect c =
    named_whole_quiet_result_after_area_after_promised (let a = c.args in
    let p = c.requires in
    let x = lent a.replies.now a.marks.now a.table.now a.slots.now (held a.polled.now a.known.now a.order.now a.ranges.now) a.pids.now a.rates.now in
    let o = box_of x a.core in
    let e = c.collect.ensures in (
      record { marks = e.marks_len; table = p.table; polled = p.polled; known = p.known; pids = p.pids; rates = p.rates },
      (
        λ z. (refl, refl),
        found o a.time a.brought a.cmd.now a.area.now c.in-Collect.is
            (done_timely o a.time a.brought a.cmd.now a.area.now _ tt (sym c.bad_time.ensures ∙ c.if-bad_time.false) (e.answers x, e.area_after x ∙ filled _ _ _)),
      ),
    )) (rw c.in-Collect.is)

pub returns-in-GiveUp : goal.returns-in-GiveUp
unfolding call_of behind_by area_by fills
returns-in-GiveUp c =
    named_whole_quiet_result_after_area_after_promised (let a = c.args in
    let p = c.requires in
    let x = lent a.replies.now a.marks.now a.table.now a.slots.now (held a.polled.now a.known.now a.order.now a.ranges.now) a.pids.now a.rates.now in
    let o = box_of x a.core in
    let e = c.give_up.ensures in (
      p,
      (
        λ z. (refl, refl),
        found o a.time a.brought a.cmd.now a.area.now c.in-GiveUp.is
            (done_timely o a.time a.brought a.cmd.now a.area.now _ tt (sym c.bad_time.ensures ∙ c.if-bad_time.false) (e x, refl)),
      ),
    )) (rw c.in-GiveUp.is)

pub returns-in-Response : goal.returns-in-Response
unfolding call_of behind_by area_by fills
returns-in-Response c =
    named_whole_quiet_result_after_area_after_promised (let a = c.args in
    let p = c.requires in
    let x = lent a.replies.now a.marks.now a.table.now a.slots.now (held a.polled.now a.known.now a.order.now a.ranges.now) a.pids.now a.rates.now in
    let o = box_of x a.core in
    let e = c.response.ensures in (
      record { marks = e.marks_len_2; table = e.table_len_2; polled = p.polled; known = p.known; pids = e.pids_len_2; rates = e.rates_len_2 },
      (
        λ z. (e.pids_unchanged z, e.rates_unchanged z),
        found o a.time a.brought a.cmd.now a.area.now c.in-Response.is
            (done_timely o a.time a.brought a.cmd.now a.area.now _ (response-fits (goal.at.returns-in-Response c).Start) (sym c.bad_time.ensures ∙ c.if-bad_time.false) (e.answers x.polling, refl)),
      ),
    )) (rw c.in-Response.is)

pub returns-in-ProfilePidsChanged : goal.returns-in-ProfilePidsChanged
unfolding call_of behind_by area_by fills
returns-in-ProfilePidsChanged c =
    named_whole_quiet_result_after_area_after_promised (let a = c.args in
    let p = c.requires in
    let x = lent a.replies.now a.marks.now a.table.now a.slots.now (held a.polled.now a.known.now a.order.now a.ranges.now) a.pids.now a.rates.now in
    let o = box_of x a.core in
    let e = c.profile_pids_changed.ensures in
    let n : length a.brought.profiles.list ≡ 16 = search rules in (
      record { marks = p.marks; table = e.table_len_2; polled = p.polled; known = p.known; pids = e.pids_len_2; rates = e.rates_len_2 },
      (
        λ z. (e.pids_unchanged z, e.rates_unchanged z),
        found o a.time a.brought a.cmd.now a.area.now c.in-ProfilePidsChanged.is
            (done_timely o a.time a.brought a.cmd.now a.area.now _ n (sym c.bad_time.ensures ∙ c.if-bad_time.false) (e.answers x, refl)),
      ),
    )) (rw c.in-ProfilePidsChanged.is)

pub returns-in-Waiting : goal.returns-in-Waiting
unfolding call_of behind_by area_by fills manager_rows manager_by
returns-in-Waiting c =
    named_whole_quiet_result_after_area_after_promised (let a = c.args in
    let p = c.requires in
    let x = lent a.replies.now a.marks.now a.table.now a.slots.now (held a.polled.now a.known.now a.order.now a.ranges.now) a.pids.now a.rates.now in
    let o = box_of x a.core in
    let e = c.tell.ensures in (
      record { marks = p.marks; table = e.table_len_2; polled = p.polled; known = p.known; pids = e.pids_len_2; rates = e.rates_len_2 },
      (
        λ z. (e.pids_unchanged z, e.rates_unchanged z),
        found o a.time a.brought a.cmd.now a.area.now c.in-Waiting.is
            (done_timely o a.time a.brought a.cmd.now a.area.now _ (subst Holds c.in-Waiting.is (owed the_type the_laws a.call _ c.well_formed.1.1.1.1.1.1.1.1.1.1.1.1.0)).0.1 (sym c.bad_time.ensures ∙ c.if-bad_time.false) (own_settled o a.time (history.Waiting _) 0 (sym first_none) refl (e.result_after x), refl)),
      ),
    )) (rw c.in-Waiting.is)

pub returns-in-Consumed : goal.returns-in-Consumed
unfolding call_of behind_by area_by fills
returns-in-Consumed c =
    named_whole_quiet_result_after_area_after_promised (let a = c.args in
    let p = c.requires in
    let x = lent a.replies.now a.marks.now a.table.now a.slots.now (held a.polled.now a.known.now a.order.now a.ranges.now) a.pids.now a.rates.now in
    let o = box_of x a.core in
    let e = c.consumed.ensures in (
      record { marks = p.marks; table = e.table_len_2; polled = p.polled; known = p.known; pids = e.pids_len_2; rates = e.rates_len_2 },
      (
        λ z. (e.pids_unchanged z, e.rates_unchanged z),
        found o a.time a.brought a.cmd.now a.area.now c.in-Consumed.is
            (done_timely o a.time a.brought a.cmd.now a.area.now _ (subst Holds c.in-Consumed.is (owed the_type the_laws a.call _ c.well_formed.1.1.1.1.1.1.1.1.1.1.1.1.0)).0.1 (sym c.bad_time.ensures ∙ c.if-bad_time.false) (e.answers x, refl)),
      ),
    )) (rw c.in-Consumed.is)

pub returns-in-Tick : goal.returns-in-Tick
unfolding call_of behind_by area_by fills manager_rows manager_by
returns-in-Tick c =
    named_whole_quiet_result_after_area_after_promised (let a = c.args in
    let p = c.requires in
    let x = lent a.replies.now a.marks.now a.table.now a.slots.now (held a.polled.now a.known.now a.order.now a.ranges.now) a.pids.now a.rates.now in
    let o = box_of x a.core in
    let e = c.tell-in-Tick.ensures in (
      record { marks = p.marks; table = e.table_len_2; polled = p.polled; known = p.known; pids = e.pids_len_2; rates = e.rates_len_2 },
      (
        λ z. (e.pids_unchanged z, e.rates_unchanged z),
        found o a.time a.brought a.cmd.now a.area.now c.in-Tick.is
            (done_timely o a.time a.brought a.cmd.now a.area.now _ tt (sym c.bad_time.ensures ∙ c.if-bad_time.false) (own_settled o a.time (history.Tick) 0 (sym first_none) refl (e.result_after x), refl)),
      ),
    )) (rw c.in-Tick.is)

pub returns-in-SetSettings : goal.returns-in-SetSettings
unfolding call_of behind_by area_by fills
returns-in-SetSettings c =
    named_whole_quiet_result_after_area_after_promised (let a = c.args in
    let p = c.requires in
    let x = lent a.replies.now a.marks.now a.table.now a.slots.now (held a.polled.now a.known.now a.order.now a.ranges.now) a.pids.now a.rates.now in
    let o = box_of x a.core in
    let e = c.set_settings.ensures in (
      p,
      (
        λ z. (refl, refl),
        found o a.time a.brought a.cmd.now a.area.now c.in-SetSettings.is
            (done_timely o a.time a.brought a.cmd.now a.area.now _ (settings-fit _ _ (subst Holds c.in-SetSettings.is (owed the_type the_laws a.call _ c.well_formed.1.1.1.1.1.1.1.1.1.1.1.1.0)).0) (sym c.bad_time.ensures ∙ c.if-bad_time.false) (e x, refl)),
      ),
    )) (rw c.in-SetSettings.is)

pub returns-in-TakeControl : goal.returns-in-TakeControl
unfolding call_of behind_by area_by fills
returns-in-TakeControl c =
    named_whole_quiet_result_after_area_after_promised (let a = c.args in
    let p = c.requires in
    let x = lent a.replies.now a.marks.now a.table.now a.slots.now (held a.polled.now a.known.now a.order.now a.ranges.now) a.pids.now a.rates.now in
    let o = box_of x a.core in
    let e = c.take_control.ensures in (
      record { marks = p.marks; table = p.table; polled = e.polled_len; known = p.known; pids = p.pids; rates = p.rates },
      (
        λ z. (refl, refl),
        found o a.time a.brought a.cmd.now a.area.now c.in-TakeControl.is
            (done_timely o a.time a.brought a.cmd.now a.area.now _ tt (sym c.bad_time.ensures ∙ c.if-bad_time.false) (e.answers x, refl)),
      ),
    )) (rw c.in-TakeControl.is)

pub returns-in-Connect : goal.returns-in-Connect
unfolding call_of behind_by area_by fills
returns-in-Connect c =
    named_whole_quiet_result_after_area_after_promised (let a = c.args in
    let p = c.requires in
    let x = lent a.replies.now a.marks.now a.table.now a.slots.now (held a.polled.now a.known.now a.order.now a.ranges.now) a.pids.now a.rates.now in
    let o = box_of x a.core in
    let e = c.connect.ensures in (
      record { marks = p.marks; table = p.table; polled = p.polled; known = e.known_len; pids = p.pids; rates = p.rates },
      (
        λ z. (refl, refl),
        found o a.time a.brought a.cmd.now a.area.now c.in-Connect.is
            (done_timely o a.time a.brought a.cmd.now a.area.now _ tt (sym c.bad_time.ensures ∙ c.if-bad_time.false) (e.answers x, refl)),
      ),
    )) (rw c.in-Connect.is c.connect.ensures.behind)

pub returns-in-ConnectFailed : goal.returns-in-ConnectFailed
unfolding call_of behind_by area_by fills
returns-in-ConnectFailed c =
    named_whole_quiet_result_after_area_after_promised (let a = c.args in
    let p = c.requires in
    let x = lent a.replies.now a.marks.now a.table.now a.slots.now (held a.polled.now a.known.now a.order.now a.ranges.now) a.pids.now a.rates.now in
    let o = box_of x a.core in
    let e = c.connect_failed.ensures in (
      record { marks = p.marks; table = p.table; polled = p.polled; known = p.known; pids = p.pids; rates = p.rates },
      (
        λ z. (refl, refl),
        found o a.time a.brought a.cmd.now a.area.now c.in-ConnectFailed.is
            (done_timely o a.time a.brought a.cmd.now a.area.now _ tt (sym c.bad_time.ensures ∙ c.if-bad_time.false) (e.answers x, refl)),
      ),
    )) (rw c.in-ConnectFailed.is c.connect_failed.ensures.behind)

pub returns-in-ReconnectCheck : goal.returns-in-ReconnectCheck
unfolding call_of behind_by area_by fills
returns-in-ReconnectCheck c =
    named_whole_quiet_result_after_area_after_promised (let a = c.args in
    let p = c.requires in
    let x = lent a.replies.now a.marks.now a.table.now a.slots.now (held a.polled.now a.known.now a.order.now a.ranges.now) a.pids.now a.rates.now in
    let o = box_of x a.core in
    let e = c.reconnect_check.ensures in (
      p,
      (
        λ z. (refl, refl),
        found o a.time a.brought a.cmd.now a.area.now c.in-ReconnectCheck.is
            (done_timely o a.time a.brought a.cmd.now a.area.now _ tt (sym c.bad_time.ensures ∙ c.if-bad_time.false) (e x, refl)),
      ),
    )) (rw c.in-ReconnectCheck.is)

pub returns-in-Begin : goal.returns-in-Begin
unfolding call_of behind_by area_by fills
returns-in-Begin c =
    named_whole_quiet_result_after_area_after_promised (let a = c.args in
    let p = c.requires in
    let x = lent a.replies.now a.marks.now a.table.now a.slots.now (held a.polled.now a.known.now a.order.now a.ranges.now) a.pids.now a.rates.now in
    let o = box_of x a.core in
    let e = c.begin.ensures in (
      record { marks = p.marks; table = p.table; polled = e.polled_after; known = e.known_after; pids = p.pids; rates = p.rates },
      (
        λ z. (refl, refl),
        found o a.time a.brought a.cmd.now a.area.now c.in-Begin.is
            (done_timely o a.time a.brought a.cmd.now a.area.now _ tt (sym c.bad_time.ensures ∙ c.if-bad_time.false) (e.fact x a.ranges.now, refl)),
      ),
    )) (rw c.in-Begin.is)

pub returns-in-Next : goal.returns-in-Next
unfolding call_of behind_by area_by fills
returns-in-Next c =
    named_whole_quiet_result_after_area_after_promised (let a = c.args in
    let p = c.requires in
    let x = lent a.replies.now a.marks.now a.table.now a.slots.now (held a.polled.now a.known.now a.order.now a.ranges.now) a.pids.now a.rates.now in
    let o = box_of x a.core in
    let e = c.next.ensures in (
      p,
      (
        λ z. (refl, refl),
        found o a.time a.brought a.cmd.now a.area.now c.in-Next.is
            (done_timely o a.time a.brought a.cmd.now a.area.now _ tt (sym c.bad_time.ensures ∙ c.if-bad_time.false) (e x a.ranges.now, refl)),
      ),
    )) (rw c.in-Next.is)

pub returns-in-Result : goal.returns-in-Result
unfolding call_of behind_by area_by fills
returns-in-Result c =
    named_whole_quiet_result_after_area_after_promised (let a = c.args in
    let p = c.requires in
    let x = lent a.replies.now a.marks.now a.table.now a.slots.now (held a.polled.now a.known.now a.order.now a.ranges.now) a.pids.now a.rates.now in
    let o = box_of x a.core in
    let e = c.result.ensures in (
      record { marks = p.marks; table = p.table; polled = e.polled_after; known = e.known_after; pids = p.pids; rates = p.rates },
      (
        λ z. (refl, refl),
        found o a.time a.brought a.cmd.now a.area.now c.in-Result.is
            (done_timely o a.time a.brought a.cmd.now a.area.now _ tt (sym c.bad_time.ensures ∙ c.if-bad_time.false) (e.fact x a.order.now, refl)),
      ),
    )) (rw c.in-Result.is c.result.ensures.behind)
