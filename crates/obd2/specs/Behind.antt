-- What stands behind the flags of the lent ranges after a call. The box's ranges pass over it where one is absent, so the box does not
-- tell it: this does, by what the call answered.
use Rattle.std.specs.Prelude.{◌≡◌, refl, Result, Ok, Err, List}
use Rattle.base.specs.Choice.{pick}
use Rattle.link.specs.Ranges.{replies_of, no_replies, replies_by}
use Rattle.refusal.specs.declared.Refusal.{Refusal}
use Rattle.reply.specs.declared.Reply.{Reply}
use Rattle.rounds.specs.Result.{is_lost}
use Rattle.obd2.specs.Call.{Call, manager, cache, settings, take_control, link, round, Connect, Fail, Check, Begin, Next, Result as Results}
use Rattle.obd2.specs.declared.Said.{Said}
use Rattle.obd2.specs.declared.Said.TheVariants as said

-- An outcome of connecting that brought these replies. A refused one leaves what was there.
abbrev pub joined_by : Result Said Refusal → List Reply → List Reply → List Reply
joined_by (Ok (said.Connecting c)) brought had = replies_by c brought had
joined_by (Ok said.Started) brought had = had
joined_by (Ok (said.Client n)) brought had = had
joined_by (Ok said.Done) brought had = had
joined_by (Ok (said.Asked a)) brought had = had
joined_by (Ok (said.Collected p w)) brought had = had
joined_by (Ok said.GivenUp) brought had = had
joined_by (Ok (said.Taken m)) brought had = had
joined_by (Ok (said.Check y)) brought had = had
joined_by (Ok (said.Step x)) brought had = had
joined_by (Err r) brought had = had

-- A result that is taken clears it where the connection was lost.
abbrev pub lost_by : Result Said Refusal → List Reply → List Reply → List Reply
lost_by (Ok a) left had = left
lost_by (Err r) left had = had

-- EVERY CALL: an outcome of connecting and a lost connection change it; any other call, and a refused one, leave it.
unfoldable pub behind_by : Call → Result Said Refusal → List Reply → List Reply
behind_by (manager t c) a had = had
behind_by (cache t c) a had = had
behind_by (settings t st) a had = had
behind_by (take_control t) a had = had
behind_by (link t (Connect x)) a had = joined_by a (replies_of x.ranges) had
behind_by (link t Fail) a had = joined_by a no_replies had
behind_by (link t Check) a had = had
behind_by (round t Begin) a had = had
behind_by (round t Next) a had = had
behind_by (round t (Results o)) a had = lost_by a (pick (is_lost o.kind) no_replies had) had

-- A refused call leaves it.
pub behind_refused : (c : Call) (r : Refusal) (had : List Reply) → behind_by c (Err r) had ≡ had
unfolding behind_by
behind_refused (manager t c) r had = refl
behind_refused (cache t c) r had = refl
behind_refused (settings t st) r had = refl
behind_refused (take_control t) r had = refl
behind_refused (link t (Connect x)) r had = refl
behind_refused (link t Fail) r had = refl
behind_refused (link t Check) r had = refl
behind_refused (round t Begin) r had = refl
behind_refused (round t Next) r had = refl
behind_refused (round t (Results o)) r had = refl
