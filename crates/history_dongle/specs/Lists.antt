-- Lists of tokens that tell of the dongle: eight RANGEs, LEARNT... What has no place is left out and counted. A bad
-- token makes the list bad.
use Rattle.std.specs.Prelude.{false, List, [], ◌∷◌, ℕ, ◌+◌, eqb, ltb, set, replicate, Option, Some, None}
use Rattle.base.specs.Choice.{pick}
use Rattle.reply.specs.declared.Reply.{Reply}
use Rattle.link.specs.Rules.{no_ranges}
use Rattle.rounds.specs.declared.Learnt.{Learnt}
use Rattle.history_items.specs.Items.{given}
use Rattle.history_replies.specs.Replies.{range_of}
use Rattle.history_session.specs.Session.{learnt_of}
use Rattle.history_dongle.specs.declared.RangesRead.{RangesRead}
use Rattle.history_dongle.specs.declared.LearntRead.{LearntRead}

-- What no call has brought.
unfoldable pub no_learnt : List Learnt
no_learnt = replicate 6 (record { ecu = 0; known = false })

-- RANGE.., eight of them
unfoldable pub range_onto : RangesRead → Option Reply → RangesRead
range_onto x r = record { ranges = pick (ltb x.count 8) (set x.ranges x.count r) x.ranges; count = x.count + 1 }

abbrev pub eight : RangesRead → Option (List (Option Reply))
eight x = pick (eqb x.count 8) (Some x.ranges) None

unfoldable pub ranges_from : RangesRead → List (List ℕ) → Option (List (Option Reply))
ranges_from x [] = eight x
ranges_from x (t ∷ ts) = given (range_of t) (λ r. ranges_from (range_onto x r) ts)

abbrev pub ranges_of : List (List ℕ) → Option (List (Option Reply))
ranges_of ts = ranges_from (record { ranges = no_ranges; count = 0 }) ts

-- LEARNT..
unfoldable pub learnt_onto : LearntRead → Learnt → LearntRead
learnt_onto x l = record { learnt = pick (ltb x.count 6) (set x.learnt x.count l) x.learnt; count = x.count + 1 }

unfoldable pub learnts_from : LearntRead → List (List ℕ) → Option LearntRead
learnts_from x [] = Some x
learnts_from x (t ∷ ts) = given (learnt_of t) (λ l. learnts_from (learnt_onto x l) ts)

abbrev pub learnts_of : List (List ℕ) → Option LearntRead
learnts_of ts = learnts_from (record { learnt = no_learnt; count = 0 }) ts
