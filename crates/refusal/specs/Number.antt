-- Document 01's number of each refusal.
use Rattle.std.specs.Prelude.{◌≡◌, refl, ℕ, List, [], ◌∷◌, slice_index_or, Option, None, Some, Result, Ok, Err}
use Rattle.std.proofs.Common.{arith}
use Rattle.refusal.specs.declared.Refusal.{Refusal}
use Rattle.refusal.specs.declared.Refusal.TheVariants.{BadTime, UnknownKind, BadResponse, BadConsumed, LongCapture, NumbersGiven, ClientsFull, UnknownClient, AlreadyWaiting, NothingWaiting, NoReply, RoundOpen, OutOfTurn, ShortArea, LineFull, BadHeader}

abbrev pub number_of : Refusal → ℕ
number_of BadTime = 1
number_of UnknownKind = 2
number_of BadResponse = 3
number_of BadConsumed = 4
number_of LongCapture = 5
number_of NumbersGiven = 6
number_of ClientsFull = 7
number_of UnknownClient = 8
number_of AlreadyWaiting = 9
number_of NothingWaiting = 10
number_of NoReply = 11
number_of RoundOpen = 12
number_of OutOfTurn = 13
number_of ShortArea = 14
number_of LineFull = 15
number_of BadHeader = 16

-- The number of what may be a refusal, and of what a call that may be refused returns: 0 where it is accepted.
abbrev pub number_in : Option Refusal → ℕ
number_in None = 0
number_in (Some r) = number_of r

abbrev pub number_told : {T : Type 0} → Result T Refusal → ℕ
number_told (Ok x) = 0
number_told (Err r) = number_of r

-- A refused call's number is never 0, the number of one that is accepted.
pub never_zero : (r : Refusal) → number_of r ≡ 0 → ⊥
never_zero BadTime e = omega arith
never_zero UnknownKind e = omega arith
never_zero BadResponse e = omega arith
never_zero BadConsumed e = omega arith
never_zero LongCapture e = omega arith
never_zero NumbersGiven e = omega arith
never_zero ClientsFull e = omega arith
never_zero UnknownClient e = omega arith
never_zero AlreadyWaiting e = omega arith
never_zero NothingWaiting e = omega arith
never_zero NoReply e = omega arith
never_zero RoundOpen e = omega arith
never_zero OutOfTurn e = omega arith
never_zero ShortArea e = omega arith
never_zero LineFull e = omega arith
never_zero BadHeader e = omega arith

-- All of them by their numbers, with a place in front for 0, so that no two share one.
abbrev pub table : List Refusal
table = BadTime ∷ BadTime ∷ UnknownKind ∷ BadResponse ∷ BadConsumed ∷ LongCapture ∷ NumbersGiven ∷ ClientsFull ∷ UnknownClient ∷ AlreadyWaiting ∷ NothingWaiting ∷ NoReply ∷ RoundOpen ∷ OutOfTurn ∷ ShortArea ∷ LineFull ∷ BadHeader ∷ []

pub back : (r : Refusal) → slice_index_or table (number_of r) BadTime ≡ r
back BadTime = refl
back UnknownKind = refl
back BadResponse = refl
back BadConsumed = refl
back LongCapture = refl
back NumbersGiven = refl
back ClientsFull = refl
back UnknownClient = refl
back AlreadyWaiting = refl
back NothingWaiting = refl
back NoReply = refl
back RoundOpen = refl
back OutOfTurn = refl
back ShortArea = refl
back LineFull = refl
back BadHeader = refl

-- Two refusals never share a number.
pub apart : (r q : Refusal) → number_of r ≡ number_of q → r ≡ q
apart r q e = let a = back r in let b = back q in cc
