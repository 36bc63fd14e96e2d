-- `transcript::keep` meets its contract.
use Rattle.transcript.specs.Lines.{keep_of}
use borrow.Author.Tests.{lt-ltb, le-ltb}
use Rattle.transcript.proofs.keep.Goals as goal

pub returns-then-kept-lt6 : goal.returns-then-kept-lt6
unfolding keep_of
returns-then-kept-lt6 c = rw (lt-ltb _ _ c.if-kept-lt6.true)

pub returns : goal.returns
unfolding keep_of
returns c = rw (le-ltb _ _ c.if-kept-lt6.false)
