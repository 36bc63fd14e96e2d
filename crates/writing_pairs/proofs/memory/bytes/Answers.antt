-- `writing_pairs::memory::bytes` meets its contract.
use Rattle.std.proofs.Common.{rules}
use Rattle.writing_pairs.specs.Pairs.{bytes_none, bytes_some}
use Rattle.writing_pairs.proofs.memory.bytes.Goals as goal

pub returns-then-is_empty : goal.returns-then-is_empty
returns-then-is_empty c = rw (bytes_none c.args.bytes.now (search rules)) c.byte.ensures

pub returns : goal.returns
returns c = rw (bytes_some c.args.bytes.now (search rules)) c.pairs.ensures
