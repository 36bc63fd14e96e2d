-- `hex::command` meets its contract.
use Rattle.hex_text.specs.Laws.{command_none, command_plain, command_pairs, command_other, rest_all}
use Rattle.hex_text.specs.Pairs.{plain_of, copy_of, bytes_of, read_of}
use lib.ListN.{length}
use mathlib.Core.Path.{sym, ap, ◌∙◌}
use Rattle.hex_text.proofs.command.Goals as goal

pub returns-then-s-eq0 : goal.returns-then-s-eq0
returns-then-s-eq0 c =
    let p = command_none (length c.args.out.now) c.args.out.now _ c.if-s-eq0.true in
    record {
      value = sym p.0;
      out_after = sym p.1;
    }

pub returns-then-s-eq39 : goal.returns-then-s-eq39
returns-then-s-eq39 c =
    let s = c.args in
    let p = command_plain (length s.out.now) s.out.now s.s.now c.if-s-eq0.false c.if-s-eq39.true in
    let e = c.copy.ensures in
    record {
      value = e.value ∙ ap (plain_of (length s.out.now)) (rest_all s.s.now) ∙ sym p.0;
      out_after = e.out_after ∙ ap (copy_of s.out.now) (rest_all s.s.now) ∙ sym p.1;
    }

pub returns-then-s-eq120 : goal.returns-then-s-eq120
returns-then-s-eq120 c =
    let s = c.args in
    let p = command_pairs (length s.out.now) s.out.now s.s.now c.if-s-eq0.false c.if-s-eq39.false c.if-s-eq120.true in
    let e = c.read.ensures in
    record {
      value = e.value ∙ ap (bytes_of (length s.out.now)) (rest_all s.s.now) ∙ sym p.0;
      out_after = e.out_after ∙ ap (read_of s.out.now) (rest_all s.s.now) ∙ sym p.1;
    }

pub returns : goal.returns
returns c =
    let s = c.args in
    let p = command_other (length s.out.now) s.out.now s.s.now c.if-s-eq0.false c.if-s-eq39.false c.if-s-eq120.false in
    record {
      value = sym p.0;
      out_after = sym p.1;
    }
