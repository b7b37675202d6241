use Rattle.std.proofs.Common.{◌+◌, arith}
use Rattle.gcd_text.proofs.FirstPlaces.{stands_first, stands_nowhere, none_more}
use Rattle.gcd_text.proofs.lines.space_in.Goals as goal

pub returns-then-bytes-at-eq32 : goal.returns-then-bytes-at-eq32
returns-then-bytes-at-eq32 c =
    stands_first 32 c.args.bytes.now c.four.at (omega (arith, c.four-test.true)) c.if-bytes-at-eq32.true
    c.four.invariant.none

pub returns-then-bytes-at-eq32-2 : goal.returns-then-bytes-at-eq32-2
returns-then-bytes-at-eq32-2 c =
    stands_first 32 c.args.bytes.now (c.four.at + 1) (omega (arith, c.four-test.true)) c.if-bytes-at-eq32-2.true
    (none_more 32 c.args.bytes.now c.four.at (c.four.at + 1) (omega arith) c.four.invariant.none c.if-bytes-at-eq32.false)

pub returns-then-bytes-at-eq32-3 : goal.returns-then-bytes-at-eq32-3
returns-then-bytes-at-eq32-3 c =
    stands_first 32 c.args.bytes.now (c.four.at + 2) (omega (arith, c.four-test.true)) c.if-bytes-at-eq32-3.true
    (none_more 32 c.args.bytes.now (c.four.at + 1) (c.four.at + 2) (omega arith) (none_more 32 c.args.bytes.now c.four.at (c.four.at + 1) (omega arith) c.four.invariant.none c.if-bytes-at-eq32.false) c.if-bytes-at-eq32-2.false)

pub returns-then-bytes-at-eq32-4 : goal.returns-then-bytes-at-eq32-4
returns-then-bytes-at-eq32-4 c =
    stands_first 32 c.args.bytes.now (c.four.at + 3) (omega (arith, c.four-test.true)) c.if-bytes-at-eq32-4.true
    (none_more 32 c.args.bytes.now (c.four.at + 2) (c.four.at + 3) (omega arith) (none_more 32 c.args.bytes.now (c.four.at + 1) (c.four.at + 2) (omega arith) (none_more 32 c.args.bytes.now c.four.at (c.four.at + 1) (omega arith) c.four.invariant.none c.if-bytes-at-eq32.false) c.if-bytes-at-eq32-2.false) c.if-bytes-at-eq32-3.false)

pub returns-then-bytes-at-eq32-5 : goal.returns-then-bytes-at-eq32-5
returns-then-bytes-at-eq32-5 c = stands_first 32 c.args.bytes.now c.one.at c.one-test.true c.if-bytes-at-eq32-5.true c.one.invariant.none

pub returns : goal.returns
returns c = stands_nowhere 32 c.args.bytes.now (λ k low. c.one.invariant.none k (omega (arith, c.one-test.false)))
