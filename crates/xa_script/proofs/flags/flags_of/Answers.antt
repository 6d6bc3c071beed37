use Rattle.std.proofs.Common.{length, sym}
use Rattle.std.proofs.lemmas.Result.{err_from_is_err_and}
use Rattle.xa_script.proofs.FlagsRead.{begins, no_flag, by_word, by_flag, at_end}
use Rattle.xa_script.proofs.flags.flags_of.Goals as goal

pub loop-turn-init : goal.loop-turn-init
loop-turn-init c = begins c.args.setup.now c.args.buffered c.args.octets.now c.no_flags.result c.no_flags.ensures

pub returns-then-is_blank : goal.returns-then-is_blank
returns-then-is_blank c =
    no_flag c.args.setup.now c.args.buffered (length c.args.octets.now) c.loop-turn._turn c.loop-turn.flags c.loop-turn.rest.now _ c.loop-turn-test.true c.loop-turn.invariant c.if-is_blank.ensures

pub returns-in_err-word : goal.returns-in_err-word
returns-in_err-word c =
    let p = err_from_is_err_and c.from_residual.result c.from_residual.ensures.1 in
    rw p.1
    (by_word c.args.setup.now c.args.buffered (length c.args.octets.now) c.loop-turn._turn c.loop-turn.flags c.loop-turn.rest.now _ _ c.loop-turn-test.true c.loop-turn.invariant
    c.if-is_blank.ensures c.in_err-word.ensures)

pub returns-in_err-rest : goal.returns-in_err-rest
returns-in_err-rest c =
    let p = err_from_is_err_and c.from_residual-in_err-rest.result c.from_residual-in_err-rest.ensures.1 in
    rw p.1
    (by_flag c.args.setup.now c.args.buffered (length c.args.octets.now) c.loop-turn._turn c.loop-turn.flags c.loop-turn.rest.now c.in_ok-word.word.now c.in_ok-word.behind.now _ _
    c.loop-turn-test.true c.loop-turn.invariant c.if-is_blank.ensures c.in_ok-word.ensures c.in_err-rest.ensures)

pub loop-turn-preserved : goal.loop-turn-preserved
loop-turn-preserved c =
    sym (by_flag c.args.setup.now c.args.buffered (length c.args.octets.now) c.loop-turn._turn c.loop-turn.flags c.loop-turn.rest.now c.in_ok-word.word.now c.in_ok-word.behind.now _ _
    c.loop-turn-test.true c.loop-turn.invariant c.if-is_blank.ensures c.in_ok-word.ensures c.in_ok-rest.ensures)

pub returns-then-is_blank-2 : goal.returns-then-is_blank-2
returns-then-is_blank-2 c =
    at_end c.args.setup.now c.args.buffered (length c.args.octets.now) c.loop-turn._turn c.loop-turn.flags c.loop-turn.rest.now _ _ c.loop-turn-test.false c.loop-turn.invariant c.if-is_blank-2.ensures

pub returns-else-is_blank-2 : goal.returns-else-is_blank-2
returns-else-is_blank-2 c =
    at_end c.args.setup.now c.args.buffered (length c.args.octets.now) c.loop-turn._turn c.loop-turn.flags c.loop-turn.rest.now _ _ c.loop-turn-test.false c.loop-turn.invariant c.if-is_blank-2.ensures
