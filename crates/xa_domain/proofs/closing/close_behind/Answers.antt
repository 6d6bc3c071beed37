use Rattle.std.proofs.Common.{sym, ◌∙◌, subst, Option}
use Rattle.std.specs.Prelude.{IfSome}
use Rattle.xa_boot.specs.xa_worker.declared.work.Halt.{Halt}
use Rattle.xa_domain.specs.Closing.{IsBehindAll, IsHaltBy}
use Rattle.xa_domain.proofs.Stepping.{seen_closer, closed_shows, has_halted}
use Rattle.xa_domain.proofs.closing.close_behind.Goals as goal

pub close_all-requires-clause-closer : goal.close_all-requires-clause-closer
close_all-requires-clause-closer g c =
    let behind : IsBehindAll c.args.closer.now.seen c.args.clients.now c.in-Some.last = c.in-Some.ensures in
    seen_closer c.requires.closer behind

pub returns-in-Err : goal.returns-in-Err
returns-in-Err g c =
    let behind : IsBehindAll c.args.closer.now.seen c.args.clients.now c.in-Some.last = c.in-Some.ensures in
    let closes = c.close_all.ensures.closes in
    has_halted c.close_all.new.closer _ c.in-Err.ensures.worn closes.is (closed_shows c.requires.closer behind c.requires.done.0 c.requires.done.1 c.requires.count c.requires.shows c.close_all.new.closer closes)

pub returns-in_default-close_all : goal.returns-in_default-close_all
returns-in_default-close_all g c =
    let behind : IsBehindAll c.args.closer.now.seen c.args.clients.now c.in-Some.last = c.in-Some.ensures in
    let closes = c.close_all.ensures.closes in
    record {
      is = closes.is;
      shows = closed_shows c.requires.closer behind c.requires.done.0 c.requires.done.1 c.requires.count c.requires.shows c.close_all.new.closer closes;
      closed = λ none. c.in_default-close_all.ensures.closed;
      halts = subst (λ (h : Option Halt). IfSome h (IsHaltBy c.args.clients.now c.close_all.new.closer)) (sym (closes.halt ∙ c.requires.open)) tt;
    }
