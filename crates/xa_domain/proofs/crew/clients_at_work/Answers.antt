use Rattle.std.proofs.Common.{◌≡◌, ◌+◌, ◌<◌, length, get_or, sym, subst, arith, rules}
use mir.Syntax.{named}
use denote.Param.Send.{sendable}
use Rattle.xa_boot.specs.Booting.{IsNewClient}
use Rattle.xa_boot.specs.xa_client_worker.declared.working.ClientWorker.{ClientWorker}
use Rattle.xa_boot.specs.xa_client_worker.Ending.{MayWork, HasWorked}
use Rattle.std.specs.List.{All}
use Rattle.xa_boot.specs.xa_desk.Desks.{IsDomain}
use Rattle.xa_domain.specs.Working.{IsBuiltClient}
use Rattle.xa_domain.proofs.Sending.{client_worker_sends}
use Rattle.xa_domain.proofs.Sharing.{shared_syncs}
use Rattle.xa_domain.proofs.Numbered.{numbered-at}
use Rattle.xa_domain.proofs.Working.{may_work, each_done}
use Rattle.xa_domain.proofs.crew.clients_at_work.Goals as goal

pub all_at_work-requires-send-W : goal.all_at_work-requires-send-W
all_at_work-requires-send-W g c κs inside = search (sendable, client_worker_sends)

pub all_at_work-requires-sync-S : goal.all_at_work-requires-sync-S
all_at_work-requires-sync-S g c κs inside = record { shared = (shared_syncs (record { mir = named 5; lft = κs.1.1.1.1.1.0 }) _ _ c.type_bounds.sync-R c.type_bounds.sync-G).shared }

pub all_at_work-requires-after_bounds : goal.all_at_work-requires-after_bounds
all_at_work-requires-after_bounds g c κs inside place w within shared lent is its =
    let s = c.args.shared.now in
    let d = s.monitor.domain.now in
    let built = numbered-at (IsNewClient d) 1 c.args.clients.now c.requires.new place w within in
    let many : place < length s.scripts.now = omega (arith, c.requires.count, within) in
    let may : MayWork d lent.now = subst (MayWork d) (sym its) (may_work d (1 + place) _ built) in (
      subst (λ x. IsDomain x.monitor.domain.now × All IsBuiltClient x.scripts.now × (place < length x.scripts.now) × MayWork x.monitor.domain.now lent.now) (sym is) (c.requires.domain, c.requires.built, many, may),
      search (sendable, c.type_bounds.sync-R, c.type_bounds.sync-G),
    )

pub returns : goal.returns
returns g c =
    let s = c.args.shared.now in
    let d = s.monitor.domain.now in
    let old = c.args.clients.now in
    let new = c.all_at_work.new.workers in
    each_done d 1 s.scripts.now old new c.requires.count (search rules) c.requires.new (λ k w script within is.
    let at = c.all_at_work.ensures k w within in
    let Went : ClientWorker → ClientWorker → Type 0 = HasWorked d script.ops (length script.ops) in
    let worked : Went at.lent.now at.left.now = subst (λ x. script ≡ get_or x.scripts.now k script → HasWorked x.monitor.domain.now script.ops (length script.ops) at.lent.now at.left.now) at.shows.0 (at.called script) is in
    subst (λ x. Went x (get_or new k w)) at.shows.1 (subst (Went at.lent.now) at.after worked))
