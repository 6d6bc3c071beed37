use Rattle.std.proofs.Common.{◌≡◌, ℕ, List, inl, inr, refl, ◌∙◌, ap, subst}
use Rattle.xa_server.specs.xa_types.declared.call.Op.TheVariants.{Unadvertise}
use Rattle.xa_server.specs.xa_events.declared.event.Evidence.TheVariants.{Argument}
use Rattle.xa_server.specs.xa_events.Caller.{is_client}
use Rattle.xa_server.specs.xa_events.Cases.{queue_by}
use Rattle.xa_server.specs.xa_caller.Caller.{CallerState}
use Rattle.xa_desk.specs.Advertising.{BarsWithdrawal, rows_seen}
use Rattle.xa_desk.proofs.Refusals.{moves_alone, moves_trans, refused_withdrawal, seen_fits}
use Rattle.xa_desk.proofs.desk.Desk.unadvertise.Goals as goal

pub refuse_change-requires-clause-so : goal.refuse_change-requires-clause-so
refuse_change-requires-clause-so g c = (Unadvertise c.args.service.now, (c.requires.server, c.in_default.ensures.none))

pub returns-in_default-clause-fits : goal.returns-in_default-clause-fits
returns-in_default-clause-fits g c = c.refuse_change.ensures.fits (Unadvertise c.args.service.now) (c.requires.server, c.in_default.ensures.none)

pub returns-in_default-clause-made : goal.returns-in_default-clause-made
returns-in_default-clause-made g c = (c.args.self.now.caller, inl refl, Argument, c.in_ok-refuse_change.field-0, c.in_ok-refuse_change.ensures.refused)

pub told_refused-requires-clause-so : goal.told_refused-requires-clause-so
told_refused-requires-clause-so g c =
    let d = c.args.domain.now in
    let mid = c.take_row.new.self in
    let words = c.in-Some.ensures.some in
    let kept = c.in-Err.ensures.kept in
    let id : mid.caller.work.id.0 ≡ c.args.self.now.caller.work.id.0 = ap (λ (s : CallerState). s.work.id.0) kept.1 in
    let bar = subst (λ (n : List ℕ). BarsWithdrawal n c.args.queue.0 c.in-Err.refused (rows_seen d mid)) words.0 c.in-Err.ensures.barred in
    (Unadvertise c.args.service.now, refused_withdrawal d mid c.args.service.now c.args.queue.0 (ap (is_client d.clients) id ∙ c.requires.server) words.1 (ap (queue_by d.setup d.clients) id ∙ c.requires.queue) c.in-Err.refused bar)

pub returns-in_default-clause-moves : goal.returns-in_default-clause-moves
returns-in_default-clause-moves g c = moves_alone c.args.domain.now c.args.self.now c.refuse_change.new.self c.refuse_change.ensures.leads c.refuse_change.ensures.rest

pub returns-in_ok-told_refused-in-Err-clause-moves : goal.returns-in_ok-told_refused-in-Err-clause-moves
returns-in_ok-told_refused-in-Err-clause-moves g c =
    let mid = c.take_row.new.self in
    let new = c.told_refused.new.self in
    moves_trans c.args.domain.now c.args.self.now mid new c.take_row.ensures.moves (moves_alone c.args.domain.now mid new c.told_refused.ensures.leads c.told_refused.ensures.rest)

pub returns-in_ok-told_refused-in-Err-clause-fits : goal.returns-in_ok-told_refused-in-Err-clause-fits
returns-in_ok-told_refused-in-Err-clause-fits g c ops is fits =
    let d = c.args.domain.now in
    let mid = c.take_row.new.self in
    let words = c.in-Some.ensures.some in
    let kept = c.in-Err.ensures.kept in
    let id : mid.caller.work.id.0 ≡ c.args.self.now.caller.work.id.0 = ap (λ (s : CallerState). s.work.id.0) kept.1 in
    let bar = subst (λ (n : List ℕ). BarsWithdrawal n c.args.queue.0 c.in-Err.refused (rows_seen d mid)) words.0 c.in-Err.ensures.barred in
    let so = refused_withdrawal d mid c.args.service.now c.args.queue.0 (ap (is_client d.clients) id ∙ c.requires.server) words.1 (ap (queue_by d.setup d.clients) id ∙ c.requires.queue) c.in-Err.refused bar in
    c.told_refused.ensures.fits (Unadvertise c.args.service.now) so ops is (seen_fits d c.args.self.now mid c.take_row.ensures.moves.leads kept.0 kept.1 ops fits)

pub returns-in_ok-told_refused-in-Err-clause-made : goal.returns-in_ok-told_refused-in-Err-clause-made
returns-in_ok-told_refused-in-Err-clause-made g c =
    let kept = c.in-Err.ensures.kept in
    let told = c.in_ok-told_refused-in-Err.ensures.told in
    (c.take_row.new.self.caller, inr (kept.0, kept.1), told.0, told.1, told.2)
