use Rattle.std.proofs.Common.{◌≡◌, ◌+◌, ℕ, List, Some, refl, sym, ◌∙◌, ap, subst, arith, length, get_or}
use Rattle.std.specs.Prelude.{slice_get, option_map}
use Rattle.std.proofs.lemmas.Option.{same_Some, slice_get_read, slice_get-map}
use Rattle.xa_client_worker.specs.xa_types.declared.setup.ServerSetup.{ServerSetup}
use Rattle.xa_server_worker.specs.Lives.{HasStarted}
use Rattle.xa_boot.specs.Staffing.{IsNewDesk}
use Rattle.xa_boot.specs.Supplies.{restarts_of}
use Rattle.xa_boot.proofs.Hired.{new_server}
use Rattle.xa_boot.proofs.hiring.server_worker.Goals as goal

pub returns-clause-worker : goal.returns-clause-worker
returns-clause-worker g c =
    let d = c.args.domain.now in
    let place = c.args.place in
    let servers : List ServerSetup = d.setup.servers in
    let configured : ServerSetup = c.index-slice-place.result in
    let at : slice_get servers place ≡ Some configured = slice_get_read servers (length servers) place configured refl c.requires.place (c.index-slice-place.is ∙ ap (λ (l : List ServerSetup). get_or l place configured) c.slice.ensures) in
    let number = c.requires.left.number in
    let left = c.desk.ensures.left in
    let mine : c.desk.new.self.left ≡ d.clients + place + 1 = omega (arith, number, left) in
    let desk : IsNewDesk d (d.clients + place + 1) c.desk.result = subst (λ n. IsNewDesk d n c.desk.result) mine c.desk.ensures.desk_is in
    let lives : c.args.lives ≡ restarts_of configured = same_Some c.args.lives (restarts_of configured) (sym c.requires.lives ∙ slice_get-map restarts_of servers place ∙ ap (option_map restarts_of) at) in
    let name : ServerSetup → List ℕ = λ (s : ServerSetup). s.name in
    let named : (g.T.Starter.shows c.args.starter).name ≡ configured.name = same_Some (g.T.Starter.shows c.args.starter).name configured.name (sym c.requires.named ∙ slice_get-map name servers place ∙ ap (option_map name) at) in
    new_server d c.requires.domain place configured at c.desk.result desk g.T.Starter.shows _ c.args.lives refl (c.new.ensures.slot ∙ c.new-slot.ensures) lives
    (ap (λ s. (g.T.Starter.shows s).name) c.new.ensures.starter ∙ named)
    (subst (λ s. HasStarted (g.T.Starter.shows s).name 0 0 (g.T.Starter.shows s)) (sym c.new.ensures.starter) c.requires.unasked) refl c.queue_named.ensures c.new.ensures.lives refl refl
