-- The tables before any event.
use Rattle.std.proofs.Common.{◌≡◌, ℕ, ◌+◌, ◌<◌, List, [], ◌∷◌, ◌++◌, length, map, take, get_or, inl, inr, refl, sym, ◌∙◌, ap, subst, arith, append_assoc, length-append}
use Rattle.std.proofs.lemmas.List.{map-append, take_more}
use Rattle.std.proofs.lemmas.Bool.{cases_eq}
use Rattle.std.proofs.Math.Seq.{get_or-append_seam}
use Rattle.std.proofs.Math.ListN.{get_or-append}
use Rattle.xa_types.specs.declared.setup.Setup.{Setup}
use Rattle.xa_events.specs.Board.{boot, changes}
use Rattle.xa_events.specs.Clock.{now}
use Rattle.xa_events.specs.Queue.{waiting, takes, is_down, is_closed}
use Rattle.xa_events.specs.Server.{starts, is_gone}
use Rattle.xa_events.specs.Caller.{newest_call, accepted, open_descriptors, unanswered, versions, ticks, has_left, is_leaving}
use Rattle.xa_events.specs.Conversation.{connections, broken, is_hand_closed}
use Rattle.xa_machine.specs.declared.served.ServerRow.{ServerRow}
use Rattle.xa_machine.specs.declared.queued.QueueRow.{QueueRow}
use Rattle.xa_machine.specs.declared.caller.CallerRow.{CallerRow}
use Rattle.xa_machine.specs.Tables.{AllShow, ServerShows, no_server, QueueShows, no_queue, CallerShows, no_caller}
use Rattle.xa_machine.specs.Shown.{ServersShow, QueuesShow, CallersShow}

pub all_push : {X V : Type 0} (Shows : X → V → Type 0) (none : V) (rows : List X) (row : X) → AllShow Shows none rows → Shows row none → AllShow Shows none (rows ++ row ∷ [])
all_push Shows none rows row each here k d l =
    elim (cases_eq k (length rows)) [
      | inl e ↦ subst (λ (n : ℕ). Shows (get_or (rows ++ row ∷ []) n d) none) (sym e) (rw (get_or-append_seam rows row [] d) here)
      | inr ne ↦ let m : k < length rows = omega (arith, length-append rows (row ∷ [])) in rw (get_or-append rows (row ∷ []) d k m) (each k d m)
    ]

pub first_servers : (rows : List ServerRow) → AllShow ServerShows no_server rows → ServersShow [] rows
unfolding starts is_gone
first_servers rows each = record { each = each; beyond = λ k l. refl }

pub first_queues : (setup : Setup) (rows : List QueueRow) → AllShow QueueShows no_queue rows → QueuesShow setup [] rows
unfolding waiting takes is_down is_closed
first_queues setup rows each = record { each = each; beyond = λ k l. refl }

pub first_callers : (setup : Setup) (clients : ℕ) (rows : List CallerRow) → AllShow (CallerShows (boot setup)) no_caller rows → CallersShow setup clients [] rows
unfolding newest_call accepted open_descriptors unanswered versions ticks has_left is_leaving connections broken is_hand_closed
first_callers setup clients rows each = record { each = each; beyond = λ k l. refl }

pub no_changes : changes [] ≡ []
unfolding changes
no_changes = refl

pub first_now : 0 ≡ now []
unfolding now
first_now = refl

-- one more of a list was mapped, behind what stood there
pub mapped_on : {X Y Z : Type 0} (f : Z → Y) (g : X → Y) (before : List Y) (made : List Z) (one : Z) (xs : List X) (i : ℕ) (d : X) → i < length xs → map f made ≡ before ++ map g (take i xs) → f one ≡ g (get_or xs i d)
    → map f (made ++ one ∷ []) ≡ before ++ map g (take (i + 1) xs)
mapped_on f g before made one xs i d within so_far is =
    rw (take_more xs i d within) (map-append f made (one ∷ []) ∙ (ap (λ ys. ys ++ f one ∷ []) so_far ∙ (append_assoc before (map g (take i xs)) (f one ∷ [])
    ∙ (ap (λ y. before ++ (map g (take i xs) ++ y ∷ [])) is ∙ ap (λ ys. before ++ ys) (sym (map-append g (take i xs) (get_or xs i d ∷ [])))))))
