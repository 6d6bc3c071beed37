-- The board behind the boot.
use Rattle.std.proofs.Common.{◌≡◌, ℕ, zero, suc, ◌<◌, List, [], ◌∷◌, length, map, refl, ◌∙◌, ap, arith, length-drop}
use Rattle.std.specs.List.{All}
use Rattle.std.proofs.lemmas.List.Elements.{All-nil, All-cons}
use Rattle.xa_client_worker.specs.xa_types.declared.setup.Setup.{Setup}
use Rattle.xa_client_worker.specs.xa_types.declared.stamp.Stamp.{Stamp}
use Rattle.xa_client_worker.specs.xa_types.Rows.{configured}
use Rattle.xa_client_worker.specs.xa_events.Board.{published}
use Rattle.xa_client_worker.specs.xa_stamp.declared.home.Stamped.{Stamped}
use Rattle.xa_client_worker.specs.xa_lock.Makers.{made_by}
use Rattle.xa_client_worker.specs.xa_worker.Seen.{past_in}
use Rattle.xa_client_worker.specs.xa_board.Board.{version_of}
use Rattle.xa_client_worker.specs.xa_held.declared.kept_board.BoardNote.{BoardNote}
use Rattle.xa_client_worker.specs.xa_held.declared.kept_board.BoardNote.TheVariants.{Opened, By}
use Rattle.xa_client_worker.specs.xa_held.Board.{maker_of, IsSoundBoard}
use Rattle.xa_boot.specs.declared.advertising.Opening.{Opening}
use Rattle.xa_boot.specs.Opening.{opening, Remain, IsBoot}
use Rattle.xa_boot.proofs.Noting.{domain}

by_domain : (own : List Stamped) → All (λ (n : BoardNote). maker_of n ≡ 0) (map By (made_by domain own))
by_domain [] = All-nil (λ (n : BoardNote). maker_of n ≡ 0)
by_domain (x ∷ own) = All-cons (λ (n : BoardNote). maker_of n ≡ 0) (By (record { maker = domain; noted = x })) (map By (made_by domain own)) refl (by_domain own)

pub opening_makers : (setup : Setup) (own : List Stamped) → All (λ (n : BoardNote). maker_of n ≡ 0) (opening setup own)
opening_makers setup own = All-cons (λ (n : BoardNote). maker_of n ≡ 0) (Opened setup) (map By (made_by domain own)) refl (by_domain own)

pub last_is : (n version : ℕ) (last stamp : Stamp) → version ≡ n → last.0 ≡ n → (version ≡ 0 → stamp.0 ≡ 0) → (0 < version → stamp ≡ last) → stamp.0 ≡ n
last_is zero version last stamp is reached none some = none is
last_is (suc n) version last stamp is reached none some = ap (λ (s : Stamp). s.0) (some (omega (arith, is))) ∙ reached

module _ (setup : Setup) (o : Opening) (is : Remain setup [] o) where
  pub versions : version_of o.board.board ≡ length o.own
  versions = ap (λ (l : List Stamped). published (past_in l)) is.entries ∙ is.version

  pub is_boot : IsSoundBoard o.board → IsBoot setup o.own
  is_boot sound =
      let none = ap length is.rest_is in
      let left = length-drop (length o.own) (configured setup) in
      let bound = sound.bound in
      let last = is.last in
      record { boots = is.boots; version = is.version; whole = omega (arith, none, left); bound = omega (arith, bound, last) }
