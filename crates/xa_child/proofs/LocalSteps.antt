-- A program in memory: what it holds after each write.
use Rattle.std.proofs.Common.{◌≡◌, ℕ, ◌+◌, Bool, true, false, List, [], ◌++◌, take, drop, Some, None, Ok, inl, inr, ◌⊎◌, refl, sym, ◌∙◌, ap, subst, arith}
use Rattle.std.proofs.Math.Seq.{take-add}
use Rattle.std.proofs.lemmas.List.{take-append-drop}
use Rattle.xa_frame.specs.Stream.{IsPartial}
use Rattle.xa_link.specs.Told.{Grew}
use Rattle.xa_child.specs.declared.serving.Serving.{Serving}
use Rattle.xa_child.specs.declared.serving.Halt.{Halt}
use Rattle.xa_child.specs.Child.{ChildState, begun, after_all}
use Rattle.xa_child.specs.Turns.{behind, Hears, Turns}
use Rattle.xa_child.specs.Serving.{TakesUpTo}
use Rattle.xa_child.specs.LocalHolds.{Says, Holds}
use Rattle.xa_child.proofs.Turned.{Joined, joined, so_far_more, turns_of, hears_halted}

grew_all : (xs ys : List ℕ) → Grew (Some []) (Some xs) ys → xs ≡ ys
grew_all xs ys grew = cc

-- what the program says, whether or not it takes more
pub says_of : (name : List ℕ) (takes : Bool) (serving : Serving) (taken given : List ℕ) → Holds name takes serving taken given → Says name taken given
says_of name true serving taken given h = record {
  frames = h.frames;
  rest = serving.reader.rest;
  spelling = h.spelling;
  admitted = h.admitted;
  whole = grew_all taken _ h.given;
  upto = inr h.partial;
  spoken = grew_all given _ h.grew;
}
says_of name false serving taken given h = h

pub says_parts : (name took given : List ℕ) (at : ℕ) → Says name took given → Says name took (take at given ++ drop at given)
says_parts name took given at h = subst (Says name took) (sym (take-append-drop at given)) h

pub gave_more : (at n : ℕ) (xs into : List ℕ) → take n into ≡ take n (drop at xs) → take (at + n) xs ≡ take at xs ++ take n into
gave_more at n xs into same = take-add at n xs ∙ ap (λ z. take at xs ++ z) (sym same)

-- one write
local_turns : (taken given octets due : List ℕ) (old mid new : Serving) (halt : Halt) (more : Bool) → behind halt ≡ Ok more → mid.child ≡ old.child → mid.reader.place ≡ old.reader.place → mid.reader.rest ≡ old.reader.rest ++ octets → TakesUpTo mid new due halt → Turns old new None None (Some taken) (Some (taken ++ octets)) (Some given) (Some (given ++ due)) (Ok more)
local_turns taken given octets due old mid new halt more on child place fed t =
    turns_of old new None None (Some taken) (Some (taken ++ octets)) (Some given) (Some (given ++ due)) octets (Ok more) refl refl
    (subst (Hears old new octets (Some given) (Some (given ++ due)) ⊥) on (hears_halted old mid new octets due (Some given) (Some (given ++ due)) halt child place fed t refl))

done_upto : (s : ChildState) (rest : List ℕ) (end : Type 0) → (s.ended ≡ true) ⊎ ((rest ≡ []) × end) → (s.ended ≡ true) ⊎ IsPartial rest
done_upto s rest end (inl over) = inl over
done_upto s rest end (inr (none, e)) = inr (subst IsPartial (sym none) (inl (omega arith)))

joined_holds : (name taken given : List ℕ) (new : Serving) (more : Bool) → Joined name None None (Some []) (Some taken) (Some []) (Some given) new (Ok more) → Holds name more new taken given
joined_holds name taken given new true j = so_far_more name None None (Some []) (Some taken) (Some []) (Some given) new j
joined_holds name taken given new false j = record {
  upto = done_upto (after_all begun j.frames) j.rest _ j.turns.1;
  frames = j.frames;
  rest = j.rest;
  spelling = j.spelling;
  admitted = j.admitted;
  whole = grew_all taken _ j.given;
  spoken = grew_all given _ j.grew ∙ j.turns.0;
}

pub local_holds : (name taken given octets due : List ℕ) (old mid new : Serving) (halt : Halt) (more : Bool) → behind halt ≡ Ok more → mid.child ≡ old.child → mid.reader.place ≡ old.reader.place → mid.reader.rest ≡ old.reader.rest ++ octets → TakesUpTo mid new due halt → Holds name true old taken given → Holds name more new (taken ++ octets) (given ++ due)
local_holds name taken given octets due old mid new halt more on child place fed t h =
    joined_holds name _ _ new more (joined name None None None (Some []) (Some taken) _ (Some []) (Some given) _ old new (Ok more) h (local_turns taken given octets due old mid new halt more on child place fed t))
