-- The reads of a server's program, one after another.
use Rattle.std.proofs.Common.{◌≡◌, ℕ, ◌+◌, ◌<◌, ◌^◌, ◌&&◌, Bool, true, false, List, [], ◌++◌, append_assoc, append-nil, length, length-append, take, Option, Some, None, option_map, Result, Ok, Err, inl, inr, refl, sym, ◌∙◌, ap, subst, arith}
use Rattle.std.proofs.Math.Seq.{take-append-add}
use Rattle.std.proofs.lemmas.List.{take_all}
use Rattle.std.proofs.lemmas.List.Elements.{All-nil, All-append}
use Rattle.std.specs.List.{All}
use Rattle.xa_frame.specs.declared.frame.Frame.{Frame}
use Rattle.xa_frame.specs.Spelling.{all_spelled, HasSpelling}
use Rattle.xa_frame.specs.Stream.{IsPartial}
use Rattle.xa_frame.specs.Reader.{Incoming}
use Rattle.xa_link.specs.Told.{Grew, GrewByPart, Shrank, Empty}
use Rattle.xa_child.specs.declared.working.WorkRefused.{WorkRefused}
use Rattle.xa_child.specs.declared.working.WorkRefused.TheVariants.{ReadFault, WriteFault, BadFrame, NoMemory}
use Rattle.xa_child.specs.declared.serving.Serving.{Serving}
use Rattle.xa_child.specs.declared.serving.Halt.{Halt}
use Rattle.xa_child.specs.declared.serving.Halt.TheVariants.{Waits, Ended, Bad}
use Rattle.xa_child.specs.Child.{ChildState, begun, admits_all, after_all, said, greeting, child_run}
use Rattle.xa_child.specs.Work.{IsBad, place_after, IsBegun, IsPart, CameTo, Worked}
use Rattle.xa_child.specs.Turns.{behind, TurnsTo, Hears, Turns, AtEnd, Unanswered, SoFar}
use Rattle.xa_child.specs.Serving.{TakesUpTo, HaltsAt}
use Rattle.xa_frame.proofs.FrameLemmas.{all_spelled-append}
use Rattle.xa_child.proofs.Frames.{admits_all-append, after_all-append, said-append}

-- what is told, over two calls

pub grew_on : (a b d : Option (List ℕ)) (xs ys : List ℕ) → Grew a b xs → Grew b d ys → Grew a d (xs ++ ys)
grew_on None b d xs ys first second = second ∙ ap (option_map (λ zs. zs ++ ys)) first
grew_on (Some z) b d xs ys first second = second ∙ (ap (option_map (λ zs. zs ++ ys)) first ∙ ap Some (append_assoc z xs ys))

pub shrank_on : (a b d : Option (List ℕ)) (xs ys : List ℕ) → Shrank a b xs → Shrank b d ys → Shrank a d (xs ++ ys)
shrank_on a b None xs ys first second = first ∙ ap (option_map (λ zs. xs ++ zs)) second
shrank_on a b (Some z) xs ys first second = first ∙ (ap (option_map (λ zs. xs ++ zs)) second ∙ ap Some (sym (append_assoc xs ys z)))

pub grew_none : (a b : Option (List ℕ)) → b ≡ a → Grew a b []
grew_none None b same = same
grew_none (Some z) b same = same ∙ ap Some (sym (append-nil z))

pub shrank_none : (a b : Option (List ℕ)) → b ≡ a → Shrank a b []
shrank_none a None same = sym same
shrank_none a (Some z) same = sym same

empty_left : (a b : Option (List ℕ)) → Shrank a b [] → Empty a → Empty b
empty_left a None off none = tt
empty_left a (Some z) off none = subst Empty off none

-- how it ended, with another end and behind what was written before

came_weaker : (s : ChildState) (place : ℕ) (rest written due : List ℕ) (A B : Type 0) → (A → B) → (r : Result (Unit {0}) WorkRefused) → CameTo s place rest A written due r → CameTo s place rest B written due r
came_weaker s place rest written due A B f (Ok x) (h, inl over) = (h, inl over)
came_weaker s place rest written due A B f (Ok x) (h, inr (none, a)) = (h, inr (none, f a))
came_weaker s place rest written due A B f (Err ReadFault) h = h
came_weaker s place rest written due A B f (Err WriteFault) h = h
came_weaker s place rest written due A B f (Err (BadFrame at)) (h, going, same, inl bad) = (h, going, same, inl bad)
came_weaker s place rest written due A B f (Err (BadFrame at)) (h, going, same, inr (partial, some, a)) = (h, going, same, inr (partial, some, f a))
came_weaker s place rest written due A B f (Err NoMemory) h = h

begun_behind : (first written due : List ℕ) → IsBegun written due → IsBegun (first ++ written) (first ++ due)
begun_behind first written due h =
    (length first + h.0, omega (arith, h.1, length-append first due), ap (λ z. first ++ z) h.2 ∙ sym (take-append-add first due h.0))

part_behind : (first written due : List ℕ) → IsPart written due → IsPart (first ++ written) (first ++ due)
part_behind first written due h =
    (length first + h.0, omega (arith, h.1, length-append first due), ap (λ z. first ++ z) h.2 ∙ sym (take-append-add first due h.0))

came_behind : (s : ChildState) (place : ℕ) (rest written due first : List ℕ) (A : Type 0) → (r : Result (Unit {0}) WorkRefused) → CameTo s place rest A written due r → CameTo s place rest A (first ++ written) (first ++ due) r
came_behind s place rest written due first A (Ok x) h = (ap (λ z. first ++ z) h.0, h.1)
came_behind s place rest written due first A (Err ReadFault) h = (ap (λ z. first ++ z) h.0, h.1, h.2)
came_behind s place rest written due first A (Err WriteFault) h = part_behind first written due h
came_behind s place rest written due first A (Err (BadFrame at)) h = (ap (λ z. first ++ z) h.0, h.1, h.2, h.3)
came_behind s place rest written due first A (Err NoMemory) h = begun_behind first written due h

pub turns_weaker : (s : ChildState) (place : ℕ) (rest written due : List ℕ) (now : Serving) (A B : Type 0) → (A → B) → (r : Result Bool WorkRefused) → TurnsTo s place rest A written due now r → TurnsTo s place rest B written due now r
turns_weaker s place rest written due now A B f (Ok true) h = h
turns_weaker s place rest written due now A B f (Ok false) h = came_weaker s place rest written due A B f (Ok tt) h
turns_weaker s place rest written due now A B f (Err refused) h = came_weaker s place rest written due A B f (Err refused) h

turns_behind : (s : ChildState) (place : ℕ) (rest written due first : List ℕ) (now : Serving) (A : Type 0) → (r : Result Bool WorkRefused) → TurnsTo s place rest A written due now r → TurnsTo s place rest A (first ++ written) (first ++ due) now r
turns_behind s place rest written due first now A (Ok true) h = record { complete = ap (λ z. first ++ z) h.complete; going = h.going; partial = h.partial; child = h.child; reader = h.reader }
turns_behind s place rest written due first now A (Ok false) h = came_behind s place rest written due first A (Ok tt) h
turns_behind s place rest written due first now A (Err refused) h = came_behind s place rest written due first A (Err refused) h

-- a read that gave octets

pub turns_of : (old new : Serving) (left left_now gave gave_now took took_now : Option (List ℕ)) (octets : List ℕ) (r : Result Bool WorkRefused) → Shrank left left_now octets → Grew gave gave_now octets → Hears old new octets took took_now ⊥ r → Turns old new left left_now gave gave_now took took_now r
turns_of old new left left_now gave gave_now took took_now octets r off given h = record {
  octets = octets;
  off = off;
  given = given;
  hears = record {
    frames = h.frames;
    rest = h.rest;
    written = h.written;
    spelling = h.spelling;
    admitted = h.admitted;
    whole = h.whole;
    grew = h.grew;
    turns = turns_weaker _ _ _ _ _ _ ⊥ (Empty left_now) (λ (x : ⊥). absurd x) r h.turns;
  };
}

-- nothing was said
quiet_hears : (old new : Serving) (octets : List ℕ) (took took_now : Option (List ℕ)) (end : Type 0) (r : Result Bool WorkRefused) → took_now ≡ took → TurnsTo old.child (place_after old.reader.place []) (old.reader.rest ++ octets) end [] [] new r → Hears old new octets took took_now end r
quiet_hears old new octets took took_now end r same turns = record {
  frames = [];
  rest = old.reader.rest ++ octets;
  written = [];
  spelling = All-nil HasSpelling;
  admitted = refl;
  whole = refl;
  grew = grew_none took took_now same;
  turns = turns;
}

pub hears_no_memory : (old new : Serving) (octets : List ℕ) (took took_now : Option (List ℕ)) (end : Type 0) (r : Result Bool WorkRefused) → took_now ≡ took → r ≡ Err NoMemory → Hears old new octets took took_now end r
hears_no_memory old new octets took took_now end r same is =
    quiet_hears old new octets took took_now end r same (subst (TurnsTo old.child (place_after old.reader.place []) (old.reader.rest ++ octets) end [] [] new) (sym is) (0, omega arith, refl))

-- no further frame is taken
halted : (s : ChildState) (place : ℕ) (rest due want : List ℕ) (new : Serving) (halt : Halt) → due ≡ want → new.child ≡ s → HaltsAt new.child place rest new.reader halt → TurnsTo s place rest ⊥ due want new (behind halt)
halted s place rest due want new Waits complete child h = record {
  complete = complete;
  going = ap (λ (z : ChildState). z.ended) (sym child) ∙ h.0;
  partial = h.1;
  child = child;
  reader = h.2;
}
halted s place rest due want new Ended complete child h = (complete, inl (ap (λ (z : ChildState). z.ended) (sym child) ∙ h))
halted s place rest due want new (Bad at) complete child h = (complete, ap (λ (z : ChildState). z.ended) (sym child) ∙ h.0, h.1, inl (subst (λ z. IsBad z rest) child h.2))

pub hears_halted : (old mid new : Serving) (octets due : List ℕ) (took took_now : Option (List ℕ)) (halt : Halt) → mid.child ≡ old.child → mid.reader.place ≡ old.reader.place → mid.reader.rest ≡ old.reader.rest ++ octets → TakesUpTo mid new due halt → Grew took took_now due → Hears old new octets took took_now ⊥ (behind halt)
hears_halted old mid new octets due took took_now halt child place fed t grew =
    let state : new.child ≡ after_all old.child t.frames = t.takes.child ∙ ap (λ s. after_all s t.frames) child in
    let says : due ≡ all_spelled (said old.child t.frames) = t.takes.says ∙ ap (λ s. all_spelled (said s t.frames)) child in
    let halts = subst (λ p. HaltsAt new.child (place_after p (all_spelled t.frames)) t.rest new.reader halt) place t.halts in
    record {
      frames = t.frames;
      rest = t.rest;
      written = due;
      spelling = t.takes.spelling;
      admitted = subst (λ s. admits_all s t.frames ≡ true) child t.takes.admitted;
      whole = sym fed ∙ t.takes.whole;
      grew = grew;
      turns = halted _ _ t.rest due _ new halt says state halts;
    }

-- the input failed
pub turns_failed : (old : Serving) (left left_now gave gave_now took : Option (List ℕ)) (r : Result Bool WorkRefused) → old.child.ended ≡ false → IsPartial old.reader.rest → left_now ≡ left → gave_now ≡ gave → r ≡ Err ReadFault → Turns old old left left_now gave gave_now took took r
turns_failed old left left_now gave gave_now took r going partial kept same is = record {
  octets = [];
  off = shrank_none left left_now kept;
  given = grew_none gave gave_now same;
  hears = quiet_hears old old [] took took (Empty left_now) r refl (subst (TurnsTo old.child (place_after old.reader.place []) (old.reader.rest ++ []) (Empty left_now) [] [] old) (sym is) (refl, going, subst IsPartial (sym (append-nil old.reader.rest)) partial));
}

end_turns : (old : Serving) (end : Type 0) (r : Result Bool WorkRefused) → old.child.ended ≡ false → IsPartial old.reader.rest → old.reader.place < 2 ^ 64 → end → AtEnd old r → TurnsTo old.child (place_after old.reader.place []) (old.reader.rest ++ []) end [] [] old r
end_turns old end r going partial low ended (inl (is, none)) =
    subst (TurnsTo old.child (place_after old.reader.place []) (old.reader.rest ++ []) end [] [] old) (sym is) (refl, inr (append-nil old.reader.rest ∙ none, ended))
end_turns old end r going partial low ended (inr (is, some)) =
    let whole = append-nil old.reader.rest in
    subst (TurnsTo old.child (place_after old.reader.place []) (old.reader.rest ++ []) end [] [] old) (sym is)
    (refl, going, omega arith, inr (subst IsPartial (sym whole) partial, (λ (e : old.reader.rest ++ [] ≡ []). some (sym whole ∙ e)), ended))

-- the input ended
pub turns_ended : (old : Serving) (left left_now gave gave_now took : Option (List ℕ)) (r : Result Bool WorkRefused) → old.child.ended ≡ false → IsPartial old.reader.rest → old.reader.place < 2 ^ 64 → Shrank left left_now [] → Grew gave gave_now [] → Empty left → AtEnd old r → Turns old old left left_now gave gave_now took took r
turns_ended old left left_now gave gave_now took r going partial low off given none at = record {
  octets = [];
  off = off;
  given = given;
  hears = quiet_hears old old [] took took (Empty left_now) r refl (end_turns old (Empty left_now) r going partial low (empty_left left left_now off none) at);
}

pub so_far_begun : (name : List ℕ) (left gave took took_now : Option (List ℕ)) (now : Serving) → Grew took took_now (all_spelled (greeting name)) → now.child ≡ begun → now.reader ≡ record { place = 0; rest = [] } → SoFar name left left gave gave took took_now now
so_far_begun name left gave took took_now now grew child reader =
    let rest : now.reader.rest ≡ [] = ap (λ (r : Incoming). r.rest) reader in
    record {
      frames = [];
      spelling = All-nil HasSpelling;
      admitted = refl;
      off = subst (Shrank left left) (sym rest) (shrank_none left left refl);
      given = subst (Grew gave gave) (sym rest) (grew_none gave gave refl);
      grew = grew;
      child = child;
      going = ap (λ (s : ChildState). s.ended) child;
      place = ap (λ (r : Incoming). r.place) reader;
      partial = subst IsPartial (sym rest) (inl (omega arith));
    }

-- with one read more
pub record Joined (name : List ℕ) (left left_now gave gave_now took took_now : Option (List ℕ)) (now : Serving) (r : Result Bool WorkRefused) : Type 0 where
  pub frames : List Frame
  pub rest : List ℕ
  pub written : List ℕ
  pub spelling : All HasSpelling frames
  pub admitted : admits_all begun frames ≡ true
  pub off : Shrank left left_now (all_spelled frames ++ rest)
  pub given : Grew gave gave_now (all_spelled frames ++ rest)
  pub grew : Grew took took_now written
  pub turns : TurnsTo (after_all begun frames) (place_after 0 (all_spelled frames)) rest (Empty left_now) written (all_spelled (child_run name frames)) now r

both_true : (a b : Bool) → a ≡ true → b ≡ true → (a && b) ≡ true
both_true a b h k = rw h k

pub joined : (name : List ℕ) (left mid_left left_now gave mid_gave gave_now took mid_took took_now : Option (List ℕ)) (old new : Serving) (r : Result Bool WorkRefused) → SoFar name left mid_left gave mid_gave took mid_took old → Turns old new mid_left left_now mid_gave gave_now mid_took took_now r → Joined name left left_now gave gave_now took took_now new r
joined name left mid_left left_now gave mid_gave gave_now took mid_took took_now old new r s t =
    let h = t.hears in
    let fs = s.frames in
    let gs = h.frames in
    let first = all_spelled (child_run name fs) in
    let spelt = all_spelled-append fs gs in
    let size : length (all_spelled (fs ++ gs)) ≡ length (all_spelled fs) + length (all_spelled gs) = ap length spelt ∙ length-append (all_spelled fs) (all_spelled gs) in
    let whole : (all_spelled fs ++ old.reader.rest) ++ t.octets ≡ all_spelled (fs ++ gs) ++ h.rest =
    append_assoc (all_spelled fs) old.reader.rest t.octets ∙ (ap (λ z. all_spelled fs ++ z) h.whole ∙ (sym (append_assoc (all_spelled fs) (all_spelled gs) h.rest) ∙ ap (λ z. z ++ h.rest) (sym spelt))) in
    let state : after_all old.child gs ≡ after_all begun (fs ++ gs) = ap (λ z. after_all z gs) s.child ∙ sym (after_all-append begun fs gs) in
    let place : place_after old.reader.place (all_spelled gs) ≡ place_after 0 (all_spelled (fs ++ gs)) = omega (arith, s.place, size) in
    let due : first ++ all_spelled (said old.child gs) ≡ all_spelled (child_run name (fs ++ gs)) =
    sym (all_spelled-append (child_run name fs) (said old.child gs)) ∙ ap all_spelled (ap (λ z. child_run name fs ++ said z gs) s.child ∙ (append_assoc (greeting name) (said begun fs) (said (after_all begun fs) gs) ∙ ap (λ z. greeting name ++ z) (sym (said-append begun fs gs s.admitted)))) in
    let behind = turns_behind _ _ _ _ _ first _ _ r h.turns in
    record {
      frames = fs ++ gs;
      rest = h.rest;
      written = first ++ h.written;
      spelling = All-append HasSpelling fs gs s.spelling h.spelling;
      admitted = admits_all-append begun fs gs ∙ both_true _ _ s.admitted (subst (λ z. admits_all z gs ≡ true) s.child h.admitted);
      off = subst (Shrank left left_now) whole (shrank_on left mid_left left_now _ _ s.off t.off);
      given = subst (Grew gave gave_now) whole (grew_on gave mid_gave gave_now _ _ s.given t.given);
      grew = grew_on took mid_took took_now _ _ s.grew h.grew;
      turns =
          subst (λ z. TurnsTo z (place_after 0 (all_spelled (fs ++ gs))) h.rest (Empty left_now) (first ++ h.written) (all_spelled (child_run name (fs ++ gs))) new r) state
          (subst (λ p. TurnsTo (after_all old.child gs) p h.rest (Empty left_now) (first ++ h.written) (all_spelled (child_run name (fs ++ gs))) new r) place
          (subst (λ z. TurnsTo (after_all old.child gs) (place_after old.reader.place (all_spelled gs)) h.rest (Empty left_now) (first ++ h.written) z new r) due behind));
    }

pub so_far_more : (name : List ℕ) (left left_now gave gave_now took took_now : Option (List ℕ)) (now : Serving) → Joined name left left_now gave gave_now took took_now now (Ok true) → SoFar name left left_now gave gave_now took took_now now
so_far_more name left left_now gave gave_now took took_now now j =
    let rest : now.reader.rest ≡ j.rest = ap (λ (r : Incoming). r.rest) j.turns.reader in
    record {
      frames = j.frames;
      spelling = j.spelling;
      admitted = j.admitted;
      off = subst (λ z. Shrank left left_now (all_spelled j.frames ++ z)) (sym rest) j.off;
      given = subst (λ z. Grew gave gave_now (all_spelled j.frames ++ z)) (sym rest) j.given;
      grew = subst (Grew took took_now) j.turns.complete j.grew;
      child = j.turns.child;
      going = ap (λ (s : ChildState). s.ended) j.turns.child ∙ j.turns.going;
      place = ap (λ (r : Incoming). r.place) j.turns.reader;
      partial = subst IsPartial (sym rest) j.turns.partial;
    }

worked_of : (name : List ℕ) (left left_now gave gave_now took took_now : Option (List ℕ)) (now : Serving) (r : Result Bool WorkRefused) (worked : Result (Unit {0}) WorkRefused) → ((s : ChildState) (place : ℕ) (rest : List ℕ) (end : Type 0) (written due : List ℕ) → TurnsTo s place rest end written due now r → CameTo s place rest end written due worked) → Joined name left left_now gave gave_now took took_now now r → Worked name left left_now gave gave_now took took_now worked
worked_of name left left_now gave gave_now took took_now now r worked came j = record {
  frames = j.frames;
  rest = j.rest;
  written = j.written;
  spelling = j.spelling;
  admitted = j.admitted;
  off = j.off;
  given = j.given;
  grew = j.grew;
  came = came _ _ _ _ _ _ j.turns;
}

pub worked_done : (name : List ℕ) (left left_now gave gave_now took took_now : Option (List ℕ)) (now : Serving) → Joined name left left_now gave gave_now took took_now now (Ok false) → Worked name left left_now gave gave_now took took_now (Ok tt)
worked_done name left left_now gave gave_now took took_now now j = worked_of name left left_now gave gave_now took took_now now (Ok false) (Ok tt) (λ s place rest end written due came. came) j

pub worked_refused : (name : List ℕ) (left left_now gave gave_now took took_now : Option (List ℕ)) (now : Serving) (refused : WorkRefused) → Joined name left left_now gave gave_now took took_now now (Err refused) → Worked name left left_now gave gave_now took took_now (Err refused)
worked_refused name left left_now gave gave_now took took_now now refused j = worked_of name left left_now gave gave_now took took_now now (Err refused) (Err refused) (λ s place rest end written due came. came) j

-- the reads came to their last
pub worked_spent : (name : List ℕ) (left left_now gave gave_now took took_now : Option (List ℕ)) (now : Serving) → SoFar name left left_now gave gave_now took took_now now → Worked name left left_now gave gave_now took took_now (Err NoMemory)
worked_spent name left left_now gave gave_now took took_now now s = record {
  frames = s.frames;
  rest = now.reader.rest;
  written = all_spelled (child_run name s.frames);
  spelling = s.spelling;
  admitted = s.admitted;
  off = s.off;
  given = s.given;
  grew = s.grew;
  came = (length (all_spelled (child_run name s.frames)), omega arith, sym (take_all (length (all_spelled (child_run name s.frames))) (all_spelled (child_run name s.frames)) (omega arith)));
}

-- nothing was read
pub worked_unbegun : (name : List ℕ) (left gave took took_now : Option (List ℕ)) (refused : WorkRefused) → Unanswered refused
    → (refused ≡ WriteFault → GrewByPart took took_now (all_spelled (greeting name))) → (refused ≡ NoMemory → took_now ≡ took) → Worked name left left gave gave took took_now (Err refused)
worked_unbegun name left gave took took_now WriteFault h part starved =
    let grew = part refl in record {
      frames = [];
      rest = [];
      written = take grew.0 (all_spelled (greeting name));
      spelling = All-nil HasSpelling;
      admitted = refl;
      off = shrank_none left left refl;
      given = grew_none gave gave refl;
      grew = grew.2;
      came = (grew.0, grew.1, refl);
    }
worked_unbegun name left gave took took_now NoMemory h part starved = record {
  frames = [];
  rest = [];
  written = [];
  spelling = All-nil HasSpelling;
  admitted = refl;
  off = shrank_none left left refl;
  given = grew_none gave gave refl;
  grew = grew_none took took_now (starved refl);
  came = (0, omega arith, refl);
}
worked_unbegun name left gave took took_now ReadFault h part starved = absurd h
worked_unbegun name left gave took took_now (BadFrame at) h part starved = absurd h
