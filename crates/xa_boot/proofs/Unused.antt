-- A queue to which nothing came, as its lock is ended.
use Rattle.std.proofs.Common.{◌≡◌, ℕ, zero, suc, ◌<◌, ◌==◌, true, false, cond, List, [], ◌∷◌, length, get_or, map, refl, sym, ◌∙◌, ap, subst, arith, eq-eqb, ne_eqb}
use Rattle.std.specs.List.{All, Contains}
use Rattle.std.proofs.lemmas.List.Elements.{All-head, All-tail}
use Rattle.xa_client_worker.specs.xa_lock.declared.makers.Made.{Made}
use Rattle.xa_client_worker.specs.xa_lock.declared.guarded.Guarded.{Guarded}
use Rattle.xa_client_worker.specs.xa_lock.declared.pass.LockPass.{LockPass}
use Rattle.xa_client_worker.specs.xa_lock.Known.{known as page_of, passes_of}
use Rattle.xa_client_worker.specs.xa_lock.Pages.{Knows, entries_by, first_own}
use Rattle.xa_client_worker.specs.xa_queue.declared.entry.Entry.{Entry}
use Rattle.xa_client_worker.specs.xa_held.declared.cargo.Cargo.{Cargo}
use Rattle.xa_client_worker.specs.xa_held.declared.kept_queue.KeptQueue.{KeptQueue}
use Rattle.xa_client_worker.specs.xa_held.declared.kept_queue.QueueNote.{QueueNote}
use Rattle.xa_client_worker.specs.xa_held.declared.kept_queue.QueueNote.TheVariants.{Opened, By}
use Rattle.xa_client_worker.specs.xa_held.declared.kept_queue.Setting.{Setting}
use Rattle.xa_client_worker.specs.xa_held.Notes.{maker_of}
use Rattle.xa_client_worker.specs.xa_held.Kept.{Kept, IsBrought, setting_of, notes_of}
use Rattle.xa_client_worker.specs.xa_caller.declared.cargo.Filling.{Filling}
use Rattle.xa_boot.specs.Locking.{IsFresh}

-- an event would be one of its maker's pass, which knows of none
by_none : (its opened : Setting Filling) (m : Made) (more : List (QueueNote Filling)) (maker : ℕ) → m.maker.0 ≡ maker → entries_by maker_of maker (Opened opened ∷ By m ∷ more) ≡ first_own (Opened its ∷ []) maker → ⊥
by_none its opened m more zero is own =
    let rest = entries_by maker_of 0 more in
    let here : (m.maker.0 == 0) ≡ true = eq-eqb m.maker.0 0 is in
    let two : (Opened opened) ∷ By m ∷ rest ≡ Opened its ∷ [] = sym (ap (λ b. (Opened opened) ∷ cond b (By m ∷ rest) rest) here) ∙ own in
    absurd (cc two)
by_none its opened m more (suc k) is own =
    let rest = entries_by maker_of (suc k) more in
    let both = entries_by maker_of (suc k) (By m ∷ more) in
    let here : (m.maker.0 == suc k) ≡ true = eq-eqb m.maker.0 (suc k) is in
    let other : (0 == suc k) ≡ false = ne_eqb 0 (suc k) (λ same. omega (arith, same)) in
    let some : By m ∷ rest ≡ [] = sym (ap (λ b. cond b (By m ∷ rest) rest) here) ∙ sym (ap (λ b. cond b (Opened opened ∷ both) both) other) ∙ own in
    absurd (cc some)

module _ (its : Setting Filling) (queue : Guarded (KeptQueue Filling) (QueueNote Filling)) (passes : List (LockPass (QueueNote Filling))) (fresh : IsFresh its queue passes) (d : LockPass (QueueNote Filling)) where
  no_entries : (kept : Kept Filling) (entries : List Made) → entries ≡ kept.queue.entries → All (λ pass. Knows maker_of (page_of pass) (notes_of kept)) passes → All (λ e. maker_of e < passes_of queue) (notes_of kept) → entries ≡ []
  no_entries kept [] is knows makers = refl
  no_entries kept (m ∷ more) is knows makers =
      let notes : List (QueueNote Filling) = Opened (setting_of kept) ∷ By m ∷ map By more in
      let same : notes_of kept ≡ notes = ap (λ (l : List Made). Opened (setting_of kept) ∷ map By l) (sym is) in
      let P : QueueNote Filling → Type 0 = λ (e : QueueNote Filling). maker_of e < passes_of queue in
      let one : m.maker.0 < passes_of queue = All-head P (By m) (map By more) (All-tail P (Opened (setting_of kept)) (By m ∷ map By more) (subst (All P) same makers)) in
      let all = fresh.all in
      let within : m.maker.0 < length passes = omega (arith, one, all) in
      let page = fresh.page m.maker.0 d within in
      let knew = subst (λ p. Knows maker_of p notes) page (subst (Knows maker_of (page_of (get_or passes m.maker.0 d))) same (knows m.maker.0 d within)) in
      absurd (by_none its (setting_of kept) m (map By more) m.maker.0 refl knew.0)

nobody : (entries : List Made) (waiting : List (Entry (Cargo Filling))) → entries ≡ [] → All (IsBrought entries) waiting → waiting ≡ []
nobody entries [] none brought = refl
nobody entries (w ∷ waiting) none brought = absurd (subst (λ (l : List Made). (x : Made) → Contains l x → ⊥) (sym none) (λ x here. absurd (omega (arith, here.1))) _ (All-head (IsBrought entries) w waiting brought).stands)

-- where a pass is there, no event came and nothing waits
pub none_waits : (its : Setting Filling) (queue : Guarded (KeptQueue Filling) (QueueNote Filling)) (passes : List (LockPass (QueueNote Filling))) (kept : Kept Filling) (waiting : List (Entry (Cargo Filling))) → IsFresh its queue passes → 0 < length passes
    → waiting ≡ kept.queue.waiting → All (λ pass. Knows maker_of (page_of pass) (notes_of kept)) passes → All (λ e. maker_of e < passes_of queue) (notes_of kept) → All (IsBrought kept.queue.entries) kept.queue.waiting → waiting ≡ []
none_waits its queue [] kept waiting fresh some is knows makers brought = absurd (omega (arith, some))
none_waits its queue (pass ∷ passes) kept waiting fresh some is knows makers brought =
    is ∙ nobody kept.queue.entries kept.queue.waiting (no_entries its queue (pass ∷ passes) fresh pass kept kept.queue.entries refl knows makers) brought
