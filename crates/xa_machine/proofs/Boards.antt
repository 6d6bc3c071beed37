-- The rows that are kept of each version of the board.
use Rattle.std.proofs.Common.{◌≡◌, ℕ, suc, ◌+◌, ◌-◌, ◌<◌, ◌≤◌, ◌==◌, ◌||◌, ◌&&◌, min, Bool, true, false, cond, List, [], ◌∷◌, ◌++◌, length, drop, get_or, Option, Some, None, inl, inr, refl, sym, ◌∙◌, ap, arith, length-append, add-one}
use Rattle.std.specs.List.{list_any, cons_option}
use Rattle.std.specs.Str.{bytes_eq}
use Rattle.std.proofs.lemmas.Bool.{cases_Bool, cases_eq, cases_lt, and_parts}
use Rattle.std.proofs.lemmas.Slice.Eq.{bytes_eq-Decides}
use Rattle.std.proofs.Math.Seq.{get_or-append_seam}
use Rattle.std.proofs.Math.ListN.{get_or-append}
use Rattle.xa_types.specs.declared.row.Row.{Row}
use Rattle.xa_types.specs.declared.setup.Setup.{Setup}
use Rattle.xa_types.specs.Rows.{Change, Put, Remove, rows, rows_at, is_row_of, row_of}
use Rattle.xa_events.specs.declared.event.Event.{Event}
use Rattle.xa_events.specs.Board.{change_in, changes, published, rows_of_version}
use Rattle.xa_machine.specs.declared.standing.Version.{Version}
use Rattle.xa_machine.specs.Versions.{rows_after, next_rows, VersionsShow}

changes_more : (e : Event) (past : List Event) → changes (e ∷ past) ≡ cons_option (change_in e) (changes past)
unfolding changes
changes_more e past = refl

-- a version that isn't made yet reads as the last
late_version : (setup : Setup) (cs : List Change) (v : ℕ) → length cs ≤ v → rows_at setup cs v ≡ rows setup cs
late_version setup cs v late = let none : length cs - v ≡ 0 = omega (arith, late) in ap (λ n. rows setup (drop n cs)) none

older_version : (setup : Setup) (c : Change) (cs : List Change) (v : ℕ) → v ≤ length cs → rows_at setup (c ∷ cs) v ≡ rows_at setup cs v
older_version setup c cs v older = let one : length (c ∷ cs) - v ≡ suc (length cs - v) = omega (arith, older) in ap (λ n. rows setup (drop n (c ∷ cs))) one

rows_more : (setup : Setup) (c : Change) (cs : List Change) → rows setup (c ∷ cs) ≡ rows_after setup c (rows setup cs)
rows_more setup (Put service queue routine) cs = refl
rows_more setup (Remove service queue) cs = refl

version_is : (setup : Setup) (past : List Event) (v : ℕ) → rows_of_version setup past v ≡ rows_at setup (changes past) v
unfolding rows_of_version
version_is setup past v = refl

-- the rows that stand
pub standing_is : (setup : Setup) (past : List Event) → rows_of_version setup past (published past) ≡ rows setup (changes past)
unfolding published
standing_is setup past = version_is setup past (length (changes past)) ∙ late_version setup (changes past) (length (changes past)) (omega arith)

pub version_put : (setup : Setup) (e : Event) (c : Change) (past : List Event) (versions : List Version) (one : Version) → change_in e ≡ Some c → one.rows.items ≡ rows_after setup c (rows setup (changes past))
    → VersionsShow setup past versions → VersionsShow setup (e ∷ past) (versions ++ one ∷ [])
version_put setup e c past versions one is stands was =
    let more : changes (e ∷ past) ≡ c ∷ changes past = changes_more e past ∙ ap (λ o. cons_option o (changes past)) is in
    let many : length (versions ++ one ∷ []) ≡ length (changes past) + 1 + 1 = omega (arith, length-append versions (one ∷ []), was.many) in
    record {
      many = many ∙ (ap (λ n. n + 1) (add-one (length (changes past))) ∙ ap (λ cs. length cs + 1) (sym more));
      each = λ v d l. elim (cases_eq v (length versions)) [
        | inl at ↦
            let last : rows_of_version setup (e ∷ past) v ≡ rows setup (c ∷ changes past) =
            version_is setup (e ∷ past) v ∙ (ap (λ cs. rows_at setup cs v) more ∙ late_version setup (c ∷ changes past) v (let n = was.many in omega (arith, at, n))) in
            ap (λ (k : ℕ). (get_or (versions ++ one ∷ []) k d).rows.items) at ∙ (ap (λ (x : Version). x.rows.items) (get_or-append_seam versions one [] d) ∙ (stands ∙ (sym (rows_more setup c (changes past)) ∙ sym last)))
        | inr ne ↦
            let near : v < length versions = omega (arith, length-append versions (one ∷ [])) in
            ap (λ (x : Version). x.rows.items) (get_or-append versions (one ∷ []) d v near) ∙ (was.each v d near ∙ (version_is setup past v
            ∙ (sym (older_version setup c (changes past) v (let n = was.many in omega (arith, near, n))) ∙ (ap (λ cs. rows_at setup cs v) (sym more) ∙ sym (version_is setup (e ∷ past) v)))))
      ];
    }

pub version_same : (setup : Setup) (e : Event) (past : List Event) (versions : List Version) → change_in e ≡ None → VersionsShow setup past versions → VersionsShow setup (e ∷ past) versions
version_same setup e past versions is was =
    let same : changes (e ∷ past) ≡ changes past = changes_more e past ∙ ap (λ o. cons_option o (changes past)) is in
    record {
      many = was.many ∙ ap (λ cs. length cs + 1) (sym same);
      each = λ v d l. was.each v d l ∙ (version_is setup past v ∙ (ap (λ cs. rows_at setup cs v) (sym same) ∙ sym (version_is setup (e ∷ past) v)));
    }

-- what follows of the change, by what the next rows are
pub version_noted : (setup : Setup) (e : Event) (past : List Event) (versions : List Version) (one : Version) (o : Option Change) → change_in e ≡ o → Some one.rows.items ≡ next_rows setup o (rows setup (changes past))
    → VersionsShow setup past versions → VersionsShow setup (e ∷ past) (versions ++ one ∷ [])
version_noted setup e past versions one None is next was = absurd (cc next)
version_noted setup e past versions one (Some c) is next was = let same : one.rows.items ≡ rows_after setup c (rows setup (changes past)) = cc next in version_put setup e c past versions one is same was

pub none_noted : (setup : Setup) (e : Event) (past : List Event) (versions : List Version) (o : Option Change) → change_in e ≡ o → None ≡ next_rows setup o (rows setup (changes past))
    → VersionsShow setup past versions → VersionsShow setup (e ∷ past) versions
none_noted setup e past versions None is next was = version_same setup e past versions is was
none_noted setup e past versions (Some c) is next was = absurd (cc next)

pub rows_read : (setup : Setup) (past : List Event) (versions : List Version) (v place : ℕ) (d : Version) → 0 < length versions → VersionsShow setup past versions → place ≡ min v (length versions - 1)
    → (get_or versions place d).rows.items ≡ rows_of_version setup past v
rows_read setup past versions v place d some shows is = elim (cases_lt v (length versions)) [
  | inl near ↦
      let at : place ≡ v = omega (arith, is, near) in ap (λ (k : ℕ). (get_or versions k d).rows.items) at ∙ shows.each v d near
  | inr far ↦
      let inside : place < length versions = omega (arith, is, some) in
      let n = shows.many in
      let late : length (changes past) ≤ place = omega (arith, is, far, n) in
      let later : length (changes past) ≤ v = omega (arith, far, n) in
      shows.each place d inside ∙ (version_is setup past place ∙ (late_version setup (changes past) place late ∙ (sym (late_version setup (changes past) v later) ∙ sym (version_is setup past v))))
]

pub first_shows : (setup : Setup) (one : Version) → one.rows.items ≡ [] → VersionsShow setup [] (one ∷ [])
unfolding changes rows_of_version
first_shows setup one none = record {
  many = refl;
  each = λ v d l. let zero_is : v ≡ 0 = omega (arith, l) in ap (λ (k : ℕ). (get_or (one ∷ []) k d).rows.items) zero_is ∙ (none ∙ sym (late_version setup [] v (omega arith)));
}

-- ---- no row of a queue

pub none_found : (queue : ℕ) (xs : List Row) → list_any (λ row. row.queue.0 == queue) xs ≡ false → (service : List ℕ) → row_of service queue xs ≡ None
none_found queue [] h service = refl
none_found queue (x ∷ xs) h service = elim (cases_Bool (x.queue.0 == queue)) [
  | inl y ↦ absurd (cc (y, h))
  | inr n ↦
      let rest : list_any (λ row. row.queue.0 == queue) xs ≡ false = sym (ap (λ b. b || list_any (λ row. row.queue.0 == queue) xs) n) ∙ h in
      elim (cases_Bool (is_row_of service queue x)) [
        | inl own ↦ absurd (cc (n, (and_parts (bytes_eq x.service service) (x.queue.0 == queue) own).1))
        | inr other ↦ ap (λ b. cond b (Some x) (row_of service queue xs)) other ∙ none_found queue xs rest service
      ]
]

pub found_none : (queue : ℕ) (xs : List Row) → ((service : List ℕ) → row_of service queue xs ≡ None) → list_any (λ row. row.queue.0 == queue) xs ≡ false
found_none queue [] h = refl
found_none queue (x ∷ xs) h = elim (cases_Bool (x.queue.0 == queue)) [
  | inl y ↦
      let own : is_row_of x.service queue x ≡ true = ap (λ b. bytes_eq x.service x.service && b) y ∙ (ap (λ b. b && true) ((bytes_eq-Decides x.service x.service).1 refl)) in
      absurd (cc (h x.service, ap (λ b. cond b (Some x) (row_of x.service queue xs)) own))
  | inr n ↦ ap (λ b. b || list_any (λ row. row.queue.0 == queue) xs) n ∙ found_none queue xs (λ service. later service (is_row_of service queue x) refl n)
]
  where
    later : (service : List ℕ) (b : Bool) → is_row_of service queue x ≡ b → (x.queue.0 == queue) ≡ false → row_of service queue xs ≡ None
    later service true own n = absurd (cc (n, (and_parts (bytes_eq x.service service) (x.queue.0 == queue) own).1))
    later service false other n = sym (ap (λ b. cond b (Some x) (row_of service queue xs)) other) ∙ h service

pub many_is : (setup : Setup) (past : List Event) (versions : List Version) → VersionsShow setup past versions → length versions ≡ published past + 1
unfolding published
many_is setup past versions shows = shows.many
