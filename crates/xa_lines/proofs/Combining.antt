-- How fields are put together: what is read is spelled so, and what is spelled so is read.
use Rattle.std.proofs.Common.{◌≡◌, ℕ, Bool, true, false, cond, eqb, List, [], ◌∷◌, ◌++◌, length, Option, Some, None, refl, sym, ap, subst, ◌∙◌, append_assoc}
use Rattle.std.specs.List.{list_all}
use Rattle.std.specs.Str.{bytes_eq}
use Rattle.std.proofs.lemmas.Bool.{eqb-true, and_from, and_parts}
use Rattle.std.proofs.lemmas.Option.{cond_some, same_Some}
use Rattle.std.proofs.lemmas.List.{append-nil, nil_from_length}
use Rattle.std.proofs.lemmas.Slice.Eq.{bytes_eq-Decides}
use Rattle.xa_lines.specs.Reading.{◌>>=◌, one, both, said, nothing, by_word, pick, whole}
use Rattle.xa_lines.proofs.Cutting.{is_word}

abbrev pub Words : Type 0
Words = List (List ℕ)

-- the value of a step that did not fail
pub bind_some : {A B : Type 0} (r : Option A) (f : A → Option B) (y : B) → (r >>= f) ≡ Some y → (x : A) × (r ≡ Some x) × (f x ≡ Some y)
bind_some (Some x) f y e = (x, refl, e)
bind_some None f y e = absurd cc

-- nothing is read where no value can be
pub none_if : {A : Type 0} (r : Option A) → ((x : A) → r ≡ Some x → ⊥) → r ≡ None
none_if None h = refl
none_if (Some x) h = absurd (h x refl)

pub same_bytes : (xs ys : List ℕ) → bytes_eq xs ys ≡ true → xs ≡ ys
same_bytes xs ys e = (bytes_eq-Decides xs ys).0 e

pub bytes_refl : (xs : List ℕ) → bytes_eq xs xs ≡ true
bytes_refl xs = (bytes_eq-Decides xs xs).1 refl

-- a reader of a word reads the values that fit, each spelled so, and no others
pub record IsWordOf {A : Type 0} (read : List ℕ → Option A) (spell : A → List ℕ) (Fits : A → Type 0) : Type 0 where
  pub takes : (word : List ℕ) (v : A) → read word ≡ Some v → (word ≡ spell v) × Fits v
  pub again : (v : A) → Fits v → read (spell v) ≡ Some v
  pub inner : (v : A) → Fits v → is_word (spell v) ≡ true

-- the same of a field
pub record IsField {A : Type 0} (read : Words → Option (A × Words)) (text : A → Words) (Fits : A → Type 0) : Type 0 where
  pub takes : (words : Words) (x : A × Words) → read words ≡ Some x → (words ≡ text x.0 ++ x.1) × Fits x.0
  pub again : (v : A) (rest : Words) → Fits v → read (text v ++ rest) ≡ Some (v, rest)
  pub inner : (v : A) → Fits v → list_all is_word (text v) ≡ true

pub one_is : {A : Type 0} {of : List ℕ → Option A} {spell : A → List ℕ} {Fits : A → Type 0} → IsWordOf of spell Fits → IsField (one of) (λ v. spell v ∷ []) Fits
one_is {A} {of} {spell} {Fits} is = record {
  takes = λ words x e. taken words x e;
  again = λ v rest h. ap (λ (r : Option A). r >>= λ w. Some (w, rest)) (is.again v h);
  inner = λ v h. and_from (is_word (spell v)) true (is.inner v h) refl;
} where
  taken : (words : Words) (x : A × Words) → one of words ≡ Some x → (words ≡ spell x.0 ∷ x.1) × Fits x.0
  taken [] x e = absurd cc
  taken (word ∷ words) x e =
      let v = bind_some (of word) (λ v. Some (v, words)) x e in
      let t = is.takes word v.0 v.1 in
      subst (λ (y : A × Words). (word ∷ words ≡ spell y.0 ∷ y.1) × Fits y.0) (same_Some (v.0, words) x v.2) (ap (λ (w : List ℕ). w ∷ words) t.0, t.1)

inner_append : (xs ys : Words) → list_all is_word xs ≡ true → list_all is_word ys ≡ true → list_all is_word (xs ++ ys) ≡ true
inner_append [] ys h k = k
inner_append (x ∷ xs) ys h k =
    let parts = and_parts (is_word x) (list_all is_word xs) h in
    and_from (is_word x) (list_all is_word (xs ++ ys)) parts.0 (inner_append xs ys parts.1 k)

pub both_is : {A B : Type 0} {f : Words → Option (A × Words)} {g : Words → Option (B × Words)} {s : A → Words} {t : B → Words} {P : A → Type 0} {Q : B → Type 0}
    → IsField f s P → IsField g t Q → IsField (both f g) (λ v. s v.0 ++ t v.1) (λ v. P v.0 × Q v.1)
both_is {A} {B} {f} {g} {s} {t} {P} {Q} p q = record {
  takes = λ words x e. taken words x e;
  again = λ v rest h. found v rest h;
  inner = λ v h. inner_append (s v.0) (t v.1) (p.inner v.0 h.0) (q.inner v.1 h.1);
} where
  taken : (words : Words) (x : (A × B) × Words) → both f g words ≡ Some x → (words ≡ (s x.0.0 ++ t x.0.1) ++ x.1) × (P x.0.0 × Q x.0.1)
  taken words x e =
      let a = bind_some (f words) (λ a. g a.1 >>= λ b. Some ((a.0, b.0), b.1)) x e in
      let b = bind_some (g a.0.1) (λ b. Some ((a.0.0, b.0), b.1)) x a.2 in
      let first = p.takes words a.0 a.1 in
      let second = q.takes a.0.1 b.0 b.1 in
      subst (λ (y : (A × B) × Words). (words ≡ (s y.0.0 ++ t y.0.1) ++ y.1) × (P y.0.0 × Q y.0.1)) (same_Some ((a.0.0, b.0.0), b.0.1) x b.2)
      (first.0 ∙ ap (λ (r : Words). s a.0.0 ++ r) second.0 ∙ sym (append_assoc (s a.0.0) (t b.0.0) b.0.1), (first.1, second.1))

  found : (v : A × B) (rest : Words) → P v.0 × Q v.1 → both f g ((s v.0 ++ t v.1) ++ rest) ≡ Some (v, rest)
  found v rest h =
      ap (both f g) (append_assoc (s v.0) (t v.1) rest)
      ∙ ap (λ (r : Option (A × Words)). r >>= λ a. g a.1 >>= λ b. Some ((a.0, b.0), b.1)) (p.again v.0 (t v.1 ++ rest) h.0)
      ∙ ap (λ (r : Option (B × Words)). r >>= λ b. Some ((v.0, b.0), b.1)) (q.again v.1 rest h.1)

pub nothing_is : IsField nothing (λ _. []) (λ _. Unit {0})
nothing_is = record {
  takes = λ words x e. subst (λ (y : Unit {0} × Words). (words ≡ y.1) × Unit {0}) (same_Some (tt, words) x e) (refl, tt);
  again = λ v rest h. refl;
  inner = λ v h. refl;
}

-- a field that says another value
pub said_takes : {A B : Type 0} {f : Words → Option (A × Words)} {s : A → Words} {P : A → Type 0} (is : IsField f s P) (to : A → B) (words : Words) (x : B × Words) → said to f words ≡ Some x
    → (v : A) × (words ≡ s v ++ x.1) × P v × (to v ≡ x.0)
said_takes {A} {B} {f} {s} {P} is to words x e =
    let v = bind_some (f words) (λ a. Some (to a.0, a.1)) x e in
    let t = is.takes words v.0 v.1 in
    let same = same_Some (to v.0.0, v.0.1) x v.2 in
    (v.0.0, t.0 ∙ ap (λ (y : B × Words). s v.0.0 ++ y.1) same, t.1, ap (λ (y : B × Words). y.0) same)

pub said_again : {A B : Type 0} {f : Words → Option (A × Words)} {s : A → Words} {P : A → Type 0} (is : IsField f s P) (to : A → B) (v : A) (rest : Words) → P v → said to f (s v ++ rest) ≡ Some (to v, rest)
said_again {A} is to v rest h = ap (λ (r : Option (A × Words)). r >>= λ a. Some (to a.0, a.1)) (is.again v rest h)

-- ---- one of several fields

-- what was read behind the first word is spelled so
abbrev pub Spells : {B : Type 0} (text : B → Words) (Fits : B → Type 0) (word : List ℕ) (words : Words) (x : B × Words) → Type 0
Spells text Fits word words x = (word ∷ words ≡ text x.0 ++ x.1) × Fits x.0

-- the field with that word, or another of them
pub chosen : {A B : Type 0} {f : Words → Option (A × Words)} {s : A → Words} {P : A → Type 0} (is : IsField f s P) (to : A → B) (text : B → Words) (Fits : B → Type 0) (name : List ℕ)
    → ((v : A) → name ∷ s v ≡ text (to v)) → ((v : A) → P v → Fits (to v)) → (word : List ℕ) (words : Words) (x : B × Words) → (others : Option (B × Words))
    → (others ≡ Some x → Spells text Fits word words x)
    → cond (bytes_eq word name) (said to f words) others ≡ Some x → Spells text Fits word words x
chosen {A} {B} {f} {s} {P} is to text Fits name same sound word words x others more e = by (bytes_eq word name) refl e where
  here : word ≡ name → said to f words ≡ Some x → Spells text Fits word words x
  here t e =
      let v = said_takes is to words x e in
      let whole : word ∷ words ≡ text (to v.0) ++ x.1 = ap (λ (w : List ℕ). w ∷ words) t ∙ ap (λ (ws : Words). name ∷ ws) v.1 ∙ ap (λ (ws : Words). ws ++ x.1) (same v.0) in
      subst (λ (y : B). (word ∷ words ≡ text y ++ x.1) × Fits y) v.3 (whole, sound v.0 v.2)

  by : (b : Bool) → bytes_eq word name ≡ b → cond b (said to f words) others ≡ Some x → Spells text Fits word words x
  by true t e = here (same_bytes word name t) e
  by false t e = more e

-- a reader of fields, of each of which is shown that it is read so
pub by_word_is : {B : Type 0} (form : List ℕ → Words → Option (B × Words)) (text : B → Words) (Fits : B → Type 0)
    → ((word : List ℕ) (words : Words) (x : B × Words) → form word words ≡ Some x → Spells text Fits word words x)
    → ((v : B) (rest : Words) → Fits v → by_word form (text v ++ rest) ≡ Some (v, rest))
    → ((v : B) → Fits v → list_all is_word (text v) ≡ true) → IsField (by_word form) text Fits
by_word_is {B} form text Fits taken again inner = record { takes = λ words x e. all words x e; again = again; inner = inner } where
  all : (words : Words) (x : B × Words) → by_word form words ≡ Some x → (words ≡ text x.0 ++ x.1) × Fits x.0
  all [] x e = absurd cc
  all (word ∷ words) x e = taken word words x e

-- ---- a value that a word names

pick_by : {A : Type 0} (b : Bool) (word_of : A → List ℕ) (x : A) (others : Option A) (word : List ℕ) (v : A) → bytes_eq word (word_of x) ≡ b → (others ≡ Some v → word ≡ word_of v) → cond b (Some x) others ≡ Some v → word ≡ word_of v
pick_by true word_of x others word v t more e = same_bytes word (word_of x) t ∙ ap word_of (same_Some x v e)
pick_by false word_of x others word v t more e = more e

pub pick_takes : {A : Type 0} (word_of : A → List ℕ) (vs : List A) (word : List ℕ) (v : A) → pick word_of vs word ≡ Some v → word ≡ word_of v
pick_takes word_of [] word v e = absurd cc
pick_takes word_of (x ∷ vs) word v e = pick_by (bytes_eq word (word_of x)) word_of x (pick word_of vs word) word v refl (λ h. pick_takes word_of vs word v h) e

-- ---- all words

pub whole_takes : {A : Type 0} {f : Words → Option (A × Words)} {s : A → Words} {P : A → Type 0} → IsField f s P → (words : Words) (v : A) → whole f words ≡ Some v → (words ≡ s v) × P v
whole_takes {A} {f} {s} {P} is words v e =
    let x = bind_some (f words) (λ a. cond (eqb (length a.1) 0) (Some a.0) None) v e in
    let g = cond_some (eqb (length x.0.1) 0) x.0.0 v x.2 in
    let t = is.takes words x.0 x.1 in
    let end : x.0.1 ≡ [] = nil_from_length x.0.1 (eqb-true _ _ g.0) in
    let all : words ≡ s x.0.0 = t.0 ∙ ap (λ (ws : Words). s x.0.0 ++ ws) end ∙ append-nil (s x.0.0) in
    subst (λ (y : A). (words ≡ s y) × P y) g.1 (all, t.1)

pub whole_again : {A : Type 0} {f : Words → Option (A × Words)} {s : A → Words} {P : A → Type 0} → IsField f s P → (v : A) → P v → whole f (s v) ≡ Some v
whole_again {A} {f} {s} {P} is v h =
    ap (whole f) (sym (append-nil (s v)))
    ∙ ap (λ (r : Option (A × Words)). r >>= λ a. cond (eqb (length a.1) 0) (Some a.0) None) (is.again v [] h)
