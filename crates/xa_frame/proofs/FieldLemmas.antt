-- How fields are put together: what is read is spelled so, and what is spelled so is read.
use Rattle.std.proofs.Common.{◌≡◌, ℕ, suc, ◌+◌, ◌<◌, Bool, true, false, cond, eqb, List, [], ◌∷◌, ◌++◌, length, get_or, take, drop, Option, Some, None, refl, sym, ap, subst, ◌∙◌, append_assoc, arith, inl, inr}
use Rattle.std.proofs.lemmas.Bool.{cases_lt, eqb-true}
use Rattle.std.proofs.lemmas.Option.{cond_some, same_Some}
use Rattle.std.proofs.lemmas.List.{append-nil, nil_from_length, length-take, get_or-drop, get_or-take, get_or_past}
use Rattle.xa_frame.specs.Reading.{◌>>=◌, nothing, last, before, said, octet_at, octet_as, by_octet, pick}

abbrev pub IsBytes : List ℕ → Type 0
IsBytes bytes = (i : ℕ) → get_or bytes i 0 < 256

pub IsBytes-drop : (n : ℕ) (bytes : List ℕ) → IsBytes bytes → IsBytes (drop n bytes)
IsBytes-drop n bytes h i = rw get_or-drop (h (n + i))

pub IsBytes-take : (n : ℕ) (bytes : List ℕ) → IsBytes bytes → IsBytes (take n bytes)
IsBytes-take n bytes h i =
    elim (cases_lt i n) [
      | inl lt ↦ rw (get_or-take n bytes i 0 lt) (h i)
      | inr le ↦ rw (get_or_past (take n bytes) i 0 (omega (arith, length-take n bytes))) (omega arith)
    ]

pub IsBytes-rest : (b : ℕ) (bytes : List ℕ) → IsBytes (b ∷ bytes) → IsBytes bytes
IsBytes-rest b bytes h i = h (suc i)

-- the value of a step that did not fail
pub bind_some : {A B : Type 0} (r : Option A) (f : A → Option B) (y : B) → (r >>= f) ≡ Some y → (x : A) × (r ≡ Some x) × (f x ≡ Some y)
bind_some (Some x) f y e = (x, refl, e)
bind_some None f y e = absurd cc

-- a test that did not refuse
pub guard_some : {A : Type 0} (b : Bool) (x y : A) → cond b None (Some x) ≡ Some y → (b ≡ false) × (x ≡ y)
guard_some true x y e = absurd cc
guard_some false x y e = (refl, same_Some x y e)

-- what a reader took from the front
pub record Takes (bytes text rest : List ℕ) : Type 0 where
  pub parts : bytes ≡ text ++ rest
  pub rest_fits : IsBytes rest

pub Takes-then : (a x b y c : List ℕ) → Takes a x b → Takes b y c → Takes a (x ++ y) c
Takes-then a x b y c p q = record { parts = p.parts ∙ ap (λ (t : List ℕ). x ++ t) q.parts ∙ sym (append_assoc x y c); rest_fits = q.rest_fits }

-- a reader reads the values that fit, each spelled so, and no others
pub record IsField {A : Type 0} (read : List ℕ → Option (A × List ℕ)) (text : A → List ℕ) (Fits : A → Type 0) : Type 0 where
  pub takes : (bytes : List ℕ) (x : A × List ℕ) → IsBytes bytes → read bytes ≡ Some x → Takes bytes (text x.0) x.1 × Fits x.0
  pub again : (v : A) (rest : List ℕ) → Fits v → read (text v ++ rest) ≡ Some (v, rest)

-- the same of all of the octets
pub record IsForm {A : Type 0} (read : List ℕ → Option A) (text : A → List ℕ) (Fits : A → Type 0) : Type 0 where
  pub takes : (bytes : List ℕ) (v : A) → IsBytes bytes → read bytes ≡ Some v → (bytes ≡ text v) × Fits v
  pub again : (v : A) → Fits v → read (text v) ≡ Some v

-- a test that decides which of two is read
pub decided : {A R : Type 0} (k n : ℕ) (here others : Option A) (x : A) → (k ≡ n → here ≡ Some x → R) → (others ≡ Some x → R) → cond (eqb k n) here others ≡ Some x → R
decided {A} {R} k n here others x this more e = by_test (eqb k n) refl e where
  by_test : (b : Bool) → eqb k n ≡ b → cond b here others ≡ Some x → R
  by_test true t e = this (eqb-true k n t) e
  by_test false t e = more e

-- ---- an octet

pub octet_takes : (bytes : List ℕ) (x : ℕ × List ℕ) → IsBytes bytes → octet_at bytes ≡ Some x → Takes bytes (x.0 ∷ []) x.1
octet_takes [] x fits e = absurd cc
octet_takes (b ∷ bytes) x fits e =
    subst (λ (y : ℕ × List ℕ). Takes (b ∷ bytes) (y.0 ∷ []) y.1) (same_Some (b, bytes) x e) (record { parts = refl; rest_fits = IsBytes-rest b bytes fits })

-- the value that was picked has that octet
pub pick_takes : {A : Type 0} (f : A → ℕ) (vs : List A) (o : ℕ) (v : A) → pick f vs o ≡ Some v → o ≡ f v
pick_takes f [] o v e = absurd cc
pick_takes f (x ∷ vs) o v e = decided o (f x) (Some x) (pick f vs o) v (λ t h. t ∙ ap f (same_Some x v h)) (λ h. pick_takes f vs o v h) e

pub octet_is : {A : Type 0} (of : ℕ → Option A) (f : A → ℕ) → ((o : ℕ) (v : A) → of o ≡ Some v → o ≡ f v) → ((v : A) → of (f v) ≡ Some v) → IsField (octet_as of) (λ v. f v ∷ []) (λ _. Unit {0})
octet_is {A} of f takes again = record {
  takes = λ bytes x fits e. taken bytes x fits e;
  again = λ v rest h. ap (λ (r : Option A). r >>= λ w. Some (w, rest)) (again v);
} where
  taken : (bytes : List ℕ) (x : A × List ℕ) → IsBytes bytes → octet_as of bytes ≡ Some x → Takes bytes (f x.0 ∷ []) x.1 × Unit {0}
  taken bytes x fits e =
      let o = bind_some (octet_at bytes) (λ o. of o.0 >>= λ v. Some (v, o.1)) x e in
      let v = bind_some (of o.0.0) (λ v. Some (v, o.0.1)) x o.2 in
      let first = octet_takes bytes o.0 fits o.1 in
      let here : Takes bytes (f v.0 ∷ []) o.0.1 = subst (λ (n : ℕ). Takes bytes (n ∷ []) o.0.1) (takes o.0.0 v.0 v.1) first in
      (subst (λ (y : A × List ℕ). Takes bytes (f y.0 ∷ []) y.1) (same_Some (v.0, o.0.1) x v.2) here, tt)

-- ---- fields, one after another

pub nothing_is : IsForm nothing (λ _. []) (λ _. Unit {0})
nothing_is = record { takes = λ bytes v fits e. (nil_from_length bytes (eqb-true _ _ (cond_some (eqb (length bytes) 0) tt v e).0), tt); again = λ v h. refl }

pub last_is : {A : Type 0} {f : List ℕ → Option (A × List ℕ)} {s : A → List ℕ} {P : A → Type 0} → IsField f s P → IsForm (last f) s P
last_is {A} {f} {s} {P} is = record { takes = λ bytes v fits e. taken bytes v fits e; again = λ v h. found v h } where
  taken : (bytes : List ℕ) (v : A) → IsBytes bytes → last f bytes ≡ Some v → (bytes ≡ s v) × P v
  taken bytes v fits e =
      let x = bind_some (f bytes) (λ x. cond (eqb (length x.1) 0) (Some x.0) None) v e in
      let g = cond_some (eqb (length x.0.1) 0) x.0.0 v x.2 in
      let t = is.takes bytes x.0 fits x.1 in
      let end : x.0.1 ≡ [] = nil_from_length x.0.1 (eqb-true _ _ g.0) in
      let all : bytes ≡ s x.0.0 = t.0.parts ∙ ap (λ (t : List ℕ). s x.0.0 ++ t) end ∙ append-nil (s x.0.0) in
      subst (λ (y : A). (bytes ≡ s y) × P y) g.1 (all, t.1)

  found : (v : A) → P v → last f (s v) ≡ Some v
  found v h =
      ap (last f) (sym (append-nil (s v)))
      ∙ ap (λ (r : Option (A × List ℕ)). r >>= λ x. cond (eqb (length x.1) 0) (Some x.0) None) (is.again v [] h)

pub before_is : {A B : Type 0} {f : List ℕ → Option (A × List ℕ)} {g : List ℕ → Option B} {s : A → List ℕ} {t : B → List ℕ} {P : A → Type 0} {Q : B → Type 0}
    → IsField f s P → IsForm g t Q → IsForm (before f g) (λ v. s v.0 ++ t v.1) (λ v. P v.0 × Q v.1)
before_is {A} {B} {f} {g} {s} {t} {P} {Q} p q = record { takes = λ bytes v fits e. taken bytes v fits e; again = λ v h. found v h } where
  taken : (bytes : List ℕ) (v : A × B) → IsBytes bytes → before f g bytes ≡ Some v → (bytes ≡ s v.0 ++ t v.1) × (P v.0 × Q v.1)
  taken bytes v fits e =
      let a = bind_some (f bytes) (λ a. g a.1 >>= λ b. Some (a.0, b)) v e in
      let b = bind_some (g a.0.1) (λ b. Some (a.0.0, b)) v a.2 in
      let first = p.takes bytes a.0 fits a.1 in
      let second = q.takes a.0.1 b.0 first.0.rest_fits b.1 in
      subst (λ (y : A × B). (bytes ≡ s y.0 ++ t y.1) × (P y.0 × Q y.1)) (same_Some (a.0.0, b.0) v b.2)
      (first.0.parts ∙ ap (λ (r : List ℕ). s a.0.0 ++ r) second.0, (first.1, second.1))

  found : (v : A × B) → P v.0 × Q v.1 → before f g (s v.0 ++ t v.1) ≡ Some v
  found v h =
      ap (λ (r : Option (A × List ℕ)). r >>= λ a. g a.1 >>= λ b. Some (a.0, b)) (p.again v.0 (t v.1) h.0)
      ∙ ap (λ (r : Option B). r >>= λ b. Some (v.0, b)) (q.again v.1 h.1)

-- a form that says another value
pub said_takes : {A B : Type 0} {g : List ℕ → Option A} {s : A → List ℕ} {P : A → Type 0} (is : IsForm g s P) (to : A → B) (bytes : List ℕ) (w : B) → IsBytes bytes → said to g bytes ≡ Some w
    → (v : A) × (bytes ≡ s v) × P v × (to v ≡ w)
said_takes {A} {B} {g} is to bytes w fits e =
    let v = bind_some (g bytes) (λ v. Some (to v)) w e in
    let t = is.takes bytes v.0 fits v.1 in
    (v.0, t.0, t.1, same_Some (to v.0) w v.2)

pub said_again : {A B : Type 0} {g : List ℕ → Option A} {s : A → List ℕ} {P : A → Type 0} (is : IsForm g s P) (to : A → B) (v : A) → P v → said to g (s v) ≡ Some (to v)
said_again {A} is to v h = ap (λ (r : Option A). r >>= λ w. Some (to w)) (is.again v h)

-- ---- one of several forms

-- what was read behind the first octet is spelled so
abbrev pub Spells : {B : Type 0} (text : B → List ℕ) (Fits : B → Type 0) (k : ℕ) (bytes : List ℕ) (w : B) → Type 0
Spells text Fits k bytes w = (k ∷ bytes ≡ text w) × Fits w

-- the form with the number n, or another of them
pub chosen : {A B : Type 0} {g : List ℕ → Option A} {s : A → List ℕ} {P : A → Type 0} (is : IsForm g s P) (to : A → B) (text : B → List ℕ) (Fits : B → Type 0) (n : ℕ)
    → ((v : A) → n ∷ s v ≡ text (to v)) → ((v : A) → P v → Fits (to v)) → (k : ℕ) (bytes : List ℕ) (w : B) → IsBytes bytes → (others : Option B) → (others ≡ Some w → Spells text Fits k bytes w)
    → cond (eqb k n) (said to g bytes) others ≡ Some w → Spells text Fits k bytes w
chosen {A} {B} {g} is to text Fits n same sound k bytes w fits others more e = decided k n (said to g bytes) others w here more e where
  here : k ≡ n → said to g bytes ≡ Some w → Spells text Fits k bytes w
  here t e =
      let v = said_takes is to bytes w fits e in
      subst (Spells text Fits k bytes) v.3 (ap (λ (m : ℕ). m ∷ bytes) t ∙ ap (λ (t : List ℕ). n ∷ t) v.1 ∙ same v.0, sound v.0 v.2)

-- a reader of forms, of each of which is shown that it is read so
pub forms_are : {B : Type 0} (form : ℕ → List ℕ → Option B) (text : B → List ℕ) (Fits : B → Type 0) → ((k : ℕ) (bytes : List ℕ) (w : B) → IsBytes bytes → form k bytes ≡ Some w → Spells text Fits k bytes w)
    → ((w : B) → Fits w → by_octet form (text w) ≡ Some w) → IsForm (by_octet form) text Fits
forms_are {B} form text Fits taken again = record { takes = λ bytes w fits e. all bytes w fits e; again = again } where
  all : (bytes : List ℕ) (w : B) → IsBytes bytes → by_octet form bytes ≡ Some w → (bytes ≡ text w) × Fits w
  all [] w fits e = absurd cc
  all (k ∷ bytes) w fits e = taken k bytes w (IsBytes-rest k bytes fits) e
