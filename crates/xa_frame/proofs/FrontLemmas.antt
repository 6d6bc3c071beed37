-- What stands first in octets: headers, and whole frames.
use Rattle.std.proofs.Common.{◌≡◌, ℕ, ◌+◌, ◌^◌, ◌<◌, ◌≤◌, Bool, true, false, cond, ltb, leb, eqb, ◌&&◌, ◌||◌, List, [], ◌∷◌, ◌++◌, length, take, drop, Option, Some, None, Result, Ok, Err, refl, sym, ap, subst, ◌∙◌, append_assoc, arith, inl, inr}
use Rattle.std.proofs.lemmas.Bool.{cases_lt, ltb-false, le-ltb, eqb-true, leb-true, le-leb, and_parts, or_cases, or_left, ltb-true, lt-ltb, eq-eqb, cond-true, cond-false}
use Rattle.std.proofs.lemmas.Option.{cond_some}
use Rattle.std.proofs.lemmas.List.{take-append-le, take_at, length-append, length-take, length-drop, take-append-drop, append_cancel_left, drop-drop}
use Rattle.byteorder.specs.Endian.{big_bytes}
use Rattle.xa_frame.specs.declared.frame.Frame.{Frame}
use Rattle.xa_frame.specs.declared.frame.Body.{Body}
use Rattle.xa_frame.specs.declared.frame.Body.TheVariants as bodies
use Rattle.xa_frame.specs.declared.header.FrameKind.{FrameKind}
use Rattle.xa_frame.specs.declared.header.FrameKind.TheVariants as kinds
use Rattle.xa_frame.specs.declared.header.Header.{Header}
use Rattle.xa_frame.specs.Spelling.{header, kind_octet, body_octets, spelled, HasSpelling}
use Rattle.xa_frame.specs.Reading.{◌>>=◌, octet_at, number_at, octet_of, all_kinds, kind_of, most_octets, after_mark, header_at, body_of, Front, Whole, Partial, Malformed, whole_of, front_after, front_at, IsWhole, Stands, StandsFirst, IsFirst}
use Rattle.xa_frame.specs.Stream.{has_body, has_no_body, allows, LacksBody, IsPartial, Begins, IsMalformed}
use Rattle.xa_frame.specs.Reader.{Incoming, Answered}
use Rattle.xa_frame.specs.declared.reader.NextRefused.{NextRefused}
use Rattle.xa_frame.specs.declared.reader.NextRefused.TheVariants.{BadFrame, NoMemory}
use Rattle.std.specs.Prelude.{MatchResult}
use Rattle.xa_frame.proofs.FieldLemmas.{IsBytes, IsBytes-take, bind_some, Takes, Takes-then, octet_takes, pick_takes}
use Rattle.xa_frame.proofs.PartLemmas.{number_is}
use Rattle.xa_frame.proofs.BodyLemmas.{kind_is, body_takes, body_again, body_short}

-- ---- headers

pub kind_takes : (o : ℕ) (k : FrameKind) → kind_of o ≡ Some k → o ≡ octet_of k
kind_takes o k e = pick_takes octet_of all_kinds o k e

pub kind_again : (k : FrameKind) → kind_of (octet_of k) ≡ Some k
kind_again kinds.Ready = refl
kind_again kinds.Next = refl
kind_again kinds.Op = refl
kind_again kinds.Return = refl
kind_again kinds.Forward = refl
kind_again kinds.Invoke = refl
kind_again kinds.Reply = refl
kind_again kinds.Shutdown = refl

pub kind_octets : (b : Body) → octet_of (kind_is b) ≡ kind_octet b
kind_octets (bodies.Ready name) = refl
kind_octets bodies.Next = refl
kind_octets (bodies.Op op) = refl
kind_octets (bodies.Return value code payload) = refl
kind_octets (bodies.Forward service payload) = refl
kind_octets (bodies.Invoke service routine mode payload) = refl
kind_octets (bodies.Reply reply) = refl
kind_octets bodies.Shutdown = refl

pub most_is : (k : FrameKind) → most_octets k ≤ 66_000
most_is kinds.Ready = omega arith
most_is kinds.Next = omega arith
most_is kinds.Op = omega arith
most_is kinds.Return = omega arith
most_is kinds.Forward = omega arith
most_is kinds.Invoke = omega arith
most_is kinds.Reply = omega arith
most_is kinds.Shutdown = omega arith

-- a header that was read from the front
pub record IsHeader (bytes : List ℕ) (h : Header) (rest : List ℕ) : Type 0 where
  pub taken : Takes bytes (header (octet_of h.kind) h.size h.tag) rest
  pub most : h.size ≤ most_octets h.kind
  pub tag_fits : h.tag < 2 ^ 32

mark_takes : (bytes rest : List ℕ) → IsBytes bytes → after_mark bytes ≡ Some rest → Takes bytes (0x58 ∷ 0x41 ∷ 0x01 ∷ []) rest
unfolding after_mark
mark_takes bytes rest fits e =
    let x = bind_some (octet_at bytes) (λ x. octet_at x.1 >>= λ a. octet_at a.1 >>= λ v. cond (eqb x.0 0x58 && (eqb a.0 0x41 && eqb v.0 0x01)) (Some v.1) None) rest e in
    let a = bind_some (octet_at x.0.1) (λ a. octet_at a.1 >>= λ v. cond (eqb x.0.0 0x58 && (eqb a.0 0x41 && eqb v.0 0x01)) (Some v.1) None) rest x.2 in
    let v = bind_some (octet_at a.0.1) (λ v. cond (eqb x.0.0 0x58 && (eqb a.0.0 0x41 && eqb v.0 0x01)) (Some v.1) None) rest a.2 in
    let g = cond_some (eqb x.0.0 0x58 && (eqb a.0.0 0x41 && eqb v.0.0 0x01)) v.0.1 rest v.2 in
    let first = and_parts (eqb x.0.0 0x58) (eqb a.0.0 0x41 && eqb v.0.0 0x01) g.0 in
    let others = and_parts (eqb a.0.0 0x41) (eqb v.0.0 0x01) first.1 in
    let t0 = octet_takes bytes x.0 fits x.1 in
    let t1 = octet_takes x.0.1 a.0 t0.rest_fits a.1 in
    let t2 = octet_takes a.0.1 v.0 t1.rest_fits v.1 in
    subst (Takes bytes (0x58 ∷ 0x41 ∷ 0x01 ∷ [])) g.1 (in_place bytes x.0.1 a.0.1 v.0.1 x.0.0 a.0.0 v.0.0 (eqb-true _ _ first.0) (eqb-true _ _ others.0) (eqb-true _ _ others.1) t0 t1 t2)
  where
    in_place : (bytes r0 r1 r2 : List ℕ) (x a v : ℕ) → x ≡ 0x58 → a ≡ 0x41 → v ≡ 0x01 → Takes bytes (x ∷ []) r0 → Takes r0 (a ∷ []) r1 → Takes r1 (v ∷ []) r2 → Takes bytes (0x58 ∷ 0x41 ∷ 0x01 ∷ []) r2
    in_place bytes r0 r1 r2 x a v ex ea ev p q r =
        let all = Takes-then bytes (x ∷ []) r0 (a ∷ v ∷ []) r2 p (Takes-then r0 (a ∷ []) r1 (v ∷ []) r2 q r) in
        subst (λ (n : ℕ). Takes bytes (0x58 ∷ 0x41 ∷ n ∷ []) r2) ev (subst (λ (n : ℕ). Takes bytes (0x58 ∷ n ∷ v ∷ []) r2) ea (subst (λ (n : ℕ). Takes bytes (n ∷ a ∷ v ∷ []) r2) ex all))

-- the fields of a header, one after another
joined : (bytes r0 r1 r2 r3 : List ℕ) (o k size tag : ℕ) → o ≡ k → Takes bytes (0x58 ∷ 0x41 ∷ 0x01 ∷ []) r0 → Takes r0 (o ∷ []) r1 → Takes r1 (big_bytes 4 size) r2 → Takes r2 (big_bytes 4 tag) r3 → Takes bytes (header k size tag) r3
joined bytes r0 r1 r2 r3 o k size tag same p q r s =
    subst (λ (n : ℕ). Takes bytes (header n size tag) r3) same
    (Takes-then bytes (0x58 ∷ 0x41 ∷ 0x01 ∷ []) r0 (o ∷ (big_bytes 4 size ++ big_bytes 4 tag)) r3 p
    (Takes-then r0 (o ∷ []) r1 (big_bytes 4 size ++ big_bytes 4 tag) r3 q (Takes-then r1 (big_bytes 4 size) r2 (big_bytes 4 tag) r3 r s)))

abbrev pub header_of : FrameKind → ℕ → ℕ → Header
header_of k size tag = record { kind = k; size = size; tag = tag }

-- the steps after each field of a header
abbrev headed : FrameKind → ℕ → ℕ × List ℕ → Option (Header × List ℕ)
headed k size tag = cond (leb size (most_octets k)) (Some (header_of k size tag.0, tag.1)) None

abbrev sized_head : FrameKind → ℕ × List ℕ → Option (Header × List ℕ)
sized_head k size = number_at size.1 >>= headed k size.0

abbrev kind_head : List ℕ → FrameKind → Option (Header × List ℕ)
kind_head rest k = number_at rest >>= sized_head k

abbrev octet_head : ℕ × List ℕ → Option (Header × List ℕ)
octet_head o = kind_of o.0 >>= kind_head o.1

pub header_takes : (bytes : List ℕ) (h : Header × List ℕ) → IsBytes bytes → header_at bytes ≡ Some h → IsHeader bytes h.0 h.1
unfolding header_at
header_takes bytes h fits e =
    let m = bind_some (after_mark bytes) (λ fields. octet_at fields >>= octet_head) h e in
    let o = bind_some (octet_at m.0) octet_head h m.2 in
    let k = bind_some (kind_of o.0.0) (kind_head o.0.1) h o.2 in
    let s = bind_some (number_at o.0.1) (sized_head k.0) h k.2 in
    let t = bind_some (number_at s.0.1) (headed k.0 s.0.0) h s.2 in
    let g = cond_some (leb s.0.0 (most_octets k.0)) (header_of k.0 s.0.0 t.0.0, t.0.1) h t.2 in
    let t0 = mark_takes bytes m.0 fits m.1 in
    let t1 = octet_takes m.0 o.0 t0.rest_fits o.1 in
    let t2 = number_is.takes o.0.1 s.0 t1.rest_fits s.1 in
    let t3 = number_is.takes s.0.1 t.0 t2.0.rest_fits t.1 in
    let all = joined bytes m.0 o.0.1 s.0.1 t.0.1 o.0.0 (octet_of k.0) s.0.0 t.0.0 (kind_takes o.0.0 k.0 k.1) t0 t1 t2.0 t3.0 in
    subst (λ (y : Header × List ℕ). IsHeader bytes y.0 y.1) g.1 (record { taken = all; most = leb-true _ _ g.0; tag_fits = t3.1 })

pub header_again : (k : FrameKind) (size tag : ℕ) (rest : List ℕ) → size ≤ most_octets k → tag < 2 ^ 32 → header_at (header (octet_of k) size tag ++ rest) ≡ Some (header_of k size tag, rest)
unfolding header_at after_mark
header_again k size tag rest most tag_fits =
    let m = most_is k in
    ap (λ (r : Option FrameKind). r >>= kind_head (big_bytes 4 size ++ (big_bytes 4 tag ++ rest))) (kind_again k)
    ∙ ap (λ (r : Option (ℕ × List ℕ)). r >>= sized_head k) (number_is.again size (big_bytes 4 tag ++ rest) (omega (arith, m)))
    ∙ ap (λ (r : Option (ℕ × List ℕ)). r >>= headed k size) (number_is.again tag rest tag_fits)
    ∙ cond-true (leb size (most_octets k)) (Some (header_of k size tag, rest)) None (le-leb _ _ most)

-- ---- whole frames

abbrev frame_of : ℕ → Body → Frame
frame_of tag b = record { tag = tag; body = b }

same_whole : (f g : Frame) (m n : ℕ) → Whole f m ≡ Whole g n → (f ≡ g) × (m ≡ n)
same_whole f g m n e = (cc, cc)

with_body : (octets rest : List ℕ) (h : Header) (b : Body) → IsBytes rest → IsHeader octets h rest → h.size ≤ length rest → body_of h.kind (take h.size rest) ≡ Some b → IsFirst octets (frame_of h.tag b) (12 + h.size)
with_body octets rest h b fits head long e =
    let s = body_takes h.kind (take h.size rest) b (IsBytes-take h.size rest fits) e in
    let len : h.size ≡ length (body_octets b) = omega (arith, length-take h.size rest, ap length s.whole) in
    let kind : octet_of h.kind ≡ kind_octet b = ap octet_of s.kind_as ∙ kind_octets b in
    let text : octets ≡ header (octet_of h.kind) h.size h.tag ++ rest = head.taken.parts in
    let parts : rest ≡ body_octets b ++ drop h.size rest = sym (take-append-drop h.size rest) ∙ ap (λ (t : List ℕ). t ++ drop h.size rest) s.whole in
    let left : drop (12 + h.size) octets ≡ drop h.size rest = sym (drop-drop h.size 12 octets) ∙ ap (λ (t : List ℕ). drop h.size (drop 12 t)) text in
    let headed : header (octet_of h.kind) h.size h.tag ≡ header (kind_octet b) (length (body_octets b)) h.tag =
    ap (λ (k : ℕ). header k h.size h.tag) kind ∙ ap (λ (n : ℕ). header (kind_octet b) n h.tag) len in
    record {
      size = omega (arith, len, length-append (header (kind_octet b) (length (body_octets b)) h.tag) (body_octets b));
      begins = record {
        spelling = record { tag = head.tag_fits; body = s.sound };
        whole = text ∙ ap (λ (t : List ℕ). header (octet_of h.kind) h.size h.tag ++ t) parts
            ∙ ap (λ (t : List ℕ). t ++ (body_octets b ++ drop h.size rest)) headed
            ∙ sym (append_assoc (header (kind_octet b) (length (body_octets b)) h.tag) (body_octets b) (drop h.size rest))
            ∙ ap (λ (t : List ℕ). spelled (frame_of h.tag b) ++ t) (sym left);
      };
    }

pub front_takes : (octets : List ℕ) (f : Frame) (n : ℕ) → IsBytes octets → front_at octets ≡ Whole f n → IsFirst octets f n
unfolding front_at
front_takes octets f n fits e = by_length (ltb (length octets) 12) e where
  by_body : (h : Header × List ℕ) → IsHeader octets h.0 h.1 → h.0.size ≤ length h.1 → (r : Option Body) → body_of h.0.kind (take h.0.size h.1) ≡ r → whole_of h.0 r ≡ Whole f n → IsFirst octets f n
  by_body h head long None is e = absurd cc
  by_body h head long (Some b) is e =
      let same = same_whole (frame_of h.0.tag b) f (12 + h.0.size) n e in
      subst (λ (g : Frame). IsFirst octets g n) same.0 (subst (IsFirst octets (frame_of h.0.tag b)) same.1 (with_body octets h.1 h.0 b head.taken.rest_fits head long is))

  by_size : (h : Header × List ℕ) → IsHeader octets h.0 h.1 → (t : Bool) → ltb (length h.1) h.0.size ≡ t → cond t Partial (whole_of h.0 (body_of h.0.kind (take h.0.size h.1))) ≡ Whole f n → IsFirst octets f n
  by_size h head true is e = absurd cc
  by_size h head false is e = by_body h head (ltb-false _ _ is) (body_of h.0.kind (take h.0.size h.1)) refl e

  by_header : (r : Option (Header × List ℕ)) → header_at octets ≡ r → front_after r ≡ Whole f n → IsFirst octets f n
  by_header None is e = absurd cc
  by_header (Some h) is e = by_size h (header_takes octets h fits is) (ltb (length h.1) h.0.size) refl e

  by_length : (t : Bool) → cond t Partial (front_after (header_at octets)) ≡ Whole f n → IsFirst octets f n
  by_length true e = absurd cc
  by_length false e = by_header (header_at octets) refl e

pub front_again : (f : Frame) (more : List ℕ) → HasSpelling f → front_at (spelled f ++ more) ≡ Whole f (length (spelled f))
unfolding front_at
front_again f more h =
    let b = f.body in
    let size = length (body_octets b) in
    let head = header_again (kind_is b) size f.tag (body_octets b ++ more) (body_short b h.body) h.tag in
    let long : ltb (length (spelled f ++ more)) 12 ≡ false = le-ltb _ _ (omega arith) in
    let enough : ltb (length (body_octets b ++ more)) size ≡ false = le-ltb _ _ (omega (arith, length-append (body_octets b) more)) in
    cond-false (ltb (length (spelled f ++ more)) 12) Partial (front_after (header_at (spelled f ++ more))) long
    ∙ ap (λ (t : List ℕ). front_after (header_at t)) (append_assoc (header (kind_octet b) size f.tag) (body_octets b) more ∙ ap (λ (k : ℕ). header k size f.tag ++ (body_octets b ++ more)) (sym (kind_octets b)))
    ∙ ap front_after head
    ∙ cond-false (ltb (length (body_octets b ++ more)) size) Partial (whole_of (header_of (kind_is b) size f.tag) (body_of (kind_is b) (take size (body_octets b ++ more)))) enough
    ∙ ap (λ (t : List ℕ). whole_of (header_of (kind_is b) size f.tag) (body_of (kind_is b) t)) (take_at (body_octets b) more size refl)
    ∙ ap (whole_of (header_of (kind_is b) size f.tag)) (body_again b h.body)
    ∙ ap (λ (n : ℕ). Whole f n) (omega (arith, length-append (header (kind_octet b) size f.tag) (body_octets b)))

pub no_other : (f g : Frame) (x y : List ℕ) → HasSpelling f → HasSpelling g → spelled f ++ x ≡ spelled g ++ y → (f ≡ g) × (x ≡ y)
no_other f g x y hf hg e =
    let same = same_whole f g (length (spelled f)) (length (spelled g)) (sym (front_again f x hf) ∙ ap front_at e ∙ front_again g y hg) in
    (same.0, append_cancel_left (spelled g) x y (ap (λ (k : Frame). spelled k ++ x) (sym same.0) ∙ e))

-- ---- which of the three stands first

pub is_whole : (octets : List ℕ) (f : Frame) (more : List ℕ) → Begins octets f more → front_at octets ≡ Whole f (length (spelled f))
is_whole octets f more h = ap front_at h.whole ∙ front_again f more h.spelling

-- an octet that is this one, or one of the others
one_of : {R : Type 0} (o n : ℕ) (others : Bool) → (o ≡ n → R) → (others ≡ true → R) → eqb o n || others ≡ true → R
one_of {R} o n others here more h = elim (or_cases (eqb o n) others h) [ inl e ↦ here (eqb-true o n e) | inr e ↦ more e ]

-- the kind that an octet of a sound header has
allowed : (o size : ℕ) → allows o size ≡ true → (k : FrameKind) × (o ≡ octet_of k) × (size ≤ most_octets k)
allowed o size h =
    elim (or_cases (has_body o && leb size 66_000) (has_no_body o && eqb size 0) h) [
      | inl p ↦ with_body_kind (and_parts (has_body o) (leb size 66_000) p)
      | inr p ↦ without_body_kind (and_parts (has_no_body o) (eqb size 0) p)
    ]
  where
    with_body_kind : (has_body o ≡ true) × (leb size 66_000 ≡ true) → (k : FrameKind) × (o ≡ octet_of k) × (size ≤ most_octets k)
    with_body_kind p =
        let most = leb-true _ _ p.1 in
        one_of o 0x01 _ (λ e. (kinds.Ready, e, most)) (one_of o 0x03 _ (λ e. (kinds.Op, e, most)) (one_of o 0x04 _ (λ e. (kinds.Return, e, most))
        (one_of o 0x05 _ (λ e. (kinds.Forward, e, most)) (one_of o 0x11 _ (λ e. (kinds.Invoke, e, most)) (λ e. (kinds.Reply, eqb-true o 0x12 e, most)))))) p.0

    without_body_kind : (has_no_body o ≡ true) × (eqb size 0 ≡ true) → (k : FrameKind) × (o ≡ octet_of k) × (size ≤ most_octets k)
    without_body_kind p =
        let none = eqb-true size 0 p.1 in
        one_of o 0x02 _ (λ e. (kinds.Next, e, omega (arith, none))) (λ e. (kinds.Shutdown, eqb-true o 0x13 e, omega (arith, none))) p.0

allows_kind : (k : FrameKind) (size : ℕ) → size ≤ most_octets k → allows (octet_of k) size ≡ true
allows_kind kinds.Ready size h = or_left _ _ (le-leb _ _ h)
allows_kind kinds.Next size h = eq-eqb size 0 (omega (arith, h))
allows_kind kinds.Op size h = or_left _ _ (le-leb _ _ h)
allows_kind kinds.Return size h = or_left _ _ (le-leb _ _ h)
allows_kind kinds.Forward size h = or_left _ _ (le-leb _ _ h)
allows_kind kinds.Invoke size h = or_left _ _ (le-leb _ _ h)
allows_kind kinds.Reply size h = or_left _ _ (le-leb _ _ h)
allows_kind kinds.Shutdown size h = eq-eqb size 0 (omega (arith, h))

header_short : (octets : List ℕ) (kind size tag : ℕ) (body : List ℕ) → LacksBody octets kind size tag body → front_at octets ≡ Partial
unfolding front_at
header_short octets kind size tag body h =
    let a = allowed kind size h.allowed in
    let k = a.0 in
    let whole : octets ≡ header (octet_of k) size tag ++ body = h.whole ∙ ap (λ (o : ℕ). header o size tag ++ body) a.1 in
    let long : ltb (length octets) 12 ≡ false = le-ltb _ _ (omega (arith, ap length whole)) in
    cond-false (ltb (length octets) 12) Partial (front_after (header_at octets)) long
    ∙ ap (λ (t : List ℕ). front_after (header_at t)) whole
    ∙ ap front_after (header_again k size tag body a.2 h.tag_fits)
    ∙ cond-true (ltb (length body) size) Partial (whole_of (header_of k size tag) (body_of k (take size body))) (lt-ltb _ _ h.short)

pub is_partial : (octets : List ℕ) → IsPartial octets → front_at octets ≡ Partial
unfolding front_at
is_partial octets (inl short) = cond-true (ltb (length octets) 12) Partial (front_after (header_at octets)) (lt-ltb _ _ short)
is_partial octets (inr h) = header_short octets h.0 h.1 h.2 h.3 h.4

pub partial_is : (octets : List ℕ) → IsBytes octets → front_at octets ≡ Partial → IsPartial octets
unfolding front_at
partial_is octets fits e = by_length (ltb (length octets) 12) refl e where
  by_body : (h : Header) (r : Option Body) → whole_of h r ≡ Partial → IsPartial octets
  by_body h None e = absurd cc
  by_body h (Some b) e = absurd cc

  by_size : (h : Header × List ℕ) → IsHeader octets h.0 h.1 → (t : Bool) → ltb (length h.1) h.0.size ≡ t → cond t Partial (whole_of h.0 (body_of h.0.kind (take h.0.size h.1))) ≡ Partial → IsPartial octets
  by_size h head true is e = inr (octet_of h.0.kind, h.0.size, h.0.tag, h.1, record { allowed = allows_kind h.0.kind h.0.size head.most; tag_fits = head.tag_fits; whole = head.taken.parts; short = ltb-true _ _ is })
  by_size h head false is e = by_body h.0 (body_of h.0.kind (take h.0.size h.1)) e

  by_header : (r : Option (Header × List ℕ)) → header_at octets ≡ r → front_after r ≡ Partial → IsPartial octets
  by_header None is e = absurd cc
  by_header (Some h) is e = by_size h (header_takes octets h fits is) (ltb (length h.1) h.0.size) refl e

  by_length : (t : Bool) → ltb (length octets) 12 ≡ t → cond t Partial (front_after (header_at octets)) ≡ Partial → IsPartial octets
  by_length true is e = inl (ltb-true _ _ is)
  by_length false is e = by_header (header_at octets) refl e

pub malformed_is : (octets : List ℕ) → front_at octets ≡ Malformed → IsMalformed octets
malformed_is octets e = record {
  not_partial = λ p. let q = is_partial octets p in cc;
  not_whole = λ f more b. let q = is_whole octets f more b in cc;
}

pub stands_first : (octets : List ℕ) (place size : ℕ) (r : Result (Option Frame) NextRefused) → IsBytes octets → Stands place size r (front_at octets) → StandsFirst octets place size r
stands_first octets place size (Ok None) fits h = (h.0, partial_is octets fits h.1)
stands_first octets place size (Ok (Some f)) fits h = front_takes octets f size fits h
stands_first octets place size (Err (BadFrame at)) fits h = (h.0, (h.1.0, malformed_is octets h.1.1))
stands_first octets place size (Err NoMemory) fits h = (h.0, by_front (front_at octets) refl h.1) where
  by_front : (r : Front) → front_at octets ≡ r → IsWhole r → (f : Frame) × (more : List ℕ) × Begins octets f more
  by_front (Whole f n) e h = (f, drop n octets, (front_takes octets f n fits e).begins)
  by_front Partial e h = absurd h
  by_front Malformed e h = absurd h

-- ---- at most one of the three stands first

partial_or_whole : (octets : List ℕ) (f : Frame) (more : List ℕ) → IsPartial octets → Begins octets f more → ⊥
partial_or_whole octets f more p b = let e = is_partial octets p in let q = is_whole octets f more b in cc

one_first : (octets : List ℕ) (f g : Frame) (x y : List ℕ) → Begins octets f x → Begins octets g y → f ≡ g
one_first octets f g x y p q = (no_other f g x y p.spelling q.spelling (sym p.whole ∙ q.whole)).0

pub partial_answer : (old new : Incoming) (r : Result (Option Frame) NextRefused) → Answered old new r → IsPartial old.rest → r ≡ Ok None
partial_answer old new (Ok None) h p = refl
partial_answer old new (Ok (Some f)) h p = absurd (partial_or_whole old.rest f new.rest p h.begins)
partial_answer old new (Err (BadFrame place)) h p = absurd (h.2.not_partial p)
partial_answer old new (Err NoMemory) h p = absurd (partial_or_whole old.rest h.1.0 h.1.1 p h.1.2)

pub malformed_answer : (old new : Incoming) (r : Result (Option Frame) NextRefused) → Answered old new r → IsMalformed old.rest → r ≡ Err (BadFrame old.place)
malformed_answer old new (Ok None) h m = absurd (m.not_partial h.1)
malformed_answer old new (Ok (Some f)) h m = absurd (m.not_whole f new.rest h.begins)
malformed_answer old new (Err (BadFrame place)) h m = ap (λ (n : ℕ). Err (BadFrame n)) h.1
malformed_answer old new (Err NoMemory) h m = absurd (m.not_whole h.1.0 h.1.1 h.1.2)

pub whole_answer : (old new : Incoming) (r : Result (Option Frame) NextRefused) → Answered old new r → (f : Frame) (more : List ℕ) → Begins old.rest f more → MatchResult r (λ found. found ≡ Some f) (λ why. why ≡ NoMemory)
whole_answer old new (Ok None) h f more b = absurd (partial_or_whole old.rest f more h.1 b)
whole_answer old new (Ok (Some g)) h f more b = ap (λ (k : Frame). Some k) (one_first old.rest g f new.rest more h.begins b)
whole_answer old new (Err (BadFrame place)) h f more b = absurd (h.2.not_whole f more b)
whole_answer old new (Err NoMemory) h f more b = refl

-- a frame that stands first is within the octets
first_within : (octets : List ℕ) (taken n : ℕ) (f : Frame) → taken ≤ length octets → IsFirst (drop taken octets) f n → taken + n ≤ length octets
first_within octets taken n f le h =
    let all = ap length h.begins.whole in
    let parts = length-append (spelled f) (drop n (drop taken octets)) in
    omega (arith, h.size, length-drop taken octets, all, parts)

pub within : (octets : List ℕ) (taken place size : ℕ) (r : Result (Option Frame) NextRefused) → taken ≤ length octets → StandsFirst (drop taken octets) place size r → taken + size ≤ length octets
within octets taken place size (Ok None) le h = omega (arith, le, h.0)
within octets taken place size (Ok (Some f)) le h = first_within octets taken size f le h
within octets taken place size (Err why) le h = omega (arith, le, h.0)

-- ---- what follows changes nothing

-- of two ways to cut one list, the longer front begins with the shorter
prefixed : (a x b y : List ℕ) → a ++ x ≡ b ++ y → length b ≤ length a → a ≡ b ++ drop (length b) a
prefixed a x b y e le =
    let front : take (length b) a ≡ b = sym (take-append-le (length b) a x le) ∙ ap (take (length b)) e ∙ take_at b y (length b) refl in
    sym (take-append-drop (length b) a) ∙ ap (λ (t : List ℕ). t ++ drop (length b) a) front

headed_short : (octets more body : List ℕ) (kind size tag : ℕ) → allows kind size ≡ true → tag < 2 ^ 32 → octets ++ more ≡ header kind size tag ++ body → length octets < 12 + size → IsPartial octets
headed_short octets more body kind size tag sound tag_fits e short =
    elim (cases_lt (length octets) 12) [
      | inl lt ↦ inl lt
      | inr le ↦ inr (kind, size, tag, drop 12 octets, record { allowed = sound; tag_fits = tag_fits; whole = prefixed octets more (header kind size tag) body e le; short = omega (arith, length-drop 12 octets) })
    ]

still_partial : (octets more : List ℕ) → IsPartial (octets ++ more) → IsPartial octets
still_partial octets more (inl short) = inl (omega (arith, length-append octets more))
still_partial octets more (inr h) =
    let l = h.4 in
    let all = ap length l.whole in
    let parts = length-append octets more in
    let text = length-append (header h.0 h.1 h.2) h.3 in
    headed_short octets more h.3 h.0 h.1 h.2 l.allowed l.tag_fits l.whole (omega (arith, l.short, all, parts, text))

pub still_malformed : (octets more : List ℕ) → IsMalformed octets → IsMalformed (octets ++ more)
still_malformed octets more h = record {
  not_partial = λ p. h.not_partial (still_partial octets more p);
  not_whole = λ f rest b. elim (cases_lt (length octets) (length (spelled f))) [
    | inl lt ↦ h.not_partial (cut f rest b lt)
    | inr le ↦ h.not_whole f (drop (length (spelled f)) octets) (record { spelling = b.spelling; whole = prefixed octets more (spelled f) rest b.whole le })
  ];
} where
  cut : (f : Frame) (rest : List ℕ) → Begins (octets ++ more) f rest → length octets < length (spelled f) → IsPartial octets
  cut f rest b lt =
      let size = length (body_octets f.body) in
      let sound : allows (kind_octet f.body) size ≡ true = ap (λ (k : ℕ). allows k size) (sym (kind_octets f.body)) ∙ allows_kind (kind_is f.body) size (body_short f.body b.spelling.body) in
      let text = length-append (header (kind_octet f.body) size f.tag) (body_octets f.body) in
      headed_short octets more (body_octets f.body ++ rest) (kind_octet f.body) size f.tag sound b.spelling.tag (b.whole ∙ append_assoc (header (kind_octet f.body) size f.tag) (body_octets f.body) rest) (omega (arith, lt, text))
