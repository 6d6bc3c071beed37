-- The parts of bodies: octets that say something, numbers, words, kinds and data.
use Rattle.std.proofs.Common.{◌≡◌, ℕ, zero, suc, ◌/◌, ◌%◌, ◌^◌, ◌<◌, ◌≤◌, Bool, true, false, cond, ltb, leb, eqb, ◌&&◌, List, [], ◌∷◌, ◌++◌, length, take, drop, Option, Some, None, refl, sym, ap, subst, ◌∙◌, arith, rules, ℤ, pos, negsuc}
use Rattle.std.specs.Int.{w32, w64, from_be_bytes, cast_signed, cast_unsigned}
use Rattle.std.specs.Prelude.{FitsSigned}
use Rattle.std.proofs.lemmas.Bool.{ltb-false, le-ltb, leb-true, le-leb, eqb-true, eq-eqb, ltb-true, lt-ltb, and_parts, and_from, cond-true, cond-false}
use Rattle.std.proofs.lemmas.Int.{to_z-of_z, of_z-to_z}
use Rattle.std.proofs.Math.Facts.{sfits_to_z}
use Rattle.std.proofs.lemmas.Option.{cond_some, same_Some}
use Rattle.std.proofs.lemmas.List.{take_at, drop_at, take-append-drop, length-append, length-take}
use Rattle.std.proofs.lemmas.Nat.{be_bytes_4, from_be_bytes-to_be_bytes_4, be_bytes_8, from_be_bytes-to_be_bytes_8}
use Rattle.byteorder.specs.Endian.{big_bytes}
use Rattle.xa_types.specs.Name.{IsName, is_name}
use Rattle.xa_types.specs.declared.data.Data.{Data}
use Rattle.xa_types.specs.declared.data.Data.TheVariants.{Absent, Octet, Struct}
use Rattle.xa_types.specs.declared.data.Kind.{Kind}
use Rattle.xa_types.specs.declared.data.Kind.TheVariants as data_kinds
use Rattle.xa_types.specs.declared.call.CallFlags.{CallFlags}
use Rattle.xa_types.specs.declared.call.Direction.{Direction}
use Rattle.xa_types.specs.declared.call.Direction.TheVariants.{Neither, SendOnly, RecvOnly, Both}
use Rattle.xa_types.specs.declared.call.Mode.{Mode}
use Rattle.xa_types.specs.declared.call.Mode.TheVariants as modes
use Rattle.xa_types.specs.declared.call.Rval.{Rval}
use Rattle.xa_types.specs.declared.call.Rval.TheVariants as rvals
use Rattle.xa_types.specs.declared.fault.Fault.{Fault}
use Rattle.xa_types.specs.declared.fault.Fault.TheVariants as faults
use Rattle.xa_types.specs.declared.fault.ConvEvent.{ConvEvent}
use Rattle.xa_types.specs.declared.fault.ConvEvent.TheVariants as events
use Rattle.xa_frame.specs.Spelling.{word, sized, signed, bit, data_kind_octets, data_octets, flags_octet, direction_octet, rval_octet, mode_octet, fault_octet, event_octet, IsWord, IsDataKind, IsData}
use Rattle.xa_frame.specs.Reading.{◌>>=◌, octet_at, octet_as, all_truths, all_directions, all_rvals, all_modes, all_faults, all_events, truth_of, direction_of, rval_of, mode_of, fault_of, event_of, is_set, flags_of, flags_at, number_at, signed_at, long_at, word_at, name_of, name_at, sized_of, data_kind_form, data_kind_at, typed, struct_of, data_form, data_of, coded_of}
use Rattle.xa_frame.proofs.FieldLemmas.{IsBytes, IsBytes-drop, IsBytes-take, IsBytes-rest, bind_some, guard_some, Takes, Takes-then, IsField, IsForm, decided, octet_takes, pick_takes, octet_is, nothing_is, before_is, said_again, Spells, chosen, forms_are}

-- ---- octets that say something

pub truth_is : IsField (octet_as truth_of) (λ set. bit set ∷ []) (λ _. Unit {0})
truth_is = octet_is truth_of bit (pick_takes bit all_truths) again where
  again : (v : Bool) → truth_of (bit v) ≡ Some v
  again true = refl
  again false = refl

pub direction_is : IsField (octet_as direction_of) (λ d. direction_octet d ∷ []) (λ _. Unit {0})
direction_is = octet_is direction_of direction_octet (pick_takes direction_octet all_directions) again where
  again : (v : Direction) → direction_of (direction_octet v) ≡ Some v
  again Neither = refl
  again SendOnly = refl
  again RecvOnly = refl
  again Both = refl

pub rval_is : IsField (octet_as rval_of) (λ v. rval_octet v ∷ []) (λ _. Unit {0})
rval_is = octet_is rval_of rval_octet (pick_takes rval_octet all_rvals) again where
  again : (v : Rval) → rval_of (rval_octet v) ≡ Some v
  again rvals.Success = refl
  again rvals.Fail = refl
  again rvals.Exit = refl

pub mode_is : IsField (octet_as mode_of) (λ m. mode_octet m ∷ []) (λ _. Unit {0})
mode_is = octet_is mode_of mode_octet (pick_takes mode_octet all_modes) again where
  again : (v : Mode) → mode_of (mode_octet v) ≡ Some v
  again modes.Reply = refl
  again modes.NoReply = refl
  again modes.ConvReceives = refl
  again modes.ConvSends = refl

pub fault_is : IsField (octet_as fault_of) (λ f. fault_octet f ∷ []) (λ _. Unit {0})
fault_is = octet_is fault_of fault_octet (pick_takes fault_octet all_faults) again where
  again : (v : Fault) → fault_of (fault_octet v) ≡ Some v
  again faults.Inval = refl
  again faults.NoEnt = refl
  again faults.IType = refl
  again faults.OType = refl
  again faults.BadDesc = refl
  again faults.Limit = refl
  again faults.Block = refl
  again faults.Time = refl
  again faults.Proto = refl
  again faults.System = refl
  again faults.Match = refl
  again faults.SvcFail = refl
  again faults.SvcErr = refl
  again faults.Event = refl
  again faults.NoMemory = refl

pub event_is : IsField (octet_as event_of) (λ e. event_octet e ∷ []) (λ _. Unit {0})
event_is = octet_is event_of event_octet (pick_takes event_octet all_events) again where
  again : (v : ConvEvent) → event_of (event_octet v) ≡ Some v
  again events.DisconImm = refl
  again events.SendOnly = refl
  again events.SvcErr = refl
  again events.SvcFail = refl
  again events.SvcSucc = refl
  again events.NoMemory = refl

-- ---- flags

bit_is : (n : ℕ) → n < 2 → bit (eqb n 1) ≡ n
bit_is zero h = refl
bit_is (suc zero) h = refl
bit_is (suc (suc n)) h = absurd (omega arith)

bit_small : (b : Bool) → bit b ≤ 1
bit_small true = omega arith
bit_small false = omega arith

is_bit : (b : Bool) (n : ℕ) → n ≡ bit b → eqb n 1 ≡ b
is_bit true n e = rw e
is_bit false n e = rw e

flags_takes : (o : ℕ) (f : CallFlags) → flags_of o ≡ Some f → o ≡ flags_octet f
flags_takes o f e =
    let set : CallFlags = record { no_block = is_set o 0; no_time = is_set o 1; no_reply = is_set o 2; no_tran = is_set o 3; sig_restart = is_set o 4 } in
    let g = cond_some (ltb o 32) set f e in
    let small : o < 32 = ltb-true _ _ g.0 in
    let b0 = bit_is (o / 1 % 2) (omega arith) in
    let b1 = bit_is (o / 2 % 2) (omega arith) in
    let b2 = bit_is (o / 4 % 2) (omega arith) in
    let b3 = bit_is (o / 8 % 2) (omega arith) in
    let b4 = bit_is (o / 16 % 2) (omega arith) in
    let all : o ≡ flags_octet set = omega (arith, b0, b1, b2, b3, b4) in
    all ∙ ap flags_octet g.1

flags_again : (f : CallFlags) → flags_of (flags_octet f) ≡ Some f
flags_again f =
    let a = bit_small f.no_block in
    let b = bit_small f.no_time in
    let c = bit_small f.no_reply in
    let d = bit_small f.no_tran in
    let e = bit_small f.sig_restart in
    let o = flags_octet f in
    let b0 : is_set o 0 ≡ f.no_block = is_bit f.no_block (o / 1 % 2) (omega arith) in
    let b1 : is_set o 1 ≡ f.no_time = is_bit f.no_time (o / 2 % 2) (omega arith) in
    let b2 : is_set o 2 ≡ f.no_reply = is_bit f.no_reply (o / 4 % 2) (omega arith) in
    let b3 : is_set o 3 ≡ f.no_tran = is_bit f.no_tran (o / 8 % 2) (omega arith) in
    let b4 : is_set o 4 ≡ f.sig_restart = is_bit f.sig_restart (o / 16 % 2) (omega arith) in
    let small : ltb o 32 ≡ true = lt-ltb _ _ (omega arith) in
    cond-true (ltb o 32) _ None small ∙ joined f _ _ _ _ _ b0 b1 b2 b3 b4
  where
    joined : (f : CallFlags) (a b c d e : Bool) → a ≡ f.no_block → b ≡ f.no_time → c ≡ f.no_reply → d ≡ f.no_tran → e ≡ f.sig_restart
        → (Some (record { no_block = a; no_time = b; no_reply = c; no_tran = d; sig_restart = e })) ≡ Some f
    joined f a b c d e p q r s t = rw (p, q, r, s, t) refl

pub flags_are : IsField flags_at (λ f. flags_octet f ∷ []) (λ _. Unit {0})
flags_are = octet_is flags_of flags_octet flags_takes flags_again

-- ---- numbers

pub number_is : IsField number_at (big_bytes 4) (λ n. n < 2 ^ 32)
number_is = record { takes = λ bytes x fits e. taken bytes x fits e; again = λ n rest lt. found n rest lt } where
  taken : (bytes : List ℕ) (x : ℕ × List ℕ) → IsBytes bytes → number_at bytes ≡ Some x → Takes bytes (big_bytes 4 x.0) x.1 × (x.0 < 2 ^ 32)
  taken bytes x fits e =
      let g = guard_some (ltb (length bytes) 4) (from_be_bytes w32 (take 4 bytes), drop 4 bytes) x e in
      let long : 4 ≤ length bytes = ltb-false _ _ g.0 in
      let front_fits = IsBytes-take 4 bytes fits in
      let back : big_bytes 4 (from_be_bytes w32 (take 4 bytes)) ≡ take 4 bytes = be_bytes_4 (take 4 bytes) _ (omega (arith, length-take 4 bytes)) front_fits refl in
      let whole : bytes ≡ big_bytes 4 (from_be_bytes w32 (take 4 bytes)) ++ drop 4 bytes = sym (take-append-drop 4 bytes) ∙ ap (λ (t : List ℕ). t ++ drop 4 bytes) (sym back) in
      let below : from_be_bytes w32 (take 4 bytes) < 2 ^ 32 = omega (arith, front_fits 0, front_fits 1, front_fits 2, front_fits 3) in
      subst (λ (y : ℕ × List ℕ). Takes bytes (big_bytes 4 y.0) y.1 × (y.0 < 2 ^ 32)) g.1 (record { parts = whole; rest_fits = IsBytes-drop 4 bytes fits }, below)

  found : (n : ℕ) (rest : List ℕ) → n < 2 ^ 32 → number_at (big_bytes 4 n ++ rest) ≡ Some (n, rest)
  found n rest lt =
      cond-false (ltb (length (big_bytes 4 n ++ rest)) 4) None (Some (from_be_bytes w32 (take 4 (big_bytes 4 n ++ rest)), drop 4 (big_bytes 4 n ++ rest))) (le-ltb _ _ (omega arith))
      ∙ ap (λ (k : ℕ). Some (k, rest)) (from_be_bytes-to_be_bytes_4 n lt)

pub long_is : IsField long_at (big_bytes 8) (λ n. n < 2 ^ 64)
long_is = record { takes = λ bytes x fits e. taken bytes x fits e; again = λ n rest lt. found n rest lt } where
  taken : (bytes : List ℕ) (x : ℕ × List ℕ) → IsBytes bytes → long_at bytes ≡ Some x → Takes bytes (big_bytes 8 x.0) x.1 × (x.0 < 2 ^ 64)
  taken bytes x fits e =
      let g = guard_some (ltb (length bytes) 8) (from_be_bytes w64 (take 8 bytes), drop 8 bytes) x e in
      let long : 8 ≤ length bytes = ltb-false _ _ g.0 in
      let front_fits = IsBytes-take 8 bytes fits in
      let back : big_bytes 8 (from_be_bytes w64 (take 8 bytes)) ≡ take 8 bytes = be_bytes_8 (take 8 bytes) _ (omega (arith, length-take 8 bytes)) front_fits refl in
      let whole : bytes ≡ big_bytes 8 (from_be_bytes w64 (take 8 bytes)) ++ drop 8 bytes = sym (take-append-drop 8 bytes) ∙ ap (λ (t : List ℕ). t ++ drop 8 bytes) (sym back) in
      let below : from_be_bytes w64 (take 8 bytes) < 2 ^ 64 =
      omega (arith, front_fits 0, front_fits 1, front_fits 2, front_fits 3, front_fits 4, front_fits 5, front_fits 6, front_fits 7) in
      subst (λ (y : ℕ × List ℕ). Takes bytes (big_bytes 8 y.0) y.1 × (y.0 < 2 ^ 64)) g.1 (record { parts = whole; rest_fits = IsBytes-drop 8 bytes fits }, below)

  found : (n : ℕ) (rest : List ℕ) → n < 2 ^ 64 → long_at (big_bytes 8 n ++ rest) ≡ Some (n, rest)
  found n rest lt =
      cond-false (ltb (length (big_bytes 8 n ++ rest)) 8) None (Some (from_be_bytes w64 (take 8 (big_bytes 8 n ++ rest)), drop 8 (big_bytes 8 n ++ rest))) (le-ltb _ _ (omega arith))
      ∙ ap (λ (k : ℕ). Some (k, rest)) (from_be_bytes-to_be_bytes_8 n lt)

signed_fits : (n : ℕ) → n < 2 ^ 32 → FitsSigned w32 (cast_signed w32 n)
signed_fits n lt = search (rules, sfits_to_z)

code_fits : (z : ℤ) → FitsSigned w32 z → cast_unsigned w32 z < 2 ^ 32
code_fits (pos n) h = omega (arith, h.sfits)
code_fits (negsuc n) h = omega (arith, h.sfits)

pub signed_is : IsField signed_at signed (FitsSigned w32)
signed_is = record { takes = λ bytes x fits e. taken bytes x fits e; again = λ z rest h. found z rest h } where
  taken : (bytes : List ℕ) (x : ℤ × List ℕ) → IsBytes bytes → signed_at bytes ≡ Some x → Takes bytes (signed x.0) x.1 × FitsSigned w32 x.0
  taken bytes x fits e =
      let a = bind_some (number_at bytes) (λ n. Some (cast_signed w32 n.0, n.1)) x e in
      let n = number_is.takes bytes a.0 fits a.1 in
      let same : a.0.0 ≡ cast_unsigned w32 (cast_signed w32 a.0.0) = sym (of_z-to_z w32 a.0.0 n.1) in
      subst (λ (y : ℤ × List ℕ). Takes bytes (signed y.0) y.1 × FitsSigned w32 y.0) (same_Some (cast_signed w32 a.0.0, a.0.1) x a.2) (subst (λ (k : ℕ). Takes bytes (big_bytes 4 k) a.0.1) same n.0, signed_fits a.0.0 n.1)

  found : (z : ℤ) (rest : List ℕ) → FitsSigned w32 z → signed_at (signed z ++ rest) ≡ Some (z, rest)
  found z rest h =
      ap (λ (r : Option (ℕ × List ℕ)). r >>= λ n. Some (cast_signed w32 n.0, n.1)) (number_is.again (cast_unsigned w32 z) rest (code_fits z h))
      ∙ ap (λ (k : ℤ). Some (k, rest)) (to_z-of_z w32 z h)

-- ---- words and names

pub word_is : IsField word_at word IsWord
unfolding word_at
word_is = record { takes = λ bytes x fits e. taken bytes x fits e; again = λ text rest h. found text rest } where
  taken : (bytes : List ℕ) (x : List ℕ × List ℕ) → IsBytes bytes → word_at bytes ≡ Some x → Takes bytes (word x.0) x.1 × IsWord x.0
  taken bytes x fits e =
      let a = bind_some (octet_at bytes) (λ n. cond (ltb (length n.1) n.0) None (Some (take n.0 n.1, drop n.0 n.1))) x e in
      let n = a.0 in
      let first = octet_takes bytes n fits a.1 in
      let g = guard_some (ltb (length n.1) n.0) (take n.0 n.1, drop n.0 n.1) x a.2 in
      let long : n.0 ≤ length n.1 = ltb-false _ _ g.0 in
      let len : n.0 ≡ length (take n.0 n.1) = omega (arith, length-take n.0 n.1) in
      let small : n.0 < 256 = subst (λ (t : List ℕ). IsBytes t) first.parts fits 0 in
      let second : Takes n.1 (take n.0 n.1) (drop n.0 n.1) = record { parts = sym (take-append-drop n.0 n.1); rest_fits = IsBytes-drop n.0 n.1 first.rest_fits } in
      let both = Takes-then bytes (n.0 ∷ []) n.1 (take n.0 n.1) (drop n.0 n.1) first second in
      let whole : Takes bytes (word (take n.0 n.1)) (drop n.0 n.1) = subst (λ (k : ℕ). Takes bytes (k ∷ take n.0 n.1) (drop n.0 n.1)) len both in
      subst (λ (y : List ℕ × List ℕ). Takes bytes (word y.0) y.1 × IsWord y.0) g.1 (whole, omega arith)

  found : (text rest : List ℕ) → word_at (word text ++ rest) ≡ Some (text, rest)
  found text rest =
      let long : ltb (length (text ++ rest)) (length text) ≡ false = le-ltb _ _ (omega (arith, length-append text rest)) in
      rw (long, take_at text rest (length text) refl, drop_at text rest (length text) refl) refl

name_takes : (octets name : List ℕ) → name_of octets ≡ Some name → IsName name × (octets ≡ name)
name_takes octets name e =
    let g = cond_some (is_name octets) octets name e in
    (subst IsName g.1 g.0, g.1)

pub name_short : (name : List ℕ) → IsName name → length name ≤ 31
name_short name named =
    let sizes = and_parts (leb 1 (length name) && leb (length name) 31) _ named in
    leb-true _ _ (and_parts (leb 1 (length name)) (leb (length name) 31) sizes.0).1

pub name_is : IsField name_at word IsName
unfolding name_at
name_is = record { takes = λ bytes x fits e. taken bytes x fits e; again = λ name rest h. found name rest h } where
  taken : (bytes : List ℕ) (x : List ℕ × List ℕ) → IsBytes bytes → name_at bytes ≡ Some x → Takes bytes (word x.0) x.1 × IsName x.0
  taken bytes x fits e =
      let w = bind_some (word_at bytes) (λ w. name_of w.0 >>= λ n. Some (n, w.1)) x e in
      let n = bind_some (name_of w.0.0) (λ n. Some (n, w.0.1)) x w.2 in
      let named = name_takes w.0.0 n.0 n.1 in
      let first = word_is.takes bytes w.0 fits w.1 in
      subst (λ (y : List ℕ × List ℕ). Takes bytes (word y.0) y.1 × IsName y.0) (same_Some (n.0, w.0.1) x n.2) (subst (λ (t : List ℕ). Takes bytes (word t) w.0.1) named.1 first.0, named.0)

  found : (name rest : List ℕ) → IsName name → name_at (word name ++ rest) ≡ Some (name, rest)
  found name rest named =
      ap (λ (r : Option (List ℕ × List ℕ)). r >>= λ w. name_of w.0 >>= λ n. Some (n, w.1)) (word_is.again name rest (omega (arith, name_short name named)))
      ∙ ap (λ (r : Option (List ℕ)). r >>= λ n. Some (n, rest)) (cond-true (is_name name) (Some name) None named)

-- ---- data

pub sized_is : IsForm sized_of sized (λ octets. length octets ≤ 65_536)
unfolding sized_of
sized_is = record { takes = λ bytes octets fits e. taken bytes octets fits e; again = λ octets most. found octets most } where
  taken : (bytes octets : List ℕ) → IsBytes bytes → sized_of bytes ≡ Some octets → (bytes ≡ sized octets) × (length octets ≤ 65_536)
  taken bytes octets fits e =
      let a = bind_some (number_at bytes) (λ n. cond (leb n.0 65_536 && eqb (length n.1) n.0) (Some n.1) None) octets e in
      let n = a.0 in
      let first = number_is.takes bytes n fits a.1 in
      let g = cond_some (leb n.0 65_536 && eqb (length n.1) n.0) n.1 octets a.2 in
      let tests = and_parts (leb n.0 65_536) (eqb (length n.1) n.0) g.0 in
      let most : n.0 ≤ 65_536 = leb-true _ _ tests.0 in
      let len : length n.1 ≡ n.0 = eqb-true _ _ tests.1 in
      let whole : bytes ≡ sized n.1 = first.0.parts ∙ ap (λ (k : ℕ). big_bytes 4 k ++ n.1) (sym len) in
      subst (λ (y : List ℕ). (bytes ≡ sized y) × (length y ≤ 65_536)) g.1 (whole, omega arith)

  found : (octets : List ℕ) → length octets ≤ 65_536 → sized_of (sized octets) ≡ Some octets
  found octets most =
      ap (λ (r : Option (ℕ × List ℕ)). r >>= λ n. cond (leb n.0 65_536 && eqb (length n.1) n.0) (Some n.1) None) (number_is.again (length octets) octets (omega arith))
      ∙ cond-true (leb (length octets) 65_536 && eqb (length octets) (length octets)) (Some octets) None (and_from _ _ (le-leb _ _ most) (eq-eqb _ _ refl))

-- the kind of a buffer, which the octet k says
record SpellsKind (k : ℕ) (bytes : List ℕ) (x : Option Kind × List ℕ) : Type 0 where
  takes : Takes (k ∷ bytes) (data_kind_octets x.0) x.1
  fits : IsDataKind x.0

pub data_kind_is : IsField data_kind_at data_kind_octets IsDataKind
unfolding data_kind_at
data_kind_is = record { takes = λ bytes x fits e. taken bytes x fits e; again = λ v rest h. found v rest h } where
  plain : (k n : ℕ) (bytes : List ℕ) (v : Option Kind) (x : Option Kind × List ℕ) → IsBytes bytes → n ∷ [] ≡ data_kind_octets v → IsDataKind v → k ≡ n → Some (v, bytes) ≡ Some x → SpellsKind k bytes x
  plain k n bytes v x fits said sound t e =
      subst (SpellsKind k bytes) (same_Some (v, bytes) x e) (record { takes = record { parts = ap (λ (m : ℕ). m ∷ bytes) t ∙ ap (λ (t : List ℕ). t ++ bytes) said; rest_fits = fits }; fits = sound })

  named : (k : ℕ) (bytes : List ℕ) (x : Option Kind × List ℕ) → IsBytes bytes → k ≡ 2 → (name_at bytes >>= λ name. Some (Some (data_kinds.Struct name.0), name.1)) ≡ Some x → SpellsKind k bytes x
  named k bytes x fits t e =
      let n = bind_some (name_at bytes) (λ name. Some (Some (data_kinds.Struct name.0), name.1)) x e in
      let h = name_is.takes bytes n.0 fits n.1 in
      subst (SpellsKind k bytes) (same_Some (Some (data_kinds.Struct n.0.0), n.0.1) x n.2)
      (record { takes = record { parts = ap (λ (m : ℕ). m ∷ bytes) t ∙ ap (λ (t : List ℕ). 2 ∷ t) h.0.parts; rest_fits = h.0.rest_fits }; fits = h.1 })

  behind : (k : ℕ) (bytes : List ℕ) (x : Option Kind × List ℕ) → IsBytes bytes → data_kind_form k bytes ≡ Some x → SpellsKind k bytes x
  behind k bytes x fits =
      decided k 0 _ _ x (plain k 0 bytes None x fits refl tt)
      (decided k 1 _ _ x (plain k 1 bytes (Some data_kinds.Octet) x fits refl tt) (decided k 2 _ None x (named k bytes x fits) (λ h. absurd cc)))

  taken : (bytes : List ℕ) (x : Option Kind × List ℕ) → IsBytes bytes → data_kind_at bytes ≡ Some x → Takes bytes (data_kind_octets x.0) x.1 × IsDataKind x.0
  taken [] x fits e = absurd cc
  taken (k ∷ bytes) x fits e = let s = behind k bytes x (IsBytes-rest k bytes fits) e in (s.takes, s.fits)

  found : (v : Option Kind) (rest : List ℕ) → IsDataKind v → data_kind_at (data_kind_octets v ++ rest) ≡ Some (v, rest)
  found None rest h = refl
  found (Some data_kinds.Octet) rest h = refl
  found (Some (data_kinds.Struct name)) rest h = ap (λ (r : Option (List ℕ × List ℕ)). r >>= λ n. Some (Some (data_kinds.Struct n.0), n.1)) (name_is.again name rest h)

pub data_is : IsForm data_of data_octets IsData
unfolding data_of struct_of
data_is = forms_are data_form data_octets IsData taken again where
  taken : (k : ℕ) (bytes : List ℕ) (d : Data) → IsBytes bytes → data_form k bytes ≡ Some d → Spells data_octets IsData k bytes d
  taken k bytes d fits =
      chosen nothing_is (λ _. Absent) data_octets IsData 0 (λ v. refl) (λ v p. tt) k bytes d fits _
      (chosen sized_is Octet data_octets IsData 1 (λ v. refl) (λ v p. p) k bytes d fits _
      (chosen (before_is name_is sized_is) typed data_octets IsData 2 (λ v. refl) (λ v p. p) k bytes d fits None (λ h. absurd cc)))

  again : (d : Data) → IsData d → data_of (data_octets d) ≡ Some d
  again Absent h = refl
  again (Octet octets) h = said_again sized_is Octet octets h
  again (Struct subtype octets) h = said_again (before_is name_is sized_is) typed (subtype, octets) h

pub coded_is : IsForm coded_of (λ v. signed v.0 ++ data_octets v.1) (λ v. FitsSigned w32 v.0 × IsData v.1)
coded_is = before_is signed_is data_is
