-- The values of fields, read back from their octets.
use Rattle.std.proofs.Common.{◌≡◌, ℕ, suc, ℤ, pos, negsuc, ◌+◌, ◌-ℤ◌, ltb, inl, inr, ◌-◌, ◌*◌, ◌%◌, ◌^◌, ◌<◌, ◌≤◌, Bool, true, cond, List, [], Result, Ok, Err, refl, sym, ap, ◌∙◌, arith}
use Rattle.std.proofs.Math.Nat.{mod-eq_of_lt}
use Rattle.std.proofs.lemmas.Bool.{cases_Bool, ltb-true, lt-ltb, le-ltb}
use Rattle.std.proofs.lemmas.Int.{ints}
use Rattle.std.proofs.lemmas.List.{append-nil}
use Rattle.std.specs.Int.{w64}
use Rattle.byteorder.specs.Endian.{big_bytes, big_number, low_bytes, twos_complement}
use Rattle.byteorder.specs.Numbers.{big_number-reads_back}
use Rattle.xa_types.specs.declared.setup.FieldKind.{FieldKind}
use Rattle.xa_types.specs.declared.setup.FieldKind.TheVariants.{Short, Int, Long, Char, Text as TextKind}
use Rattle.xa_types.specs.Kind.{field_size}
use Rattle.xa_buffer.specs.declared.refusal.BufferRefused.{BufferRefused}
use Rattle.xa_buffer.specs.declared.refusal.BufferRefused.TheVariants.{TooLong}
use Rattle.xa_buffer.specs.declared.value.FieldValue.TheVariants.{Whole}
use Rattle.xa_buffer.specs.Layout.{is_signed, holds, number_octets, encoded, decoded}

abbrev answer : List ℕ → Result (List ℕ) BufferRefused
answer octets = Ok octets

-- a number that there is room for has its octets
room_for : (kind : FieldKind) (z : ℤ) → holds kind z ≡ true → number_octets kind z ≡ Ok (big_bytes (field_size kind) (low_bytes w64 (field_size kind) z))
room_for kind z room =
    let octets : Result (List ℕ) BufferRefused = Ok (big_bytes (field_size kind) (low_bytes w64 (field_size kind) z)) in
    ap (λ (b : Bool). cond b octets (Err TooLong)) room

pub encoded_number : (kind : FieldKind) (z : ℤ) → holds kind z ≡ true → encoded kind (Whole z) ≡ Ok (big_bytes (field_size kind) (low_bytes w64 (field_size kind) z))
encoded_number Short z room = room_for Short z room
encoded_number Int z room = room_for Int z room
encoded_number Long z room = room_for Long z room
encoded_number Char z room = room_for Char z room
encoded_number (TextKind n) z room = cc

-- ---- what was written is read back

number_back : (n x : ℕ) → x < 256 ^ n → big_number n (big_bytes n x) ≡ x
number_back n x small = ap (big_number n) (sym (append-nil (big_bytes n x))) ∙ big_number-reads_back n x [] small

-- a number below `2 * half` read as two's complement
abbrev twos : ℕ → ℕ → ℤ
twos half x = cond (ltb x half) (pos x) (pos x -ℤ pos (2 * half))

twos_pos : (half x m : ℕ) → x ≡ m → m < half → twos half x ≡ pos m
twos_pos half x m same below = rw (same, lt-ltb m half below) refl

twos_neg : (half x m : ℕ) → x + (m + 1) ≡ 2 * half → m < half → twos half x ≡ negsuc m
twos_neg half x m whole below =
    let above : half ≤ x = omega arith in
    rw (le-ltb x half above) (omega (arith, ints))

abbrev low_back : ℕ → ℤ → Type 0
low_back n z = (low_bytes w64 n z < 256 ^ n) × (twos_complement n (low_bytes w64 n z) ≡ z)

low_back_2 : (z : ℤ) → is_signed 2 z ≡ true → low_back 2 z
low_back_2 (pos m) small = let below = ltb-true m 32768 small in (omega arith, twos_pos 32768 (m % 65536) m (omega arith) below)
low_back_2 (negsuc m) small =
    let below = ltb-true m 32768 small in
    let x = (18446744073709551616 - suc m) % 65536 in
    let whole : x + (m + 1) ≡ 65536 = omega arith in
    (omega arith, twos_neg 32768 x m whole below)

low_back_4 : (z : ℤ) → is_signed 4 z ≡ true → low_back 4 z
low_back_4 (pos m) small = let below = ltb-true m 2147483648 small in (omega arith, twos_pos 2147483648 (m % 4294967296) m (omega arith) below)
low_back_4 (negsuc m) small =
    let below = ltb-true m 2147483648 small in
    let x = (18446744073709551616 - suc m) % 4294967296 in
    let whole : x + (m + 1) ≡ 4294967296 = omega arith in
    (omega arith, twos_neg 2147483648 x m whole below)

low_back_8 : (z : ℤ) → is_signed 8 z ≡ true → low_back 8 z
low_back_8 (pos m) small = let below = ltb-true m 9223372036854775808 small in (omega arith, twos_pos 9223372036854775808 (m % 18446744073709551616) m (omega arith) below)
low_back_8 (negsuc m) small =
    let below = ltb-true m 9223372036854775808 small in
    let x = (18446744073709551616 - suc m) % 18446744073709551616 in
    let whole : x + (m + 1) ≡ 18446744073709551616 = omega arith in
    (omega arith, twos_neg 9223372036854775808 x m whole below)

whole_back : (n : ℕ) (z : ℤ) → low_back n z → Whole (twos_complement n (big_number n (big_bytes n (low_bytes w64 n z)))) ≡ Whole z
whole_back n z back = ap (λ (x : ℕ). Whole (twos_complement n x)) (number_back n (low_bytes w64 n z) back.0) ∙ ap Whole back.1

number_again : (kind : FieldKind) (z : ℤ) → holds kind z ≡ true → decoded kind (big_bytes (field_size kind) (low_bytes w64 (field_size kind) z)) ≡ Whole z
number_again Short z room = whole_back 2 z (low_back_2 z room)
number_again Int z room = whole_back 4 z (low_back_4 z room)
number_again Long z room = whole_back 8 z (low_back_8 z room)
number_again Char (pos m) room =
    let below = ltb-true m 256 room in
    let low : m % 256 ≡ m = mod-eq_of_lt below in
    let fits : m % 256 < 256 ^ 1 = omega arith in
    ap (λ (x : ℕ). Whole (pos x)) (number_back 1 (m % 256) fits ∙ low)
number_again Char (negsuc m) room = cc
number_again (TextKind n) z room = cc

pub number_read : (kind : FieldKind) (z : ℤ) (octets : List ℕ) → number_octets kind z ≡ Ok octets → decoded kind octets ≡ Whole z
number_read kind z octets made =
    elim (cases_Bool (holds kind z)) [
      | inl room ↦
          let same : answer octets ≡ answer (big_bytes (field_size kind) (low_bytes w64 (field_size kind) z)) = sym made ∙ room_for kind z room in
          let held : octets ≡ big_bytes (field_size kind) (low_bytes w64 (field_size kind) z) = cc in
          ap (decoded kind) held ∙ number_again kind z room
      | inr none ↦ let never : number_octets kind z ≡ Err TooLong = ap (λ (b : Bool). cond b (Ok (big_bytes (field_size kind) (low_bytes w64 (field_size kind) z))) (Err TooLong)) none in absurd cc
    ]
