use Rattle.std.proofs.Common.{◌≡◌, ◌++◌, ◌∙◌, sym, ap, drop, Ok, true, [], List, ℕ, ℤ, arith}
use Rattle.std.proofs.lemmas.Int.{to_z-of_z}
use Rattle.std.proofs.lemmas.List.{append-nil, drop_all}
use Rattle.std.specs.Int.{w64}
use Rattle.byteorder.specs.Endian.{big_bytes, low_bytes}
use Rattle.xa_types.specs.Kind.{field_size}
use Rattle.xa_buffer.specs.Layout.{holds}
use Rattle.xa_buffer.proofs.Numbers.{encoded_number}
use Rattle.xa_buffer.proofs.value.write_number.Goals as goal

pub returns : goal.returns
returns c =
    let kind = c.args.kind in
    let z = c.args.number in
    let old = c.args.octets.now in
    let passed = to_z-of_z w64 z c.ranges.number in
    let room : holds kind z ≡ true = sym (c.holds.ensures ∙ ap (holds kind) passed) ∙ c.if-not-holds.false in
    let written : c.write_int.new.buf ≡ big_bytes (field_size kind) (low_bytes w64 (field_size kind) z) ++ drop (field_size kind) old =
    c.write_int.ensures
    ∙ (ap (λ (number : ℤ). big_bytes c.field_size.result (low_bytes w64 c.field_size.result number) ++ drop c.field_size.result old) passed
    ∙ ap (λ (n : ℕ). big_bytes n (low_bytes w64 n z) ++ drop n old) c.field_size.ensures) in
    let none : drop (field_size kind) old ≡ [] = drop_all (field_size kind) old (omega arith) in
    encoded_number kind z room
    ∙ ap (λ (octets : List ℕ). Ok octets) (sym (written ∙ (ap (λ (rest : List ℕ). big_bytes (field_size kind) (low_bytes w64 (field_size kind) z) ++ rest) none ∙ append-nil _)))
