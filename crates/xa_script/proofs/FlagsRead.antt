-- The flags that are read so far.
use Rattle.std.proofs.Common.{◌≡◌, ℕ, suc, ◌+◌, ◌-◌, ◌≤◌, ◌<◌, Bool, true, false, cond, List, length, Option, Some, None, ap, sym, ◌∙◌, arith}
use Rattle.xa_types.specs.declared.setup.Setup.{Setup}
use Rattle.xa_script.specs.declared.flags.Flags.{Flags}
use Rattle.xa_script.specs.Words.{◌>>=◌, is_blank, word_at}
use Rattle.xa_types.specs.declared.call.CallFlags.{CallFlags}
use Rattle.xa_script.specs.Calls.{no_flags, flag_by, flags_from, flags_of}

abbrev One : Type 0
One = Option (Flags × List ℕ)

abbrev Word : Type 0
Word = Option (List ℕ × List ℕ)

abbrev by : Setup → Bool → ℕ → One → Option Flags
by setup buffered n one = one >>= λ more. flags_from n setup buffered more.0 more.1

abbrev follow : Setup → Bool → ℕ → Flags → Word → Option Flags
follow setup buffered n flags word = word >>= λ w. by setup buffered n (flag_by setup buffered flags w.0 w.1)

turn : (setup : Setup) (buffered : Bool) (n i : ℕ) (flags : Flags) (rest : List ℕ) → i < n
    → flags_from (n - i) setup buffered flags rest ≡ cond (is_blank rest) (Some flags) (follow setup buffered (n - (i + 1)) flags (word_at rest))
unfolding flags_from
turn setup buffered n i flags rest low = let left : n - i ≡ suc (n - (i + 1)) = omega arith in ap (λ k. flags_from k setup buffered flags rest) left

-- no flag follows
pub no_flag : (setup : Setup) (buffered : Bool) (n i : ℕ) (flags : Flags) (rest : List ℕ) (all : Option Flags) → i < n
    → flags_from (n - i) setup buffered flags rest ≡ all → true ≡ is_blank rest → all ≡ Some flags
no_flag setup buffered n i flags rest all low is blank =
    sym is ∙ turn setup buffered n i flags rest low ∙ ap (λ b. cond b (Some flags) (follow setup buffered (n - (i + 1)) flags (word_at rest))) (sym blank)

-- by the word that follows
pub by_word : (setup : Setup) (buffered : Bool) (n i : ℕ) (flags : Flags) (rest : List ℕ) (all : Option Flags) (word : Word) → i < n
    → flags_from (n - i) setup buffered flags rest ≡ all → false ≡ is_blank rest → word_at rest ≡ word → all ≡ follow setup buffered (n - (i + 1)) flags word
by_word setup buffered n i flags rest all word low is some said =
    sym is ∙ turn setup buffered n i flags rest low ∙ ap (λ b. cond b (Some flags) (follow setup buffered (n - (i + 1)) flags (word_at rest))) (sym some)
    ∙ ap (follow setup buffered (n - (i + 1)) flags) said

-- by the flag that the word says
pub by_flag : (setup : Setup) (buffered : Bool) (n i : ℕ) (flags : Flags) (rest word behind : List ℕ) (all : Option Flags) (one : One) → i < n
    → flags_from (n - i) setup buffered flags rest ≡ all → false ≡ is_blank rest → word_at rest ≡ Some (word, behind) → flag_by setup buffered flags word behind ≡ one
    → all ≡ by setup buffered (n - (i + 1)) one
by_flag setup buffered n i flags rest word behind all one low is some said flag =
    by_word setup buffered n i flags rest all (Some (word, behind)) low is some said ∙ ap (by setup buffered (n - (i + 1))) flag

-- there are no more octets
pub at_end : (setup : Setup) (buffered : Bool) (n i : ℕ) (flags : Flags) (rest : List ℕ) (all : Option Flags) (blank : Bool) → n ≤ i
    → flags_from (n - i) setup buffered flags rest ≡ all → blank ≡ is_blank rest → all ≡ cond blank (Some flags) None
unfolding flags_from
at_end setup buffered n i flags rest all blank high is b =
    let none : n - i ≡ 0 = omega arith in sym is ∙ ap (λ k. flags_from k setup buffered flags rest) none ∙ ap (λ c. cond c (Some flags) None) (sym b)

-- none is read yet
pub begins : (setup : Setup) (buffered : Bool) (octets : List ℕ) (call : CallFlags) → call ≡ no_flags
    → flags_from (length octets - 0) setup buffered (record { call = call; expect = None }) octets ≡ flags_of setup buffered octets
unfolding flags_of
begins setup buffered octets call is =
    let all : length octets - 0 ≡ length octets = omega arith in
    ap (λ n. flags_from n setup buffered (record { call = call; expect = None }) octets) all
    ∙ ap (λ (c : CallFlags). flags_from (length octets) setup buffered (record { call = c; expect = None }) octets) is
