-- The flags of a call: that the words are read as they say.
use Rattle.std.proofs.Common.{◌≡◌, ℕ, zero, suc, ◌+◌, ◌-◌, ◌≤◌, ◌<◌, ◌⊎◌, ◌&&◌, ◌||◌, not, Bool, true, false, cond, List, [], ◌∷◌, ◌++◌, length, codes, Option, Some, None, is_some, inl, inr, refl, ap, ap₂, sym, ◌∙◌, subst, arith, append_assoc, append-nil, length-append}
use Rattle.std.specs.List.{list_all, position}
use Rattle.std.specs.Str.{bytes_eq}
use Rattle.std.proofs.lemmas.Bool.{and_parts, and_from}
use Rattle.std.proofs.lemmas.List.Folds.{list_all-append}
use Rattle.std.proofs.lemmas.Slice.Eq.{bytes_eq-Decides}
use Rattle.xa_types.specs.Configured.{is_among, are_distinct}
use Rattle.xa_types.specs.declared.setup.Setup.{Setup}
use Rattle.xa_types.specs.declared.data.Kind.{Kind}
use Rattle.xa_types.specs.declared.call.CallFlags.{CallFlags}
use Rattle.xa_script.specs.declared.flags.Flags.{Flags}
use Rattle.xa_script.specs.Parts.{is_space, IsWord, IsInFront, IsSpaced}
use Rattle.xa_script.specs.Words.{◌>>=◌, is_blank, next_word, word_at}
use Rattle.xa_script.specs.Sent.{is_other}
use Rattle.xa_script.specs.Asked.{expect_of, flags_among, flag_words, AreMarks, flags_with, AreFlags, plain, nochange}
use Rattle.xa_script.specs.Payload.{is_equals, has_field}
use Rattle.xa_script.specs.Calls.{flagged, nochange_at, flag_by, flags_from, flags_of}
use Rattle.xa_script.proofs.Texts.{some_is}
use Rattle.xa_script.proofs.Fronts.{Cut, cut_at, blank_is, next_is, word_read, word_again, spaces_word, front_some}
use Rattle.xa_script.proofs.Names.{among_append, distinct_push, distinct_apart}
use Rattle.xa_script.proofs.PartsRead.{bound, both, AreInFront, spaced_split, by_among, one_of, none_of}
use Rattle.xa_script.proofs.SentRead.{no_place, closed}

-- ---- one flag

-- a flag is a word, is not `nochange` and has no `=`
record IsMark (word : List ℕ) : Type 0 where
  pub is_word : IsWord word
  pub other : list_all is_other word ≡ true
  pub apart : bytes_eq word (codes "nochange") ≡ false

abbrev IsKnown : List ℕ → Type 0
IsKnown word = is_among flag_words word ≡ true

mark_of : (word : List ℕ) → IsKnown word → IsMark word
mark_of word h = by_among IsMark flag_words word (
  record { is_word = closed (codes "noblock") refl refl; other = refl; apart = refl },
  (
    record { is_word = closed (codes "notime") refl refl; other = refl; apart = refl },
    (
      record { is_word = closed (codes "noreply") refl refl; other = refl; apart = refl },
      (
        record { is_word = closed (codes "notran") refl refl; other = refl; apart = refl },
        (record { is_word = closed (codes "sigrstrt") refl refl; other = refl; apart = refl }, tt),
      ),
    ),
  ),
) h

-- ---- one flag more

or_cond : (a b : Bool) → (a || (b || false)) ≡ cond b true a
or_cond true true = refl
or_cond true false = refl
or_cond false true = refl
or_cond false false = refl

mark_more : (before : List (List ℕ)) (word flag : List ℕ) (b : Bool) → bytes_eq flag word ≡ b → is_among (before ++ word ∷ []) flag ≡ cond b true (is_among before flag)
mark_more before word flag b e = among_append before (word ∷ []) flag ∙ or_cond (is_among before flag) (bytes_eq flag word) ∙ ap (λ c. cond c true (is_among before flag)) e

flags_more : (before : List (List ℕ)) (word : List ℕ) (a b c d e : Bool) → bytes_eq (codes "noblock") word ≡ a → bytes_eq (codes "notime") word ≡ b → bytes_eq (codes "noreply") word ≡ c
    → bytes_eq (codes "notran") word ≡ d → bytes_eq (codes "sigrstrt") word ≡ e → flags_among (before ++ word ∷ []) ≡ record {
      no_block = cond a true (is_among before (codes "noblock"));
      no_time = cond b true (is_among before (codes "notime"));
      no_reply = cond c true (is_among before (codes "noreply"));
      no_tran = cond d true (is_among before (codes "notran"));
      sig_restart = cond e true (is_among before (codes "sigrstrt"));
    }
flags_more before word a b c d e p q r s t = λ i. record {
  no_block = mark_more before word (codes "noblock") a p i;
  no_time = mark_more before word (codes "notime") b q i;
  no_reply = mark_more before word (codes "noreply") c r i;
  no_tran = mark_more before word (codes "notran") d s i;
  sig_restart = mark_more before word (codes "sigrstrt") e t i;
}

record IsMore (before : List (List ℕ)) (word : List ℕ) (call : CallFlags) : Type 0 where
  pub known : IsKnown word
  pub new : is_among before word ≡ false
  pub call_is : flags_among (before ++ word ∷ []) ≡ call

unstood : (b : Bool) (more call : CallFlags) → cond b None (Some more) ≡ Some call → (b ≡ false) × (more ≡ call)
unstood true more call h = absurd cc
unstood false more call h = (refl, some_is more call h)

more_by : (before : List (List ℕ)) (flag : List ℕ) (more call : CallFlags) → IsKnown flag → flags_among (before ++ flag ∷ []) ≡ more → cond (is_among before flag) None (Some more) ≡ Some call
    → IsMore before flag call
more_by before flag more call known is h = let u = unstood (is_among before flag) more call h in record { known = known; new = u.0; call_is = is ∙ u.1 }

flag_known : (before : List (List ℕ)) (word : List ℕ) (call : CallFlags) → flagged (flags_among before) word ≡ Some call → IsKnown word
unfolding flagged
flag_known before word call h =
    one_of (bytes_eq word (codes "noblock")) _ _ call _ h (λ h. one_of (bytes_eq word (codes "notime")) _ _ call _ h (λ h. one_of (bytes_eq word (codes "noreply")) _ _ call _ h
    (λ h. one_of (bytes_eq word (codes "notran")) _ _ call _ h (λ h. one_of (bytes_eq word (codes "sigrstrt")) _ _ call _ h (λ h. none_of call h)))))

abbrev FlagRead : List (List ℕ) → CallFlags → List ℕ → Type 0
FlagRead before call word = flagged (flags_among before) word ≡ Some call → IsMore before word call

flag_read : (before : List (List ℕ)) (word : List ℕ) (call : CallFlags) → flagged (flags_among before) word ≡ Some call → IsMore before word call
unfolding flagged
flag_read before word call h = by_among (FlagRead before call) flag_words word (
  λ k. more_by before (codes "noblock") _ call refl (flags_more before (codes "noblock") true false false false false refl refl refl refl refl) k,
  (
    λ k. more_by before (codes "notime") _ call refl (flags_more before (codes "notime") false true false false false refl refl refl refl refl) k,
    (
      λ k. more_by before (codes "noreply") _ call refl (flags_more before (codes "noreply") false false true false false refl refl refl refl refl) k,
      (
        λ k. more_by before (codes "notran") _ call refl (flags_more before (codes "notran") false false false true false refl refl refl refl refl) k,
        (λ k. more_by before (codes "sigrstrt") _ call refl (flags_more before (codes "sigrstrt") false false false false true refl refl refl refl refl) k, tt),
      ),
    ),
  ),
) (flag_known before word call h) h

abbrev FlagsAgain : List (List ℕ) → List ℕ → Type 0
FlagsAgain before word = is_among before word ≡ false → flagged (flags_among before) word ≡ Some (flags_among (before ++ word ∷ []))

flag_again : (before : List (List ℕ)) (word : List ℕ) → IsKnown word → FlagsAgain before word
unfolding flagged
flag_again before word known = by_among (FlagsAgain before) flag_words word (
  λ new. ap (λ b. cond b None (Some (record (flags_among before) { no_block = true }))) new ∙ ap (λ o. Some o) (sym (flags_more before (codes "noblock") true false false false false refl refl refl refl refl)),
  (
    λ new. ap (λ b. cond b None (Some (record (flags_among before) { no_time = true }))) new ∙ ap (λ o. Some o) (sym (flags_more before (codes "notime") false true false false false refl refl refl refl refl)),
    (
      λ new. ap (λ b. cond b None (Some (record (flags_among before) { no_reply = true }))) new ∙ ap (λ o. Some o) (sym (flags_more before (codes "noreply") false false true false false refl refl refl refl refl)),
      (
        λ new. ap (λ b. cond b None (Some (record (flags_among before) { no_tran = true }))) new ∙ ap (λ o. Some o) (sym (flags_more before (codes "notran") false false false true false refl refl refl refl refl)),
        (λ new. ap (λ b. cond b None (Some (record (flags_among before) { sig_restart = true }))) new ∙ ap (λ o. Some o) (sym (flags_more before (codes "sigrstrt") false false false false true refl refl refl refl refl)), tt),
      ),
    ),
  ),
) known

marks_push : (before : List (List ℕ)) (word : List ℕ) → AreMarks before → IsKnown word → is_among before word ≡ false → AreMarks (before ++ word ∷ [])
marks_push before word marks known new = record {
  known = list_all-append (is_among flag_words) before (word ∷ []) ∙ and_from (list_all (is_among flag_words) before) (is_among flag_words word && true) marks.known (and_from (is_among flag_words word) true known refl);
  once = distinct_push before word marks.once new;
}

or_left : (a b : Bool) → (a || b) ≡ false → a ≡ false
or_left true b h = absurd cc
or_left false b h = refl

not_not : (a : Bool) → not a ≡ true → a ≡ false
not_not true h = absurd cc
not_not false h = refl

distinct_front : (a b : List (List ℕ)) → are_distinct (a ++ b) ≡ true → are_distinct a ≡ true
distinct_front [] b h = refl
distinct_front (x ∷ a) b h =
    let parts = and_parts (not (is_among (a ++ b) x)) (are_distinct (a ++ b)) h in
    and_from (not (is_among a x)) (are_distinct a) (ap not (or_left (is_among a x) (is_among b x) (sym (among_append a b x) ∙ not_not (is_among (a ++ b) x) parts.0))) (distinct_front a b parts.1)

marks_front : (a b : List (List ℕ)) → AreMarks (a ++ b) → AreMarks a
marks_front a b marks = record {
  known = (and_parts (list_all (is_among flag_words) a) (list_all (is_among flag_words) b) (sym (list_all-append (is_among flag_words) a b) ∙ marks.known)).0;
  once = distinct_front a b marks.once;
}

-- the next flag of some
record IsNext (before : List (List ℕ)) (word : List ℕ) : Type 0 where
  pub known : IsKnown word
  pub new : is_among before word ≡ false

next_mark : (before : List (List ℕ)) (word : List ℕ) (words : List (List ℕ)) → AreMarks (before ++ word ∷ words) → IsNext before word
next_mark before word words marks = record {
  known = (and_parts (is_among flag_words word) (list_all (is_among flag_words) words)
      (and_parts (list_all (is_among flag_words) before) (list_all (is_among flag_words) (word ∷ words)) (sym (list_all-append (is_among flag_words) before (word ∷ words)) ∙ marks.known)).1).0;
  new = distinct_apart before words word marks.once;
}

-- ---- one turn

abbrev turn : ℕ → Setup → Bool → Flags → List ℕ → Option Flags
turn n setup buffered flags octets = word_at octets >>= λ word. flag_by setup buffered flags word.0 word.1 >>= λ more. flags_from n setup buffered more.0 more.1

turn_blank : (n : ℕ) (setup : Setup) (buffered : Bool) (flags : Flags) (octets : List ℕ) → list_all is_space octets ≡ true → flags_from n setup buffered flags octets ≡ Some flags
unfolding flags_from
turn_blank zero setup buffered flags octets blank = ap (λ b. cond b (Some flags) None) (blank_is octets ∙ blank)
turn_blank (suc n) setup buffered flags octets blank = ap (λ b. cond b (Some flags) (turn n setup buffered flags octets)) (blank_is octets ∙ blank)

turn_word : (n : ℕ) (setup : Setup) (buffered : Bool) (flags more final : Flags) (word rest behind octets : List ℕ) → IsWord word → IsInFront word rest octets
    → flag_by setup buffered flags word rest ≡ Some (more, behind) → flags_from (suc n) setup buffered flags octets ≡ flags_from n setup buffered more behind
unfolding flags_from
turn_word n setup buffered flags more final word rest behind octets is front by =
    ap (λ b. cond b (Some flags) (turn n setup buffered flags octets)) (blank_is octets ∙ front_some word rest octets is front)
    ∙ both (word_at octets) (λ word. flag_by setup buffered flags word.0 word.1 >>= λ more. flags_from n setup buffered more.0 more.1) (cut_at word rest) _ (word_again octets word rest is front)
    (both (flag_by setup buffered flags word rest) (λ more. flags_from n setup buffered more.0 more.1) (more, behind) _ by refl)

-- nothing follows, or what a turn takes
record IsTurn (n : ℕ) (setup : Setup) (buffered : Bool) (flags : Flags) (octets : List ℕ) (final : Flags) : Type 0 where
  pub word : List ℕ
  pub rest : List ℕ
  pub more : Flags
  pub behind : List ℕ
  pub is_word : IsWord word
  pub front : IsInFront word rest octets
  pub by : flag_by setup buffered flags word rest ≡ Some (more, behind)
  pub goes : flags_from n setup buffered more behind ≡ Some final

abbrev Reads : ℕ → Setup → Bool → Flags → List ℕ → Flags → Type 0
Reads n setup buffered flags octets final = ((list_all is_space octets ≡ true) × (flags ≡ final)) ⊎ IsTurn n setup buffered flags octets final

turn_read : (n : ℕ) (setup : Setup) (buffered : Bool) (flags : Flags) (octets : List ℕ) (final : Flags) → flags_from (suc n) setup buffered flags octets ≡ Some final
    → Reads n setup buffered flags octets final
unfolding flags_from
turn_read n setup buffered flags octets final h = elim (is_blank octets) as (λ b. is_blank octets ≡ b → cond b (Some flags) (turn n setup buffered flags octets) ≡ Some final → Reads n setup buffered flags octets final) [
  | true ↦ λ e k. inl (sym (blank_is octets) ∙ e, some_is flags final k)
  | false ↦ λ e k.
      let word = bound (word_at octets) (λ word. flag_by setup buffered flags word.0 word.1 >>= λ more. flags_from n setup buffered more.0 more.1) final k in
      let more = bound (flag_by setup buffered flags word.at.0 word.at.1) (λ more. flags_from n setup buffered more.0 more.1) final word.then in
      let read = word_read octets word.at.0 word.at.1 word.is in
      inr (record { word = word.at.0; rest = word.at.1; more = more.at.0; behind = more.at.1; is_word = read.0; front = read.1; by = more.is; goes = more.then })
] refl h

last_read : (setup : Setup) (buffered : Bool) (flags : Flags) (octets : List ℕ) (final : Flags) → flags_from 0 setup buffered flags octets ≡ Some final → (list_all is_space octets ≡ true) × (flags ≡ final)
unfolding flags_from
last_read setup buffered flags octets final h = elim (is_blank octets) as (λ b. is_blank octets ≡ b → cond b (Some flags) None ≡ Some final → (list_all is_space octets ≡ true) × (flags ≡ final)) [
  | true ↦ λ e k. (sym (blank_is octets) ∙ e, some_is flags final k)
  | false ↦ λ e k. absurd cc
] refl h

-- what a word adds
record IsPlain (before : List (List ℕ)) (expect : Option (Option Kind)) (word rest : List ℕ) (more : Flags) (behind : List ℕ) : Type 0 where
  pub is_more : IsNext before word
  pub more_is : flags_with (before ++ word ∷ []) expect ≡ more
  pub stays : rest ≡ behind

record IsChange (setup : Setup) (buffered : Bool) (before : List (List ℕ)) (expect : Option (Option Kind)) (word rest : List ℕ) (more : Flags) (behind : List ℕ) : Type 0 where
  pub kind_word : List ℕ
  pub kind : Option Kind
  pub word_is : word ≡ codes "nochange"
  pub may : buffered ≡ true
  pub new : expect ≡ None
  pub is_kind : expect_of setup kind_word ≡ Some kind
  pub is_word : IsWord kind_word
  pub front : IsInFront kind_word behind rest
  pub more_is : flags_with before (Some kind) ≡ more

abbrev Adds : Setup → Bool → List (List ℕ) → Option (Option Kind) → List ℕ → List ℕ → Flags → List ℕ → Type 0
Adds setup buffered before expect word rest more behind = IsPlain before expect word rest more behind ⊎ IsChange setup buffered before expect word rest more behind

expect_none : (expect : Option (Option Kind)) → not (is_some expect) ≡ true → expect ≡ None
expect_none None h = refl
expect_none (Some kind) h = absurd cc

change_read : (setup : Setup) (buffered : Bool) (before : List (List ℕ)) (expect : Option (Option Kind)) (word rest : List ℕ) (more : Flags) (behind : List ℕ) → word ≡ codes "nochange"
    → nochange_at setup buffered (flags_with before expect) rest ≡ Some (more, behind) → IsChange setup buffered before expect word rest more behind
unfolding nochange_at
change_read setup buffered before expect word rest more behind e h =
    elim (buffered && not (is_some expect)) as (λ b. (buffered && not (is_some expect)) ≡ b
    → ◌≡◌ {A = Option (Flags × List ℕ)} (cond b (word_at rest >>= λ word. expect_of setup word.0 >>= λ kind. Some (flags_with before (Some kind), word.1)) None) (Some (more, behind))
    → IsChange setup buffered before expect word rest more behind) [
      | true ↦ λ t k.
          let tests = and_parts buffered (not (is_some expect)) t in
          let next = bound (word_at rest) (λ word. expect_of setup word.0 >>= λ kind. Some (flags_with before (Some kind), word.1)) (more, behind) k in
          let kind = bound (expect_of setup next.at.0) (λ kind. Some (flags_with before (Some kind), next.at.1)) (more, behind) next.then in
          let read = word_read rest next.at.0 next.at.1 next.is in
          let same = some_is (flags_with before (Some kind.at), next.at.1) (more, behind) kind.then in record {
            kind_word = next.at.0;
            kind = kind.at;
            word_is = e;
            may = tests.0;
            new = expect_none expect tests.1;
            is_kind = kind.is;
            is_word = read.0;
            front = subst (λ behind. IsInFront next.at.0 behind rest) (ap (λ (p : Flags × List ℕ). p.1) same) read.1;
            more_is = ap (λ (p : Flags × List ℕ). p.0) same;
          }
      | false ↦ λ t k. absurd cc
    ] refl h

adds : (setup : Setup) (buffered : Bool) (before : List (List ℕ)) (expect : Option (Option Kind)) (word rest : List ℕ) (more : Flags) (behind : List ℕ)
    → flag_by setup buffered (flags_with before expect) word rest ≡ Some (more, behind) → Adds setup buffered before expect word rest more behind
unfolding flag_by
adds setup buffered before expect word rest more behind h =
    elim (bytes_eq word (codes "nochange")) as (λ b. bytes_eq word (codes "nochange") ≡ b → ◌≡◌ {A = Option (Flags × List ℕ)} (cond b (nochange_at setup buffered (flags_with before expect) rest)
    (flagged (flags_among before) word >>= λ call. Some (record { call = call; expect = expect }, rest))) (Some (more, behind)) → Adds setup buffered before expect word rest more behind) [
      | true ↦ λ e k. inr (change_read setup buffered before expect word rest more behind ((bytes_eq-Decides word (codes "nochange")).0 e) k)
      | false ↦ λ e k.
          let call = bound (flagged (flags_among before) word) (λ call. Some (record { call = call; expect = expect }, rest)) (more, behind) k in
          let is = flag_read before word call.at call.is in
          let same = some_is (record { call = call.at; expect = expect }, rest) (more, behind) call.then in
          inl (record {
            is_more = record { known = is.known; new = is.new };
            more_is = ap (λ (c : CallFlags). record { call = c; expect = expect }) is.call_is ∙ ap (λ (p : Flags × List ℕ). p.0) same;
            stays = ap (λ (p : Flags × List ℕ). p.1) same;
          })
    ] refl h

-- ---- flags that are read

record AreMore (before : List (List ℕ)) (expect : Option (Option Kind)) (octets : List ℕ) (final : Flags) : Type 0 where
  pub words : List (List ℕ)
  pub spaced : IsSpaced words octets
  pub marks : AreMarks (before ++ words)
  pub final_is : flags_with (before ++ words) expect ≡ final

no_flags_more : (before : List (List ℕ)) (expect : Option (Option Kind)) (octets : List ℕ) (final : Flags) → AreMarks before → (list_all is_space octets ≡ true) × (flags_with before expect ≡ final)
    → AreMore before expect octets final
no_flags_more before expect octets final marks end =
    record { words = []; spaced = end.0; marks = subst AreMarks (sym (append-nil before)) marks; final_is = ap (λ words. flags_with words expect) (append-nil before) ∙ end.1 }

one_flag_more : (before : List (List ℕ)) (expect : Option (Option Kind)) (word rest octets : List ℕ) (final : Flags) → IsInFront word rest octets → AreMore (before ++ word ∷ []) expect rest final
    → AreMore before expect octets final
one_flag_more before expect word rest octets final front more =
    let same = append_assoc before (word ∷ []) more.words in record {
      words = word ∷ more.words;
      spaced = (rest, front, more.spaced);
      marks = subst AreMarks same more.marks;
      final_is = ap (λ words. flags_with words expect) (sym same) ∙ more.final_is;
    }

-- behind `nochange KIND`
rest_read : (n : ℕ) (setup : Setup) (buffered : Bool) (before : List (List ℕ)) (kind : Option Kind) (octets : List ℕ) (final : Flags) → AreMarks before
    → flags_from n setup buffered (flags_with before (Some kind)) octets ≡ Some final → AreMore before (Some kind) octets final
rest_read zero setup buffered before kind octets final marks h = no_flags_more before (Some kind) octets final marks (last_read setup buffered (flags_with before (Some kind)) octets final h)
rest_read (suc n) setup buffered before kind octets final marks h =
    elim (turn_read n setup buffered (flags_with before (Some kind)) octets final h) [
      | inl end ↦ no_flags_more before (Some kind) octets final marks end
      | inr t ↦ elim (adds setup buffered before (Some kind) t.word t.rest t.more t.behind t.by) [
        | inl one ↦
            one_flag_more before (Some kind) t.word t.rest octets final t.front
            (rest_read n setup buffered (before ++ t.word ∷ []) kind t.rest final (marks_push before t.word marks one.is_more.known one.is_more.new)
            (ap₂ (flags_from n setup buffered) one.more_is one.stays ∙ t.goes))
        | inr change ↦ absurd (let new = change.new in cc)
      ]
    ]

record IsChanged (setup : Setup) (buffered : Bool) (before : List (List ℕ)) (octets : List ℕ) (final : Flags) : Type 0 where
  pub front : List (List ℕ)
  pub back : List (List ℕ)
  pub word : List ℕ
  pub kind : Option Kind
  pub spaced : IsSpaced (front ++ codes "nochange" ∷ word ∷ back) octets
  pub may : buffered ≡ true
  pub is_kind : expect_of setup word ≡ Some kind
  pub is_word : IsWord word
  pub marks : AreMarks (before ++ (front ++ back))
  pub final_is : flags_with (before ++ (front ++ back)) (Some kind) ≡ final

changed_more : (setup : Setup) (buffered : Bool) (before : List (List ℕ)) (word rest octets : List ℕ) (final : Flags) → IsInFront word rest octets → IsChanged setup buffered (before ++ word ∷ []) rest final
    → IsChanged setup buffered before octets final
changed_more setup buffered before word rest octets final front more =
    let same = append_assoc before (word ∷ []) (more.front ++ more.back) in record {
      front = word ∷ more.front;
      back = more.back;
      word = more.word;
      kind = more.kind;
      spaced = (rest, front, more.spaced);
      may = more.may;
      is_kind = more.is_kind;
      is_word = more.is_word;
      marks = subst AreMarks same more.marks;
      final_is = ap (λ words. flags_with words (Some more.kind)) (sym same) ∙ more.final_is;
    }

abbrev AreRead : Setup → Bool → List (List ℕ) → List ℕ → Flags → Type 0
AreRead setup buffered before octets final = AreMore before None octets final ⊎ IsChanged setup buffered before octets final

all_read : (n : ℕ) (setup : Setup) (buffered : Bool) (before : List (List ℕ)) (octets : List ℕ) (final : Flags) → AreMarks before
    → flags_from n setup buffered (flags_with before None) octets ≡ Some final → AreRead setup buffered before octets final
all_read zero setup buffered before octets final marks h = inl (no_flags_more before None octets final marks (last_read setup buffered (flags_with before None) octets final h))
all_read (suc n) setup buffered before octets final marks h =
    elim (turn_read n setup buffered (flags_with before None) octets final h) [
      | inl end ↦ inl (no_flags_more before None octets final marks end)
      | inr t ↦ elim (adds setup buffered before None t.word t.rest t.more t.behind t.by) [
        | inl one ↦ elim (all_read n setup buffered (before ++ t.word ∷ []) t.rest final (marks_push before t.word marks one.is_more.known one.is_more.new) (ap₂ (flags_from n setup buffered) one.more_is one.stays ∙ t.goes)) [
          | inl more ↦ inl (one_flag_more before None t.word t.rest octets final t.front more)
          | inr more ↦ inr (changed_more setup buffered before t.word t.rest octets final t.front more)
        ]
        | inr change ↦
            let more = rest_read n setup buffered before change.kind t.behind final marks (ap (λ flags. flags_from n setup buffered flags t.behind) change.more_is ∙ t.goes) in
            inr (record {
              front = [];
              back = more.words;
              word = change.kind_word;
              kind = change.kind;
              spaced = (t.rest, subst (λ w. IsInFront w t.rest octets) change.word_is t.front, (t.behind, change.front, more.spaced));
              may = change.may;
              is_kind = change.is_kind;
              is_word = change.is_word;
              marks = more.marks;
              final_is = more.final_is;
            })
      ]
    ]

pub record AreSaid (setup : Setup) (buffered : Bool) (octets : List ℕ) (flags : Flags) : Type 0 where
  pub words : List (List ℕ)
  pub are : AreFlags setup buffered words flags
  pub spaced : IsSpaced words octets

no_marks : AreMarks []
no_marks = record { known = refl; once = refl }

pub flags_read : (setup : Setup) (buffered : Bool) (octets : List ℕ) (flags : Flags) → flags_of setup buffered octets ≡ Some flags → AreSaid setup buffered octets flags
unfolding flags_of
flags_read setup buffered octets flags h = elim (all_read (length octets) setup buffered [] octets flags no_marks h) [
  | inl more ↦ subst (AreSaid setup buffered octets) more.final_is (record { words = more.words; are = plain more.words more.marks; spaced = more.spaced })
  | inr c ↦ subst (AreSaid setup buffered octets) c.final_is
      (record { words = c.front ++ codes "nochange" ∷ c.word ∷ c.back; are = nochange c.front c.back c.word c.kind c.may c.is_word c.is_kind c.marks; spaced = c.spaced })
]

-- ---- flags that are said

by_flag : (setup : Setup) (buffered : Bool) (before : List (List ℕ)) (expect : Option (Option Kind)) (word rest : List ℕ) → IsNext before word
    → flag_by setup buffered (flags_with before expect) word rest ≡ Some (flags_with (before ++ word ∷ []) expect, rest)
unfolding flag_by
by_flag setup buffered before expect word rest next =
    ap (λ b. cond b (nochange_at setup buffered (flags_with before expect) rest) (flagged (flags_among before) word >>= λ call. Some (record { call = call; expect = expect }, rest))) (mark_of word next.known).apart
    ∙ both (flagged (flags_among before) word) (λ call. Some (record { call = call; expect = expect }, rest)) (flags_among (before ++ word ∷ [])) _ (flag_again before word next.known next.new) refl

by_change : (setup : Setup) (buffered : Bool) (before : List (List ℕ)) (word rest behind : List ℕ) (kind : Option Kind) → buffered ≡ true → IsWord word → expect_of setup word ≡ Some kind
    → IsInFront word behind rest → flag_by setup buffered (flags_with before None) (codes "nochange") rest ≡ Some (flags_with before (Some kind), behind)
unfolding flag_by nochange_at
by_change setup buffered before word rest behind kind may is kind_is front =
    ap (λ b. cond (b && true) (word_at rest >>= λ word. expect_of setup word.0 >>= λ kind. Some (flags_with before (Some kind), word.1)) None) may
    ∙ both (word_at rest) (λ word. expect_of setup word.0 >>= λ kind. Some (flags_with before (Some kind), word.1)) (cut_at word behind) _ (word_again rest word behind is front)
    (both (expect_of setup word) (λ kind. Some (flags_with before (Some kind), behind)) kind _ kind_is refl)

-- over some flags
runs : (n : ℕ) (setup : Setup) (buffered : Bool) (words before : List (List ℕ)) (expect : Option (Option Kind)) (rest octets : List ℕ) → AreMarks (before ++ words) → AreInFront words rest octets
    → flags_from (length words + n) setup buffered (flags_with before expect) octets ≡ flags_from n setup buffered (flags_with (before ++ words) expect) rest
runs n setup buffered [] before expect rest octets marks front =
    let none : length {A = List ℕ} [] + n ≡ n = omega arith in
    ap₂ (λ k words. flags_from k setup buffered (flags_with words expect) octets) none (sym (append-nil before)) ∙ ap (flags_from n setup buffered (flags_with (before ++ []) expect)) front
runs n setup buffered (word ∷ words) before expect rest octets marks front =
    let next = next_mark before word words marks in
    let same = append_assoc before (word ∷ []) words in
    let one : length (word ∷ words) + n ≡ suc (length words + n) = omega arith in
    ap (λ k. flags_from k setup buffered (flags_with before expect) octets) one
    ∙ turn_word (length words + n) setup buffered (flags_with before expect) (flags_with (before ++ word ∷ []) expect) (flags_with before expect) word front.0 front.0 octets (mark_of word next.known).is_word front.1
    (by_flag setup buffered before expect word front.0 next)
    ∙ runs n setup buffered words (before ++ word ∷ []) expect rest front.0 (subst AreMarks (sym same) marks) front.2
    ∙ ap (λ words. flags_from n setup buffered (flags_with words expect) rest) same

shorter : (word rest octets : List ℕ) → IsWord word → IsInFront word rest octets → length rest < length octets
shorter word rest octets is front =
    let some = is.some in
    let a = ap length front.cut in
    let b = length-append front.gap (word ++ rest) in
    let c = length-append word rest in
    omega (arith, some, a, b, c)

fits : (words : List (List ℕ)) (rest octets : List ℕ) → list_all (is_among flag_words) words ≡ true → AreInFront words rest octets → length words + length rest ≤ length octets
fits [] rest octets known front = let same = ap length front in omega (arith, same)
fits (word ∷ words) rest octets known front =
    let parts = and_parts (is_among flag_words word) (list_all (is_among flag_words) words) known in
    let less = shorter word front.0 octets (mark_of word parts.0).is_word front.1 in
    let more = fits words rest front.0 parts.1 front.2 in
    omega (arith, less, more)

-- all parts in front
whole : (words : List (List ℕ)) (octets : List ℕ) → IsSpaced words octets → (rest : List ℕ) × AreInFront words rest octets × (list_all is_space rest ≡ true)
whole [] octets s = (octets, refl, s)
whole (word ∷ words) octets s = let more = whole words s.0 s.2 in (more.0, (s.0, s.1, more.1), more.2)

plain_again : (setup : Setup) (buffered : Bool) (words : List (List ℕ)) (octets : List ℕ) → AreMarks words → IsSpaced words octets → flags_of setup buffered octets ≡ Some (flags_with words None)
unfolding flags_of
plain_again setup buffered words octets marks spaced =
    let w = whole words octets spaced in
    let fit = fits words w.0 octets marks.known w.1 in
    let n = length octets - length words in
    let all : length octets ≡ length words + n = omega (arith, fit) in
    ap (λ k. flags_from k setup buffered (flags_with [] None) octets) all ∙ runs n setup buffered words [] None w.0 octets marks w.1 ∙ turn_blank n setup buffered (flags_with words None) w.0 w.2

changed_again : (setup : Setup) (buffered : Bool) (before after : List (List ℕ)) (word : List ℕ) (kind : Option Kind) (octets : List ℕ) → buffered ≡ true → IsWord word → expect_of setup word ≡ Some kind
    → AreMarks (before ++ after) → IsSpaced (before ++ codes "nochange" ∷ word ∷ after) octets → flags_of setup buffered octets ≡ Some (flags_with (before ++ after) (Some kind))
unfolding flags_of
changed_again setup buffered before after word kind octets may is kind_is marks spaced =
    let f = spaced_split before (codes "nochange" ∷ word ∷ after) octets spaced in
    let front = f.0 in
    let mid = f.2 in
    let last = mid.2 in
    let w = whole after last.0 last.2 in
    let change = closed (codes "nochange") refl refl in
    let all_known = sym (list_all-append (is_among flag_words) before after) ∙ marks.known in
    let known = and_parts (list_all (is_among flag_words) before) (list_all (is_among flag_words) after) all_known in
    let a = fits before front octets known.0 f.1 in
    let b = shorter (codes "nochange") mid.0 front change mid.1 in
    let c = shorter word last.0 mid.0 is last.1 in
    let d = fits after w.0 last.0 known.1 w.1 in
    let n = length octets - (length before + suc (length after)) in
    let all : length octets ≡ length before + suc (length after + n) = omega (arith, a, b, c, d) in
    ap (λ k. flags_from k setup buffered (flags_with [] None) octets) all
    ∙ runs (suc (length after + n)) setup buffered before [] None front octets (marks_front before after marks) f.1
    ∙ turn_word (length after + n) setup buffered (flags_with before None) (flags_with before (Some kind)) (flags_with before None) (codes "nochange") mid.0 last.0 front change mid.1
    (by_change setup buffered before word mid.0 last.0 kind may is kind_is last.1)
    ∙ runs n setup buffered after before (Some kind) w.0 last.0 marks w.1
    ∙ turn_blank n setup buffered (flags_with (before ++ after) (Some kind)) w.0 w.2

pub flags_again : (setup : Setup) (buffered : Bool) (words : List (List ℕ)) (flags : Flags) (octets : List ℕ) → AreFlags setup buffered words flags → IsSpaced words octets
    → flags_of setup buffered octets ≡ Some flags
flags_again setup buffered words flags octets (plain _ marks) spaced = plain_again setup buffered words octets marks spaced
flags_again setup buffered words flags octets (nochange before after word kind may is kind_is marks) spaced = changed_again setup buffered before after word kind octets may is kind_is marks spaced

-- ---- no flag is a field

pub no_field : (word rest octets : List ℕ) → IsWord word → list_all is_other word ≡ true → IsInFront word rest octets → has_field octets ≡ false
no_field word rest octets is other front = ap (λ (c : Cut). is_some (position is_equals c.0)) (next_is word rest octets is front) ∙ no_place word other

pub no_field_blank : (octets : List ℕ) → list_all is_space octets ≡ true → has_field octets ≡ false
no_field_blank octets blank = ap (λ word. is_some (position is_equals word)) (spaces_word octets blank)

marks_bare : (words : List (List ℕ)) (octets : List ℕ) → AreMarks words → IsSpaced words octets → has_field octets ≡ false
marks_bare [] octets marks spaced = no_field_blank octets spaced
marks_bare (word ∷ words) octets marks spaced =
    let mark = mark_of word (and_parts (is_among flag_words word) (list_all (is_among flag_words) words) marks.known).0 in
    no_field word spaced.0 octets mark.is_word mark.other spaced.1

change_bare : (before after : List (List ℕ)) (word octets : List ℕ) → AreMarks (before ++ after) → IsSpaced (before ++ codes "nochange" ∷ word ∷ after) octets → has_field octets ≡ false
change_bare [] after word octets marks spaced = no_field (codes "nochange") spaced.0 octets (closed (codes "nochange") refl refl) refl spaced.1
change_bare (first ∷ before) after word octets marks spaced =
    let mark = mark_of first (and_parts (is_among flag_words first) (list_all (is_among flag_words) (before ++ after)) marks.known).0 in
    no_field first spaced.0 octets mark.is_word mark.other spaced.1

pub flags_bare : (setup : Setup) (buffered : Bool) (words : List (List ℕ)) (flags : Flags) (octets : List ℕ) → AreFlags setup buffered words flags → IsSpaced words octets → has_field octets ≡ false
flags_bare setup buffered words flags octets (plain _ marks) spaced = marks_bare words octets marks spaced
flags_bare setup buffered words flags octets (nochange before after word kind may is kind_is marks) spaced = change_bare before after word octets marks spaced

-- how flags begin
abbrev pub Starts : List ℕ → Type 0
Starts octets = ((next_word octets).0 ≡ []) ⊎ (is_among (codes "nochange" ∷ flag_words) (next_word octets).0 ≡ true)

mark_starts : (word rest octets : List ℕ) → IsKnown word → IsInFront word rest octets → Starts octets
mark_starts word rest octets known front =
    let mark = mark_of word known in
    inr (ap (λ (c : Cut). is_among (codes "nochange" ∷ flag_words) c.0) (next_is word rest octets mark.is_word front) ∙ ap₂ (λ a b. a || b) mark.apart known)

marks_start : (words : List (List ℕ)) (octets : List ℕ) → AreMarks words → IsSpaced words octets → Starts octets
marks_start [] octets marks spaced = inl (spaces_word octets spaced)
marks_start (word ∷ words) octets marks spaced =
    mark_starts word spaced.0 octets (and_parts (is_among flag_words word) (list_all (is_among flag_words) words) marks.known).0 spaced.1

change_starts : (before after : List (List ℕ)) (word octets : List ℕ) → AreMarks (before ++ after) → IsSpaced (before ++ codes "nochange" ∷ word ∷ after) octets → Starts octets
change_starts [] after word octets marks spaced =
    inr (ap (λ (c : Cut). is_among (codes "nochange" ∷ flag_words) c.0) (next_is (codes "nochange") spaced.0 octets (closed (codes "nochange") refl refl) spaced.1))
change_starts (first ∷ before) after word octets marks spaced =
    mark_starts first spaced.0 octets (and_parts (is_among flag_words first) (list_all (is_among flag_words) (before ++ after)) marks.known).0 spaced.1

pub flags_start : (setup : Setup) (buffered : Bool) (words : List (List ℕ)) (flags : Flags) (octets : List ℕ) → AreFlags setup buffered words flags → IsSpaced words octets → Starts octets
flags_start setup buffered words flags octets (plain _ marks) spaced = marks_start words octets marks spaced
flags_start setup buffered words flags octets (nochange before after word kind may is kind_is marks) spaced = change_starts before after word octets marks spaced
