-- What comes of the next line, and what that line says or is at fault by.
use Rattle.std.proofs.Common.{◌≡◌, ℕ, suc, ◌+◌, ◌≤◌, ◌<◌, ◌==◌, ◌⊎◌, ◌||◌, nat_le, not, Bool, true, false, cond, List, [], ◌∷◌, ◌++◌, length, take, codes, Option, Some, None, Ok, Err, is_some, inl, inr, refl, ap, sym, ◌∙◌, subst, arith}
use Rattle.std.specs.List.{list_all, position_or_len}
use Rattle.std.specs.Str.{bytes_eq}
use Rattle.std.proofs.lemmas.Bool.Decides.{nat_tests}
use Rattle.std.proofs.lemmas.Slice.Eq.{bytes_eq-Decides}
use Rattle.xa_types.specs.Name.{is_name}
use Rattle.xa_types.specs.Configured.{is_among}
use Rattle.xa_types.specs.declared.setup.Setup.{Setup}
use Rattle.xa_types.specs.declared.call.Op.{Op}
use Rattle.xa_script.specs.declared.calls.Verb.{Verb}
use Rattle.xa_script.specs.declared.calls.Verb.TheVariants as verbs
use Rattle.xa_script.specs.declared.script.Client.{Client}
use Rattle.xa_script.specs.declared.draft.Cause.{Cause}
use Rattle.xa_script.specs.declared.draft.Cause.TheVariants.{Unprinted, Unknown, BeforeClients, Misshapen, NoName, Doubled, OneTooMany, NotTaken, NotServed}
use Rattle.xa_script.specs.Parts.{is_printed, is_space, is_comment, IsWord, IsInFront, IsFirstWord}
use Rattle.xa_script.specs.Words.{◌>>=◌, is_skipped, is_blank, cut_word, next_word, word_at, no_more}
use Rattle.xa_script.specs.Asked.{call_words}
use Rattle.xa_script.specs.Calls.{verb_of, op_of}
use Rattle.xa_script.specs.Served.{is_served}
use Rattle.xa_script.specs.Script.{IsClientLine, IsCallLine, Saying, Nothing, Begins, Makes, Says, blank, comment, begins, makes, SaysPrinted, client_names, IsAtFault, unprinted, unknown, before_clients, no_client, no_call, no_name, doubled, one_too_many, not_taken, not_served, HasLeastCause}
use Rattle.xa_script.specs.Draft.{Taken, cause_number, client_with, with_call, begun, client_of, with_client, with_op, called, with_line}
use Rattle.xa_script.proofs.Texts.{some_is}
use Rattle.xa_script.proofs.PartsRead.{no_more_read, no_more_again}
use Rattle.xa_script.proofs.CallRead.{IsCallRead, call_read, call_again}
use Rattle.xa_script.proofs.Fronts.{Cut, cut_at, blank_is, next_front, next_is, word_or_blank, word_read, word_again, spaces_word, front_some}

is_true : {A : Type 0} → (b : Bool) → b ≡ true → b ≡ false → A
is_true b t f = absurd (let e : true ≡ false = sym t ∙ f in cc)

-- ---- first words

abbrev is_client : List ℕ → Bool
is_client word = bytes_eq word (codes "client")

-- a word by which a client or a call begins
abbrev Listed : List ℕ → Type 0
Listed word = (is_client word ≡ true) ⊎ (is_some (verb_of word) ≡ true)

none_listed : Listed [] → ⊥
none_listed (inl h) = absurd cc
none_listed (inr h) = absurd cc

hash_unlisted : (rest : List ℕ) → Listed (35 ∷ rest) → ⊥
hash_unlisted rest (inl h) = absurd cc
hash_unlisted rest (inr h) = absurd cc

chain : (b1 b2 b3 b4 b5 b6 b7 b8 b9 b10 b11 b12 b13 : Bool)
    → is_some (cond b1 (Some verbs.Call) (cond b2 (Some verbs.Acall) (cond b3 (Some verbs.Get) (cond b4 (Some verbs.GetAny) (cond b5 (Some verbs.Cancel) (cond b6 (Some verbs.Connect)
    (cond b7 (Some verbs.Send) (cond b8 (Some verbs.Receive) (cond b9 (Some verbs.Disconnect) (cond b10 (Some verbs.Priority) (cond b11 (Some verbs.Advertise) (cond b12 (Some verbs.Unadvertise)
    (cond b13 (Some verbs.Tick) None)))))))))))))
    ≡ (b1 || (b2 || (b3 || (b4 || (b5 || (b6 || (b7 || (b8 || (b9 || (b10 || (b11 || (b12 || (b13 || false)))))))))))))
chain true b2 b3 b4 b5 b6 b7 b8 b9 b10 b11 b12 b13 = refl
chain false true b3 b4 b5 b6 b7 b8 b9 b10 b11 b12 b13 = refl
chain false false true b4 b5 b6 b7 b8 b9 b10 b11 b12 b13 = refl
chain false false false true b5 b6 b7 b8 b9 b10 b11 b12 b13 = refl
chain false false false false true b6 b7 b8 b9 b10 b11 b12 b13 = refl
chain false false false false false true b7 b8 b9 b10 b11 b12 b13 = refl
chain false false false false false false true b8 b9 b10 b11 b12 b13 = refl
chain false false false false false false false true b9 b10 b11 b12 b13 = refl
chain false false false false false false false false true b10 b11 b12 b13 = refl
chain false false false false false false false false false true b11 b12 b13 = refl
chain false false false false false false false false false false true b12 b13 = refl
chain false false false false false false false false false false false true b13 = refl
chain false false false false false false false false false false false false true = refl
chain false false false false false false false false false false false false false = refl

-- the words of calls are those that name a kind
verb_known : (word : List ℕ) → is_some (verb_of word) ≡ is_among call_words word
verb_known word = chain (bytes_eq word (codes "call")) (bytes_eq word (codes "acall")) (bytes_eq word (codes "get")) (bytes_eq word (codes "getany")) (bytes_eq word (codes "cancel"))
    (bytes_eq word (codes "connect")) (bytes_eq word (codes "send")) (bytes_eq word (codes "recv")) (bytes_eq word (codes "discon")) (bytes_eq word (codes "prio"))
    (bytes_eq word (codes "advertise")) (bytes_eq word (codes "unadvertise")) (bytes_eq word (codes "tick"))

client_is : (word : List ℕ) → is_client word ≡ true → word ≡ codes "client"
client_is word h = (bytes_eq-Decides word (codes "client")).0 h

no_verb : (word : List ℕ) → is_client word ≡ true → verb_of word ≡ None
no_verb word h = ap verb_of (client_is word h)

verb_apart : (word : List ℕ) (verb : Verb) → verb_of word ≡ Some verb → is_client word ≡ false
verb_apart word verb h = elim (is_client word) as (λ b. is_client word ≡ b → b ≡ false) [
  | true ↦ λ e. absurd (let none = no_verb word e in let both : ◌≡◌ {A = Option Verb} None (Some verb) = sym none ∙ h in cc)
  | false ↦ λ e. refl
] refl

verb_some : (word : List ℕ) → is_some (verb_of word) ≡ true → (verb : Verb) × (verb_of word ≡ Some verb)
verb_some word h = elim (verb_of word) as (λ (v : Option Verb). is_some v ≡ true → (verb : Verb) × (v ≡ Some verb)) [ None ↦ λ e. absurd cc | Some verb ↦ λ e. (verb, refl) ] h

verb_none : (word : List ℕ) → is_some (verb_of word) ≡ false → verb_of word ≡ None
verb_none word h = elim (verb_of word) as (λ (v : Option Verb). is_some v ≡ false → v ≡ None) [ None ↦ λ e. refl | Some verb ↦ λ e. absurd cc ] h

-- ---- lines that are skipped

skipped_by : (b s : Bool) → cond b true s ≡ false → (b ≡ false) × (s ≡ false)
skipped_by true s h = absurd cc
skipped_by false s h = (refl, h)

by_hash : (b : Bool) (octet : ℕ) (rest : List ℕ) → (octet == 35) ≡ b → cond b true (is_blank (octet ∷ rest)) ≡ cond b true (list_all is_space (octet ∷ rest))
by_hash true octet rest e = refl
by_hash false octet rest e = blank_is (octet ∷ rest)

-- a line that is skipped has no octet but spaces, or is a comment
skipped_is : (line : List ℕ) → is_skipped line ≡ cond (is_comment line) true (list_all is_space line)
skipped_is [] = refl
skipped_is (octet ∷ rest) = by_hash (octet == 35) octet rest refl

hash_word : (line : List ℕ) → is_comment line ≡ true → (rest : List ℕ) × ((next_word line).0 ≡ 35 ∷ rest)
unfolding cut_word
hash_word [] h = absurd cc
hash_word (octet ∷ line) h =
    let hash : octet ≡ 35 = grind (arith, nat_tests, h) in
    let one : 1 + position_or_len is_space line ≡ suc (position_or_len is_space line) = omega arith in
    (take (position_or_len is_space line) line, ap (λ o. (next_word (o ∷ line)).0) hash ∙ ap (λ n. take n (35 ∷ line)) one)

-- a line that begins a client or a call is not skipped
listed_line : (line : List ℕ) → Listed (next_word line).0 → is_skipped line ≡ false
listed_line line listed = elim (is_comment line) as (λ b. is_comment line ≡ b → is_skipped line ≡ false) [
  | true ↦ λ e. absurd (let w = hash_word line e in hash_unlisted w.0 (subst Listed w.1 listed))
  | false ↦ λ e. elim (list_all is_space line) as (λ s. list_all is_space line ≡ s → is_skipped line ≡ false) [
    | true ↦ λ k. absurd (none_listed (subst Listed (spaces_word line k) listed))
    | false ↦ λ k. skipped_is line ∙ ap (λ b. cond b true (list_all is_space line)) e ∙ k
  ] refl
] refl

-- the first word, where the line isn't skipped
open_word : (line : List ℕ) → is_skipped line ≡ false → IsFirstWord (next_word line).0 line
open_word line shown =
    let parts = skipped_by (is_comment line) (list_all is_space line) (sym (skipped_is line) ∙ shown) in
    elim (word_or_blank line) [
      | inl word ↦ record { rest = (next_word line).1; is_word = word; front = next_front line; apart = parts.0 }
      | inr spaces ↦ is_true (list_all is_space line) spaces parts.1
    ]

first_is : (word line : List ℕ) → (first : IsFirstWord word line) → next_word line ≡ cut_at word first.rest
first_is word line first = next_is word first.rest line first.is_word first.front

first_open : (word line : List ℕ) → IsFirstWord word line → is_skipped line ≡ false
first_open word line first =
    skipped_is line ∙ ap (λ b. cond b true (list_all is_space line)) first.apart ∙ front_some word first.rest line first.is_word first.front

-- ---- what comes of a line

-- behind its first word
abbrev behind : Setup → ℕ → List Client → Cut → Taken
behind setup most clients word = cond (is_client word.0) (with_client most clients (client_of word.1)) (called setup clients (verb_of word.0) word.1)

opened : (setup : Setup) (most : ℕ) (clients : List Client) (line : List ℕ) → is_skipped line ≡ false
    → with_line setup most clients line ≡ cond (not (list_all is_printed line)) (Err Unprinted) (behind setup most clients (next_word line))
unfolding with_line
opened setup most clients line shown =
    ap (λ b. cond (not (list_all is_printed line)) (Err Unprinted) (cond b (Ok clients) (behind setup most clients (next_word line)))) shown

at_client : (setup : Setup) (most : ℕ) (clients : List Client) (word : Cut) → is_client word.0 ≡ true → behind setup most clients word ≡ with_client most clients (client_of word.1)
at_client setup most clients word h = ap (λ b. cond b (with_client most clients (client_of word.1)) (called setup clients (verb_of word.0) word.1)) h

at_call : (setup : Setup) (most : ℕ) (clients : List Client) (word : Cut) (verb : Option Verb) → is_client word.0 ≡ false → verb_of word.0 ≡ verb
    → behind setup most clients word ≡ called setup clients verb word.1
at_call setup most clients word verb h is = ap (λ b. cond b (with_client most clients (client_of word.1)) (called setup clients (verb_of word.0) word.1)) h ∙ ap (λ v. called setup clients v word.1) is

-- ---- client lines

client_word : IsWord (codes "client")
client_word = record { some = omega arith; inner = refl }

client_read : (line name : List ℕ) → is_client (next_word line).0 ≡ true → client_of (next_word line).1 ≡ Some name → IsClientLine line name
unfolding client_of
client_read line name is h = elim (word_at (next_word line).1) as (λ (w : Option Cut). word_at (next_word line).1 ≡ w → (w >>= λ c. no_more c.0 c.1) ≡ Some name → IsClientLine line name) [
  | None ↦ λ e k. absurd cc
  | Some c ↦ λ e k.
      let read = word_read (next_word line).1 c.0 c.1 e in
      let end = no_more_read c.0 name c.1 k in
      let front = subst (λ w. IsInFront w (next_word line).1 line) (client_is (next_word line).0 is) (next_front line) in
      (subst IsWord end.0 read.0, ((next_word line).1, front, (c.1, subst (λ w. IsInFront w c.1 (next_word line).1) end.0 read.1, end.1)))
] refl h

client_again : (line name : List ℕ) → IsClientLine line name → (is_client (next_word line).0 ≡ true) × (client_of (next_word line).1 ≡ Some name)
unfolding client_of
client_again line name is =
    let spaced = is.1 in
    let second = spaced.2 in
    let same = next_is (codes "client") spaced.0 line client_word spaced.1 in
    let word = word_again spaced.0 name second.0 is.0 second.1 in (
      ap (λ (c : Cut). is_client c.0) same,
      ap (λ (c : Cut). client_of c.1) same ∙ ap (λ (w : Option Cut). w >>= λ c. no_more c.0 c.1) word ∙ no_more_again name second.0 second.2,
    )

-- ---- a line that is at fault

-- reading stops by a cause of at most that number
pub record Stops (number : ℕ) (taken : Taken) : Type 0 where
  pub cause : Cause
  pub is : taken ≡ Err cause
  pub low : cause_number cause ≤ number

stops_as : (number : ℕ) (taken other : Taken) → taken ≡ other → Stops number other → Stops number taken
stops_as number taken other e s = record { cause = s.cause; is = e ∙ s.is; low = s.low }

shown_stops : (setup : Setup) (most : ℕ) (clients : List Client) (line : List ℕ) (number : ℕ) → is_skipped line ≡ false → 1 ≤ number
    → Stops number (behind setup most clients (next_word line)) → Stops number (with_line setup most clients line)
shown_stops setup most clients line number shown one s = elim (list_all is_printed line) as (λ p. list_all is_printed line ≡ p → Stops number (with_line setup most clients line)) [
  | true ↦ λ e. stops_as number _ _ (opened setup most clients line shown ∙ ap (λ p. cond (not p) (Err Unprinted) (behind setup most clients (next_word line))) e) s
  | false ↦ λ e. record {
    cause = Unprinted;
    is = opened setup most clients line shown ∙ ap (λ p. cond (not p) (Err Unprinted) (behind setup most clients (next_word line))) e;
    low = one;
  }
] refl

first_stops : (setup : Setup) (most : ℕ) (clients : List Client) (word line : List ℕ) (number : ℕ) → 1 ≤ number → (first : IsFirstWord word line)
    → Stops number (behind setup most clients (cut_at word first.rest)) → Stops number (with_line setup most clients line)
first_stops setup most clients word line number one first s =
    shown_stops setup most clients line number (first_open word line first) one
    (stops_as number _ _ (ap (behind setup most clients) (first_is word line first)) s)

client_stops : (setup : Setup) (most : ℕ) (clients : List Client) (line name : List ℕ) (number : ℕ) → 1 ≤ number → IsClientLine line name
    → Stops number (begun most clients name) → Stops number (with_line setup most clients line)
client_stops setup most clients line name number one is s =
    let again = client_again line name is in
    shown_stops setup most clients line number (listed_line line (inl again.0)) one
    (stops_as number _ _ (at_client setup most clients (next_word line) again.0 ∙ ap (with_client most clients) again.1) s)

called_stops : (setup : Setup) (clients : List Client) (verb : Verb) (rest : List ℕ) (op : Option (Option Op)) (number : ℕ) → 3 ≤ number → op_of setup verb rest ≡ op
    → ((some : List Client) → Stops number (with_op some op)) → Stops number (called setup clients (Some verb) rest)
called_stops setup [] verb rest op number three e each = record { cause = BeforeClients; is = refl; low = three }
called_stops setup (client ∷ clients) verb rest op number three e each = stops_as number _ _ (ap (with_op (client ∷ clients)) e) (each (client ∷ clients))

called_read : (setup : Setup) (line : List ℕ) (op : Option Op) → IsCallRead setup line op → IsCallLine setup line op
called_read setup line op h = call_read setup line op (sym (verb_known (next_word line).0) ∙ ap is_some h.1) h

some_listed : (word : List ℕ) (verb : Verb) → verb_of word ≡ Some verb → is_some (verb_of word) ≡ true
some_listed word verb e = ap is_some e

call_stops : (setup : Setup) (most : ℕ) (clients : List Client) (line : List ℕ) (op : Option Op) (number : ℕ) → 3 ≤ number → IsCallLine setup line op
    → ((some : List Client) → Stops number (with_op some (Some op))) → Stops number (with_line setup most clients line)
call_stops setup most clients line op number three is each =
    let again = call_again setup line op is in
    shown_stops setup most clients line number (listed_line line (inr (some_listed (next_word line).0 again.0 again.1))) (omega (arith, three))
    (stops_as number _ _ (at_call setup most clients (next_word line) (Some again.0) (verb_apart (next_word line).0 again.0 again.1) again.1)
    (called_stops setup clients again.0 (next_word line).1 (Some op) number three again.2 each))

or_false : (a b : Bool) → (a || b) ≡ false → (a ≡ false) × (b ≡ false)
or_false true b h = absurd cc
or_false false b h = (refl, h)

name_stops : (most : ℕ) (clients : List Client) (name : List ℕ) → is_name name ≡ false → Stops 5 (begun most clients name)
name_stops most clients name h = record {
  cause = NoName;
  is = ap (λ b. cond (not b) (Err NoName) (cond (is_among (client_names clients) name) (Err Doubled) (cond (nat_le most (length clients)) (Err OneTooMany) (Ok (clients ++ client_with name [] ∷ []))))) h;
  low = omega arith;
}

doubled_by : (n a : Bool) (rest : Taken) → a ≡ true → Stops 6 (cond (not n) (Err NoName) (cond a (Err Doubled) rest))
doubled_by true a rest h = record { cause = Doubled; is = ap (λ b. cond b (Err Doubled) rest) h; low = omega arith }
doubled_by false a rest h = record { cause = NoName; is = refl; low = omega arith }

many_by : (n a m : Bool) (rest : Taken) → m ≡ true → Stops 7 (cond (not n) (Err NoName) (cond a (Err Doubled) (cond m (Err OneTooMany) rest)))
many_by true true m rest h = record { cause = Doubled; is = refl; low = omega arith }
many_by true false m rest h = record { cause = OneTooMany; is = ap (λ b. cond b (Err OneTooMany) rest) h; low = omega arith }
many_by false a m rest h = record { cause = NoName; is = refl; low = omega arith }

-- a fault stops the reading, by it or a lesser one
pub stops : (setup : Setup) (most : ℕ) (clients : List Client) (line : List ℕ) (number : ℕ) → IsAtFault setup most clients line number → Stops number (with_line setup most clients line)
unfolding with_line
stops setup most clients line number (unprinted h) = record {
  cause = Unprinted;
  is = ap (λ p. cond (not p) (Err Unprinted) (cond (is_skipped line) (Ok clients) (behind setup most clients (next_word line)))) h;
  low = omega arith;
}
stops setup most clients line number (unknown word first h) =
    let apart = or_false (is_client word) (is_among call_words word) h in
    first_stops setup most clients word line 2 (omega arith) first
    (record { cause = Unknown; is = at_call setup most clients (cut_at word first.rest) None apart.0 (verb_none word (verb_known word ∙ apart.1)); low = omega arith })
stops setup most clients line number (before_clients word first h none) =
    let verb = verb_some word (verb_known word ∙ h) in
    first_stops setup most clients word line 3 (omega arith) first
    (record {
      cause = BeforeClients;
      is = at_call setup most clients (cut_at word first.rest) (Some verb.0) (verb_apart word verb.0 verb.1) verb.1 ∙ ap (λ some. called setup some (Some verb.0) first.rest) none;
      low = omega arith;
    })
stops setup most clients line number (no_client first h) =
    let same = first_is (codes "client") line first in
    let at : is_client (next_word line).0 ≡ true = ap (λ (c : Cut). is_client c.0) same in
    shown_stops setup most clients line 4 (first_open (codes "client") line first) (omega arith)
    (stops_as 4 _ _ (at_client setup most clients (next_word line) at)
    (elim (client_of (next_word line).1) as (λ (name : Option (List ℕ)). client_of (next_word line).1 ≡ name → Stops 4 (with_client most clients name)) [
      | None ↦ λ e. record { cause = Misshapen; is = refl; low = omega arith }
      | Some name ↦ λ e. absurd (h name (client_read line name at e))
    ] refl))
stops setup most clients line number (no_call word first h none) =
    let verb = verb_some word (verb_known word ∙ h) in
    let same = first_is word line first in
    let at : verb_of (next_word line).0 ≡ Some verb.0 = ap (λ (c : Cut). verb_of c.0) same ∙ verb.1 in
    shown_stops setup most clients line 4 (first_open word line first) (omega arith)
    (stops_as 4 _ _ (at_call setup most clients (next_word line) (Some verb.0) (verb_apart (next_word line).0 verb.0 at) at)
    (elim (op_of setup verb.0 (next_word line).1) as (λ (op : Option (Option Op)). op_of setup verb.0 (next_word line).1 ≡ op → Stops 4 (called setup clients (Some verb.0) (next_word line).1)) [
      | None ↦ λ e. called_stops setup clients verb.0 (next_word line).1 None 4 (omega arith) e (λ some. record { cause = Misshapen; is = refl; low = omega arith })
      | Some op ↦ λ e. absurd (none op (called_read setup line op (verb.0, at, e)))
    ] refl))
stops setup most clients line number (no_name name is h) = client_stops setup most clients line name 5 (omega arith) is (name_stops most clients name h)
stops setup most clients line number (doubled name is h) =
    client_stops setup most clients line name 6 (omega arith) is (doubled_by (is_name name) (is_among (client_names clients) name) _ h)
stops setup most clients line number (one_too_many name is h) =
    client_stops setup most clients line name 7 (omega arith) is
    (many_by (is_name name) (is_among (client_names clients) name) (nat_le most (length clients)) _ (grind (arith, nat_tests, h)))
stops setup most clients line number (not_taken is) = call_stops setup most clients line None 8 (omega arith) is (λ some. record { cause = NotTaken; is = refl; low = omega arith })
stops setup most clients line number (not_served op is h) =
    call_stops setup most clients line (Some op) 9 (omega arith) is
    (λ some. record { cause = NotServed; is = ap (λ b. cond b (Ok (with_call some op)) (Err NotServed)) h; low = omega arith })

-- ---- what comes of a line

-- the clients behind a line
abbrev pub Extends : ℕ → List Client → Saying → List Client → Type 0
Extends most clients Nothing more = more ≡ clients
Extends most clients (Begins name) more = (more ≡ clients ++ client_with name [] ∷ []) × (is_among (client_names clients) name ≡ false) × (length clients < most)
Extends most clients (Makes op) more = (more ≡ with_call clients op) × (0 < length clients)

pub record GoesOn (setup : Setup) (most : ℕ) (clients : List Client) (line : List ℕ) (more : List Client) : Type 0 where
  pub saying : Saying
  pub says : SaysPrinted setup line saying
  pub extends : Extends most clients saying more

abbrev pub Comes : Setup → ℕ → List Client → List ℕ → Taken → Type 0
Comes setup most clients line (Ok more) = GoesOn setup most clients line more
Comes setup most clients line (Err cause) = IsAtFault setup most clients line (cause_number cause)

begun_comes : (setup : Setup) (most : ℕ) (clients : List Client) (line name : List ℕ) → list_all is_printed line ≡ true → IsClientLine line name
    → Comes setup most clients line (begun most clients name)
begun_comes setup most clients line name printed is =
    elim (is_name name) as (λ n. is_name name ≡ n
    → Comes setup most clients line (cond (not n) (Err NoName) (cond (is_among (client_names clients) name) (Err Doubled) (cond (nat_le most (length clients)) (Err OneTooMany) (Ok (clients ++ client_with name [] ∷ [])))))) [
      | false ↦ λ e. no_name name is e
      | true ↦ λ named.
          elim (is_among (client_names clients) name) as (λ a. is_among (client_names clients) name ≡ a
          → Comes setup most clients line (cond a (Err Doubled) (cond (nat_le most (length clients)) (Err OneTooMany) (Ok (clients ++ client_with name [] ∷ []))))) [
            | true ↦ λ e. doubled name is e
            | false ↦ λ new.
                elim (nat_le most (length clients)) as (λ m. nat_le most (length clients) ≡ m → Comes setup most clients line (cond m (Err OneTooMany) (Ok (clients ++ client_with name [] ∷ [])))) [
                  | true ↦ λ e. one_too_many name is (grind (arith, nat_tests, e))
                  | false ↦ λ e. record { saying = Begins name; says = (printed, begins name is named); extends = (refl, new, grind (arith, nat_tests, e)) }
                ] refl
          ] refl
    ] refl

client_comes : (setup : Setup) (most : ℕ) (clients : List Client) (line : List ℕ) → list_all is_printed line ≡ true → is_skipped line ≡ false → is_client (next_word line).0 ≡ true
    → Comes setup most clients line (with_client most clients (client_of (next_word line).1))
client_comes setup most clients line printed shown at =
    elim (client_of (next_word line).1) as (λ (name : Option (List ℕ)). client_of (next_word line).1 ≡ name → Comes setup most clients line (with_client most clients name)) [
      | None ↦ λ e.
          no_client (subst (λ word. IsFirstWord word line) (client_is (next_word line).0 at) (open_word line shown))
          (λ name is. let both : ◌≡◌ {A = Option (List ℕ)} None (Some name) = sym e ∙ (client_again line name is).1 in cc)
      | Some name ↦ λ e. begun_comes setup most clients line name printed (client_read line name at e)
    ] refl

op_comes : (setup : Setup) (most : ℕ) (client : Client) (clients : List Client) (line : List ℕ) (verb : Verb) → list_all is_printed line ≡ true → is_skipped line ≡ false
    → verb_of (next_word line).0 ≡ Some verb → (op : Option (Option Op)) → op_of setup verb (next_word line).1 ≡ op → Comes setup most (client ∷ clients) line (with_op (client ∷ clients) op)
op_comes setup most client clients line verb printed shown at None e =
    no_call (next_word line).0 (open_word line shown) (sym (verb_known (next_word line).0) ∙ some_listed (next_word line).0 verb at)
    (λ op is.
    let again = call_again setup line op is in
    let same : verb ≡ again.0 = some_is verb again.0 (sym at ∙ again.1) in
    let both : ◌≡◌ {A = Option (Option Op)} None (Some op) = sym e ∙ ap (λ v. op_of setup v (next_word line).1) same ∙ again.2 in cc)
op_comes setup most client clients line verb printed shown at (Some None) e = not_taken (called_read setup line None (verb, at, e))
op_comes setup most client clients line verb printed shown at (Some (Some op)) e =
    let is = called_read setup line (Some op) (verb, at, e) in
    elim (is_served op) as (λ b. is_served op ≡ b → Comes setup most (client ∷ clients) line (cond b (Ok (with_call (client ∷ clients) op)) (Err NotServed))) [
      | true ↦ λ served. record { saying = Makes op; says = (printed, makes op is served); extends = (refl, omega arith) }
      | false ↦ λ no. not_served op is no
    ] refl

call_comes : (setup : Setup) (most : ℕ) (clients : List Client) (line : List ℕ) → list_all is_printed line ≡ true → is_skipped line ≡ false → is_client (next_word line).0 ≡ false
    → (verb : Option Verb) → verb_of (next_word line).0 ≡ verb → Comes setup most clients line (called setup clients verb (next_word line).1)
call_comes setup most clients line printed shown apart None at =
    let unlisted : is_among call_words (next_word line).0 ≡ false = sym (verb_known (next_word line).0) ∙ ap is_some at in
    unknown (next_word line).0 (open_word line shown) (ap (λ b. b || is_among call_words (next_word line).0) apart ∙ unlisted)
call_comes setup most [] line printed shown apart (Some verb) at =
    before_clients (next_word line).0 (open_word line shown) (sym (verb_known (next_word line).0) ∙ some_listed (next_word line).0 verb at) refl
call_comes setup most (client ∷ clients) line printed shown apart (Some verb) at =
    op_comes setup most client clients line verb printed shown at (op_of setup verb (next_word line).1) refl

skipped_says : (setup : Setup) (line : List ℕ) → is_skipped line ≡ true → Says setup line Nothing
skipped_says setup line h = elim (is_comment line) as (λ b. is_comment line ≡ b → Says setup line Nothing) [
  | true ↦ λ e. comment e
  | false ↦ λ e. blank (ap (λ b. cond b true (list_all is_space line)) (sym e) ∙ sym (skipped_is line) ∙ h)
] refl

at_printed : (setup : Setup) (most : ℕ) (clients : List Client) (line : List ℕ) (p s : Bool) → list_all is_printed line ≡ p → is_skipped line ≡ s
    → with_line setup most clients line ≡ cond (not p) (Err Unprinted) (cond s (Ok clients) (behind setup most clients (next_word line)))
unfolding with_line
at_printed setup most clients line p s printed skipped =
    ap (λ b. cond (not b) (Err Unprinted) (cond (is_skipped line) (Ok clients) (behind setup most clients (next_word line)))) printed
    ∙ ap (λ b. cond (not p) (Err Unprinted) (cond b (Ok clients) (behind setup most clients (next_word line)))) skipped

-- a line goes on with what it says, or is at fault
pub comes : (setup : Setup) (most : ℕ) (clients : List Client) (line : List ℕ) → Comes setup most clients line (with_line setup most clients line)
comes setup most clients line =
    elim (list_all is_printed line) as (λ p. list_all is_printed line ≡ p → Comes setup most clients line (with_line setup most clients line)) [
      | false ↦ λ e. subst (Comes setup most clients line) (sym (at_printed setup most clients line false (is_skipped line) e refl)) (unprinted e)
      | true ↦ λ printed.
          elim (is_skipped line) as (λ s. is_skipped line ≡ s → Comes setup most clients line (with_line setup most clients line)) [
            | true ↦ λ s.
                subst (Comes setup most clients line) (sym (at_printed setup most clients line true true printed s))
                (record { saying = Nothing; says = (printed, skipped_says setup line s); extends = refl })
            | false ↦ λ shown.
                subst (Comes setup most clients line) (sym (at_printed setup most clients line true false printed shown))
                (elim (is_client (next_word line).0) as (λ c. is_client (next_word line).0 ≡ c
                → Comes setup most clients line (cond c (with_client most clients (client_of (next_word line).1)) (called setup clients (verb_of (next_word line).0) (next_word line).1))) [
                  | true ↦ λ at. client_comes setup most clients line printed shown at
                  | false ↦ λ apart. call_comes setup most clients line printed shown apart (verb_of (next_word line).0) refl
                ] refl)
          ] refl
    ] refl

begun_by : (n a m : Bool) (more : List Client) → n ≡ true → a ≡ false → m ≡ false → ◌≡◌ {A = Taken} (cond (not n) (Err NoName) (cond a (Err Doubled) (cond m (Err OneTooMany) (Ok more)))) (Ok more)
begun_by n a m more named new few =
    ap (λ b. cond (not b) (Err NoName) (cond a (Err Doubled) (cond m (Err OneTooMany) (Ok more)))) named
    ∙ ap (λ b. cond b (Err Doubled) (cond m (Err OneTooMany) (Ok more))) new ∙ ap (λ b. cond b (Err OneTooMany) (Ok more)) few

called_goes : (setup : Setup) (clients : List Client) (verb : Verb) (rest : List ℕ) (op : Op) → 0 < length clients → op_of setup verb rest ≡ Some (Some op) → is_served op ≡ true
    → called setup clients (Some verb) rest ≡ Ok (with_call clients op)
called_goes setup [] verb rest op some e served = absurd (omega (arith, some))
called_goes setup (client ∷ clients) verb rest op some e served =
    ap (with_op (client ∷ clients)) e ∙ ap (λ b. cond b (Ok (with_call (client ∷ clients) op)) (Err NotServed)) served

-- a line that says that, and may
pub goes : (setup : Setup) (most : ℕ) (clients : List Client) (line : List ℕ) (saying : Saying) (more : List Client) → list_all is_printed line ≡ true → Says setup line saying
    → Extends most clients saying more → with_line setup most clients line ≡ Ok more
goes setup most clients line saying more printed (blank h) ext =
    at_printed setup most clients line true true printed
    (skipped_is line ∙ (elim (is_comment line) as (λ b. cond b true (list_all is_space line) ≡ true) [ true ↦ refl | false ↦ h ]))
    ∙ ap (λ all. Ok all) (sym ext)
goes setup most clients line saying more printed (comment h) ext =
    at_printed setup most clients line true true printed (skipped_is line ∙ ap (λ b. cond b true (list_all is_space line)) h) ∙ ap (λ all. Ok all) (sym ext)
goes setup most clients line saying more printed (begins name is named) ext =
    let again = client_again line name is in
    let few = ext.2 in
    at_printed setup most clients line true false printed (listed_line line (inl again.0))
    ∙ at_client setup most clients (next_word line) again.0 ∙ ap (with_client most clients) again.1
    ∙ begun_by (is_name name) (is_among (client_names clients) name) (nat_le most (length clients)) (clients ++ client_with name [] ∷ []) named ext.1 (grind (arith, nat_tests, few))
    ∙ ap (λ all. Ok all) (sym ext.0)
goes setup most clients line saying more printed (makes op is served) ext =
    let again = call_again setup line (Some op) is in
    at_printed setup most clients line true false printed (listed_line line (inr (some_listed (next_word line).0 again.0 again.1)))
    ∙ at_call setup most clients (next_word line) (Some again.0) (verb_apart (next_word line).0 again.0 again.1) again.1
    ∙ called_goes setup clients again.0 (next_word line).1 op ext.1 again.2 served ∙ ap (λ all. Ok all) (sym ext.0)

err_is : (a b : Cause) → ◌≡◌ {A = Taken} (Err a) (Err b) → a ≡ b
err_is a b h = cc

-- the cause by which reading stops is the least
pub least : (setup : Setup) (most : ℕ) (clients : List Client) (line : List ℕ) (cause : Cause) → with_line setup most clients line ≡ Err cause
    → HasLeastCause setup most clients line (cause_number cause)
least setup most clients line cause e = (
  subst (Comes setup most clients line) e (comes setup most clients line),
  λ other fault.
      let s = stops setup most clients line other fault in
      subst (λ c. cause_number c ≤ other) (err_is s.cause cause (sym s.is ∙ e)) s.low,
)

pub least_stops : (setup : Setup) (most : ℕ) (clients : List Client) (line : List ℕ) (number : ℕ) → HasLeastCause setup most clients line number
    → (cause : Cause) × (with_line setup most clients line ≡ Err cause) × (number ≡ cause_number cause)
least_stops setup most clients line number h =
    let s = stops setup most clients line number h.0 in
    let low = s.low in
    let high = h.1 (cause_number s.cause) (subst (Comes setup most clients line) s.is (comes setup most clients line)) in
    (s.cause, s.is, omega (arith, low, high))
