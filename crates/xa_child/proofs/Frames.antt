-- Lists of a child's frames, and their spellings.
use Rattle.std.specs.Prelude.{IfSome}
use Rattle.xa_child.specs.declared.doing.Doing.TheVariants.{Waits}
use Rattle.std.proofs.Common.{◌≡◌, ℕ, ◌+◌, ◌<◌, ◌^◌, ◌&&◌, ◌==◌, Bool, true, false, if◌then◌else◌, pos, List, [], ◌∷◌, ◌++◌, append_assoc, append-nil, length, take, get_or, add-one, Option, Some, None, codes, int_lt, ◌||◌, ◌≤◌, length-append, length-take, length-drop, refl, sym, ◌∙◌, ap, arith, rules}
use Rattle.std.proofs.Math.Bool.{and_assoc}
use Rattle.std.proofs.Math.Seq.{take-suc}
use Rattle.std.proofs.lemmas.List.Quantifiers.{position-Some}
use Rattle.std.proofs.lemmas.List.Elements.{All-nil, All-cons, All-head}
use Rattle.std.specs.List.{All}
use Rattle.std.specs.Str.{bytes_eq}
use Rattle.xa_types.specs.Name.{IsName}
use Rattle.xa_types.specs.declared.data.Data.{Data}
use Rattle.xa_types.specs.declared.data.Data.TheVariants.{Absent, Octet, Struct}
use Rattle.xa_types.specs.declared.call.Rval.TheVariants.{Success, Fail, Exit}
use Rattle.xa_frame.specs.declared.frame.Frame.{Frame}
use Rattle.xa_frame.specs.declared.frame.Body.{Body}
use Rattle.xa_frame.specs.declared.frame.Body.TheVariants.{Ready, Return, Forward, Invoke}
use Rattle.xa_frame.specs.Spelling.{spelled, all_spelled, HasSpelling, IsBody, IsData}
use Rattle.xa_frame.proofs.FrameLemmas.{all_spelled-push}
use Rattle.xa_child.specs.declared.child.Said.{Said}
use Rattle.xa_child.specs.Entry.{is_entry, account, amount, booked}
use Rattle.xa_child.specs.Said.{frame_of, all_said}
use Rattle.xa_child.specs.Texts.{space_in}
use Rattle.xa_child.specs.Calling.{Deed, IsSmall, is_calling}
use Rattle.xa_child.specs.Child.{ChildState, admits, admits_all, after, after_all, answer, answer_of, deed_by, exits, invoked, counted, said, greeting, returned, transferred, accounted, passed, passed_text, quit, is_fail, no_entry, next, followed, is_die, is_exit}
use Rattle.xa_types.specs.declared.call.Mode.{Mode}
use Rattle.xa_frame.specs.declared.frame.Body.TheVariants.{Reply as ReplyBody}
use Rattle.xa_child.proofs.Callings.{relayed_body, changed_body, chats_body, told_body}

pub admits_all-append : (s : ChildState) (xs ys : List Frame) → admits_all s (xs ++ ys) ≡ (admits_all s xs && admits_all (after_all s xs) ys)
admits_all-append s [] ys = refl
admits_all-append s (x ∷ xs) ys =
    ap (λ b. admits s x && b) (admits_all-append (after s x) xs ys) ∙ sym (and_assoc (admits s x) (admits_all (after s x) xs) (admits_all (after_all (after s x) xs) ys))

pub after_all-append : (s : ChildState) (xs ys : List Frame) → after_all s (xs ++ ys) ≡ after_all (after_all s xs) ys
after_all-append s [] ys = refl
after_all-append s (x ∷ xs) ys = after_all-append (after s x) xs ys

both : (a b : Bool) → (a && b) ≡ true → (a ≡ true) × (b ≡ true)
both true b h = (refl, h)
both false b h = (h, absurd (search rules))

-- to frames that are admitted the child says its answers, one after another
pub said-append : (s : ChildState) (xs ys : List Frame) → admits_all s xs ≡ true → said s (xs ++ ys) ≡ said s xs ++ said (after_all s xs) ys
said-append s [] ys all = refl
said-append s (x ∷ xs) ys all =
    let h = both (admits s x) (admits_all (after s x) xs) all in
    let rest = said-append (after s x) xs ys h.1 in
    rw h.0 (ap (λ z. answer s x ++ z) rest ∙ sym (append_assoc (answer s x) (said (after s x) xs) (said (after_all (after s x) xs) ys)))

said_first : (b : Bool) (fs : List Frame) → b ≡ true → (if b then fs ++ [] else []) ≡ fs
said_first b fs taken = rw taken (append-nil fs)

pub said-one : (s : ChildState) (f : Frame) → admits s f ≡ true → said s (f ∷ []) ≡ answer s f
said-one s f taken = said_first (admits s f) (answer s f) taken

no_entry_body : IsBody no_entry
no_entry_body = search rules

transferred_if : (whole low : Bool) (subtype octets : List ℕ) → IsData (Struct subtype octets) → IsBody (if whole then (if low then Return Fail (pos 3) (Struct subtype octets) else Forward (codes "ACCT") (Struct subtype octets)) else no_entry)
transferred_if true true subtype octets h = search rules
transferred_if true false subtype octets h = search rules
transferred_if false low subtype octets h = search rules

transferred_body : (payload : Data) → IsData payload → IsBody (transferred payload)
unfolding transferred
transferred_body (Struct subtype octets) h = transferred_if (is_entry subtype octets) (int_lt (account octets) (pos 1) || int_lt (pos 9_999) (account octets)) subtype octets h
transferred_body payload h = no_entry_body

booked_size : (octets : List ℕ) → length (booked octets) ≤ 65_536
booked_size octets = simp (length-append, length-take) (omega arith)

accounted_if : (whole low : Bool) (subtype octets : List ℕ) → IsData (Struct subtype octets) → IsBody (if whole then (if low then Return Fail (pos 2) (Struct subtype octets) else Return Success (pos 0) (Struct subtype (booked octets))) else no_entry)
accounted_if true true subtype octets h = search rules
accounted_if true false subtype octets h = search (rules, h.0, booked_size octets)
accounted_if false low subtype octets h = search rules

accounted_body : (payload : Data) → IsData payload → IsBody (accounted payload)
unfolding accounted
accounted_body (Struct subtype octets) h = accounted_if (is_entry subtype octets) (int_lt (amount octets) (pos 1)) subtype octets h
accounted_body payload h = no_entry_body

space_low : (octets : List ℕ) (place : ℕ) → space_in octets ≡ Some place → place ≤ 255
space_low octets place is =
    let first = position-Some (λ octet. octet == 0x20) (take 256 octets) place 0 is in
    omega (arith, simp length-take at first.0)

passed_text_body : (place : Option ℕ) (octets : List ℕ) → ((at : ℕ) → place ≡ Some at → at ≤ 255) → length octets ≤ 65_536 → IsBody (passed_text place octets)
passed_text_body None octets low h = search rules
passed_text_body (Some place) octets low h = (simp length-take (omega (arith, low place refl)), simp length-drop (omega arith))

passed_body : (payload : Data) → IsData payload → IsBody (passed payload)
unfolding passed
passed_body (Octet octets) h = passed_text_body (space_in octets) octets (λ place is. space_low octets place is) h
passed_body Absent h = search rules
passed_body (Struct subtype octets) h = search rules

quit_body : (b : Bool) → IsBody (if b then Return Fail (pos 0) Absent else Return Success (pos 0) Absent)
quit_body true = search rules
quit_body false = search rules

returned_if : (echo len fail exit transfer acct pass quits : Bool) (payload : Data) → IsData payload → IsBody (if echo then Return Success (pos 0) payload else (if len then Return Success (pos (counted payload)) Absent else (if fail then Return Fail (pos 7) payload else (if exit then Return Exit (pos 1) Absent else (if transfer then transferred payload else (if acct then accounted payload else (if pass then passed payload else (if quits then quit payload else Return Fail (pos 99) Absent))))))))
returned_if true len fail exit transfer acct pass quits payload h = search rules
returned_if false true fail exit transfer acct pass quits payload h = search rules
returned_if false false true exit transfer acct pass quits payload h = search rules
returned_if false false false true transfer acct pass quits payload h = search rules
returned_if false false false false true acct pass quits payload h = transferred_body payload h
returned_if false false false false false true pass quits payload h = accounted_body payload h
returned_if false false false false false false true quits payload h = passed_body payload h
returned_if false false false false false false false true payload h = quit_body (is_fail payload)
returned_if false false false false false false false false payload h = search rules

returned_body : (routine : List ℕ) (payload : Data) → IsData payload → IsBody (returned routine payload)
returned_body routine payload h = returned_if (bytes_eq routine (codes "ECHO")) (bytes_eq routine (codes "LEN")) (bytes_eq routine (codes "FAIL")) (is_exit routine) (bytes_eq routine (codes "TRANSFER")) (bytes_eq routine (codes "ACCT")) (bytes_eq routine (codes "PASS")) (bytes_eq routine (codes "QUIT")) payload h

-- how a routine begins
invoked_if : (relay change chat : Bool) (relays changes chats : Deed) (body : Body) → IsBody relays.says → IsBody changes.says → IsBody chats.says → IsBody body
    → IsBody (if relay then relays else (if change then changes else (if chat then chats else record { says = body; doing = Waits }))).says
invoked_if true change chat relays changes chats body r c h b = r
invoked_if false true chat relays changes chats body r c h b = c
invoked_if false false true relays changes chats body r c h b = h
invoked_if false false false relays changes chats body r c h b = b

invoked_body : (routine : List ℕ) (mode : Mode) (payload : Data) → IsData payload → IsBody (invoked routine mode payload).says
invoked_body routine mode payload h = invoked_if (bytes_eq routine (codes "RELAY")) (bytes_eq routine (codes "ADV")) (bytes_eq routine (codes "CHAT")) _ _ _ _ (relayed_body payload h) (changed_body payload h) (chats_body mode payload h) (returned_body routine payload h)

-- what is said to a frame that has a spelling has one
pub two_spellings : (f g : Frame) → HasSpelling f → HasSpelling g → All HasSpelling (f ∷ g ∷ [])
two_spellings f g h k = All-cons HasSpelling f (g ∷ []) h (All-cons HasSpelling g [] k (All-nil HasSpelling))

pub next_spelling : HasSpelling next
next_spelling = record { tag = omega arith; body = tt }

followed_spelling : (f : Frame) → HasSpelling f → (last : Bool) → All HasSpelling (f ∷ followed last)
followed_spelling f h true = All-cons HasSpelling f [] h (All-nil HasSpelling)
followed_spelling f h false = two_spellings f next h next_spelling

deed_spelling : (tag : ℕ) (last : Bool) (deed : Option Deed) → tag < 2 ^ 32 → IfSome deed (λ d. IsBody d.says) → All HasSpelling (answer_of tag last deed)
deed_spelling tag last None low h = All-nil HasSpelling
deed_spelling tag last (Some deed) low h = followed_spelling (record { tag = tag; body = deed.says }) (record { tag = low; body = h }) (last || is_calling deed.doing)

by_die : (die : Bool) (deed : Deed) → IsBody deed.says → IfSome (if die then None else Some deed) (λ (d : Deed). IsBody d.says)
by_die true deed h = tt
by_die false deed h = h

deed_body : (s : ChildState) (body : Body) → IsSmall s.doing → IsBody body → IfSome (deed_by s.doing body) (λ (d : Deed). IsBody d.says)
deed_body s (Invoke service routine mode payload) small h = by_die (is_die routine) (invoked routine mode payload) (invoked_body routine mode payload h.2)
deed_body s (ReplyBody reply) small h = told_body s.doing reply small h
deed_body s body small h = tt

pub spelling-answer : (s : ChildState) (f : Frame) → IsSmall s.doing → HasSpelling f → All HasSpelling (answer s f)
spelling-answer s f small h = deed_spelling f.tag (exits f.body) (deed_by s.doing f.body) h.tag (deed_body s f.body small h.body)

-- what is said, and what follows it
pub said_spelling : (said : Said) → All HasSpelling (all_said (Some said)) → HasSpelling (frame_of said)
said_spelling said h = All-head HasSpelling (frame_of said) (followed said.last) h

pub spelled-said : (due : List ℕ) (said : Said) → (due ++ spelled (frame_of said)) ++ all_spelled (followed said.last) ≡ due ++ all_spelled (all_said (Some said))
spelled-said due said = append_assoc due (spelled (frame_of said)) (all_spelled (followed said.last))

pub spelled_next : (due : List ℕ) → due ++ spelled next ≡ due ++ all_spelled (followed false)
spelled_next due = ap (λ z. due ++ z) (sym (append-nil (spelled next)))

pub ready_spelling : (name : List ℕ) → IsName name → HasSpelling (record { tag = 0; body = Ready name })
ready_spelling name h = record { tag = omega arith; body = h }

pub spelling-greeting : (name : List ℕ) → IsName name → All HasSpelling (greeting name)
spelling-greeting name h = two_spellings _ next (ready_spelling name h) next_spelling

-- one frame more, as a loop over frames adds it
pub spelled-more : (fs : List Frame) (i : ℕ) (f : Frame) → i < length fs → f ≡ get_or fs i f → all_spelled (take (i + 1) fs) ≡ all_spelled (take i fs) ++ spelled f
spelled-more fs i f low same =
    ap (λ n. all_spelled (take n fs)) (add-one i) ∙ (ap all_spelled (take-suc fs i f low) ∙ (all_spelled-push (take i fs) (get_or fs i f) ∙ ap (λ z. all_spelled (take i fs) ++ z) (ap spelled (sym same))))
