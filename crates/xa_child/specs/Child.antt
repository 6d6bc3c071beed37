-- A server's program, the child: which frames it admits, and what it says to each of them.
use Rattle.std.specs.Prelude.{ℕ, ◌+◌, ◌-◌, ◌%◌, ◌^◌, min, ◌==◌, ◌&&◌, ◌||◌, not, Bool, true, false, if◌then◌else◌, pos, int_lt, Option, Some, None, List, [], ◌∷◌, ◌++◌, length, take, drop, codes}
use Rattle.std.specs.Str.{bytes_eq}
use Rattle.xa_types.specs.declared.data.Data.{Data}
use Rattle.xa_types.specs.declared.data.Data.TheVariants.{Absent, Octet, Struct}
use Rattle.xa_types.specs.declared.call.Rval.TheVariants.{Success, Fail, Exit}
use Rattle.xa_frame.specs.declared.frame.Frame.{Frame}
use Rattle.xa_frame.specs.declared.frame.Body.{Body}
use Rattle.xa_frame.specs.declared.frame.Body.TheVariants.{Ready, Next, Return, Forward, Invoke, Reply as ReplyBody, Shutdown}
use Rattle.xa_types.specs.declared.call.Mode.{Mode}
use Rattle.xa_child.specs.declared.doing.Doing.TheVariants.{Waits}
use Rattle.xa_child.specs.Texts.{space_in}
use Rattle.xa_child.specs.Calling.{Deed, Doing, done_by, relayed, changed, chats, told, may_tell, is_calling}
use Rattle.xa_child.specs.Entry.{is_entry, account, amount, booked}

-- how many INVOKEs it took, modulo 2 ^ 32, what it waits for, and whether it has ended
pub record ChildState : Type 0 where
  pub invocations : ℕ
  pub doing : Doing
  pub ended : Bool

-- the child as it begins
abbrev pub begun : ChildState
begun = record { invocations = 0; doing = Waits; ended = false }

-- the number of the next INVOKE
abbrev pub following : ℕ → ℕ
following invocations = (invocations + 1) % 2 ^ 32

abbrev pub admits_body : ℕ → Doing → ℕ → Body → Bool
admits_body invocations doing tag (Invoke service routine mode payload) = not (is_calling doing) && (tag == following invocations)
admits_body invocations doing tag Shutdown = not (is_calling doing) && (tag == 0)
admits_body invocations doing tag (ReplyBody reply) = (tag == invocations) && may_tell doing reply
admits_body invocations doing tag body = false

-- until it has ended it admits, behind NEXT, an INVOKE with the next number as its tag and a SHUTDOWN with the tag 0; and behind a call a REPLY with the
-- invocation's number that fits the call
abbrev pub admits : ChildState → Frame → Bool
admits s f = not s.ended && admits_body s.invocations s.doing f.tag f.body

-- how many octets the data has
abbrev pub size : Data → ℕ
size Absent = 0
size (Octet octets) = length octets
size (Struct subtype octets) = length octets

-- that number as a code, which ends at 2 ^ 31 - 1: data that has a spelling has at most 65,536 octets
abbrev pub counted : Data → ℕ
counted payload = min (size payload) (2 ^ 31 - 1)

-- to data that is no `entry`
abbrev pub no_entry : Body
no_entry = Return Fail (pos 4) Absent

abbrev pub transferred_entry : List ℕ → List ℕ → Body
transferred_entry subtype octets =
    if int_lt (account octets) (pos 1) || int_lt (pos 9_999) (account octets) then Return Fail (pos 3) (Struct subtype octets)
    else Forward (codes "ACCT") (Struct subtype octets)

-- TRANSFER passes an entry on to ACCT, if its account is from 1 to 9,999
unfoldable pub transferred : Data → Body
transferred (Struct subtype octets) = if is_entry subtype octets then transferred_entry subtype octets else no_entry
transferred payload = no_entry

abbrev pub accounted_entry : List ℕ → List ℕ → Body
accounted_entry subtype octets =
    if int_lt (amount octets) (pos 1) then Return Fail (pos 2) (Struct subtype octets)
    else Return Success (pos 0) (Struct subtype (booked octets))

-- ACCT books an entry, if its amount is 1 or more
unfoldable pub accounted : Data → Body
accounted (Struct subtype octets) = if is_entry subtype octets then accounted_entry subtype octets else no_entry
accounted payload = no_entry

abbrev pub is_fail : Data → Bool
is_fail (Octet octets) = bytes_eq octets (codes "fail")
is_fail payload = false

-- QUIT returns at once, with TPFAIL to the text `fail`
abbrev pub quit : Data → Body
quit payload = if is_fail payload then Return Fail (pos 0) Absent else Return Success (pos 0) Absent

abbrev pub passed_text : Option ℕ → List ℕ → Body
passed_text None octets = Return Success (pos 0) (Octet octets)
passed_text (Some place) octets = Forward (take place octets) (Octet (drop (place + 1) octets))

-- PASS passes a text on to the service that it names before its first space, with what follows that; other data it gives back
unfoldable pub passed : Data → Body
passed (Octet octets) = passed_text (space_in octets) octets
passed payload = Return Success (pos 0) payload

-- the routine EXIT, whose RETURN ends the child
abbrev pub is_exit : List ℕ → Bool
is_exit routine = bytes_eq routine (codes "EXIT")

-- What a routine says. LEN counts the octets of its request's data; ECHO and FAIL give that data back; EXIT returns with TPEXIT; 99 says that there is no
-- such routine.
abbrev pub returned : List ℕ → Data → Body
returned routine payload =
    if bytes_eq routine (codes "ECHO") then Return Success (pos 0) payload
    else (if bytes_eq routine (codes "LEN") then Return Success (pos (counted payload)) Absent
    else (if bytes_eq routine (codes "FAIL") then Return Fail (pos 7) payload
    else (if is_exit routine then Return Exit (pos 1) Absent
    else (if bytes_eq routine (codes "TRANSFER") then transferred payload
    else (if bytes_eq routine (codes "ACCT") then accounted payload
    else (if bytes_eq routine (codes "PASS") then passed payload
    else (if bytes_eq routine (codes "QUIT") then quit payload
    else Return Fail (pos 99) Absent)))))))

-- the routine DIE, which returns nothing and ends the child
abbrev pub is_die : List ℕ → Bool
is_die routine = bytes_eq routine (codes "DIE")

-- it wants a frame
abbrev pub next : Frame
next = record { tag = 0; body = Next }

-- what follows what a routine says: NEXT, but for a call and for EXIT
abbrev pub followed : Bool → List Frame
followed true = []
followed false = next ∷ []

-- how the routine begins
abbrev pub invoked : List ℕ → Mode → Data → Deed
invoked routine mode payload =
    if bytes_eq routine (codes "RELAY") then relayed payload
    else (if bytes_eq routine (codes "ADV") then changed payload
    else (if bytes_eq routine (codes "CHAT") then chats mode payload
    else done_by (returned routine payload)))

-- what it does by a frame that it admits: to an INVOKE its routine begins, but DIE says nothing, and to a REPLY it goes on
abbrev pub deed_by : Doing → Body → Option Deed
deed_by doing (Invoke service routine mode payload) = if is_die routine then None else Some (invoked routine mode payload)
deed_by doing (ReplyBody reply) = Some (told doing reply)
deed_by doing body = None

-- the frame ends the child with what is said to it
abbrev pub exits : Body → Bool
exits (Invoke service routine mode payload) = is_exit routine
exits body = false

-- what is said with that tag: what the routine says, and NEXT
abbrev pub answer_of : ℕ → Bool → Option Deed → List Frame
answer_of tag last None = []
answer_of tag last (Some deed) = (record { tag = tag; body = deed.says }) ∷ followed (last || is_calling deed.doing)

-- what it says to a frame that it admits
abbrev pub answer : ChildState → Frame → List Frame
answer s f = answer_of f.tag (exits f.body) (deed_by s.doing f.body)

abbrev pub doing_of : Option Deed → Doing
doing_of None = Waits
doing_of (Some deed) = deed.doing

abbrev pub invocations_after : ℕ → Body → ℕ
invocations_after n (Invoke service routine mode payload) = following n
invocations_after n body = n

abbrev pub ends : Body → Bool
ends (Invoke service routine mode payload) = is_die routine || is_exit routine
ends Shutdown = true
ends body = false

-- the child after a frame that it admits: SHUTDOWN, DIE and EXIT end it
abbrev pub after : ChildState → Frame → ChildState
after s f = record { invocations = invocations_after s.invocations f.body; doing = doing_of (deed_by s.doing f.body); ended = ends f.body }

-- it admits each of these frames, one after another
abbrev pub admits_all : ChildState → List Frame → Bool
admits_all s [] = true
admits_all s (f ∷ fs) = admits s f && admits_all (after s f) fs

-- the child after these frames
abbrev pub after_all : ChildState → List Frame → ChildState
after_all s [] = s
after_all s (f ∷ fs) = after_all (after s f) fs

-- what it says to these frames, up to the first that it doesn't admit
abbrev pub said : ChildState → List Frame → List Frame
said s [] = []
said s (f ∷ fs) = if admits s f then answer s f ++ said (after s f) fs else []

-- what it begins with: READY with its server's name, and NEXT
abbrev pub greeting : List ℕ → List Frame
greeting name = (record { tag = 0; body = Ready name }) ∷ next ∷ []

-- all that the child of that server says where these frames come to it
abbrev pub child_run : List ℕ → List Frame → List Frame
child_run name frames = greeting name ++ said begun frames

-- these frames end it
abbrev pub ended_after : List Frame → Bool
ended_after frames = (after_all begun frames).ended
