-- What holds of every run, so that an event can ask its own home and its own worker alone.
use Rattle.std.proofs.Common.{◌≡◌, ◌⊎◌, ℕ, ◌-◌, ◌<◌, Bool, true, false, List, [], ◌∷◌, Option, Some, None, inl, inr, refl, sym, ◌∙◌, subst, arith}
use Rattle.std.specs.Prelude.{IsSome, if◌then◌else◌}
use Rattle.std.proofs.lemmas.Bool.{cases_Bool, lt-ltb}
use Rattle.xa_types.specs.declared.setup.Setup.{Setup}
use Rattle.xa_types.specs.declared.ids.RequestId.{RequestId}
use Rattle.xa_events.specs.declared.event.Event.{Event}
use Rattle.xa_events.specs.declared.event.Event.TheVariants.{Advertise, Accept, Forward}
use Rattle.xa_events.specs.declared.event.Advertised.{Advertised}
use Rattle.xa_events.specs.declared.event.Doing.{Doing}
use Rattle.xa_events.specs.declared.event.Doing.TheVariants.{Off, Idle, Busy, Dying}
use Rattle.xa_events.specs.Words.{latest, count, AtEach}
use Rattle.xa_events.specs.State.{State, opening, noted}
use Rattle.xa_events.specs.Server.{doing, held_in, in_hand, is_gone}
use Rattle.xa_events.specs.Request.{is_entry_of, is_forward_of}
use Rattle.xa_events.specs.Run.{Run}
use Rattle.xa_events.specs.Cases.{Case}
use Rattle.xa_events.specs.Laws.{LawOfServers, LawOfGone, IsOfLeft, IsSentOpen, hop_in, LawOfEntries}
use Rattle.xa_events.proofs.Servers.{servers_more}
use Rattle.xa_events.proofs.LastEntry.{Shows, IsKnown}

-- ---- a server that is gone advertises nothing

held_busy : (d : Doing) → IsSome (held_in d) → d ≡ Off → ⊥
held_busy Off some is = cc some
held_busy (Idle g) some is = cc some
held_busy (Busy g r) some is = cc is
held_busy (Dying g) some is = cc some

pub in_hand_busy : (clients caller : ℕ) (past : List Event) → clients < caller → IsSome (in_hand clients caller past) → doing (caller - clients) past ≡ Off → ⊥
in_hand_busy clients caller past behind some =
    held_busy (doing (caller - clients) past) (subst (λ (b : Bool). IsSome (if b then held_in (doing (caller - clients) past) else None)) (lt-ltb clients caller behind) some)

-- who advertises and isn't the domain is busy
busy_there : (s : State) (a : Advertised) → Case s (Advertise a) → LawOfServers s.past → s.clients < a.by.0 → is_gone (a.by.0 - s.clients) s.past ≡ true → ⊥
busy_there s a case law behind gone = elim case.worker [
  | inl domain ↦ let none = domain.domain in omega (arith, behind, none)
  | inr its ↦ in_hand_busy s.clients a.by.0 s.past behind its.busy (law (a.by.0 - s.clients) (inr gone))
]

of_left : (s : State) (e : Event) → Case s e → LawOfServers s.past → IsOfLeft s.clients e s.past
of_left s (Advertise a) case law = λ behind. elim (cases_Bool (is_gone (a.by.0 - s.clients) s.past)) [ inl y ↦ absurd (busy_there s a case law behind y) | inr n ↦ n ]
of_left s _ case law = tt

-- what is off, and that no server which is gone advertised
pub record GoneSoFar (clients : ℕ) (s : State) : Type 0 where
  pub clients_are : s.clients ≡ clients
  pub off : LawOfServers s.past
  pub quiet : LawOfGone clients s.past

pub gone_more : (clients : ℕ) (s : State) (e : Event) → Case s e → GoneSoFar clients s → GoneSoFar clients (noted s e)
gone_more clients s e case law = record {
  clients_are = law.clients_are;
  off = servers_more s e case law.off;
  quiet = (subst (λ (n : ℕ). IsOfLeft n e s.past) law.clients_are (of_left s e case law.off), law.quiet);
}

-- ---- nothing is sent to a closed queue

pub sent_open : (s : State) (e : Event) → Case s e → IsSentOpen e s.past
sent_open s (Accept a) case = case.home.not_closed
sent_open s (Forward f) case = case.home.not_closed
sent_open s _ case = tt

-- ---- the last entry says how often a request was forwarded

shown_hop : (r : RequestId) (past : List Event) (o : Option Event) → Shows r past o → hop_in o ≡ count (is_forward_of r) past
shown_hop r past None h = sym h
shown_hop r past (Some (Accept a)) h = sym h.0
shown_hop r past (Some (Forward f)) h = sym h.0
shown_hop r past (Some _) h = absurd h

pub entries_tell : (s : State) → IsKnown s → LawOfEntries s.past
entries_tell s known = λ r. shown_hop r s.past (latest (is_entry_of r) s.past) (known.shows r)
