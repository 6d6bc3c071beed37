-- A queue without servers that goes down, and what still waits there: events of the domain at a queue.
use Rattle.std.proofs.Common.{◌≡◌, ℕ, true, List, Option, [], ◌∷◌, ◌++◌, map, Some, Ok, refl, sym, ◌∙◌, ap, subst, append-nil, append_assoc, arith}
use Rattle.xa_server.proofs.xa_held.Seen.{sees_more, down_left}
use Rattle.std.specs.Prelude.{IfSome, IsSome}
use Rattle.std.specs.List.{All, Contains}
use Rattle.std.proofs.lemmas.List.Elements.{All-nil, All-cons, All-append, Contains-push}
use Rattle.xa_server.specs.xa_types.declared.ids.CallerId.{CallerId}
use Rattle.xa_server.specs.xa_types.declared.ids.QueueId.{QueueId}
use Rattle.xa_server.specs.xa_types.declared.stamp.Stamp.{Stamp}
use Rattle.xa_server.specs.xa_events.declared.event.Event.{Event}
use Rattle.xa_server.specs.xa_events.declared.event.Event.TheVariants.{Down, Sweep}
use Rattle.xa_server.specs.xa_events.Answers.{reply_of}
use Rattle.xa_server.specs.xa_events.Request.Settlement.{SweptAway}
use Rattle.xa_server.specs.xa_events.Homes.Home.{BoardHome, QueueHome}
use Rattle.xa_server.specs.xa_worker.Crew.{IsOfDomain, no_stamp}
use Rattle.xa_server.specs.xa_worker.Seen.{SawDeserted}
use Rattle.xa_server.specs.xa_stamp.declared.home.Stamped.{Stamped}
use Rattle.xa_server.specs.xa_stamp.declared.told.Noted.{Noted}
use Rattle.xa_server.specs.xa_stamp.Home.{last_stamp}
use Rattle.xa_server.proofs.xa_stamp.Stamps.{last_stamp-push}
use Rattle.xa_server.specs.xa_cell.declared.view.Opening.{Opening}
use Rattle.xa_server.specs.xa_cell.Known.{IsTicketOf}
use Rattle.xa_server.specs.xa_lock.declared.makers.Made.{Made}
use Rattle.xa_server.specs.xa_lock.Known.{known as page_of}
use Rattle.xa_server.specs.xa_queue.declared.entry.Entry.{Entry}
use Rattle.xa_server.specs.xa_queue.declared.told.Outgoing.{Outgoing}
use Rattle.xa_server.specs.xa_queue.Changes.{next_stamp}
use Rattle.xa_server.specs.xa_queue.Queue.{all_gone}
use Rattle.xa_server.specs.xa_held.declared.kept_queue.Setting.{Setting}
use Rattle.xa_server.specs.xa_held.Joins.{SawLeft}
use Rattle.xa_server.specs.xa_held.Kept.{Kept, IsRight, notes_of}
use Rattle.xa_server.specs.xa_held.declared.kept_queue.QueueNote.{QueueNote}
use Rattle.xa_server.specs.xa_held.Notes.{gone_in, is_down_in}
use Rattle.xa_server.specs.xa_held.Steps.{WentDownAs, SweptAs}
use Rattle.xa_server.specs.xa_held.Visits.{Sees, Visits}
use Rattle.xa_server.proofs.xa_held.Front.{is_down-whole, all_gone-whole}
use Rattle.xa_server.specs.xa_worker.Work.{seeing}
use Rattle.xa_server.specs.xa_caller.Caller.{CallerState}
use Rattle.xa_server.specs.xa_caller.declared.cargo.Filling.{Filling}
use Rattle.xa_server.specs.xa_caller.Drafts.{Cargo}
use Rattle.xa_server.specs.xa_caller.Serving.{noted_off}
use Rattle.xa_server.specs.declared.closing.Closing.{Closing}
use Rattle.xa_server.specs.Changes.{closing_of}
use Rattle.xa_server.specs.Told.{IsBacked}
use Rattle.xa_server.proofs.Telling.{sweep_backed}
use Rattle.xa_desk.specs.declared.domain.Domain.{Domain}
use Rattle.xa_desk.specs.declared.desk.Desk.{Desk}
use Rattle.xa_desk.specs.Whole.{entries_of}
use Rattle.xa_desk.specs.Deserted.{GaveUpLast}
use Rattle.xa_desk.specs.Desks.{IsDesk, Leads}
use Rattle.xa_desk.specs.Found.{SawAtQueue}
use Rattle.xa_desk.specs.Serving.{GaveUp, IsDeserted, IsCleared, IsFallen, IsSwept, OfDomain, IsToTell}
use Rattle.xa_desk.proofs.Leading.{gave_more}
use Rattle.xa_desk.proofs.Ending.{same_opening, not_empty}
use Rattle.xa_desk.proofs.Showing.{saw_there, down_seen, waits}
use Rattle.xa_desk.specs.Visit.{IsAt}
use Rattle.xa_desk.proofs.Entering.{same_here}
use Rattle.xa_server.specs.xa_lock.declared.pass.Page.{Page}
use Rattle.xa_desk.proofs.Visiting.{QueuePass, HasPass, Step, its_pass, page_is, now_has, setting_found, later, event_leads}

-- the worker gave up the queue's last server still
pub gave_on : {d : Domain} {queue : ℕ} {old new : Desk} → Leads d old new → GaveUp d queue old → GaveUp d queue new
gave_on {d} {queue} {old} {new} leads gave whole on stamp less =
    let later = leads.stamp in
    subst (λ (l : List Stamped). GaveUpLast d.setup queue (entries_of whole (QueueHome queue)) l stamp) (sym {A = List Stamped} leads.own.1) (gave_more old.caller.work.own leads.own.0 (gave whole (leads.before whole on) stamp (omega (arith, later, less))))

module _ {d : Domain} {queue k : ℕ} {desk : Desk} {p : QueuePass} (is : IsDesk d desk) (has : HasPass d queue k desk p) where
  -- all its servers were given up
  pub deserted_setting : IsDeserted d queue desk → (s : Setting Filling) × Sees s (page_of p) × (all_gone (gone_in (page_of p).seen) s.servers ≡ true)
  deserted_setting left = let left_here = subst (λ page. SawLeft d.setup queue desk.caller.work.stamp page) (page_is has) left.left in (left_here.its, left_here.sees, left_here.gone)

  -- it is down
  pub fallen_setting : IsFallen d queue desk → (s : Setting Filling) × Sees s (page_of p) × (is_down_in s.id.0 (page_of p).seen ≡ true)
  fallen_setting fallen =
      let pass = its_pass has is in
      (pass.its, pass.sees, ap (λ n. is_down_in n (page_of p).seen) (pass.is.id ∙ sym has.at) ∙ sym (ap (λ page. is_down_in queue page.seen) (page_is has)) ∙ fallen.down)

-- at the queue that was found there so it is too
module _ {d : Domain} {queue k : ℕ} {desk : Desk} {there : Kept Filling} {page : Page (QueueNote Filling)} {passes : List (Option QueuePass)} (at : IsAt d queue k desk there page passes) where
  pub deserted_here : IsDeserted d queue desk → all_gone (gone_in (notes_of there)) there.queue.servers ≡ true
  deserted_here left =
      let saw = deserted_setting at.is at.has left in
      ap (λ (s : Setting Filling). all_gone (gone_in (notes_of there)) s.servers) (same_here at saw.0 saw.1) ∙ all_gone-whole (notes_of there) (page_of at.pass).seen saw.0.servers at.knows.1 saw.2

  pub fallen_here : IsFallen d queue desk → is_down_in there.queue.id.0 (notes_of there) ≡ true
  fallen_here fallen =
      let saw = fallen_setting at.is at.has fallen in
      ap (λ (s : Setting Filling). is_down_in s.id.0 (notes_of there)) (same_here at saw.0 saw.1) ∙ is_down-whole (notes_of there) (page_of at.pass).seen saw.0.id.0 at.knows.1 saw.2

-- a step for the domain at that queue
module _ {d : Domain} {queue k : ℕ} {desk new : Desk} {p p' : QueuePass} {last : Stamp} (step : Step d queue k desk new p p' last) where
  module _ {more : List Made} {How : Kept Filling → Kept Filling → Type 0} (visits : Visits (page_of p) (page_of p') more How) where
    id_left : visits.new.queue.id.0 ≡ queue
    id_left = ap (λ (s : Setting Filling). s.id.0) visits.same ∙ (setting_found step visits).id

    is_fallen_by : is_down_in queue (page_of p').seen ≡ true → GaveUp d queue new → IsFallen d queue new
    is_fallen_by down gave = record { down = ap (λ page. is_down_in queue page.seen) (page_is (now_has step)) ∙ down; last = gave }

    seen_down : IsFallen d queue desk → is_down_in queue (page_of p').seen ≡ true
    seen_down fallen = is_down-whole (page_of p').seen (page_of p).seen queue (sees_more visits) (sym (ap (λ page. is_down_in queue page.seen) (page_is step.has)) ∙ fallen.down)

    -- a queue that was down is down still
    pub falls_still : Leads d desk new → IsFallen d queue desk → IsFallen d queue new
    falls_still leads fallen = is_fallen_by (seen_down fallen) (gave_on leads fallen.last)

    -- it was left down
    pub falls : Leads d desk new → GaveUp d queue desk → visits.new.queue.down ≡ true → IsFallen d queue new
    falls leads gave down = is_fallen_by (ap (λ n. is_down_in n (page_of p').seen) (sym id_left) ∙ down_left visits ∙ down) (gave_on leads gave)

    -- it is down, and nothing waits there
    pub falls_swept : IsDesk d new → IsFallen d queue desk → visits.new.queue.waiting ≡ [] → SawAtQueue d queue new (IsSwept d queue)
    falls_swept is fallen none =
        let has = now_has step in
        let down : visits.new.queue.down ≡ true = sym (down_left visits) ∙ ap (λ n. is_down_in n (page_of p').seen) id_left ∙ seen_down fallen in
        saw_there is has (IsSwept d queue) (λ news. (
          down_seen is has visits down,
          sym (waits is has visits news) ∙ ap (map (λ (entry : Entry Cargo). entry.request)) none,
        ))

-- what a worker that noted events of the domain has, or none
of_more : (desk new : Desk) (stamp : Stamp) (own more : List Stamped) → new.caller ≡ record desk.caller { work = record desk.caller.work { stamp = stamp; own = own } } → own ≡ desk.caller.work.own ++ more → All (λ (x : Stamped). IsOfDomain x.event) more → OfDomain desk new
of_more desk new stamp own more caller is theirs = record {
  more = more;
  own = ap (λ (c : CallerState). c.work.own) caller ∙ is;
  theirs = theirs;
  rest = subst (λ (c : CallerState). c ≡ record desk.caller { work = record desk.caller.work { stamp = c.work.stamp; own = c.work.own } }) (sym caller) refl;
}

pub of_domain : (desk new : Desk) (stamp : Stamp) (e : Event) → IsOfDomain e → new.caller ≡ noted_off stamp e desk.caller → OfDomain desk new
of_domain desk new stamp e domain caller =
    let x : Stamped = record { stamp = stamp; event = e } in
    of_more desk new stamp (desk.caller.work.own ++ x ∷ []) (x ∷ []) caller refl (All-cons (λ (y : Stamped). IsOfDomain y.event) x [] domain (All-nil (λ (y : Stamped). IsOfDomain y.event)))

pub of_none : (desk new : Desk) (seen : Stamp) → new.caller ≡ record desk.caller { work = seeing seen desk.caller.work } → OfDomain desk new
of_none desk new seen caller = of_more desk new (seeing seen desk.caller.work).stamp desk.caller.work.own [] caller (sym (append-nil desk.caller.work.own)) (All-nil (λ (x : Stamped). IsOfDomain x.event))

pub of_both : (a b c : Desk) → OfDomain a b → OfDomain b c → OfDomain a c
of_both a b c first second = record {
  more = first.more ++ second.more;
  own = second.own ∙ ap (λ (l : List Stamped). l ++ second.more) first.own ∙ append_assoc a.caller.work.own first.more second.more;
  theirs = All-append (λ (x : Stamped). IsOfDomain x.event) first.more second.more first.theirs second.theirs;
  rest = second.rest ∙ ap (λ (x : CallerState). record x { work = record x.work { stamp = c.caller.work.stamp; own = c.caller.work.own } }) first.rest;
}

-- what the caller of a request that was swept is to be told
pub to_tell : (d : Domain) (desk new : Desk) (entry : Entry Cargo) (queue : QueueId) (stamp : Stamp) → IsRight d.cells entry → new.caller ≡ noted_off stamp (Sweep (record { request = entry.request; queue = queue })) desk.caller
    → (closing : Closing) → closing ≡ closing_of entry (Some (reply_of SweptAway)) stamp tt → IsToTell d new closing
to_tell d desk new entry queue stamp right caller closing is =
    let x : Stamped = record { stamp = stamp; event = Sweep (record { request = entry.request; queue = queue }) } in
    let own : new.caller.work.own ≡ desk.caller.work.own ++ x ∷ [] = ap (λ (c : CallerState). c.work.own) caller in
    let here : Contains new.caller.work.own x = subst (λ (l : List Stamped). Contains l x) (sym {A = List Stamped} own) (Contains-push desk.caller.work.own x) in
    let last : last_stamp no_stamp new.caller.work.own ≡ stamp.0 = ap (last_stamp no_stamp) own ∙ last_stamp-push no_stamp desk.caller.work.own x in
    let at = ap (λ (c : Closing). c.stamp.0) is in
    record {
      backed = subst (IsBacked new.caller.work.own) (sym is) (sweep_backed new.caller.work.own entry queue stamp here (λ o named_so. ap (λ (p : Opening). p.request) (same_opening o right.opening (sym named_so ∙ right.names)) ∙ right.request));
      ticket = subst (λ (c : Closing). IfSome c.ticket (IsTicketOf d.cells)) (sym is) right.table;
      reached = omega (arith, last, at);
      noted = λ some none. not_empty desk.caller.work.own x new.caller.work.own own none;
    }

-- what a step for the domain comes to, by what it answered
module _ {d : Domain} {queue k : ℕ} {desk new : Desk} {p p' : QueuePass} {last : Stamp} (step : Step d queue k desk new p p' last) (seen : Stamp) (maker : CallerId) (saw : seen ≡ desk.caller.work.stamp) where
  abbrev V : List Made → (Kept Filling → Kept Filling → Type 0) → Type 0
  V = Visits (page_of p) (page_of p')

  -- the queue went down
  module _ (noted : Noted) (did : WentDownAs V seen maker (Ok (Some noted))) (caller : new.caller ≡ noted_off noted.stamp noted.event.value desk.caller) where
    pub fell_goes : IsCleared d queue desk → GaveUp d queue desk → Leads d desk new × OfDomain desk new × IsFallen d queue new
    fell_goes clear gave =
        let its : Event = Down did.old.queue.id in
        let next = did.how.1.notes.next ∙ ap (λ s. next_stamp s did.old.queue) saw in
        let rises = later step maker noted.stamp noted.event.value did next in
        let id = (setting_found step did).id in
        let leads : Leads d desk new =
        event_leads step maker noted.stamp noted.event.value did next caller its did.how.1.event_is (ap QueueHome id) tt (λ whole on. record {
          saw = tt;
          told = subst (λ n. SawDeserted d.setup n (entries_of whole BoardHome) (entries_of whole (QueueHome n)) noted.stamp) (sym id) (clear whole on noted.stamp rises);
          clears = subst (λ n. GaveUpLast d.setup n (entries_of whole (QueueHome n)) desk.caller.work.own noted.stamp) (sym id) (gave whole on noted.stamp rises);
        }) in (
          leads,
          of_domain desk new noted.stamp its tt (caller ∙ ap (λ (e : Event). noted_off noted.stamp e desk.caller) did.how.1.event_is),
          falls step did leads gave (ap (λ q. q.down) did.how.1.notes.made),
        )

  -- a request was swept
  module _ (out : Outgoing Cargo) (did : SweptAs V seen maker (Ok (Some out))) (caller : new.caller ≡ noted_off out.noted.stamp out.noted.event.value desk.caller) where
    pub swept_goes : GaveUp d queue desk → (closing : Closing) → closing ≡ closing_of out.entry (Some (reply_of SweptAway)) out.noted.stamp tt → Leads d desk new × OfDomain desk new × IsToTell d new closing × IsSome closing.ticket × (new.caller ≡ noted_off out.noted.stamp (Sweep (record { request = out.entry.request; queue = record { 0 = queue } })) desk.caller)
    swept_goes gave closing is =
        let its : Event = Sweep (record { request = out.entry.request; queue = did.old.queue.id }) in
        let next = did.how.0.noted.notes.next ∙ ap (λ s. next_stamp s did.old.queue) saw in
        let rises = later step maker out.noted.stamp out.noted.event.value did next in
        let found = setting_found step did in
        let said = caller ∙ ap (λ (e : Event). noted_off out.noted.stamp e desk.caller) did.how.0.noted.event_is in (
          event_leads step maker out.noted.stamp out.noted.event.value did next caller its did.how.0.noted.event_is (ap QueueHome found.id) tt (λ whole on. record {
            saw = tt;
            told = tt;
            clears = subst (λ n. GaveUpLast d.setup n (entries_of whole (QueueHome n)) desk.caller.work.own out.noted.stamp) (sym found.id) (gave whole on out.noted.stamp rises);
          }),
          of_domain desk new out.noted.stamp its tt said,
          to_tell d desk new out.entry did.old.queue.id out.noted.stamp (subst (λ cells. IsRight cells out.entry) found.cells did.how.1) said closing is,
          subst (λ (c : Closing). IsSome c.ticket) (sym is) refl,
          said ∙ ap (λ (n : ℕ). noted_off out.noted.stamp (Sweep (record { request = out.entry.request; queue = record { 0 = n } })) desk.caller) found.id,
        )
