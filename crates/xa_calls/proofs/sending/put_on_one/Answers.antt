use Rattle.std.proofs.Common.{◌≡◌, ℕ, ◌+◌, ◌-◌, ◌^◌, ◌≤◌, min, None, sym, ◌∙◌, ap, subst, arith}
use Rattle.xa_calls.proofs.Going.{wants_of}
use Rattle.std.specs.Prelude.{slice_get}
use Rattle.xa_desk.specs.xa_types.Found.{FoundRows}
use Rattle.xa_desk.specs.xa_caller.declared.outcomes.Aimed.TheVariants as aims
use Rattle.xa_desk.specs.declared.desk.Desk.{Desk}
use Rattle.xa_desk.specs.Looks.{SeesWhy}
use Rattle.xa_desk.specs.Steps.{IsWhy, full_in}
use Rattle.xa_calls.specs.Resting.{SawFull}
use Rattle.xa_calls.specs.Telling.{AcceptsAs}
use Rattle.xa_calls.proofs.Noting.{may_on}
use Rattle.xa_calls.proofs.Resting.{full_next, full_stays, full_told, full_later}
use Rattle.xa_calls.proofs.Trying.{on_may, ends_notes, sends_notes, tries_on, sent_tries, ends_on, sends_on, back_on, past_why, found_back, aimed_back, tried_back, aimed_on, tried_still, aimed_by}
use Rattle.xa_calls.proofs.sending.put_on_one.Goals as goal

no_more : (a n : ℕ) → n ≡ min (a + 1) (2 ^ 32 - 1) → n ≤ a + 1
no_more a n is = omega (arith, is)

pub returns-in-Ok-clause-goes : goal.returns-in-Ok-clause-goes
returns-in-Ok-clause-goes g c = let sent = c.in-Ok.ensures in sends_on c.args.monitor.now.domain.now c.args.apart c.args.ask.now c.args.desk.now c.loop.desk c.send.new.self sent.sent.0 c.loop.invariant.on sent.leads (sent.fits c.args.ask.now c.requires.valid c.loop.invariant.tried.found c.loop.invariant.tried.aimed) sent.sent.1

pub returns-in-Ok-clause-tries : goal.returns-in-Ok-clause-tries
returns-in-Ok-clause-tries g c =
    let sent = c.in-Ok.ensures in
    sent_tries c.args.monitor.now.domain.now c.args.apart c.args.ask.now c.args.desk.now (SawFull c.args.monitor.now.domain.now c.args.desk.now c.send.new.self) c.loop.prepared.entry c.loop.prepared.event sent.sent.0 c.loop.desk c.send.new.self c.loop.invariant.on c.loop.invariant.tried.aimed sent.sent.1 sent.board

pub returns-in-Err-full_by-clause-tries : goal.returns-in-Err-full_by-clause-tries
returns-in-Err-full_by-clause-tries g c =
    let d = c.args.monitor.now.domain.now in
    let ask = c.args.ask.now in
    let sent = c.in-Err.ensures in
    let i = c.loop.invariant in
    let back = back_on d c.args.apart ask c.args.desk.now c.loop.desk c.send.new.self i.on sent.leads sent.kept sent.reader sent.board in
    tries_on d c.args.apart ask c.args.desk.now _ (SawFull d c.args.desk.now c.give_up.new.desk) c.send.new.self c.give_up.new.desk back (λ one never. absurd (cc never)) c.give_up.ensures.tries

pub send-requires-clause-active : goal.send-requires-clause-active
send-requires-clause-active g c = on_may c.args.monitor.now.domain.now c.args.apart c.args.ask.now c.args.desk.now c.loop.desk c.loop.invariant.on c.requires.active

pub returns-in-Ok-clause-notes : goal.returns-in-Ok-clause-notes
returns-in-Ok-clause-notes g c =
    let i = c.loop.invariant in
    let p = c.loop.prepared in
    sends_notes c.args.monitor.now.domain.now c.args.apart c.args.ask.now c.args.desk.now c.loop.desk.reader.found p.entry p.event c.in-Ok.ensures.sent.0 c.loop.desk c.send.new.self i.on i.tried.aimed c.in-Ok.ensures.sent.1

pub returns-in-Ok-clause-active : goal.returns-in-Ok-clause-active
returns-in-Ok-clause-active g c =
    let i = c.loop.invariant in
    let p = c.loop.prepared in
    let sent = c.in-Ok.ensures in
    may_on (c.args.desk.now.caller.op + 1) (AcceptsAs c.send.new.self.caller.sent) c.args.desk.now c.send.new.self
    (sends_on c.args.monitor.now.domain.now c.args.apart c.args.ask.now c.args.desk.now c.loop.desk c.send.new.self sent.sent.0 i.on sent.leads (sent.fits c.args.ask.now c.requires.valid i.tried.found i.tried.aimed) sent.sent.1).same
    (sends_notes c.args.monitor.now.domain.now c.args.apart c.args.ask.now c.args.desk.now c.loop.desk.reader.found p.entry p.event sent.sent.0 c.loop.desk c.send.new.self i.on i.tried.aimed sent.sent.1) c.requires.active

pub give_up-requires-clause-active : goal.give_up-requires-clause-active
give_up-requires-clause-active g c =
    let d = c.args.monitor.now.domain.now in
    let ask = c.args.ask.now in
    on_may d c.args.apart ask c.args.desk.now c.send.new.self (back_on d c.args.apart ask c.args.desk.now c.loop.desk c.send.new.self c.loop.invariant.on c.in-Err.ensures.leads c.in-Err.ensures.kept c.in-Err.ensures.reader c.in-Err.ensures.board) c.requires.active

pub returns-in-Err-full_by-clause-notes : goal.returns-in-Err-full_by-clause-notes
returns-in-Err-full_by-clause-notes g c =
    let d = c.args.monitor.now.domain.now in
    let ask = c.args.ask.now in
    ends_notes d c.args.apart ask c.args.desk.now c.send.new.self c.give_up.new.desk c.give_up.result (back_on d c.args.apart ask c.args.desk.now c.loop.desk c.send.new.self c.loop.invariant.on c.in-Err.ensures.leads c.in-Err.ensures.kept c.in-Err.ensures.reader c.in-Err.ensures.board) c.give_up.ensures.notes

pub give_up-requires-clause-found : goal.give_up-requires-clause-found
give_up-requires-clause-found g c =
    let d = c.args.monitor.now.domain.now in
    let ask = c.args.ask.now in
    let sent = c.in-Err.ensures in
    let u = c.in-Err.unsent in
    let p = c.loop.prepared in
    let i = c.loop.invariant in
    found_back d c.args.apart ask (wants_of d.setup c.args.apart ask c.requires.valid) c.loop.desk c.send.new.self sent.leads sent.kept sent.reader sent.board i.tried.found

pub give_up-requires-clause-aimed : goal.give_up-requires-clause-aimed
give_up-requires-clause-aimed g c =
    let d = c.args.monitor.now.domain.now in
    let ask = c.args.ask.now in
    let sent = c.in-Err.ensures in
    let u = c.in-Err.unsent in
    let p = c.loop.prepared in
    let i = c.loop.invariant in
    (p.event, aimed_back d c.args.apart ask (wants_of d.setup c.args.apart ask c.requires.valid) c.loop.desk c.send.new.self sent.leads sent.kept sent.reader p.entry u.entry p.event sent.back i.tried.aimed)

pub returns-in-Err-full_by-clause-goes : goal.returns-in-Err-full_by-clause-goes
returns-in-Err-full_by-clause-goes g c = ends_on c.args.monitor.now.domain.now c.args.apart c.args.ask.now c.args.desk.now c.send.new.self c.give_up.new.desk (back_on c.args.monitor.now.domain.now c.args.apart c.args.ask.now c.args.desk.now c.loop.desk c.send.new.self c.loop.invariant.on c.in-Err.ensures.leads c.in-Err.ensures.kept c.in-Err.ensures.reader c.in-Err.ensures.board) c.give_up.ensures.goes

pub aim-requires-clause-found : goal.aim-requires-clause-found
aim-requires-clause-found g c =
    let d = c.args.monitor.now.domain.now in
    let ask = c.args.ask.now in
    let sent = c.in-Err.ensures in
    let u = c.in-Err.unsent in
    let p = c.loop.prepared in
    let i = c.loop.invariant in
    (ask, p.event, found_back d c.args.apart ask (wants_of d.setup c.args.apart ask c.requires.valid) c.loop.desk c.send.new.self sent.leads sent.kept sent.reader sent.board i.tried.found, aimed_back d c.args.apart ask (wants_of d.setup c.args.apart ask c.requires.valid) c.loop.desk c.send.new.self sent.leads sent.kept sent.reader p.entry u.entry p.event sent.back i.tried.aimed)

pub give_up-requires-in-Past-clause-found : goal.give_up-requires-in-Past-clause-found
give_up-requires-in-Past-clause-found g c =
    let d = c.args.monitor.now.domain.now in
    let ask = c.args.ask.now in
    let sent = c.in-Err.ensures in
    let u = c.in-Err.unsent in
    let p = c.loop.prepared in
    let i = c.loop.invariant in
    let aim = c.aim.ensures in
    let tried = tried_back d c.args.apart ask (wants_of d.setup c.args.apart ask c.requires.valid) c.loop.desk c.send.new.self sent.leads sent.kept sent.reader p.entry u.entry p.event c.loop.attempt c.saturating_add-attempt.result c.loop.full c.in-Ok-full_by.full u.queue u.why sent.board sent.back sent.shut sent.why
    (sym c.full_by.ensures ∙ c.in-Ok-full_by.is) (no_more c.loop.attempt c.saturating_add-attempt.result c.saturating_add-attempt.ensures) i.by i.tried in
    let its = c.in-Past.ensures in
    let still = tried_still d c.args.apart ask (wants_of d.setup c.args.apart ask c.requires.valid) c.send.new.self c.aim.new.self aim.leads aim.rest c.saturating_add-attempt.result (aims.Past c.in-Past.entry) u.entry its.aims c.saturating_add-attempt.result c.in-Ok-full_by.full p.event p.event c.in-Past.entry aim.found
    (its.aimed ask p.event tried.found tried.aimed) tried in
    still.found

pub give_up-requires-in-Past-clause-aimed : goal.give_up-requires-in-Past-clause-aimed
give_up-requires-in-Past-clause-aimed g c =
    let d = c.args.monitor.now.domain.now in
    let ask = c.args.ask.now in
    let sent = c.in-Err.ensures in
    let u = c.in-Err.unsent in
    let p = c.loop.prepared in
    let i = c.loop.invariant in
    let aim = c.aim.ensures in
    let tried = tried_back d c.args.apart ask (wants_of d.setup c.args.apart ask c.requires.valid) c.loop.desk c.send.new.self sent.leads sent.kept sent.reader p.entry u.entry p.event c.loop.attempt c.saturating_add-attempt.result c.loop.full c.in-Ok-full_by.full u.queue u.why sent.board sent.back sent.shut sent.why
    (sym c.full_by.ensures ∙ c.in-Ok-full_by.is) (no_more c.loop.attempt c.saturating_add-attempt.result c.saturating_add-attempt.ensures) i.by i.tried in
    let its = c.in-Past.ensures in
    let still = tried_still d c.args.apart ask (wants_of d.setup c.args.apart ask c.requires.valid) c.send.new.self c.aim.new.self aim.leads aim.rest c.saturating_add-attempt.result (aims.Past c.in-Past.entry) u.entry its.aims c.saturating_add-attempt.result c.in-Ok-full_by.full p.event p.event c.in-Past.entry aim.found
    (its.aimed ask p.event tried.found tried.aimed) tried in
    (p.event, still.aimed)

pub give_up-requires-in-Past-clause-why : goal.give_up-requires-in-Past-clause-why
give_up-requires-in-Past-clause-why g c =
    let d = c.args.monitor.now.domain.now in
    let ask = c.args.ask.now in
    let sent = c.in-Err.ensures in
    let u = c.in-Err.unsent in
    let p = c.loop.prepared in
    let i = c.loop.invariant in
    let aim = c.aim.ensures in
    let tried = tried_back d c.args.apart ask (wants_of d.setup c.args.apart ask c.requires.valid) c.loop.desk c.send.new.self sent.leads sent.kept sent.reader p.entry u.entry p.event c.loop.attempt c.saturating_add-attempt.result c.loop.full c.in-Ok-full_by.full u.queue u.why sent.board sent.back sent.shut sent.why
    (sym c.full_by.ensures ∙ c.in-Ok-full_by.is) (no_more c.loop.attempt c.saturating_add-attempt.result c.saturating_add-attempt.ensures) i.by i.tried in
    let its = c.in-Past.ensures in
    let still = tried_still d c.args.apart ask (wants_of d.setup c.args.apart ask c.requires.valid) c.send.new.self c.aim.new.self aim.leads aim.rest c.saturating_add-attempt.result (aims.Past c.in-Past.entry) u.entry its.aims c.saturating_add-attempt.result c.in-Ok-full_by.full p.event p.event c.in-Past.entry aim.found
    (its.aimed ask p.event tried.found tried.aimed) tried in
    subst (λ why. IsWhy d c.aim.new.self.reader.found why c.aim.new.self) (sym c.why_of.ensures)
    (past_why d c.aim.new.self.reader.found c.saturating_add-attempt.result c.in-Ok-full_by.full c.aim.new.self still.aimed.row still.aimed.among (subst (λ (f : FoundRows). slice_get f.rows c.saturating_add-attempt.result ≡ None) (sym (ap (λ (desk : Desk). desk.reader.found) aim.rest)) its.aims.0) still.none)

pub returns-in-Past-clause-goes : goal.returns-in-Past-clause-goes
returns-in-Past-clause-goes g c =
    let d = c.args.monitor.now.domain.now in
    let ask = c.args.ask.now in
    let sent = c.in-Err.ensures in
    let u = c.in-Err.unsent in
    let p = c.loop.prepared in
    let i = c.loop.invariant in
    let aim = c.aim.ensures in
    let tried = tried_back d c.args.apart ask (wants_of d.setup c.args.apart ask c.requires.valid) c.loop.desk c.send.new.self sent.leads sent.kept sent.reader p.entry u.entry p.event c.loop.attempt c.saturating_add-attempt.result c.loop.full c.in-Ok-full_by.full u.queue u.why sent.board sent.back sent.shut sent.why
    (sym c.full_by.ensures ∙ c.in-Ok-full_by.is) (no_more c.loop.attempt c.saturating_add-attempt.result c.saturating_add-attempt.ensures) i.by i.tried in
    let its = c.in-Past.ensures in
    let on = aimed_on d c.args.apart ask (wants_of d.setup c.args.apart ask c.requires.valid) c.send.new.self c.aim.new.self aim.leads aim.rest c.saturating_add-attempt.result (aims.Past c.in-Past.entry) u.entry its.aims c.args.desk.now aim.fits (back_on d c.args.apart ask c.args.desk.now c.loop.desk c.send.new.self i.on sent.leads sent.kept sent.reader sent.board) in
    ends_on d c.args.apart ask c.args.desk.now c.aim.new.self c.give_up-in-Past.new.desk on c.give_up-in-Past.ensures.goes

pub returns-in-Past-clause-tries : goal.returns-in-Past-clause-tries
returns-in-Past-clause-tries g c =
    let d = c.args.monitor.now.domain.now in
    let ask = c.args.ask.now in
    let sent = c.in-Err.ensures in
    let u = c.in-Err.unsent in
    let i = c.loop.invariant in
    let aim = c.aim.ensures in
    let its = c.in-Past.ensures in
    let back = back_on d c.args.apart ask c.args.desk.now c.loop.desk c.send.new.self i.on sent.leads sent.kept sent.reader sent.board in
    let on = aimed_on d c.args.apart ask (wants_of d.setup c.args.apart ask c.requires.valid) c.send.new.self c.aim.new.self aim.leads aim.rest c.saturating_add-attempt.result (aims.Past c.in-Past.entry) u.entry its.aims c.args.desk.now aim.fits (back_on d c.args.apart ask c.args.desk.now c.loop.desk c.send.new.self i.on sent.leads sent.kept sent.reader sent.board) in
    let full = full_next d c.args.desk.now c.loop.desk c.send.new.self sent.leads.pages back.goes.leads.pages u.queue u.why c.loop.full c.in-Ok-full_by.full (sym c.full_by.ensures ∙ c.in-Ok-full_by.is) (subst (λ (k : ℕ). SeesWhy d k u.why c.send.new.self) (sym sent.shut) sent.seen) i.full in
    let end = c.give_up-in-Past.new.desk in
    let first = c.args.desk.now in
    tries_on d c.args.apart ask first _ (SawFull d first end) c.aim.new.self end on
    (λ one is. full_later d first c.aim.new.self end one c.give_up-in-Past.ensures.goes.leads.pages
    (full_told c.in-Ok-full_by.full one (ap full_in (sym c.why_of.ensures) ∙ is) (SawFull d first c.aim.new.self) (full_stays d first c.send.new.self c.aim.new.self aim.leads.pages on.goes.leads.pages c.in-Ok-full_by.full full)))
    c.give_up-in-Past.ensures.tries

pub give_up-requires-in-NoMemory-clause-found : goal.give_up-requires-in-NoMemory-clause-found
give_up-requires-in-NoMemory-clause-found g c =
    let d = c.args.monitor.now.domain.now in
    let ask = c.args.ask.now in
    let sent = c.in-Err.ensures in
    let u = c.in-Err.unsent in
    let p = c.loop.prepared in
    let i = c.loop.invariant in
    let aim = c.aim.ensures in
    let tried = tried_back d c.args.apart ask (wants_of d.setup c.args.apart ask c.requires.valid) c.loop.desk c.send.new.self sent.leads sent.kept sent.reader p.entry u.entry p.event c.loop.attempt c.saturating_add-attempt.result c.loop.full c.in-Ok-full_by.full u.queue u.why sent.board sent.back sent.shut sent.why
    (sym c.full_by.ensures ∙ c.in-Ok-full_by.is) (no_more c.loop.attempt c.saturating_add-attempt.result c.saturating_add-attempt.ensures) i.by i.tried in
    let its = c.in-NoMemory.ensures in
    let still = tried_still d c.args.apart ask (wants_of d.setup c.args.apart ask c.requires.valid) c.send.new.self c.aim.new.self aim.leads aim.rest c.saturating_add-attempt.result (aims.NoMemory c.in-NoMemory.entry) u.entry its.aims c.saturating_add-attempt.result c.in-Ok-full_by.full p.event p.event c.in-NoMemory.entry aim.found
    (its.aimed ask p.event tried.found tried.aimed) tried in
    still.found

pub give_up-requires-in-NoMemory-clause-aimed : goal.give_up-requires-in-NoMemory-clause-aimed
give_up-requires-in-NoMemory-clause-aimed g c =
    let d = c.args.monitor.now.domain.now in
    let ask = c.args.ask.now in
    let sent = c.in-Err.ensures in
    let u = c.in-Err.unsent in
    let p = c.loop.prepared in
    let i = c.loop.invariant in
    let aim = c.aim.ensures in
    let tried = tried_back d c.args.apart ask (wants_of d.setup c.args.apart ask c.requires.valid) c.loop.desk c.send.new.self sent.leads sent.kept sent.reader p.entry u.entry p.event c.loop.attempt c.saturating_add-attempt.result c.loop.full c.in-Ok-full_by.full u.queue u.why sent.board sent.back sent.shut sent.why
    (sym c.full_by.ensures ∙ c.in-Ok-full_by.is) (no_more c.loop.attempt c.saturating_add-attempt.result c.saturating_add-attempt.ensures) i.by i.tried in
    let its = c.in-NoMemory.ensures in
    let still = tried_still d c.args.apart ask (wants_of d.setup c.args.apart ask c.requires.valid) c.send.new.self c.aim.new.self aim.leads aim.rest c.saturating_add-attempt.result (aims.NoMemory c.in-NoMemory.entry) u.entry its.aims c.saturating_add-attempt.result c.in-Ok-full_by.full p.event p.event c.in-NoMemory.entry aim.found
    (its.aimed ask p.event tried.found tried.aimed) tried in
    (p.event, still.aimed)

pub returns-in-NoMemory-clause-goes : goal.returns-in-NoMemory-clause-goes
returns-in-NoMemory-clause-goes g c =
    let d = c.args.monitor.now.domain.now in
    let ask = c.args.ask.now in
    let sent = c.in-Err.ensures in
    let u = c.in-Err.unsent in
    let p = c.loop.prepared in
    let i = c.loop.invariant in
    let aim = c.aim.ensures in
    let tried = tried_back d c.args.apart ask (wants_of d.setup c.args.apart ask c.requires.valid) c.loop.desk c.send.new.self sent.leads sent.kept sent.reader p.entry u.entry p.event c.loop.attempt c.saturating_add-attempt.result c.loop.full c.in-Ok-full_by.full u.queue u.why sent.board sent.back sent.shut sent.why
    (sym c.full_by.ensures ∙ c.in-Ok-full_by.is) (no_more c.loop.attempt c.saturating_add-attempt.result c.saturating_add-attempt.ensures) i.by i.tried in
    let its = c.in-NoMemory.ensures in
    let on = aimed_on d c.args.apart ask (wants_of d.setup c.args.apart ask c.requires.valid) c.send.new.self c.aim.new.self aim.leads aim.rest c.saturating_add-attempt.result (aims.NoMemory c.in-NoMemory.entry) u.entry its.aims c.args.desk.now aim.fits (back_on d c.args.apart ask c.args.desk.now c.loop.desk c.send.new.self i.on sent.leads sent.kept sent.reader sent.board) in
    ends_on d c.args.apart ask c.args.desk.now c.aim.new.self c.give_up-in-NoMemory.new.desk on c.give_up-in-NoMemory.ensures.goes

pub returns-in-NoMemory-clause-tries : goal.returns-in-NoMemory-clause-tries
returns-in-NoMemory-clause-tries g c =
    let d = c.args.monitor.now.domain.now in
    let ask = c.args.ask.now in
    let sent = c.in-Err.ensures in
    let u = c.in-Err.unsent in
    let i = c.loop.invariant in
    let aim = c.aim.ensures in
    let its = c.in-NoMemory.ensures in
    let on = aimed_on d c.args.apart ask (wants_of d.setup c.args.apart ask c.requires.valid) c.send.new.self c.aim.new.self aim.leads aim.rest c.saturating_add-attempt.result (aims.NoMemory c.in-NoMemory.entry) u.entry its.aims c.args.desk.now aim.fits (back_on d c.args.apart ask c.args.desk.now c.loop.desk c.send.new.self i.on sent.leads sent.kept sent.reader sent.board) in
    tries_on d c.args.apart ask c.args.desk.now _ (SawFull d c.args.desk.now c.give_up-in-NoMemory.new.desk) c.aim.new.self c.give_up-in-NoMemory.new.desk on (λ one never. absurd (cc never)) c.give_up-in-NoMemory.ensures.tries

pub loop-preserved : goal.loop-preserved
loop-preserved g c =
    let d = c.args.monitor.now.domain.now in
    let ask = c.args.ask.now in
    let sent = c.in-Err.ensures in
    let u = c.in-Err.unsent in
    let p = c.loop.prepared in
    let i = c.loop.invariant in
    let aim = c.aim.ensures in
    let tried = tried_back d c.args.apart ask (wants_of d.setup c.args.apart ask c.requires.valid) c.loop.desk c.send.new.self sent.leads sent.kept sent.reader p.entry u.entry p.event c.loop.attempt c.saturating_add-attempt.result c.loop.full c.in-Ok-full_by.full u.queue u.why sent.board sent.back sent.shut sent.why
    (sym c.full_by.ensures ∙ c.in-Ok-full_by.is) (no_more c.loop.attempt c.saturating_add-attempt.result c.saturating_add-attempt.ensures) i.by i.tried in
    let its = c.in-At.ensures in
    let aimed = aims.At c.in-At.entry c.in-At.event in
    let n = c.saturating_add-attempt.result in
    let back = back_on d c.args.apart ask c.args.desk.now c.loop.desk c.send.new.self i.on sent.leads sent.kept sent.reader sent.board in
    let full = full_next d c.args.desk.now c.loop.desk c.send.new.self sent.leads.pages back.goes.leads.pages u.queue u.why c.loop.full c.in-Ok-full_by.full (sym c.full_by.ensures ∙ c.in-Ok-full_by.is) (subst (λ (k : ℕ). SeesWhy d k u.why c.send.new.self) (sym sent.shut) sent.seen) i.full in
    let on = aimed_on d c.args.apart ask (wants_of d.setup c.args.apart ask c.requires.valid) c.send.new.self c.aim.new.self aim.leads aim.rest n aimed u.entry its.aims c.args.desk.now aim.fits back in
    record {
      on = on;
      full = full_stays d c.args.desk.now c.send.new.self c.aim.new.self aim.leads.pages on.goes.leads.pages c.in-Ok-full_by.full full;
      tried = tried_still d c.args.apart ask (wants_of d.setup c.args.apart ask c.requires.valid) c.send.new.self c.aim.new.self aim.leads aim.rest n aimed u.entry its.aims n c.in-Ok-full_by.full p.event c.in-At.event c.in-At.entry aim.found (its.aimed ask p.event tried.found tried.aimed) tried;
      by = aimed_by u.entry c.in-At.entry c.in-At.event n c.send.new.self c.aim.new.self aim.rest its.aims;
    }

pub give_up-requires-in-Past-clause-active : goal.give_up-requires-in-Past-clause-active
give_up-requires-in-Past-clause-active g c =
    let d = c.args.monitor.now.domain.now in
    let ask = c.args.ask.now in
    let aim = c.aim.ensures in
    let its = c.in-Past.ensures in
    on_may d c.args.apart ask c.args.desk.now c.aim.new.self (aimed_on d c.args.apart ask (wants_of d.setup c.args.apart ask c.requires.valid) c.send.new.self c.aim.new.self aim.leads aim.rest c.saturating_add-attempt.result (aims.Past c.in-Past.entry) c.in-Err.unsent.entry its.aims c.args.desk.now aim.fits (back_on d c.args.apart ask c.args.desk.now c.loop.desk c.send.new.self c.loop.invariant.on c.in-Err.ensures.leads c.in-Err.ensures.kept c.in-Err.ensures.reader c.in-Err.ensures.board)) c.requires.active

pub returns-in-Past-clause-notes : goal.returns-in-Past-clause-notes
returns-in-Past-clause-notes g c =
    let d = c.args.monitor.now.domain.now in
    let ask = c.args.ask.now in
    let aim = c.aim.ensures in
    let its = c.in-Past.ensures in
    ends_notes d c.args.apart ask c.args.desk.now c.aim.new.self c.give_up-in-Past.new.desk c.give_up-in-Past.result (aimed_on d c.args.apart ask (wants_of d.setup c.args.apart ask c.requires.valid) c.send.new.self c.aim.new.self aim.leads aim.rest c.saturating_add-attempt.result (aims.Past c.in-Past.entry) c.in-Err.unsent.entry its.aims c.args.desk.now aim.fits (back_on d c.args.apart ask c.args.desk.now c.loop.desk c.send.new.self c.loop.invariant.on c.in-Err.ensures.leads c.in-Err.ensures.kept c.in-Err.ensures.reader c.in-Err.ensures.board)) c.give_up-in-Past.ensures.notes

pub give_up-requires-in-NoMemory-clause-active : goal.give_up-requires-in-NoMemory-clause-active
give_up-requires-in-NoMemory-clause-active g c =
    let d = c.args.monitor.now.domain.now in
    let ask = c.args.ask.now in
    let aim = c.aim.ensures in
    let its = c.in-NoMemory.ensures in
    on_may d c.args.apart ask c.args.desk.now c.aim.new.self (aimed_on d c.args.apart ask (wants_of d.setup c.args.apart ask c.requires.valid) c.send.new.self c.aim.new.self aim.leads aim.rest c.saturating_add-attempt.result (aims.NoMemory c.in-NoMemory.entry) c.in-Err.unsent.entry its.aims c.args.desk.now aim.fits (back_on d c.args.apart ask c.args.desk.now c.loop.desk c.send.new.self c.loop.invariant.on c.in-Err.ensures.leads c.in-Err.ensures.kept c.in-Err.ensures.reader c.in-Err.ensures.board)) c.requires.active

pub returns-in-NoMemory-clause-notes : goal.returns-in-NoMemory-clause-notes
returns-in-NoMemory-clause-notes g c =
    let d = c.args.monitor.now.domain.now in
    let ask = c.args.ask.now in
    let aim = c.aim.ensures in
    let its = c.in-NoMemory.ensures in
    ends_notes d c.args.apart ask c.args.desk.now c.aim.new.self c.give_up-in-NoMemory.new.desk c.give_up-in-NoMemory.result (aimed_on d c.args.apart ask (wants_of d.setup c.args.apart ask c.requires.valid) c.send.new.self c.aim.new.self aim.leads aim.rest c.saturating_add-attempt.result (aims.NoMemory c.in-NoMemory.entry) c.in-Err.unsent.entry its.aims c.args.desk.now aim.fits (back_on d c.args.apart ask c.args.desk.now c.loop.desk c.send.new.self c.loop.invariant.on c.in-Err.ensures.leads c.in-Err.ensures.kept c.in-Err.ensures.reader c.in-Err.ensures.board)) c.give_up-in-NoMemory.ensures.notes
